use Rattle.std.proofs.Common.{pos, ◌≤ℤ◌, ◌<ℤ◌, ◌∙◌, sym, subst}
use Rattle.md_setting.specs.Auction.{value_count}
use Rattle.md_iron_values.specs.VirtualValues.{weight_to, virtual_to}
use Rattle.md_iron_values.proofs.GapLaws.{gap-none, gap-some, gap-nonneg}
use Rattle.md_iron_pools.specs.Pooling.{pools_of}
use Rattle.md_iron_pools.proofs.Bounds.{pool-heavy}
use Rattle.md_iron_pools.proofs.gaps.chord_gap.Goals as goal

pub returns-then-kind-pools-clause-nonneg : goal.returns-then-kind-pools-clause-nonneg
returns-then-kind-pools-clause-nonneg c =
    let a = c.args.auction.now in
    let pools = pools_of c.args.pools.now in
    let same = gap-none (weight_to a) (virtual_to a) pools c.args.kind c.if-kind-pools.true in
    subst (λ z. pos 0 ≤ℤ z) (same ∙ sym c.gap_above_least.ensures.height) (gap-nonneg (value_count a) (weight_to a) (virtual_to a) pools c.requires.pooling.pooled c.args.kind c.requires.kind)

pub returns-clause-nonneg : goal.returns-clause-nonneg
returns-clause-nonneg c =
    let a = c.args.auction.now in
    let pools = pools_of c.args.pools.now in
    let same = gap-some (weight_to a) (virtual_to a) pools c.args.kind c.if-kind-pools.false in
    subst (λ z. pos 0 ≤ℤ z) (same ∙ sym c.gap_above_chord.ensures.height) (gap-nonneg (value_count a) (weight_to a) (virtual_to a) pools c.requires.pooling.pooled c.args.kind c.requires.kind)

pub returns-clause-positive : goal.returns-clause-positive
returns-clause-positive c =
    subst (λ z. pos 0 <ℤ z) (sym c.gap_above_chord.ensures.scale)
    (pool-heavy c.args.auction.now (pools_of c.args.pools.now) c.args.kind c.gap_above_chord.ensures.shaped c.requires.pooling.pooled c.requires.kind)
