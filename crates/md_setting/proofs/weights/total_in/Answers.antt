use Rattle.std.proofs.Common.{◌≡◌, ◌≤◌, ◌+◌, pos, ap, sym, ◌∙◌, arith, lit<, to_z, of_z, ℤ, true}
use Rattle.std.specs.Prelude.{◌<ℤ◌, ◌+ℤ◌}
use Rattle.std.proofs.lemmas.Int.{ints}
use lib.Signed.{lt_z}
use mir.Syntax.{w128}
use Rattle.md_math.specs.Sums.{sum_to}
use Rattle.md_math.proofs.SumLaws.{sum_to-more}
use Rattle.md_math.proofs.Bits.{read_result, read_short_within}
use Rattle.md_space.specs.Profiles.{profile_count, profile_at}
use Rattle.md_setting.specs.Setting.{written}
use Rattle.md_setting.specs.Meaning.{sizes_of, weight_of}
use Rattle.md_setting.proofs.WeightLaws.{total-large, total-small}
use Rattle.md_setting.proofs.weights.total_in.Goals as goal

-- what a comparison says
passes : (a b : ℤ) → lt_z a b ≡ true → a <ℤ b
passes a b h = grind (arith, ints)

pub returns-then-total : goal.returns-then-total
returns-then-total c =
    let s = written c.args.raw.now in
    let below : c.loop-rank.rank + 1 ≤ profile_count (sizes_of s) =
    omega (arith, c.loop-rank-test.true, c.profiles-rank-end.ensures.count, ap profile_count c.requires.sizes) in
    let added : c.plus-total.result ≡ sum_to (c.loop-rank.rank + 1) (λ r. weight_of s (profile_at (sizes_of s) r)) =
    c.plus-total.ensures
    ∙ ap (λ z. to_z w128 c.loop-rank.total-bits +ℤ z) (read_result c.weight_in.result c.weight_in.type_inv ∙ c.weight_in.ensures.value)
    ∙ ap (λ z. z +ℤ weight_of s (profile_at (sizes_of s) c.loop-rank.rank)) c.loop-rank.invariant.0
    ∙ sym (sum_to-more c.loop-rank.rank (λ r. weight_of s (profile_at (sizes_of s) r))) in
    let passed : pos 1000000 <ℤ c.plus-total.result = rw (read_result c.plus-total.result c.plus-total.type_inv) at (passes (pos 1000000) (to_z w128 (of_z w128 c.plus-total.result)) c.if-total.true) in
    total-large s (c.loop-rank.rank + 1) c.plus-total.result c.requires.small below added passed

pub returns : goal.returns
returns c =
    let s = written c.args.raw.now in
    let end = total-small s c.loop-rank.rank _ (omega (arith, c.profiles-rank-end.ensures.count, ap profile_count c.requires.sizes)) c.loop-rank.invariant.0 c.loop-rank.invariant.1 in
    (end.0, read_short_within 1000000 _ c.loop-rank.invariant.1 (lit< tt) ∙ end.1)
