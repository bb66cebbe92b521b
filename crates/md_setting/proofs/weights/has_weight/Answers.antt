use Rattle.std.proofs.Common.{◌≡◌, ◌<◌, ap, sym, ◌∙◌, slice_index, arith, refl}
use Rattle.md_math.proofs.Bits.{read_result}
use Rattle.md_space.specs.Profiles.{profile_count, profile_at}
use Rattle.md_setting.specs.Setting.{written}
use Rattle.md_setting.specs.Meaning.{sizes_of}
use Rattle.md_setting.proofs.WeightLaws.{marginal-some, marginal-none}
use Rattle.md_setting.proofs.weights.has_weight.Goals as goal

pub returns-then-is_positive : goal.returns-then-is_positive
returns-then-is_positive c =
    let s = written c.args.raw.now in
    let below : c.loop-rank.rank < profile_count (sizes_of s) =
    omega (arith, c.loop-rank-test.true, c.profiles-rank-end.ensures.count, ap profile_count c.requires.sizes) in
    let kind : slice_index (profile_at (sizes_of s) c.loop-rank.rank) c.args.agent ≡ c.args.kind =
    ap (λ sizes. slice_index (profile_at sizes c.loop-rank.rank) c.args.agent) (sym c.requires.sizes) ∙ sym c.report.ensures.value ∙ c.if-report-kind.true in
    marginal-some s c.args.agent c.args.kind c.loop-rank.rank c.requires.small below kind
    (rw (read_result c.weight_in.result c.weight_in.type_inv, c.weight_in.ensures.value) at (c.if-is_positive.ensures.0 refl))

pub returns : goal.returns
returns c =
    let s = written c.args.raw.now in
    marginal-none s c.args.agent c.args.kind c.loop-rank.rank
    (omega (arith, c.profiles-rank-end.ensures.count, ap profile_count c.requires.sizes))
    c.loop-rank.invariant
