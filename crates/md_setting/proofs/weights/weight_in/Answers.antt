use Rattle.std.proofs.Common.{◌≡◌, ◌<◌, Some, to_z, of_z, ap, sym, ◌∙◌, subst, lit<}
use Rattle.std.specs.Option.{option_map}
use mir.Syntax.{w64}
use Rattle.md_math.specs.Lists.{number_at}
use Rattle.md_math.proofs.Bits.{read_result, read_short_within}
use Rattle.md_space.specs.Profiles.{profile_count, profile_at}
use Rattle.md_setting.specs.Setting.{written}
use Rattle.md_setting.specs.Meaning.{sizes_of}
use Rattle.md_setting.proofs.WeightLaws.{weight_of-prior, type_weights-nonneg}
use Rattle.md_setting.proofs.weights.weight_in.Goals as goal

pub returns-in-Some-clause-value : goal.returns-in-Some-clause-value
returns-in-Some-clause-value c =
    let s = written c.args.raw.now in
    let said : s.prior ≡ Some c.in-Some.prior.items = ap (option_map (λ weights. weights.items)) c.in-Some.is in
    let below : c.args.rank < profile_count (sizes_of s) = subst (λ sizes. c.args.rank < profile_count sizes) c.requires.sizes c.requires.rank_in in
    read_result c.from.result c.from.type_inv
    ∙ c.from.ensures
    ∙ ap (λ xs. to_z w64 (of_z w64 (number_at xs c.args.rank))) c.as_slice.ensures.value
    ∙ read_short_within 1000000 (number_at c.in-Some.prior.items c.args.rank) (c.requires.small.prior c.in-Some.prior.items said c.args.rank).within (lit< tt)
    ∙ sym (weight_of-prior s c.in-Some.prior.items c.args.rank said below)

pub returns-in-None-clause-nonneg : goal.returns-in-None-clause-nonneg
returns-in-None-clause-nonneg c =
    let s = written c.args.raw.now in
    rw (read_result c.type_product.result c.type_product.type_inv, c.type_product.ensures.value)
    (type_weights-nonneg s.agents (profile_at (sizes_of s) c.args.rank) c.requires.small.weight)
