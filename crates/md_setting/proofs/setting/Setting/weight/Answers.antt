use Rattle.std.proofs.Common.{◌≡◌, length, ap, sym, ◌∙◌, subst, arith, lit<, to_z, of_z}
use mir.Syntax.{w64}
use Rattle.md_math.specs.Lists.{number_at}
use Rattle.md_math.specs.Sizes.{IsWithin}
use Rattle.md_math.proofs.Bits.{read_result, read_short_within}
use Rattle.md_space.specs.Profiles.{profile_at}
use Rattle.md_setting.specs.Setting.{written}
use Rattle.md_setting.specs.Meaning.{sizes_of, weight_of}
use Rattle.md_setting.proofs.KeptLaws.{kept_weight}
use Rattle.md_setting.proofs.setting.Setting.weight.Goals as goal
use Rattle.md_setting.proofs.setting.Setting.weight.Goals.{After-from}

pub bounds-as_slice-rank : goal.bounds-as_slice-rank
bounds-as_slice-rank c =
    let kept = kept_weight (written c.self.inside.raw) c.args.self.now c.self.inside.weights.items c.args.rank c.self.view_is c.self.invariant.shaped c.self.invariant.weights_are c.requires in
    omega (arith, kept.inside, ap length c.as_slice.ensures.value)

-- the weight that was read
weight : (c : After-from) → c.from.result ≡ weight_of c.args.self.now (profile_at (sizes_of c.args.self.now) c.args.rank)
weight c =
    let kept = kept_weight (written c.self.inside.raw) c.args.self.now c.self.inside.weights.items c.args.rank c.self.view_is c.self.invariant.shaped c.self.invariant.weights_are c.requires in
    c.from.ensures
    ∙ ap (λ xs. to_z w64 (of_z w64 (number_at xs c.args.rank))) c.as_slice.ensures.value
    ∙ read_short_within 1000000 _ kept.size (lit< tt)
    ∙ kept.value

pub returns-clause-value : goal.returns-clause-value
returns-clause-value c = read_result c.from.result c.from.type_inv ∙ weight c

pub returns-clause-size : goal.returns-clause-size
returns-clause-size c =
    let kept = kept_weight (written c.self.inside.raw) c.args.self.now c.self.inside.weights.items c.args.rank c.self.view_is c.self.invariant.shaped c.self.invariant.weights_are c.requires in
    subst (IsWithin 1000000) (sym (read_result c.from.result c.from.type_inv ∙ weight c)) kept.small
