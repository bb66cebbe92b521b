use Rattle.std.proofs.Common.{ap, sym, ◌∙◌, subst}
use Rattle.md_math.specs.Sizes.{IsWithin}
use Rattle.md_math.proofs.Bits.{read_result}
use Rattle.md_space.specs.Profiles.{profile_at}
use Rattle.md_setting.specs.Setting.{written}
use Rattle.md_setting.specs.Meaning.{sizes_of, value_of}
use Rattle.md_setting.proofs.KeptLaws.{small_value}
use Rattle.md_setting.proofs.setting.Setting.value.Goals as goal

pub returns-clause-value : goal.returns-clause-value
returns-clause-value c =
    read_result c.value_in.result c.value_in.type_inv
    ∙ c.value_in.ensures
    ∙ ap (λ v. value_of v (profile_at (sizes_of v) c.args.rank) c.args.outcome) c.self.view_is

pub returns-clause-size : goal.returns-clause-size
returns-clause-size c =
    subst (IsWithin 10000000)
    (sym (read_result c.value_in.result c.value_in.type_inv ∙ c.value_in.ensures ∙ ap (λ v. value_of v (profile_at (sizes_of v) c.args.rank) c.args.outcome) c.self.view_is))
    (small_value (written c.self.inside.raw) c.args.self.now c.args.rank c.args.outcome c.self.view_is c.self.invariant.shaped c.requires.rank_in c.requires.outcome_in)
