use Rattle.std.proofs.Common.{◌∙◌, sym, refl}
use Rattle.md_setting.specs.Setting.{written}
use Rattle.md_setting.proofs.NumberLaws.{Contains-no_place}
use Rattle.md_setting.proofs.KeptLaws.{named_outcome, no_outcome}
use Rattle.md_setting.proofs.setting.Setting.outcome_of.Goals as goal

pub returns-in-Some-clause-found : goal.returns-in-Some-clause-found
returns-in-Some-clause-found c =
    let named = named_outcome (written c.self.inside.raw) c.args.self.now c.self.inside.numbers.outcomes c.args.name.now c.in-Some.place c.self.view_is c.self.invariant.numbered.outcomes_are (sym c.place.ensures ∙ c.in-Some.is) in
    (named.inside, named.is)

pub returns-in-Some-clause-none : goal.returns-in-Some-clause-none
returns-in-Some-clause-none c =
    let named = named_outcome (written c.self.inside.raw) c.args.self.now c.self.inside.numbers.outcomes c.args.name.now c.in-Some.place c.self.view_is c.self.invariant.numbered.outcomes_are (sym c.place.ensures ∙ c.in-Some.is) in
    (λ e h. cc e, λ none. absurd (none named.there))

pub returns-in-None-clause-none : goal.returns-in-None-clause-none
returns-in-None-clause-none c = (
  λ e. Contains-no_place c.args.self.now.outcomes c.args.name.now
      (no_outcome (written c.self.inside.raw) c.args.self.now c.self.inside.numbers.outcomes c.args.name.now c.self.view_is c.self.invariant.numbered.outcomes_are (sym c.place.ensures ∙ c.in-None.is)),
  λ none. refl,
)
