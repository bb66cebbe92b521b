use Rattle.std.proofs.Common.{◌∙◌, sym, refl}
use Rattle.md_setting.specs.Setting.{written}
use Rattle.md_setting.specs.Names.{agent_names}
use Rattle.md_setting.proofs.NumberLaws.{Contains-no_place}
use Rattle.md_setting.proofs.KeptLaws.{named_agent, found_agent, no_agent}
use Rattle.md_setting.proofs.setting.Setting.agent_of.Goals as goal

pub returns-in-Some-clause-found : goal.returns-in-Some-clause-found
returns-in-Some-clause-found c =
    found_agent c.args.self.now c.args.name.now c.in-Some.place
    (named_agent (written c.self.inside.raw) c.args.self.now c.self.inside.numbers.agents c.args.name.now c.in-Some.place c.self.view_is c.self.invariant.numbered.agents_are (sym c.place.ensures ∙ c.in-Some.is))

pub returns-in-Some-clause-none : goal.returns-in-Some-clause-none
returns-in-Some-clause-none c =
    let named = named_agent (written c.self.inside.raw) c.args.self.now c.self.inside.numbers.agents c.args.name.now c.in-Some.place c.self.view_is c.self.invariant.numbered.agents_are (sym c.place.ensures ∙ c.in-Some.is) in
    (λ e h. cc e, λ none. absurd (none named.there))

pub returns-in-None-clause-none : goal.returns-in-None-clause-none
returns-in-None-clause-none c = (
  λ e. Contains-no_place (agent_names c.args.self.now) c.args.name.now
      (no_agent (written c.self.inside.raw) c.args.self.now c.self.inside.numbers.agents c.args.name.now c.self.view_is c.self.invariant.numbered.agents_are (sym c.place.ensures ∙ c.in-None.is)),
  λ none. refl,
)
