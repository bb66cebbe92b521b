use Rattle.std.proofs.Common.{◌∙◌, sym, refl, arith, ◌<◌}
use Rattle.md_setting.specs.Setting.{written}
use Rattle.md_setting.specs.Names.{type_names}
use Rattle.md_setting.proofs.NumberLaws.{IsNamed, Contains-no_place}
use Rattle.md_setting.proofs.KeptLaws.{named_type, found_type, no_type, few_types}
use Rattle.md_setting.proofs.setting.Setting.type_of.Goals as goal
use Rattle.md_setting.proofs.setting.Setting.type_of.Goals.{In-Some}

named : (c : In-Some) → IsNamed (type_names c.args.self.now c.args.agent) c.args.name.now c.in-Some.place
named c =
    named_type (written c.self.inside.raw) c.args.self.now c.self.inside.numbers.types.items c.args.agent c.index.result.now c.args.name.now c.in-Some.place c.self.view_is c.self.invariant.numbered.types_are c.requires
    c.index.ensures (sym c.place.ensures ∙ c.in-Some.is)

pub overflow_cast-result : goal.overflow_cast-result
overflow_cast-result c =
    let few : c.in-Some.place < 16 = few_types (written c.self.inside.raw) c.args.self.now c.args.agent c.in-Some.place c.self.view_is c.self.invariant.shaped c.requires (found_type c.args.self.now c.args.agent c.args.name.now c.in-Some.place c.requires (named c)).0 in
    record { fits = omega arith }

pub returns-in-Some-clause-found : goal.returns-in-Some-clause-found
returns-in-Some-clause-found c = found_type c.args.self.now c.args.agent c.args.name.now c.in-Some.place c.requires (named c)

pub returns-in-Some-clause-none : goal.returns-in-Some-clause-none
returns-in-Some-clause-none c = (λ e h. cc e, λ none. absurd (none (named c).there))

pub returns-in-None-clause-none : goal.returns-in-None-clause-none
returns-in-None-clause-none c = (
  λ e. Contains-no_place (type_names c.args.self.now c.args.agent) c.args.name.now
      (no_type (written c.self.inside.raw) c.args.self.now c.self.inside.numbers.types.items c.args.agent c.index.result.now c.args.name.now c.self.view_is c.self.invariant.numbered.types_are c.requires c.index.ensures (sym c.place.ensures ∙ c.in-None.is)),
  λ none. refl,
)
