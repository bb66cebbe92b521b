use Rattle.std.proofs.Common.{◌&&◌, ◌∙◌, sym, ap, map, string_bytes}
use Rattle.std.specs.List.{list_all}
use Rattle.std.proofs.lemmas.Simd.{map-map}
use Rattle.md_setting.specs.declared.raw.RawAgent.{RawAgent}
use Rattle.md_setting.specs.Setting.{Agent, written_agent, names_of}
use Rattle.md_setting.specs.Refusals.{are_apart}
use Rattle.md_setting.proofs.TestLaws.{and_left, and_right}
use Rattle.md_setting.proofs.Views.{own_names}
use Rattle.md_setting.proofs.numbering.number_names.Goals as goal

pub agent_numbers-requires : goal.agent_numbers-requires
agent_numbers-requires c =
    ap (λ agents. are_apart (map (λ (agent : RawAgent). string_bytes agent.name) agents)) c.deref.ensures.value
    ∙ and_left _ _ (and_left _ _ (sym (own_names c.args.raw.now) ∙ c.requires))

pub numbers-requires : goal.numbers-requires
numbers-requires c =
    ap (λ texts. are_apart (names_of texts)) c.deref-2.ensures.value
    ∙ and_right (are_apart (map (λ (agent : RawAgent). string_bytes agent.name) c.args.raw.now.agents.items)) _ (and_left _ _ (sym (own_names c.args.raw.now) ∙ c.requires))

pub type_numbers-requires : goal.type_numbers-requires
type_numbers-requires c =
    ap (λ agents. list_all (λ agent. are_apart (written_agent agent).types) agents) c.deref-3.ensures.value
    ∙ and_right (are_apart (map (λ (agent : RawAgent). string_bytes agent.name) c.args.raw.now.agents.items) && are_apart (names_of c.args.raw.now.outcomes.items)) _ (sym (own_names c.args.raw.now) ∙ c.requires)

pub returns : goal.returns
returns c = record {
  agents_are = c.in_ok-agent_numbers.ensures ∙ ap (λ agents. map (λ (agent : RawAgent). string_bytes agent.name) agents) c.deref.ensures.value ∙ sym (map-map (λ (agent : Agent). agent.name) written_agent c.args.raw.now.agents.items);
  outcomes_are = c.in_ok-numbers.ensures ∙ ap names_of c.deref-2.ensures.value;
  types_are = c.in_ok-type_numbers.ensures ∙ ap (λ agents. map (λ (agent : RawAgent). (written_agent agent).types) agents) c.deref-3.ensures.value ∙ sym (map-map (λ (agent : Agent). agent.types) written_agent c.args.raw.now.agents.items);
}
