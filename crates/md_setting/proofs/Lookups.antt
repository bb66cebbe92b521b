-- Places of what is written are places of what it says.
use Rattle.std.proofs.Common.{◌≡◌, ℕ, ◌<◌, ℤ, List, [], length, get_or, ap, ◌∙◌, sym, arith, Vec, vec_len, slice_index_or}
use Rattle.std.specs.declared.alloc.Global.{Global}
use Rattle.std.proofs.lemmas.List.{length-map, get_or-map}
use Rattle.md_setting.specs.declared.raw.RawAgent.{RawAgent}
use Rattle.md_setting.specs.declared.raw.RawSetting.{RawSetting}
use Rattle.md_setting.specs.Setting.{written, written_agent, lists_of}
use Rattle.md_setting.specs.Meaning.{agent_at, agent_count, nobody}

pub agent-at_place : (raw : RawSetting) (i : ℕ) (d : RawAgent) → d ≡ get_or raw.agents.items i d → i < agent_count (written raw) →
    written_agent d ≡ agent_at (written raw) i
agent-at_place raw i d e h =
    ap written_agent e ∙ sym (get_or-map written_agent raw.agents.items i d nobody (omega (arith, length-map raw.agents.items written_agent)))

pub agent_count-len : (raw : RawSetting) → agent_count (written raw) ≡ vec_len raw.agents
agent_count-len raw = length-map raw.agents.items written_agent ∙ omega arith

pub row-at_place : (rows : List (Vec ℤ Global)) (a : ℕ) (d : Vec ℤ Global) → d ≡ get_or rows a d → a < length (lists_of rows) →
    d.items ≡ slice_index_or (lists_of rows) a []
row-at_place rows a d e h =
    ap (λ (row : Vec ℤ Global). row.items) e
    ∙ sym (get_or-map (λ (row : Vec ℤ Global). row.items) rows a d [] (omega (arith, length-map rows (λ (row : Vec ℤ Global). row.items))))

pub row_count-len : (rows : List (Vec ℤ Global)) → length (lists_of rows) ≡ length rows
row_count-len rows = length-map rows (λ (row : Vec ℤ Global). row.items)

pub ruleset lookups = (agent-at_place, agent_count-len, row-at_place, row_count-len)
