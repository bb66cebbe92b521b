-- The tests of a setting's numbers.
use Rattle.std.proofs.Common.{◌≡◌, ℤ, ◌&&◌, List, refl, Vec}
use Rattle.std.specs.declared.alloc.Global.{Global}
use Rattle.std.specs.Option.{option_map}
use Rattle.std.specs.List.{list_all}
use Rattle.std.proofs.lemmas.List.Folds.{list_all-map}
use Rattle.md_setting.specs.declared.raw.RawAgent.{RawAgent}
use Rattle.md_setting.specs.declared.raw.RawSetting.{RawSetting}
use Rattle.md_setting.specs.Setting.{written, written_agent, lists_of}
use Rattle.md_setting.specs.Refusals.{is_small, is_weight, has_small_numbers, has_small_rows, has_small_at, has_small_prior, has_small_lists}

pub small_rows : (rows : List (Vec ℤ Global)) → has_small_rows (lists_of rows) ≡ list_all (λ row. list_all (is_small 1000000) row.items) rows
small_rows rows = list_all-map (list_all (is_small 1000000)) (λ (row : Vec ℤ Global). row.items) rows

pub small_numbers : (agent : RawAgent) →
    has_small_numbers (written_agent agent)
    ≡ (list_all is_weight agent.weights.items && list_all (is_small 1000000) agent.outside.items
    && list_all (λ row. list_all (is_small 1000000) row.items) agent.utility.items
    && has_small_at (option_map (λ rows. lists_of rows.items) agent.at))
unfolding has_small_numbers
small_numbers agent = rw (small_rows agent.utility.items) refl

pub small_lists : (raw : RawSetting) →
    has_small_lists (written raw)
    ≡ (list_all (λ agent. has_small_numbers (written_agent agent)) raw.agents.items
    && has_small_prior (option_map (λ weights. weights.items) raw.prior)
    && list_all (is_small 1000000) raw.values.items
    && is_small 1000 raw.welfare
    && is_small 1000 raw.revenue)
unfolding has_small_lists
small_lists raw = rw (list_all-map has_small_numbers written_agent raw.agents.items) refl
