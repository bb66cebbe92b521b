use Rattle.std.proofs.Common.{◌≡◌, pos}
use Rattle.md_math.specs.Lists.{list_to}
use Rattle.md_setting.specs.Setting.{lists_of}
use Rattle.md_gen.specs.GeneratedSetting.{utility_at}
use Rattle.md_gen.proofs.general.utilities.Given as goal

abbrev pub invariant-loop-kind : goal.invariant-loop-kind
invariant-loop-kind l = lists_of l.rows.items ≡ list_to l.kind (λ a. list_to 3 (λ o. pos (utility_at l.number l.agent a o)))
