use Rattle.std.proofs.Common.{◌≡◌, ◌++◌}
use Rattle.md_math.specs.Lists.{number_at, list_to}
use Rattle.md_num.specs.WholeText.{text_of}
use Rattle.md_setting.specs.Meaning.{sizes_of}
use Rattle.md_asym_sale.specs.Pairs.{pair_number}
use Rattle.md_asym.proofs.pair_numbers.with_types.Given as goal

abbrev pub invariant-loop-kind : goal.invariant-loop-kind
invariant-loop-kind l = l.filled ≡ l.fn.row ++ list_to l.kind (λ a. text_of (number_at l.numbers (pair_number (sizes_of l.setting) l.agent a)))
