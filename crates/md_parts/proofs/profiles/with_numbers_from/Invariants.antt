use Rattle.std.proofs.Common.{◌≡◌, ◌+◌, ◌++◌}
use Rattle.md_math.specs.Lists.{number_at, list_to}
use Rattle.md_num.specs.WholeText.{text_of}
use Rattle.md_parts.proofs.profiles.with_numbers_from.Given as goal

abbrev pub invariant-loop-place : goal.invariant-loop-place
invariant-loop-place l = l.filled ≡ l.fn.row ++ list_to l.place (λ k. text_of (number_at l.numbers (l.from + k)))
