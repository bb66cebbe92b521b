use Rattle.std.proofs.Common.{◌≡◌, ◌≤◌, ◌+◌, ◌*◌, ◌^◌, ◌++◌, ℤ, List, length, replicate}
use Rattle.std.specs.Prelude.{unsigned_abs}
use Rattle.md_math.specs.Sums.{total}
use Rattle.md_parts.specs.FieldsRead.{Reads}
use Rattle.md_parts.specs.Ranges.{ranged_field}
use Rattle.md_parts.proofs.fields.Fields.numbers.Given as goal

abbrev pub invariant-loop-place : goal.invariant-loop-place
invariant-loop-place l =
    (l.count ≤ l.place + length l.self.texts) × (unsigned_abs l.sum ≤ l.place * (2 ^ 62))
    × ((numbers : List ℤ) × Reads (replicate l.place (ranged_field 62 l.range)) l.fn.self l.self numbers × (l.to ≡ l.fn.to ++ numbers) × (l.sum ≡ total numbers))
