-- The ranges of numbers in fields.
use Rattle.std.specs.Prelude.{ℕ, ℤ, pos, Bool, true, int_le}
use Rattle.md_parts.specs.declared.range.Range.{Range}
use Rattle.md_parts.specs.declared.range.Range.TheVariants.{Any, FromZero, FromOne, Place}
use Rattle.md_parts.specs.Fields.{Field, number_field, is_place}

-- a number is in a range
abbrev pub in_range : Range → ℤ → Bool
in_range Any = λ _. true
in_range FromZero = int_le (pos 0)
in_range FromOne = int_le (pos 1)
in_range (Place from below) = is_place from below

-- a field that holds a number of at most so many bits in a range
abbrev pub ranged_field : ℕ → Range → Field
ranged_field bits range = number_field bits (in_range range)
