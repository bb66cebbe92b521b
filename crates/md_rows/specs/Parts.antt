-- The two parts of a number by their names.
use Rattle.std.specs.Prelude.{ℤ}
use Rattle.md_rows.specs.declared.points.Part.{Part}
use Rattle.md_rows.specs.declared.points.Part.TheVariants.{Plus, Minus}
use Rattle.md_rows.specs.Points.{plus_part, minus_part}

abbrev pub of_part : Part → ℤ → ℤ
of_part Plus z = plus_part z
of_part Minus z = minus_part z
