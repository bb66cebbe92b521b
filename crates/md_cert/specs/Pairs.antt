-- The signs that a certificate's numbers may have. Pairs are compared by their first number, and by their second where the first are equal.
use Rattle.std.specs.Prelude.{ℤ, pos, ◌≤ℤ◌, ◌≡◌}
use Rattle.md_math.specs.LexOrder.{IsPairNonNegative}
use Rattle.md_lp.specs.declared.row_kind.RowKind.{RowKind}
use Rattle.md_lp.specs.declared.row_kind.RowKind.TheVariants.{AtMost, Exact}

-- the pair of multipliers of a row, which may have any sign where the row is exact
abbrev pub IsPairFor : RowKind → ℤ → ℤ → Type 0
IsPairFor AtMost face main = IsPairNonNegative face main
IsPairFor Exact face main = Unit {0}

-- a face multiplier alone
abbrev pub IsFaceFor : RowKind → ℤ → Type 0
IsFaceFor AtMost face = pos 0 ≤ℤ face
IsFaceFor Exact face = Unit {0}

-- what a ray gives a row: at most 0, or exactly 0
abbrev pub RayKeeps : RowKind → ℤ → Type 0
RayKeeps AtMost sum = sum ≤ℤ pos 0
RayKeeps Exact sum = sum ≡ pos 0
