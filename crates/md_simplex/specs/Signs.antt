-- The sign of a number.
use Rattle.std.specs.Prelude.{◌≡◌, ℤ, pos, ◌<ℤ◌}
use Rattle.md_simplex.specs.declared.signs.Sign.{Sign}
use Rattle.md_simplex.specs.declared.signs.Sign.TheVariants.{Negative, Zero, Positive}

abbrev pub HasSign : Sign → ℤ → Type 0
HasSign Negative z = z <ℤ pos 0
HasSign Zero z = z ≡ pos 0
HasSign Positive z = pos 0 <ℤ z
