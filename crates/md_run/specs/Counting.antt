-- How many of the numbers below one have a property.
use Rattle.std.specs.Prelude.{ℕ, zero, suc, ◌⊎◌}

-- exactly so many of the numbers below n have the property
abbrev pub HasCountBelow : ℕ → (ℕ → Type 0) → ℕ → Type 0
HasCountBelow zero P zero = Unit {0}
HasCountBelow zero P (suc count) = ⊥
HasCountBelow (suc n) P zero = (¬ P n) × HasCountBelow n P zero
HasCountBelow (suc n) P (suc count) = ((P n) × HasCountBelow n P count) ⊎ ((¬ P n) × HasCountBelow n P (suc count))
