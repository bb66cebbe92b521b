-- Products of signed numbers over the places below a number.
use Rattle.std.specs.Prelude.{ℕ, zero, suc, ℤ, pos, ◌*ℤ◌}

-- the product of f over the places below n
abbrev pub product_below : ℕ → (ℕ → ℤ) → ℤ
product_below zero f = pos 1
product_below (suc n) f = product_below n f *ℤ f n
