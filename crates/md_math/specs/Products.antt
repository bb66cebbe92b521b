-- Products of natural numbers: over the places below a number, over a list, and factorials.
use Rattle.std.specs.Prelude.{ℕ, zero, suc, ◌*◌, List, [], ◌∷◌}

-- the product of f over the places below n
abbrev pub product_to : ℕ → (ℕ → ℕ) → ℕ
product_to zero f = 1
product_to (suc n) f = product_to n f * f n

-- the product of f over the elements of a list
abbrev pub product_by : {X : Type 0} → (X → ℕ) → List X → ℕ
product_by f [] = 1
product_by f (x ∷ xs) = f x * product_by f xs

-- the product of the numbers from 1 to n
abbrev pub factorial : ℕ → ℕ
factorial zero = 1
factorial (suc n) = suc n * factorial n
