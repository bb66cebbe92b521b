-- Sums of signed numbers: over the places below a number, of products, and over a list.
use Rattle.std.specs.Prelude.{ℕ, zero, suc, ℤ, pos, ◌+ℤ◌, ◌*ℤ◌, List, [], ◌∷◌}

-- the sum of f over the places below n
abbrev pub sum_to : ℕ → (ℕ → ℤ) → ℤ
sum_to zero f = pos 0
sum_to (suc n) f = sum_to n f +ℤ f n

-- the sum of the products of f and g over the places below n
abbrev pub dot : ℕ → (ℕ → ℤ) → (ℕ → ℤ) → ℤ
dot n f g = sum_to n (λ j. f j *ℤ g j)

-- the sum of f over the elements of a list
abbrev pub total_by : {X : Type 0} → (X → ℤ) → List X → ℤ
total_by f [] = pos 0
total_by f (x ∷ xs) = f x +ℤ total_by f xs

-- the sum of a list
abbrev pub total : List ℤ → ℤ
total xs = total_by (λ x. x) xs
