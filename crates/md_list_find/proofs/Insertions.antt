-- One element more in a list: what holds of each element, and of neighbours.
use Rattle.std.proofs.Common.{◌≡◌, ℕ, zero, suc, ◌<◌, ◌≤◌, List, [], ◌∷◌, length, map, insert, slice_index_or, refl, ap, arith}

module _ {X : Type 0} (d : X) where
  pub all-insert : (P : X → Type 0) (xs : List X) (i : ℕ) (y : X) → ((p : ℕ) → p < length xs → P (slice_index_or xs p d)) → P y → i ≤ length xs
      → (p : ℕ) → p < length (insert xs i y) → P (slice_index_or (insert xs i y) p d)
  all-insert P xs zero y h new l zero b = new
  all-insert P xs zero y h new l (suc p) b = h p (omega (arith, b))
  all-insert P [] (suc i) y h new l p b = absurd (omega (arith, l))
  all-insert P (x ∷ xs) (suc i) y h new l zero b = h 0 (omega arith)
  all-insert P (x ∷ xs) (suc i) y h new l (suc p) b = all-insert P xs i y (λ q c. h (suc q) (omega (arith, c))) new (omega (arith, l)) p (omega (arith, b))

  pub neighbours-insert : (R : X → X → Type 0) (xs : List X) (i : ℕ) (y : X) → ((p : ℕ) → suc p < length xs → R (slice_index_or xs p d) (slice_index_or xs (suc p) d)) → i ≤ length xs
      → ((p : ℕ) → i ≡ suc p → R (slice_index_or xs p d) y) → (i < length xs → R y (slice_index_or xs i d))
      → (p : ℕ) → suc p < length (insert xs i y) → R (slice_index_or (insert xs i y) p d) (slice_index_or (insert xs i y) (suc p) d)
  neighbours-insert R xs zero y h l before behind zero b = behind (omega (arith, b))
  neighbours-insert R xs zero y h l before behind (suc p) b = h p (omega (arith, b))
  neighbours-insert R [] (suc i) y h l before behind p b = absurd (omega (arith, l))
  neighbours-insert R (x ∷ xs) (suc zero) y h l before behind zero b = before 0 refl
  neighbours-insert R (x ∷ []) (suc (suc i)) y h l before behind p b = absurd (omega (arith, l))
  neighbours-insert R (x ∷ z ∷ xs) (suc (suc i)) y h l before behind zero b = h 0 (omega arith)
  neighbours-insert R (x ∷ xs) (suc i) y h l before behind (suc p) b =
      neighbours-insert R xs i y (λ q c. h (suc q) (omega (arith, c))) (omega (arith, l)) (λ q e. before (suc q) (ap suc e)) (λ c. behind (omega (arith, c))) p (omega (arith, b))

pub map-insert : {X Y : Type 0} (f : X → Y) (xs : List X) (i : ℕ) (y : X) → map f (insert xs i y) ≡ insert (map f xs) i (f y)
map-insert f xs zero y = refl
map-insert f [] (suc i) y = refl
map-insert f (x ∷ xs) (suc i) y = ap (λ ys. f x ∷ ys) (map-insert f xs i y)
