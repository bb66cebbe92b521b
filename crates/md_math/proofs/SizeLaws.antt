-- How large sums and products are.
use Rattle.std.proofs.Common.{◌≡◌, ℕ, zero, suc, ◌+◌, ◌*◌, ◌^◌, ◌<◌, ◌≤◌, ℤ, pos, ◌+ℤ◌, ◌-ℤ◌, ◌*ℤ◌, neg_ℤ, ◌≤ℤ◌, List, [], ◌∷◌, ◌++◌, length, get_or, set, sym, ap, ◌∙◌, subst, arith, mul-le-mul, FitsSigned, inl, inr, length-set, get_or-set_same, get_or-set_other, unsigned_abs}
use Rattle.std.proofs.lemmas.Int.{ints, unsigned_abs-mul, fits_signed_from_abs}
use Rattle.std.proofs.lemmas.Bool.{cases_lt, cases_eq}
use Rattle.std.proofs.lemmas.List.{get_or_append_left, length_push, get_or_push, get_or_past}
use mir.Syntax.{Width}
use mir.Val.{hbits}
use Rattle.md_math.specs.Sizes.{IsWithin, AllWithin}
use Rattle.md_math.specs.Lists.{number_at}
use Rattle.md_math.specs.Sums.{sum_to, dot}

-- ---- one number

pub IsWithin-from_bounds : (limit : ℕ) (z : ℤ) → neg_ℤ (pos limit) ≤ℤ z → z ≤ℤ pos limit → IsWithin limit z
IsWithin-from_bounds limit z h k = record { within = omega (arith, ints) }

pub IsWithin-low : (limit : ℕ) (z : ℤ) → IsWithin limit z → neg_ℤ (pos limit) ≤ℤ z
IsWithin-low limit z h = omega (arith, ints, h.within)

pub IsWithin-high : (limit : ℕ) (z : ℤ) → IsWithin limit z → z ≤ℤ pos limit
IsWithin-high limit z h = omega (arith, ints, h.within)

pub IsWithin-wider : (m n : ℕ) (z : ℤ) → m ≤ n → IsWithin m z → IsWithin n z
IsWithin-wider m n z l h = record { within = omega (arith, h.within) }

pub IsWithin-zero : (limit : ℕ) → IsWithin limit (pos 0)
IsWithin-zero limit = record { within = omega arith }

pub IsWithin-+ℤ : (m n : ℕ) (x y : ℤ) → IsWithin m x → IsWithin n y → IsWithin (m + n) (x +ℤ y)
IsWithin-+ℤ m n x y h k = record { within = omega (arith, ints, h.within, k.within) }

pub IsWithin-sub : (m n : ℕ) (x y : ℤ) → IsWithin m x → IsWithin n y → IsWithin (m + n) (x -ℤ y)
IsWithin-sub m n x y h k = record { within = omega (arith, ints, h.within, k.within) }

pub IsWithin-neg_ℤ : (m : ℕ) (x : ℤ) → IsWithin m x → IsWithin m (neg_ℤ x)
IsWithin-neg_ℤ m x h = record { within = omega (arith, ints, h.within) }

-- the difference of two numbers that are at least 0
pub IsWithin-difference : (limit : ℕ) (x y : ℤ) → pos 0 ≤ℤ x → pos 0 ≤ℤ y → IsWithin limit x → IsWithin limit y → IsWithin limit (x -ℤ y)
IsWithin-difference limit x y p q h k = record { within = omega (arith, ints, p, q, h.within, k.within) }

pub IsWithin-*ℤ : (m n : ℕ) (x y : ℤ) → IsWithin m x → IsWithin n y → IsWithin (m * n) (x *ℤ y)
IsWithin-*ℤ m n x y h k = record { within = rw unsigned_abs-mul (mul-le-mul h.within k.within) }

-- a number within the limit is not above it
pub not_above : (limit : ℕ) (x y : ℤ) → x ≡ y → IsWithin limit x → limit < unsigned_abs y → ⊥
not_above limit x y e h l = (let k : IsWithin limit y = subst (IsWithin limit) e h in let w : unsigned_abs y ≤ limit = k.within in omega arith)

-- a number within a limit below the width's fits
pub fits_from_IsWithin : (w : Width) (limit : ℕ) (z : ℤ) → IsWithin limit z → limit < 2 ^ hbits w → FitsSigned w z
fits_from_IsWithin w limit z h l = fits_signed_from_abs w z (omega (arith, h.within))

-- ---- sums

pub sum_to-within : (n limit : ℕ) (f : ℕ → ℤ) → ((j : ℕ) → j < n → IsWithin limit (f j)) → IsWithin (n * limit) (sum_to n f)
sum_to-within zero limit f h = record { within = omega arith }
sum_to-within (suc n) limit f h =
    let rest : IsWithin (n * limit) (sum_to n f) = sum_to-within n limit f (λ j b. h j (omega arith)) in
    let last : IsWithin limit (f n) = h n (omega arith) in
    let both : IsWithin (n * limit + limit) (sum_to n f +ℤ f n) = IsWithin-+ℤ (n * limit) limit (sum_to n f) (f n) rest last in
    record { within = omega (arith, both.within) }

pub dot-within : (n a b : ℕ) (f g : ℕ → ℤ) → ((j : ℕ) → j < n → IsWithin a (f j)) → ((j : ℕ) → j < n → IsWithin b (g j)) → IsWithin (n * (a * b)) (dot n f g)
dot-within n a b f g h k = sum_to-within n (a * b) (λ j. f j *ℤ g j) (λ j l. IsWithin-*ℤ a b (f j) (g j) (h j l) (k j l))

-- ---- lists

pub AllWithin-nil : (limit : ℕ) → AllWithin limit []
AllWithin-nil limit = record { at = λ k b. absurd (omega arith) }

pub AllWithin-push : (limit : ℕ) (xs : List ℤ) (x : ℤ) → AllWithin limit xs → IsWithin limit x → AllWithin limit (xs ++ x ∷ [])
AllWithin-push limit xs x h k = record {
  at = λ j b.
      elim (cases_lt j (length xs)) [
        | inl l ↦ subst (IsWithin limit) (sym (get_or_append_left xs (x ∷ []) (pos 0) j l)) (h.at j l)
        | inr l ↦
            let end : length xs ≡ j = omega (arith, length_push xs x, b) in
            subst (IsWithin limit) (sym (get_or_push xs x (pos 0) j end)) k
      ];
}

pub AllWithin-wider : (m n : ℕ) (xs : List ℤ) → m ≤ n → AllWithin m xs → AllWithin n xs
AllWithin-wider m n xs l h = record { at = λ k b. IsWithin-wider m n (number_at xs k) l (h.at k b) }

pub AllWithin-set : (limit : ℕ) (xs : List ℤ) (i : ℕ) (x : ℤ) → AllWithin limit xs → IsWithin limit x → AllWithin limit (set xs i x)
AllWithin-set limit xs i x h k = record {
  at = λ j b.
      let inside : j < length xs = omega (arith, length-set {A = ℤ}) in
      elim (cases_eq j i) [
        | inl e ↦
            let here : i < length xs = omega arith in
            subst (IsWithin limit) (sym (ap (λ m. get_or (set xs i x) m (pos 0)) e ∙ get_or-set_same xs i x (pos 0) here)) k
        | inr d ↦ subst (IsWithin limit) (sym (get_or-set_other xs i j x (pos 0) d)) (h.at j inside)
      ];
}

-- a number past the end of a list is 0
pub AllWithin-number_at : (limit : ℕ) (xs : List ℤ) (k : ℕ) → AllWithin limit xs → IsWithin limit (number_at xs k)
AllWithin-number_at limit xs k h =
    elim (cases_lt k (length xs)) [
      | inl l ↦ h.at k l
      | inr l ↦ subst (IsWithin limit) (sym (get_or_past xs k (pos 0) l)) (IsWithin-zero limit)
    ]
