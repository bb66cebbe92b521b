-- Bases as numbers, so that there are finitely many.
use Rattle.std.proofs.Common.{◌≡◌, ℕ, zero, suc, ◌+◌, ◌*◌, ◌<◌, inl, inr, sym, subst, arith}
use Rattle.std.proofs.lemmas.Bool.{cases_lt}
use Rattle.md_dict.proofs.Writing.{row_before, same_row}

-- the first m columns of a basis as the digits of a number
pub code : ℕ → (m : ℕ) → (ℕ → ℕ) → ℕ
code base zero b = 0
code base (suc m) b = code base m b * base + b m

-- how many numbers have m digits
pub code_count : ℕ → ℕ → ℕ
code_count base zero = 1
code_count base (suc m) = code_count base m * base

pub code_below : (base m : ℕ) (b : ℕ → ℕ) → ((i : ℕ) → i < m → b i < base) → code base m b < code_count base m
unfolding code code_count
code_below base zero b h = omega arith
code_below base (suc m) b h =
    let low : code base m b < code_count base m = code_below base m b (λ i a. h i (omega arith)) in
    let digit : b m < base = h m (omega arith) in
    let more : code base m b * base + b m < code_count base m * base + 0 = row_before base (code base m b) (b m) (code_count base m) 0 digit low in
    omega arith

pub code_same : (base m : ℕ) (b c : ℕ → ℕ) → ((i : ℕ) → i < m → b i < base) → ((i : ℕ) → i < m → c i < base) → code base m b ≡ code base m c → (i : ℕ) → i < m → b i ≡ c i
unfolding code
code_same base zero b c h k e i a = absurd (omega arith)
code_same base (suc m) b c h k e i a =
    let front : code base m b ≡ code base m c = same_row base (code base m b) (b m) (code base m c) (c m) (h m (omega arith)) (k m (omega arith)) e in
    elim (cases_lt i m) [
      | inl l ↦ code_same base m b c (λ j d. h j (omega arith)) (λ j d. k j (omega arith)) front i l
      | inr l ↦
          let here : m ≡ i = omega arith in
          let last : b m ≡ c m = same_digit (code base m b) (code base m c) (b m) (c m) front e in
          subst (λ j. b j ≡ c j) here last
    ]
  where
    same_digit : (x y s t : ℕ) → x ≡ y → x * base + s ≡ y * base + t → s ≡ t
    same_digit x y s t f g = (let again : x * base + s ≡ x * base + t = subst (λ z. x * base + s ≡ z * base + t) (sym f) g in omega (arith, again))
