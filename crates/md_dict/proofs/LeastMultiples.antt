-- The least common multiple of two numbers, and of the first places of a list; what each number is multiplied by to give a multiple of all.
use Rattle.std.proofs.Common.{◌≡◌, ℕ, ◌+◌, ◌%◌, ◌^◌, ◌<◌, ◌≤◌, ℤ, pos, ◌*ℤ◌, ◌<ℤ◌, unsigned_abs, nat_eq, IsTrue, List, length, set, length-set, get_or-set_same, get_or-set_other, refl, sym, ap, ◌∙◌, subst, inl, inr, arith}
use Prim.Native.Nat.{◌∣◌}
use Rattle.std.proofs.lemmas.Int.{ints}
use Rattle.std.proofs.lemmas.Bool.{cases_lt, cases_eq, eqb-true}
use Rattle.std.proofs.lemmas.Nat.Gcd.{dvd_of_mod-eq-zero, mod-eq-zero_of_dvd}
use Rattle.std.proofs.Math.Nat as NatL
use lib.IntN.{*ℤ_comm}
use Rattle.md_math.specs.Lists.{number_at}
use Rattle.md_math.specs.Sizes.{IsWithin, AllWithin}
use Rattle.md_math.specs.Divisors.{Divides, IsGcdOfTwo}
use Rattle.md_math.proofs.Division.{Divides_refl, Divides_trans, Divides_cancel, Divides-*ℤ, one-Divides, *ℤ-Divides, positive_divisor}
use Rattle.md_math.proofs.Gcds.{gcd_of_two, same_from_IsGcdOfTwo}
use Rattle.md_math.proofs.Order.{positive-*ℤ, positive_from_*ℤ}
use Rattle.md_math.proofs.Ring.{*ℤ_left_comm}
use Rattle.md_dict.specs.Multiples.{IsLeastMultiple, IsMultipleOfTwo}

-- ---- sizes

-- divisibility is a rest of 0
pub divides_by_rest : (d z : ℤ) (m n : ℕ) → m ≡ unsigned_abs z → n ≡ unsigned_abs d → 0 < n → (IsTrue (nat_eq (m % n) 0) → Divides d z) × (Divides d z → IsTrue (nat_eq (m % n) 0))
divides_by_rest d z m n e f p = (
  (λ t. record { divides = subst (λ k. unsigned_abs d ∣ k) e (subst (λ k. k ∣ m) f (dvd_of_mod-eq-zero n (eqb-true _ _ t))) }),
  (λ h. rw (mod-eq-zero_of_dvd n (subst (λ k. n ∣ k) (sym e) (subst (λ k. k ∣ unsigned_abs z) (sym f) h.divides))) refl),
)

-- what divides a positive number is at most as large
pub small_divisor : (d x : ℤ) (limit : ℕ) → pos 0 <ℤ x → unsigned_abs x < limit → Divides d x → unsigned_abs d < limit
small_divisor d x limit p l h =
    let above : 0 < unsigned_abs x = omega (arith, ints) in
    let most : unsigned_abs d ≤ unsigned_abs x = NatL.le_of_dvd above h.divides in
    omega arith

-- ---- two numbers

pub IsMultipleOfTwo-divides : (a b : ℤ) → pos 0 <ℤ a → Divides b a → IsMultipleOfTwo a b a
IsMultipleOfTwo-divides a b p h = record { positive = p; left = Divides_refl a; right = h; least = λ x k _. k }

-- the second number without the greatest common divisor, times the first
pub IsMultipleOfTwo-gcd : (a b g q : ℤ) → pos 0 <ℤ a → pos 0 <ℤ b → IsGcdOfTwo a b g → g *ℤ q ≡ b → IsMultipleOfTwo a b (a *ℤ q)
IsMultipleOfTwo-gcd a b g q above_a above_b h e =
    let above_g : pos 0 <ℤ g = positive_divisor a g above_a h.left h.nonneg in
    let above_q : pos 0 <ℤ q = positive_from_*ℤ g q above_g (subst (λ z. pos 0 <ℤ z) (sym e) above_b) in
    record {
      positive = positive-*ℤ a q above_a above_q;
      left = Divides-*ℤ a q;
      right = subst (λ z. Divides z (a *ℤ q)) (*ℤ_comm q g ∙ e) (subst (Divides (q *ℤ g)) (*ℤ_comm q a) (*ℤ-Divides q g a h.left));
      least = λ x k m. Divides_cancel g (a *ℤ q) x above_g (subst (λ z. Divides z (g *ℤ x)) (sym (*ℤ_left_comm g a q ∙ ap (λ z. a *ℤ z) e)) (grown a b g x h k m));
    }
  where
    grown : (a b g x : ℤ) → IsGcdOfTwo a b g → Divides a x → Divides b x → Divides (a *ℤ b) (g *ℤ x)
    grown a b g x h k m =
        let (r, p) = gcd_of_two a b in
        let same : r ≡ g = same_from_IsGcdOfTwo a b r g p.is_gcd h in
        let left : Divides (a *ℤ b) (x *ℤ a) = subst (Divides (a *ℤ b)) (*ℤ_comm a x) (*ℤ-Divides a b x m) in
        let right : Divides (a *ℤ b) (x *ℤ b) = subst (λ z. Divides z (x *ℤ b)) (*ℤ_comm b a) (subst (Divides (b *ℤ a)) (*ℤ_comm b x) (*ℤ-Divides b a x k)) in
        subst (Divides (a *ℤ b)) (ap (λ z. x *ℤ z) same ∙ *ℤ_comm x g) (p.factor (a *ℤ b) x left right)

-- the first of two numbers that have a common multiple of 126 bits
pub small_multiple : (a b : ℤ) → (x : ℤ) × (unsigned_abs x < 2 ^ 126) × (pos 0 <ℤ x) × Divides a x × Divides b x → unsigned_abs a < 2 ^ 126
small_multiple a b (x, l, p, h, k) = small_divisor a x (2 ^ 126) p l h

-- and the second
pub small_factor : (a b : ℤ) → (x : ℤ) × (unsigned_abs x < 2 ^ 126) × (pos 0 <ℤ x) × Divides a x × Divides b x → unsigned_abs b < 2 ^ 126
small_factor a b (x, l, p, h, k) = small_divisor b x (2 ^ 126) p l k

-- their least common multiple
pub small_multiple_of_two : (a b d : ℤ) → (x : ℤ) × (unsigned_abs x < 2 ^ 126) × (pos 0 <ℤ x) × Divides a x × Divides b x → IsMultipleOfTwo a b d → unsigned_abs d < 2 ^ 126
small_multiple_of_two a b d (x, l, p, h, k) m = small_divisor d x (2 ^ 126) p l (m.least x h k)

-- ---- a list

pub IsLeastMultiple-none : (f : ℕ → ℤ) → IsLeastMultiple 0 f (pos 1)
IsLeastMultiple-none f = record {
  positive = omega (arith, ints);
  multiple = λ k b. absurd (omega arith);
  least = λ x _. one-Divides x;
}

pub IsLeastMultiple-more : (n : ℕ) (f : ℕ → ℤ) (d e : ℤ) → IsLeastMultiple n f d → IsMultipleOfTwo d (f n) e → IsLeastMultiple (n + 1) f e
IsLeastMultiple-more n f d e h k = record {
  positive = k.positive;
  multiple = λ i b.
      elim (cases_lt i n) [
        | inl l ↦ Divides_trans (f i) d e (h.multiple i l) k.left
        | inr l ↦ (let same : n ≡ i = omega arith in subst (λ j. Divides (f j) e) same k.right)
      ];
  least = λ x m. k.least x (h.least x (λ i b. m i (omega arith))) (m n (omega arith));
}

-- equal numbers have the same
pub IsLeastMultiple-same : (n : ℕ) (f g : ℕ → ℤ) (d : ℤ) → ((k : ℕ) → k < n → g k ≡ f k) → IsLeastMultiple n f d → IsLeastMultiple n g d
IsLeastMultiple-same n f g d e h = record {
  positive = h.positive;
  multiple = λ k b. subst (λ x. Divides x d) (sym (e k b)) (h.multiple k b);
  least = λ x m. h.least x (λ k b. subst (λ z. Divides z x) (e k b) (m k b));
}

-- ---- shares

-- the first n shares, times their numbers, are the multiple
pub record AreShares (multiple : ℤ) (dens shares : List ℤ) (n : ℕ) : Type 0 where
  pub long : length shares ≡ length dens
  pub at : (k : ℕ) → k < n → number_at shares k *ℤ number_at dens k ≡ multiple

pub AreShares-none : (multiple : ℤ) (dens shares : List ℤ) → length shares ≡ length dens → AreShares multiple dens shares 0
AreShares-none multiple dens shares e = record { long = e; at = λ k b. absurd (omega arith) }

pub AreShares-more : (multiple : ℤ) (dens shares : List ℤ) (n : ℕ) (x : ℤ) → AreShares multiple dens shares n → n < length dens → x *ℤ number_at dens n ≡ multiple → AreShares multiple dens (set shares n x) (n + 1)
AreShares-more multiple dens shares n x h b e = record {
  long = length-set shares n x ∙ h.long;
  at = λ k c.
      elim (cases_eq k n) [
        | inl same ↦
            subst (λ j. number_at (set shares n x) j *ℤ number_at dens j ≡ multiple) (sym same)
            (ap (λ z. z *ℤ number_at dens n) (get_or-set_same shares n x (pos 0) (omega (arith, h.long))) ∙ e)
        | inr o ↦ ap (λ z. z *ℤ number_at dens k) (get_or-set_other shares n k x (pos 0) o) ∙ h.at k (omega arith)
      ];
}

-- a share is at most the multiple in size
pub AllWithin-shares : (limit : ℕ) (multiple : ℤ) (dens shares : List ℤ) → pos 0 <ℤ multiple → IsWithin limit multiple → AreShares multiple dens shares (length dens) → AllWithin limit shares
AllWithin-shares limit multiple dens shares p w h = record {
  at = λ k b.
      let above : 0 < unsigned_abs multiple = omega (arith, ints, p) in
      let divides : Divides (number_at shares k) multiple = subst (Divides (number_at shares k)) (h.at k (omega (arith, h.long))) (Divides-*ℤ (number_at shares k) (number_at dens k)) in
      let most : unsigned_abs (number_at shares k) ≤ unsigned_abs multiple = NatL.le_of_dvd above divides.divides in
      record { within = omega (arith, w.within) };
}
