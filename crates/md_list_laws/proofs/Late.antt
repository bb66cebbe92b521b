-- Statements that hold for all sufficiently large whole numbers. Two objectives in order of importance become one where the
-- first counts often enough.
use Rattle.std.proofs.Common.{◌≡◌, ℕ, zero, suc, ◌+◌, ◌<◌, ◌≤◌, ℤ, pos, ◌+ℤ◌, ◌-ℤ◌, ◌*ℤ◌, ◌≤ℤ◌, ◌<ℤ◌, neg_ℤ, unsigned_abs, ◌==◌, if◌then◌else◌, inl, inr, ap, ◌∙◌, subst, arith, eq-eqb, ne_eqb}
use Rattle.std.proofs.lemmas.Bool.{cases_lt, cases_eq}
use Rattle.std.proofs.lemmas.Int.{ints}
use Rattle.md_math.specs.LexOrder.{IsPairNonNegative}
use Rattle.md_math.proofs.Order.{lt_or_le, nonneg-*ℤ, positive-*ℤ}
use Rattle.md_math.proofs.Ring.{linear, ring, *ℤ-zero}

-- it holds for every number from `start` on
pub record IsLate (P : ℕ → Type 0) : Type 0 where
  pub start : ℕ
  pub holds : (k : ℕ) → start ≤ k → P k

pub always : (P : ℕ → Type 0) → ((k : ℕ) → P k) → IsLate P
always P h = record { start = 0; holds = λ k l. h k }

pub weaker : (P Q : ℕ → Type 0) → ((k : ℕ) → P k → Q k) → IsLate P → IsLate Q
weaker P Q f late = record { start = late.start; holds = λ k l. f k (late.holds k l) }

pub both-late : (P Q : ℕ → Type 0) → IsLate P → IsLate Q → IsLate (λ k. P k × Q k)
both-late P Q p q = record {
  start = p.start + q.start;
  holds = λ k l. (p.holds k (omega (arith, l)), q.holds k (omega (arith, l)));
}

pub each-late : (n : ℕ) (P : ℕ → ℕ → Type 0) → ((i : ℕ) → i < n → IsLate (P i)) → IsLate (λ k. (i : ℕ) → i < n → P i k)
each-late zero P h = record { start = 0; holds = λ k l i b. absurd (omega (arith, b)) }
each-late (suc n) P h =
    weaker (λ k. ((i : ℕ) → i < n → P i k) × P n k) (λ k. (i : ℕ) → i < suc n → P i k)
    (λ k h i b. elim (cases_lt i n) [ inl l ↦ h.0 i l | inr l ↦ (let same : n ≡ i = omega (arith, b, l) in subst (λ j. P j k) same h.1) ])
    (both-late (λ k. (i : ℕ) → i < n → P i k) (P n) (each-late n P (λ i b. h i (omega (arith, b)))) (h n (omega arith)))

-- ---- pairs

-- k times a positive number is at least k
grown : (k : ℕ) (x : ℤ) → pos 0 <ℤ x → pos k ≤ℤ (pos k *ℤ x)
grown k x p =
    let more : pos 0 ≤ℤ (pos k *ℤ (x -ℤ pos 1)) = nonneg-*ℤ (pos k) (x -ℤ pos 1) (omega (arith, ints)) (omega (arith, ints, p)) in
    let e : pos k *ℤ x ≡ pos k *ℤ (x -ℤ pos 1) +ℤ pos k = parts (pos k) x in
    omega (arith, linear, more, e)
  where
    parts : (k x : ℤ) → k *ℤ x ≡ k *ℤ (x -ℤ pos 1) +ℤ k
    parts k x = simp ring (omega (arith, linear))

pub pair-late : (x y : ℤ) → IsPairNonNegative x y → IsLate (λ k. pos 0 ≤ℤ (pos k *ℤ x +ℤ y))
pair-late x y (inl p) = record { start = unsigned_abs y; holds = λ k l. enough (pos k *ℤ x) k (grown k x p) l }
  where
    enough : (z : ℤ) (k : ℕ) → pos k ≤ℤ z → unsigned_abs y ≤ k → pos 0 ≤ℤ (z +ℤ y)
    enough z k h l = omega (arith, ints, h, l)
pair-late x y (inr p) = record { start = 0; holds = λ k l. (let none : pos k *ℤ x ≡ pos 0 = ap (λ z. pos k *ℤ z) p.0 ∙ *ℤ-zero (pos k) in omega (arith, linear, none, p.1)) }

-- a pair with both numbers multiplied by something positive
pub pair-times : (a b x y : ℤ) → pos 0 <ℤ a → pos 0 ≤ℤ b → IsPairNonNegative x y → IsPairNonNegative (a *ℤ x) (b *ℤ y)
pair-times a b x y p q (inl h) = inl (positive-*ℤ a x p h)
pair-times a b x y p q (inr h) = inr (ap (λ z. a *ℤ z) h.0 ∙ *ℤ-zero a, nonneg-*ℤ b y q h.1)

-- if k times the first number plus the second is not negative for large k, the first is not negative
pub first-from_late : (x y : ℤ) → IsLate (λ k. pos 0 ≤ℤ (pos k *ℤ x +ℤ y)) → pos 0 ≤ℤ x
first-from_late x y late = elim (lt_or_le x (pos 0)) [
  | inr h ↦ h
  | inl h ↦
      let k = late.start + unsigned_abs y + 1 in
      let less : pos k ≤ℤ (pos k *ℤ neg_ℤ x) = grown k (neg_ℤ x) (omega (arith, linear, h)) in
      let turned : pos k *ℤ neg_ℤ x ≡ neg_ℤ (pos k *ℤ x) = turn (pos k) x in
      absurd (none k (pos k *ℤ x) (omega (arith, linear, less, turned)) (omega arith) (late.holds k (omega arith)))
]
  where
    turn : (k x : ℤ) → k *ℤ neg_ℤ x ≡ neg_ℤ (k *ℤ x)
    turn k x = simp ring

    none : (k : ℕ) (z : ℤ) → pos k ≤ℤ neg_ℤ z → unsigned_abs y < k → pos 0 ≤ℤ (z +ℤ y) → ⊥
    none k z h l n = omega (arith, ints, h, l, n)

-- and if the first is 0, the second is not negative
pub second-from_late : (x y : ℤ) → IsLate (λ k. pos 0 ≤ℤ (pos k *ℤ x +ℤ y)) → x ≡ pos 0 → pos 0 ≤ℤ y
second-from_late x y late e =
    let none : pos late.start *ℤ x ≡ pos 0 = ap (λ z. pos late.start *ℤ z) e ∙ *ℤ-zero (pos late.start) in
    let h : pos 0 ≤ℤ (pos late.start *ℤ x +ℤ y) = late.holds late.start (omega arith) in
    omega (arith, linear, none, h)

-- ---- common denominators

-- a common multiple of n denominators
pub record HasCommon (n : ℕ) (den : ℕ → ℤ) : Type 0 where
  pub whole : ℤ
  pub times : ℕ → ℤ
  pub positive : pos 0 <ℤ whole
  pub times_positive : (p : ℕ) → p < n → pos 0 <ℤ times p
  pub is : (p : ℕ) → p < n → times p *ℤ den p ≡ whole

pub common : (n : ℕ) (den : ℕ → ℤ) → ((p : ℕ) → p < n → pos 0 <ℤ den p) → HasCommon n den
common zero den h = record {
  whole = pos 1;
  times = λ p. pos 1;
  positive = omega (arith, ints);
  times_positive = λ p b. absurd (omega (arith, b));
  is = λ p b. absurd (omega (arith, b));
}
common (suc n) den h = one_more n den (common n den (λ p b. h p (omega (arith, b)))) (h n (omega arith))
  where
    one_more : (n : ℕ) (den : ℕ → ℤ) → HasCommon n den → pos 0 <ℤ den n → HasCommon (suc n) den
    one_more n den c positive = record {
      whole = c.whole *ℤ den n;
      times = λ p. if p == n then c.whole else c.times p *ℤ den n;
      positive = positive-*ℤ c.whole (den n) c.positive positive;
      times_positive = λ p b. elim (cases_eq p n) [
        | inl e ↦ rw (eq-eqb p n e) c.positive
        | inr d ↦ rw (ne_eqb p n d) (positive-*ℤ (c.times p) (den n) (c.times_positive p (omega (arith, b, d))) positive)
      ];
      is = λ p b. elim (cases_eq p n) [
        | inl e ↦ rw (eq-eqb p n e) (ap (λ j. c.whole *ℤ den j) e)
        | inr d ↦ rw (ne_eqb p n d) (turned (c.times p) (den n) (den p) ∙ ap (λ z. z *ℤ den n) (c.is p (omega (arith, b, d))))
      ];
    }
      where
        turned : (a b c : ℤ) → (a *ℤ b) *ℤ c ≡ (a *ℤ c) *ℤ b
        turned a b c = simp ring
