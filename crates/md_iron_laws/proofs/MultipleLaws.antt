-- Positive numbers have a common multiple.
use Rattle.std.proofs.Common.{◌≡◌, ℕ, zero, suc, ◌<◌, ◌==◌, if◌then◌else◌, ℤ, pos, ◌*ℤ◌, ◌<ℤ◌, inl, inr, sym, ap, ◌∙◌, arith, eq-eqb, ne_eqb}
use lib.IntN.{*ℤ_comm}
use Rattle.std.proofs.lemmas.Bool.{cases_eq}
use Rattle.std.proofs.lemmas.Int.{ints}
use Rattle.md_math.proofs.Ring.{*ℤ_assoc}
use Rattle.md_math.proofs.Order.{positive-*ℤ}

-- `whole` is a multiple of each of the first n numbers, by `part`
pub record HasMultiple (n : ℕ) (m : ℕ → ℤ) : Type 0 where
  pub whole : ℤ
  pub part : ℕ → ℤ
  pub positive : pos 0 <ℤ whole
  pub parts : (j : ℕ) → j < n → pos 0 <ℤ part j
  pub is : (j : ℕ) → j < n → m j *ℤ part j ≡ whole

pub has-multiple : (n : ℕ) (m : ℕ → ℤ) → ((j : ℕ) → j < n → pos 0 <ℤ m j) → HasMultiple n m
has-multiple zero m h = record {
  whole = pos 1;
  part = λ _. pos 1;
  positive = omega (arith, ints);
  parts = λ j b. absurd (omega (arith, b));
  is = λ j b. absurd (omega (arith, b));
}
has-multiple (suc n) m h = more n m (has-multiple n m (λ j b. h j (omega (arith, b)))) (h n (omega arith))
  where
    more : (n : ℕ) (m : ℕ → ℤ) → HasMultiple n m → pos 0 <ℤ m n → HasMultiple (suc n) m
    more n m r p = record {
      whole = r.whole *ℤ m n;
      part = λ j. if j == n then r.whole else r.part j *ℤ m n;
      positive = positive-*ℤ r.whole (m n) r.positive p;
      parts = λ j b. elim (cases_eq j n) [
        | inl e ↦ rw (eq-eqb j n e) r.positive
        | inr d ↦ rw (ne_eqb j n d) (positive-*ℤ (r.part j) (m n) (r.parts j (omega (arith, b, d))) p)
      ];
      is = λ j b. elim (cases_eq j n) [
        | inl e ↦ rw (eq-eqb j n e) (ap (λ i. m i *ℤ r.whole) e ∙ *ℤ_comm (m n) r.whole)
        | inr d ↦ rw (ne_eqb j n d) (sym (*ℤ_assoc (m j) (r.part j) (m n)) ∙ ap (λ z. z *ℤ m n) (r.is j (omega (arith, b, d))))
      ];
    }
