-- Rows after a pivot over denominators of their own: the divisor of the pivot comes from the least common multiple of these denominators.
use Rattle.std.proofs.Common.{◌≡◌, ℕ, ◌+◌, ◌*◌, ◌<◌, List, ℤ, pos, ◌*ℤ◌, ◌≤ℤ◌, ◌<ℤ◌, unsigned_abs, int_div, sym, ap, ◌∙◌, subst, arith}
use Prim.Native.Nat.{◌∣◌}
use Rattle.std.proofs.lemmas.Int.{ints, unsigned_abs-mul}
use Rattle.std.proofs.Math.Nat as NatL
use lib.IntN.{*ℤ_comm}
use Rattle.md_math.specs.Divisors.{Divides}
use Rattle.md_math.proofs.Division.{Divides_trans, Divides_cancel, Divides-int_div, *ℤ-Divides}
use Rattle.md_math.proofs.Gcds.{gcd_of_two, family_gcd}
use Rattle.md_math.proofs.Order.{*ℤ_cancel, positive-*ℤ, positive_from_*ℤ}
use Rattle.md_math.proofs.Ring.{*ℤ_assoc, *ℤ-one}
use Rattle.md_dict_rows.proofs.LeastRows.{divides_row_factor}
use Rattle.md_dict.specs.declared.step.Step.{Step}
use Rattle.md_dict.specs.Step.{raw_number, IsStepDivisor}
use Rattle.md_dict_rows.specs.LeastRows.{IsLeastRow}
use Rattle.md_dict.specs.Multiples.{IsLeastMultiple, IsNewRow, HaveDivisor}
use Rattle.md_dict_rows.proofs.Quotients.{divides_from}

-- ---- numbers

-- a factor other than 0 is taken away
divides_without : (x a b : ℤ) → 0 < unsigned_abs x → Divides (x *ℤ a) (x *ℤ b) → Divides a b
divides_without x a b above h =
    let both : unsigned_abs x * unsigned_abs a ∣ unsigned_abs x * unsigned_abs b = rw (unsigned_abs-mul x a, unsigned_abs-mul x b) at h.divides in
    record { divides = NatL.dvd_of_mul-dvd-mul_left (unsigned_abs a) above both }

-- what divides a positive number is not 0
divisor_above : (x p : ℤ) → pos 0 <ℤ p → Divides x p → 0 < unsigned_abs x
divisor_above x p above h =
    let size : 0 < unsigned_abs p = omega (arith, ints) in
    NatL.pos_of_dvd_of_pos h.divides size

-- the quotient of a row is the divisor times the row's share
row_quotient : (g c q d den p : ℤ) → pos 0 <ℤ d → g *ℤ den ≡ p → c *ℤ d ≡ den → q *ℤ d ≡ p → g *ℤ c ≡ q
row_quotient g c q d den p above whole share own =
    *ℤ_cancel d (g *ℤ c) q above
    (*ℤ_comm d (g *ℤ c) ∙ *ℤ_assoc g c d ∙ ap (λ z. g *ℤ z) share ∙ whole ∙ sym own ∙ *ℤ_comm q d)

-- what divides a row's quotient: its part of the whole is a multiple of the row's denominator
part_is_multiple : (x z q d p : ℤ) → 0 < unsigned_abs x → x *ℤ z ≡ p → q *ℤ d ≡ p → Divides x q → Divides d z
part_is_multiple x z q d p above part own h =
    let grown : Divides (d *ℤ x) (d *ℤ q) = *ℤ-Divides d x q h in
    divides_without x d z above (subst (λ y. Divides y (x *ℤ z)) (*ℤ_comm d x) (subst (Divides (d *ℤ x)) (*ℤ_comm d q ∙ own ∙ sym part) grown))

-- and where its part is a multiple of the denominator of all, it divides the divisor
divides_divisor : (x z g den p : ℤ) → pos 0 <ℤ den → x *ℤ z ≡ p → g *ℤ den ≡ p → Divides den z → Divides x g
divides_divisor x z g den p above part whole h =
    let grown : Divides (x *ℤ den) (x *ℤ z) = *ℤ-Divides x den z h in
    Divides_cancel den x g above (subst (λ y. Divides y (den *ℤ g)) (*ℤ_comm x den) (subst (Divides (x *ℤ den)) (part ∙ sym whole ∙ *ℤ_comm g den) grown))

-- ---- one row

-- its denominator divides the denominator times the pivot
pub common_multiple : (step : Step) (kept : List ℤ) (i : ℕ) (den : ℤ) (f : ℕ → ℤ) → IsNewRow step kept i den f → Divides den (step.den *ℤ step.pivot)
common_multiple step kept i den f h = divides_from den h.factor (step.den *ℤ step.pivot) (*ℤ_comm den h.factor ∙ h.den_is)

-- a number over the denominator of all, times the divisor, is the raw number
row_number : (step : Step) (kept : List ℤ) (i s : ℕ) (g c den d : ℤ) (f : ℕ → ℤ) → IsNewRow step kept i d f → s < step.columns + 1 → g *ℤ den ≡ step.den *ℤ step.pivot → c *ℤ d ≡ den → g *ℤ (c *ℤ f s) ≡ raw_number step kept i s
row_number step kept i s g c den d f h b whole share =
    let quotient : g *ℤ c ≡ h.factor = row_quotient g c h.factor d den (step.den *ℤ step.pivot) h.least.positive whole share h.den_is in
    sym (*ℤ_assoc g c (f s)) ∙ ap (λ y. y *ℤ f s) quotient ∙ h.numbers s b

-- what divides the raw numbers of the row divides its quotient
divides_factor : (step : Step) (kept : List ℤ) (i : ℕ) (x d : ℤ) (f : ℕ → ℤ) (h : IsNewRow step kept i d f) → Divides x (step.den *ℤ step.pivot) → ((s : ℕ) → s < step.columns + 1 → Divides x (raw_number step kept i s)) → Divides x h.factor
divides_factor step kept i x d f h a b =
    divides_row_factor (step.columns + 1) d f x h.factor h.least (subst (Divides x) (sym h.den_is) a) (λ s k. subst (Divides x) (sym (h.numbers s k)) (b s k))

-- ---- all rows

-- the denominator times the pivot is a multiple of the denominator of all
whole_multiple : (step : Step) (kept : List ℤ) (den : ℤ) (dens : ℕ → ℤ) (table : ℕ → ℕ → ℤ) → ((i : ℕ) → i < step.rows + 2 → IsNewRow step kept i (dens i) (table i)) → IsLeastMultiple (step.rows + 2) dens den → Divides den (step.den *ℤ step.pivot)
whole_multiple step kept den dens table rows m = m.least (step.den *ℤ step.pivot) (λ i b. common_multiple step kept i (dens i) (table i) (rows i b))

-- what a row's denominator is multiplied by to give that of all
share_is : (n : ℕ) (dens : ℕ → ℤ) (den : ℤ) (i : ℕ) → IsLeastMultiple n dens den → i < n → int_div den (dens i) *ℤ dens i ≡ den
share_is n dens den i m b = *ℤ_comm (int_div den (dens i)) (dens i) ∙ Divides-int_div (dens i) den (m.multiple i b)

divisor_of_rows : (step : Step) (kept : List ℤ) (den : ℤ) (dens : ℕ → ℤ) (table : ℕ → ℕ → ℤ) (g : ℤ) → pos 0 <ℤ (step.den *ℤ step.pivot) → ((i : ℕ) → i < step.rows + 2 → IsNewRow step kept i (dens i) (table i)) → IsLeastMultiple (step.rows + 2) dens den → g *ℤ den ≡ step.den *ℤ step.pivot → IsStepDivisor step kept (step.rows + 2) g
divisor_of_rows step kept den dens table g above rows m whole = record {
  positive = positive_from_*ℤ den g m.positive (subst (λ z. pos 0 <ℤ z) (sym whole ∙ *ℤ_comm g den) above);
  of_den = divides_from g den (step.den *ℤ step.pivot) whole;
  of_rows = record {
    at = λ i s b c.
        divides_from g (int_div den (dens i) *ℤ table i s) (raw_number step kept i s)
        (row_number step kept i s g (int_div den (dens i)) den (dens i) (table i) (rows i b) c whole (share_is (step.rows + 2) dens den i m b));
  };
  greatest = λ x h k.
      let part : x *ℤ int_div (step.den *ℤ step.pivot) x ≡ step.den *ℤ step.pivot = Divides-int_div x (step.den *ℤ step.pivot) h in
      let other : 0 < unsigned_abs x = divisor_above x (step.den *ℤ step.pivot) above h in
      divides_divisor x (int_div (step.den *ℤ step.pivot) x) g den (step.den *ℤ step.pivot) m.positive part whole
      (m.least (int_div (step.den *ℤ step.pivot) x) (λ i b.
      part_is_multiple x (int_div (step.den *ℤ step.pivot) x) (rows i b).factor (dens i) (step.den *ℤ step.pivot) other part (rows i b).den_is
      (divides_factor step kept i x (dens i) (table i) (rows i b) h (λ s c. k.at i s b c))));
}

-- the divisor of the pivot is what the least common multiple of the new denominators is multiplied by to give the denominator times the pivot
pub IsStepDivisor-rows : (step : Step) (kept : List ℤ) (den : ℤ) (dens : ℕ → ℤ) (table : ℕ → ℕ → ℤ) → pos 0 <ℤ step.den → pos 0 <ℤ step.pivot → ((i : ℕ) → i < step.rows + 2 → IsNewRow step kept i (dens i) (table i)) → IsLeastMultiple (step.rows + 2) dens den → HaveDivisor step kept den dens table
IsStepDivisor-rows step kept den dens table p q rows m =
    let whole : int_div (step.den *ℤ step.pivot) den *ℤ den ≡ step.den *ℤ step.pivot =
    *ℤ_comm (int_div (step.den *ℤ step.pivot) den) den ∙ Divides-int_div den (step.den *ℤ step.pivot) (whole_multiple step kept den dens table rows m) in
    record {
      divisor = int_div (step.den *ℤ step.pivot) den;
      is_divisor = divisor_of_rows step kept den dens table (int_div (step.den *ℤ step.pivot) den) (positive-*ℤ step.den step.pivot p q) rows m whole;
      den_is = whole;
      numbers = λ i s share b c e. row_number step kept i s (int_div (step.den *ℤ step.pivot) den) share den (dens i) (table i) (rows i b) c whole e;
    }
