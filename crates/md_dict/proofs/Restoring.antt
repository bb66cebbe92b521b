-- How rows that were written get their old numbers back.
use Rattle.std.proofs.Common.{◌≡◌, ℕ, ◌+◌, ◌*◌, ◌^◌, ◌<◌, ◌≤◌, List, length, set, ℤ, pos, ◌+ℤ◌, ◌-ℤ◌, ◌*ℤ◌, ◌<ℤ◌, to_z, of_z, FitsSigned, unsigned_abs, refl, sym, ap, ap₂, ◌∙◌, subst, inl, inr, arith, get_or-set_same, get_or-set_other}
use Rattle.std.proofs.lemmas.Bool.{cases_eq}
use Rattle.std.proofs.lemmas.Int.{fits_signed_from_abs, unsigned_abs-mul}
use lib.Signed.{mag}
use mir.Syntax.{w128, w64}
use Rattle.md_math.specs.Lists.{number_at}
use Rattle.md_math.specs.Sizes.{IsWithin}
use Rattle.md_math.proofs.SizeLaws.{IsWithin-sub}
use Rattle.md_math.proofs.Order.{*ℤ_cancel}
use Rattle.md_math.proofs.Ring.{linear}
use Rattle.md_math.proofs.Bits.{read_result}
use Rattle.md_dict.specs.declared.step.Step.{Step}
use Rattle.md_dict.specs.declared.rows.Rows.{Rows}
use Rattle.md_dict.specs.Step.{number_in}
use Rattle.md_dict.specs.Fill.{Leaves}
use Rattle.md_dict.specs.Rows.{own_number}
use Rattle.md_dict_division.proofs.Reading.{product_small, two_products_small}

-- ---- one row

-- the first numbers of a row are the old ones, the others are as they were found
pub record IsHalfTurned (rows : Rows) (i : ℕ) (found now : List ℤ) (n : ℕ) : Type 0 where
  pub turned : (s : ℕ) → s < n → number_at now s ≡ own_number rows i s
  pub rest : (s : ℕ) → n ≤ s → number_at now s ≡ number_at found s

pub IsHalfTurned-none : (rows : Rows) (i : ℕ) (found : List ℤ) → IsHalfTurned rows i found found 0
IsHalfTurned-none rows i found = record { turned = λ s a. absurd (omega arith); rest = λ s a. refl }

pub IsHalfTurned-more : (rows : Rows) (i : ℕ) (found now : List ℤ) (n : ℕ) (x : ℤ) → n < length now → x ≡ own_number rows i n → IsHalfTurned rows i found now n → IsHalfTurned rows i found (set now n x) (n + 1)
IsHalfTurned-more rows i found now n x inside e h = record {
  turned = λ s a.
      elim (cases_eq s n) [
        | inl same ↦ subst (λ k. number_at (set now n x) k ≡ own_number rows i k) (sym same) (get_or-set_same now n x (pos 0) inside ∙ e)
        | inr o ↦ get_or-set_other now n s x (pos 0) o ∙ h.turned s (omega arith)
      ];
  rest = λ s a. get_or-set_other now n s x (pos 0) (λ e. omega arith) ∙ h.rest s (omega arith);
}

-- ---- all rows

-- the first rows have their old numbers, the others are as they were found
pub record AreHalfRestored (step : Step) (rows : Rows) (found now : List ℤ) (n : ℕ) : Type 0 where
  pub restored : (i s : ℕ) → i < n → i < step.rows + 2 → s < step.columns + 1 → number_in step now i s ≡ own_number rows i s
  pub rest : (i s : ℕ) → n ≤ i → s < step.columns + 1 → number_in step now i s ≡ number_in step found i s

pub AreHalfRestored-none : (step : Step) (rows : Rows) (found : List ℤ) → AreHalfRestored step rows found found 0
AreHalfRestored-none step rows found = record { restored = λ i s a b c. absurd (omega arith); rest = λ i s a b. refl }

pub AreHalfRestored-more : (step : Step) (rows : Rows) (found now more : List ℤ) (n : ℕ) → AreHalfRestored step rows found now n → Leaves step n now more → ((s : ℕ) → s < step.columns + 1 → number_in step more n s ≡ own_number rows n s) → AreHalfRestored step rows found more (n + 1)
AreHalfRestored-more step rows found now more n h l back = record {
  restored = λ i s a b c.
      elim (cases_eq i n) [
        | inl same ↦ subst (λ k. number_in step more k s ≡ own_number rows k s) (sym same) (back s c)
        | inr o ↦ l.others i s o c ∙ h.restored i s (omega arith) b c
      ];
  rest = λ i s a b. l.others i s (λ e. omega arith) b ∙ h.rest i s (omega arith) b;
}

-- ---- one number

-- the pivot times the old number is the divisor times the new one, with what was taken
pub whole_is : (divisor new pivot own factor taken : ℤ) → divisor *ℤ new ≡ pivot *ℤ own -ℤ factor *ℤ taken → divisor *ℤ new +ℤ factor *ℤ taken ≡ pivot *ℤ own
whole_is divisor new pivot own factor taken e = omega (arith, linear, e)

-- so the old number is the quotient
pub quotient_is_own : (pivot own q whole : ℤ) → pos 0 <ℤ pivot → whole ≡ pivot *ℤ own → pivot *ℤ q ≡ whole → q ≡ own
quotient_is_own pivot own q whole above e h = *ℤ_cancel pivot q own above (h ∙ e)

-- ---- what is read on the way

-- a product that was read
pub product_is : (a b x y result : ℤ) → to_z w128 (of_z w128 x) ≡ a → to_z w128 (of_z w128 y) ≡ b → mag result < 2 ^ 127 → result ≡ to_z w128 (of_z w128 x) *ℤ to_z w128 (of_z w128 y) → to_z w128 (of_z w128 result) ≡ a *ℤ b
product_is a b x y result p q small e = read_result result small ∙ e ∙ ap₂ (λ u v. u *ℤ v) p q

-- the sum of the two products fits
pub sum_fits : (divisor new pivot own factor taken : ℤ) → IsWithin (2 ^ 62) pivot → IsWithin (2 ^ 62) own → IsWithin (2 ^ 62) factor → IsWithin (2 ^ 62) taken → divisor *ℤ new ≡ pivot *ℤ own -ℤ factor *ℤ taken → FitsSigned w128 (divisor *ℤ new +ℤ factor *ℤ taken)
sum_fits divisor new pivot own factor taken p o f t e =
    subst (FitsSigned w128) (sym (whole_is divisor new pivot own factor taken e)) (fits_signed_from_abs w128 (pivot *ℤ own) (let small = product_small pivot own p o in omega (arith, small)))

-- the divisor times the new number is small
pub changed_small : (divisor new pivot own factor taken : ℤ) → IsWithin (2 ^ 62) pivot → IsWithin (2 ^ 62) own → IsWithin (2 ^ 62) factor → IsWithin (2 ^ 62) taken → divisor *ℤ new ≡ pivot *ℤ own -ℤ factor *ℤ taken → unsigned_abs divisor * unsigned_abs new < 2 ^ 126
changed_small divisor new pivot own factor taken p o f t e =
    let whole : IsWithin (unsigned_abs (pivot *ℤ own) + unsigned_abs (factor *ℤ taken)) (pivot *ℤ own -ℤ factor *ℤ taken) = IsWithin-sub _ _ (pivot *ℤ own) (factor *ℤ taken) (record { within = omega arith }) (record { within = omega arith }) in
    omega (arith, unsigned_abs-mul divisor new, ap unsigned_abs e, unsigned_abs-mul pivot own, unsigned_abs-mul factor taken, whole.within, two_products_small pivot own factor taken p o f t)
