-- The new numbers of a dictionary: how they are made, and what they are where they are all written.
use Rattle.std.proofs.Common.{◌≡◌, ◌≢◌, ℕ, ◌+◌, ◌-◌, ◌*◌, ◌<◌, ◌≤◌, ◌==◌, ◌&&◌, nat_le, Bool, true, false, if◌then◌else◌, List, set, ℤ, pos, ◌-ℤ◌, ◌*ℤ◌, ◌<ℤ◌, neg_ℤ, int_div, unsigned_abs, refl, sym, ap, ap₂, ◌∙◌, subst, inl, inr, arith, eq-eqb, ne_eqb, mul-le-mul, mul-le-mul_right, ◌^◌}
use Rattle.std.proofs.lemmas.Bool.{cases_lt}
use Rattle.std.proofs.lemmas.Int.{ints, unsigned_abs-mul}
use Rattle.md_math.specs.Sizes.{IsWithin}
use Rattle.md_math.specs.Divisors.{Divides}
use Rattle.md_math.proofs.Division.{Divides-int_div, Divides-*ℤ_right, Divides_refl}
use Rattle.md_dict_rows.proofs.Quotients.{quotient_within}
use Rattle.md_dict.specs.Dictionary.{basic_value}
use Rattle.md_dict.specs.declared.step.Step.{Step}
use Rattle.md_dict.specs.Wide.{IsNarrow}
use Rattle.md_dict.specs.Step.{raw_number, seat_after, new_entry, old_number, number_in, multiplier_of, factor_of, AreRowsNarrow, IsStepDivisor}
use Rattle.md_dict.specs.Fill.{Leaves}
use Rattle.md_dict.proofs.Change.{raw_at-basic, raw_at-kept, raw_at-right, Divides-basic_value}
use Rattle.md_dict.proofs.Writing.{written_elsewhere}

-- ---- how a raw number is made

pub old_number-beside : (step : Step) (kept : List ℤ) (i s : ℕ) → s ≢ step.place → old_number step kept i s ≡ number_in step kept i s
old_number-beside step kept i s o = rw (ne_eqb s step.place o) refl

pub old_number-here : (step : Step) (kept : List ℤ) (i : ℕ) → old_number step kept i step.place ≡ basic_value step.rows step.columns step.den step.row step.leaving i
old_number-here step kept i = rw (eq-eqb step.place step.place refl) refl

-- beside the place of the pivot, it is made of two kept numbers
pub raw_beside : (step : Step) (kept : List ℤ) (i s : ℕ) → s ≢ step.place → raw_number step kept i s ≡ multiplier_of step i *ℤ number_in step kept i s -ℤ factor_of step kept i *ℤ number_in step kept step.row s
raw_beside step kept i s o = ap₂ (λ x y. multiplier_of step i *ℤ x -ℤ factor_of step kept i *ℤ y) (old_number-beside step kept i s o) (old_number-beside step kept step.row s o)

pub Leaves-none : (step : Step) (i : ℕ) (old : List ℤ) → Leaves step i old old
Leaves-none step i old = record { others = λ k s _ _. refl }

pub Leaves-more : (step : Step) (i s : ℕ) (old new : List ℤ) (x : ℤ) → Leaves step i old new → s < step.columns + 1 → Leaves step i old (set new (i * (step.columns + 1) + s) x)
Leaves-more step i s old new x h a = record { others = λ k t o b. written_elsewhere step new i s k t x o a b ∙ h.others k t o b }

-- ---- entries

basic_value-size : (den : ℤ) (m n i column r : ℕ) → unsigned_abs (basic_value m n den i column r) ≤ unsigned_abs den
basic_value-size den m n i column r = by_tests (r == i) ((r == m) && nat_le n column)
  where
    by_tests : (own face : Bool) → unsigned_abs (if own then den else (if face then neg_ℤ den else pos 0)) ≤ unsigned_abs den
    by_tests true face = omega arith
    by_tests false true = omega (arith, ints)
    by_tests false false = omega (arith, ints)

-- with the denominator, all entries are within the limit, wherever the columns stand
pub IsNarrow-from : (step : Step) (kept : List ℤ) (seat : List ℕ) → step.place < step.columns → IsStepDivisor step kept (step.rows + 2) step.divisor → IsWithin step.limit (int_div (step.den *ℤ step.pivot) step.divisor) → AreRowsNarrow step kept step.divisor (step.rows + 2) → IsNarrow step.rows step.columns step.limit (new_entry step kept seat step.divisor)
IsNarrow-from step kept seat p h d w = record {
  entries = λ i j a b.
      elim (cases_lt j (step.columns + step.rows)) [
        | inl l ↦
            elim (cases_lt (seat_after step seat j) step.columns) [
              | inl k ↦ subst (λ z. IsWithin step.limit (int_div z step.divisor)) (sym (raw_at-kept step kept seat i j l k)) (w.at i (seat_after step seat j) a (omega arith))
              | inr k ↦
                  subst (λ z. IsWithin step.limit (int_div z step.divisor)) (sym (raw_at-basic step kept seat i j l k))
                  (quotient_within step.limit step.divisor _ h.positive
                  (Divides-basic_value step.divisor (step.den *ℤ step.pivot) step.rows step.columns (seat_after step seat j - step.columns) j i h.of_den)
                  (let size = basic_value-size (step.den *ℤ step.pivot) step.rows step.columns (seat_after step seat j - step.columns) j i in omega (arith, size, den_size)))
            ]
        | inr l ↦ subst (λ z. IsWithin step.limit (int_div z step.divisor)) (sym (raw_at-right step kept seat i j l)) (w.at i step.columns a (omega arith))
      ];
}
  where
    den_size : unsigned_abs (step.den *ℤ step.pivot) ≤ step.limit * unsigned_abs step.divisor
    den_size =
        let product : unsigned_abs step.divisor * unsigned_abs (int_div (step.den *ℤ step.pivot) step.divisor) ≡ unsigned_abs (step.den *ℤ step.pivot) =
        sym (unsigned_abs-mul step.divisor (int_div (step.den *ℤ step.pivot) step.divisor)) ∙ ap unsigned_abs (Divides-int_div step.divisor (step.den *ℤ step.pivot) h.of_den) in
        let le : unsigned_abs step.divisor * unsigned_abs (int_div (step.den *ℤ step.pivot) step.divisor) ≤ unsigned_abs step.divisor * step.limit = mul-le-mul (omega arith) d.within in
        omega (arith, product, le)
