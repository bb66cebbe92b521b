-- The numbers that a pivot makes, by the column's place.
use Rattle.std.proofs.Common.{◌≡◌, ℕ, ◌+◌, ◌-◌, ◌<◌, ◌≤◌, ◌==◌, ◌&&◌, nat_le, Bool, true, false, if◌then◌else◌, List, ℤ, pos, ◌*ℤ◌, neg_ℤ, ◌<ℤ◌, int_div, unsigned_abs, refl, sym, ◌∙◌, subst, inl, inr, arith, lt-ltb, le-ltb}
use Rattle.std.proofs.lemmas.Bool.{cases_lt}
use Rattle.md_math.specs.Divisors.{Divides}
use Rattle.md_math.specs.Sizes.{IsWithin}
use Rattle.md_math.proofs.Division.{Divides-int_div, Divides-neg_ℤ, Divides-zero}
use Rattle.md_math.proofs.Order.{*ℤ_cancel}
use Rattle.md_dict.specs.Dictionary.{basic_value}
use Rattle.md_dict.specs.declared.step.Step.{Step}
use Rattle.md_dict.specs.Step.{raw_number, seat_after, raw_at, IsStepDivisor}

pub raw_at-basic : (step : Step) (kept : List ℤ) (seat : List ℕ) (i j : ℕ) → j < step.columns + step.rows → step.columns ≤ seat_after step seat j → raw_at step kept seat i j ≡ basic_value step.rows step.columns (step.den *ℤ step.pivot) (seat_after step seat j - step.columns) j i
raw_at-basic step kept seat i j a b = rw (lt-ltb j (step.columns + step.rows) a, le-ltb (seat_after step seat j) step.columns b) refl

pub raw_at-kept : (step : Step) (kept : List ℤ) (seat : List ℕ) (i j : ℕ) → j < step.columns + step.rows → seat_after step seat j < step.columns → raw_at step kept seat i j ≡ raw_number step kept i (seat_after step seat j)
raw_at-kept step kept seat i j a b = rw (lt-ltb j (step.columns + step.rows) a, lt-ltb (seat_after step seat j) step.columns b) refl

pub raw_at-right : (step : Step) (kept : List ℤ) (seat : List ℕ) (i j : ℕ) → step.columns + step.rows ≤ j → raw_at step kept seat i j ≡ raw_number step kept i step.columns
raw_at-right step kept seat i j a = rw (le-ltb j (step.columns + step.rows) a) refl

pub Divides-basic_value : (g den : ℤ) (m n i column r : ℕ) → Divides g den → Divides g (basic_value m n den i column r)
Divides-basic_value g den m n i column r h = by_tests (r == i) ((r == m) && nat_le n column)
  where
    by_tests : (own face : Bool) → Divides g (if own then den else (if face then neg_ℤ den else pos 0))
    by_tests true face = h
    by_tests false true = Divides-neg_ℤ g den h
    by_tests false false = Divides-zero g

pub Divides-raw_at : (step : Step) (kept : List ℤ) (seat : List ℕ) (g : ℤ) (i j : ℕ) → IsStepDivisor step kept (step.rows + 2) g → i < step.rows + 2 → Divides g (raw_at step kept seat i j)
Divides-raw_at step kept seat g i j h a =
    elim (cases_lt j (step.columns + step.rows)) [
      | inl l ↦
          elim (cases_lt (seat_after step seat j) step.columns) [
            | inl k ↦ subst (Divides g) (sym (raw_at-kept step kept seat i j l k)) (h.of_rows.at i (seat_after step seat j) a (omega arith))
            | inr k ↦ subst (Divides g) (sym (raw_at-basic step kept seat i j l k)) (Divides-basic_value g (step.den *ℤ step.pivot) step.rows step.columns (seat_after step seat j - step.columns) j i h.of_den)
          ]
      | inr l ↦ subst (Divides g) (sym (raw_at-right step kept seat i j l)) (h.of_rows.at i step.columns a (omega arith))
    ]
