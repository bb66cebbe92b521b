-- The two rows of a combination are in least terms, as all rows of a table are.
use Rattle.std.proofs.Common.{◌≡◌, ℕ, ◌+◌, ◌<◌, ◌==◌, ◌&&◌, nat_le, Bool, true, false, if◌then◌else◌, List, length, ℤ, pos, ◌*ℤ◌, neg_ℤ, ◌<ℤ◌, sym, ap, ◌∙◌, subst, arith}
use Rattle.md_math.specs.Lists.{number_at}
use Rattle.md_math.specs.Divisors.{Divides}
use Rattle.md_math.proofs.Order.{positive-*ℤ}
use Rattle.md_math.proofs.Ring.{*ℤ_assoc}
use Rattle.md_math.proofs.Division.{Divides_refl, Divides-neg_ℤ, Divides-zero}
use Rattle.md_dict.specs.declared.step.Step.{Step}
use Rattle.md_dict.specs.declared.rows.Rows.{Rows}
use Rattle.md_dict_rows.specs.declared.combination.Combination.{Combination}
use Rattle.md_dict.specs.Dictionary.{basic_value}
use Rattle.md_dict.specs.Rows.{own_den, own_number}
use Rattle.md_dict_rows.specs.LeastRows.{IsLeastRow}
use Rattle.md_dict_rows.specs.Combination.{AreLeastRows, IsLowered}
use Rattle.md_dict.specs.RowStep.{IsRowStep, IsOwnRow, IsCombinationOf}

-- what a basic column holds is a multiple of the denominator
divides_basic : (m n i column r : ℕ) (den : ℤ) → Divides den (basic_value m n den i column r)
divides_basic m n i column r den = by_tests (r == i) ((r == m) && nat_le n column)
  where
    by_tests : (own face : Bool) → Divides den (if own then den else (if face then neg_ℤ den else pos 0))
    by_tests true face = Divides_refl den
    by_tests false true = Divides-neg_ℤ den den (Divides_refl den)
    by_tests false false = Divides-zero den

-- a row of a table is in least terms, also where it is read into a list
least_of : (rows : Rows) (i n : ℕ) (den : ℤ) (own : List ℤ) → n ≡ rows.width → den ≡ own_den rows i → IsOwnRow rows i own → IsLeastRow rows.width (own_den rows i) (own_number rows i) → IsLeastRow n den (number_at own)
least_of rows i n den own long e o least = record {
  positive = subst (λ z. pos 0 <ℤ z) (sym e) least.positive;
  only_one = λ x a b. least.only_one x (subst (Divides x) e a) (record { at = λ s l. subst (Divides x) (o.numbers s l) (b.at s (omega (arith, l, long))) });
}

-- the number at the place of the pivot, as a product
at_place : (step : Step) (rows : Rows) (i place : ℕ) (common x : ℤ) (own : List ℤ) → IsRowStep step rows → place ≡ step.place → IsOwnRow rows i own → common *ℤ x ≡ own_number rows i step.place → number_at own place ≡ common *ℤ x
at_place step rows i place common x own h e o product =
    let inside : step.place < step.columns = h.pivot.table.place_in in
    let in_row : step.place < rows.width = (let width = h.width in omega (arith, inside, width)) in
    ap (number_at own) e ∙ o.numbers step.place in_row ∙ sym product

pub AreLeastRows-of : (step : Step) (rows : Rows) (i : ℕ) (c : Combination) (own taken : List ℤ) → IsRowStep step rows → i < step.rows + 2 → IsCombinationOf step rows i c → IsOwnRow rows i own → IsOwnRow rows step.row taken → AreLeastRows c own taken
AreLeastRows-of step rows i c own taken h row_in is o t =
    let pivot_in : step.row < step.rows = h.pivot.table.row_in in
    let leaving : Divides (own_den rows i) c.leaving = subst (Divides (own_den rows i)) (sym is.leaving) (divides_basic step.rows step.columns step.row step.leaving i (own_den rows i)) in
    record {
      own_least = least_of rows i (length own) c.den own o.long is.den o (h.table.least i row_in);
      taken_least = least_of rows step.row (length own) c.pivot_den taken o.long is.pivot_den t (h.table.least step.row (omega (arith, pivot_in)));
      common = is.common;
      own_at_place = at_place step rows i c.place is.common c.factor own h is.place o is.factor;
      taken_at_place = at_place step rows step.row c.place is.common c.multiplier taken h is.place t is.multiplier;
      leaving = subst (λ z. Divides z c.leaving) (sym is.den) leaving;
    }

-- a lowered combination is one of the same row
pub IsCombinationOf-lowered : (step : Step) (rows : Rows) (i : ℕ) (c low : Combination) → IsCombinationOf step rows i c → IsLowered c low → IsCombinationOf step rows i low
IsCombinationOf-lowered step rows i c low h l = record {
  other = h.other;
  place = l.place ∙ h.place;
  common = h.common *ℤ l.common;
  positive = positive-*ℤ h.common l.common h.positive l.positive;
  multiplier = *ℤ_assoc h.common l.common low.multiplier ∙ ap (λ z. h.common *ℤ z) l.multiplier ∙ h.multiplier;
  factor = *ℤ_assoc h.common l.common low.factor ∙ ap (λ z. h.common *ℤ z) l.factor ∙ h.factor;
  den = l.den ∙ h.den;
  pivot_den = l.pivot_den ∙ h.pivot_den;
  leaving = l.leaving ∙ h.leaving;
}
