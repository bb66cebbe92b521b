-- A pivot of rows that stand over denominators of their own: what each kind of row becomes, and when the table is too wide.
use Rattle.std.proofs.Common.{◌≡◌, ◌≢◌, ℕ, ◌+◌, ◌*◌, ◌^◌, ◌<◌, ◌≤◌, List, length, ℤ, pos, ◌-ℤ◌, ◌*ℤ◌, ◌<ℤ◌, unsigned_abs, refl, sym, ap, ap₂, ◌∙◌, subst, inl, inr, arith, ne_eqb, eq-eqb, mul-le-mul}
use Rattle.std.proofs.lemmas.Bool.{cases_eq}
use Rattle.std.proofs.lemmas.Int.{ints, unsigned_abs-mul}
use Rattle.std.proofs.Math.Nat as NatL
use Rattle.md_math.specs.Lists.{number_at}
use Rattle.md_math.specs.Sizes.{IsWithin, AllWithin}
use Rattle.md_math.specs.Divisors.{Divides, IsCommonDivisor}
use Rattle.md_math.proofs.Division.{Divides_trans, positive_divisor}
use Rattle.md_math.proofs.Gcds.{gcd_of_two, family_gcd}
use Rattle.md_math.proofs.Order.{positive-*ℤ, positive_from_*ℤ}
use Rattle.md_math.proofs.Ring.{linear, ring, *ℤ-zero}
use Rattle.md_math.proofs.SizeLaws.{AllWithin-number_at}
use Rattle.md_dict.specs.declared.step.Step.{Step}
use Rattle.md_dict.specs.declared.rows.Rows.{Rows}
use Rattle.md_dict_rows.specs.declared.combination.Combination.{Combination}
use Rattle.md_dict.specs.Dictionary.{basic_value}
use Rattle.md_dict.specs.Step.{number_in, old_number, raw_number, multiplier_of, factor_of, IsApart}
use Rattle.md_dict.specs.Fill.{IsWideFor}
use Rattle.md_dict.specs.Rows.{kept_of, own_den, own_number, share_of}
use Rattle.md_dict_rows.specs.LeastRows.{IsLeastRow}
use Rattle.md_dict.specs.Multiples.{IsNewRow}
use Rattle.md_dict_rows.specs.Combination.{combined, combined_den, DividesCombination, IsCombination, IsInLeastTerms, IsTooWideRow}
use Rattle.md_dict.specs.RowStep.{IsRowStep, IsOwnRow, IsCombinationOf}
use Rattle.md_dict.proofs.RawPivot.{basic_own, basic_other, scaled_basic, basic_within}
use Rattle.md_dict.proofs.StepDivisor.{raw_apart}
use Rattle.md_dict.proofs.NewNumbers.{old_number-here, old_number-beside}
use Rattle.md_dict_rows.proofs.Quotients.{quotient_above}
use Rattle.md_dict.proofs.RowLaws.{kept_at, positive_share}
use Rattle.md_dict_rows.proofs.Reducing.{combined_here, combined_beside}
use Rattle.md_dict.proofs.RowNumbers.{row_place}

-- ---- the numbers before the pivot

-- the numbers over the denominator of all rows
abbrev table_of : Step → Rows → List ℤ
table_of step rows = kept_of (step.rows + 2) rows

in_step : (step : Step) (rows : Rows) (s : ℕ) → IsRowStep step rows → s < rows.width → s < step.columns + 1
in_step step rows s h b = let w = h.width in omega (arith, w)

-- the pivot row is one of all rows
pub pivot_row_in : (step : Step) (rows : Rows) → IsRowStep step rows → step.row < step.rows + 2
pivot_row_in step rows h = let b : step.row < step.rows = h.pivot.table.row_in in omega (arith, b)

place_in_row : (step : Step) (rows : Rows) → IsRowStep step rows → step.place < step.columns + 1
place_in_row step rows h = let b : step.place < step.columns = h.pivot.table.place_in in omega (arith, b)

pub number_in-rows : (step : Step) (rows : Rows) (i s : ℕ) → IsRowStep step rows → i < step.rows + 2 → s < step.columns + 1 → number_in step (table_of step rows) i s ≡ share_of rows i *ℤ own_number rows i s
number_in-rows step rows i s h a b =
    ap (λ w. number_at (table_of step rows) (i * w + s)) (sym h.width)
    ∙ kept_at (step.rows + 2) i s rows a (row_place step rows s h b)

-- each share is positive
pub share_positive : (step : Step) (rows : Rows) (i : ℕ) → IsRowStep step rows → i < step.rows + 2 → pos 0 <ℤ share_of rows i
share_positive step rows i h a = positive_share (share_of rows i) (own_den rows i) step.den (h.table.shared i a) h.pivot.table.den_positive (h.table.least i a).positive

-- at the place of the pivot stands what the leaving column holds, over the row's own denominator
pub old_number-own_here : (step : Step) (rows : Rows) (i : ℕ) → IsRowStep step rows → i < step.rows + 2 → old_number step (table_of step rows) i step.place ≡ share_of rows i *ℤ basic_value step.rows step.columns (own_den rows i) step.row step.leaving i
old_number-own_here step rows i h a =
    old_number-here step (table_of step rows) i
    ∙ ap (λ z. basic_value step.rows step.columns z step.row step.leaving i) (sym (h.table.shared i a))
    ∙ scaled_basic step.rows step.columns step.row step.leaving i (share_of rows i) (own_den rows i)

pub old_number-own_beside : (step : Step) (rows : Rows) (i s : ℕ) → IsRowStep step rows → i < step.rows + 2 → s < step.columns + 1 → s ≢ step.place → old_number step (table_of step rows) i s ≡ share_of rows i *ℤ own_number rows i s
old_number-own_beside step rows i s h a b o = old_number-beside step (table_of step rows) i s o ∙ number_in-rows step rows i s h a b

-- in the pivot row it holds the denominator
old_number-pivot_here : (step : Step) (rows : Rows) → IsRowStep step rows → old_number step (table_of step rows) step.row step.place ≡ share_of rows step.row *ℤ own_den rows step.row
old_number-pivot_here step rows h =
    old_number-own_here step rows step.row h (pivot_row_in step rows h)
    ∙ ap (λ z. share_of rows step.row *ℤ z) (basic_own step.rows step.columns step.row step.leaving (own_den rows step.row))

-- the pivot, over the pivot row's own denominator
pivot_own : (step : Step) (rows : Rows) → IsRowStep step rows → step.pivot ≡ share_of rows step.row *ℤ own_number rows step.row step.place
pivot_own step rows h = h.pivot.pivot_is ∙ number_in-rows step rows step.row step.place h (pivot_row_in step rows h) (place_in_row step rows h)

pub pivot_own_positive : (step : Step) (rows : Rows) → IsRowStep step rows → pos 0 <ℤ own_number rows step.row step.place
pivot_own_positive step rows h =
    positive_from_*ℤ (share_of rows step.row) (own_number rows step.row step.place) (share_positive step rows step.row h (pivot_row_in step rows h))
    (subst (λ z. pos 0 <ℤ z) (pivot_own step rows h) h.pivot.table.pivot_positive)

-- ---- products of several factors

-- the denominator times the pivot, of the pivot row's own numbers
scaled_pivot : (den share own : ℤ) → (den *ℤ share) *ℤ own ≡ den *ℤ (share *ℤ own)
scaled_pivot den share own = simp ring (omega (arith, linear))

-- the same of a row's own denominator
scaled_den : (pivot share own : ℤ) → (pivot *ℤ share) *ℤ own ≡ (share *ℤ own) *ℤ pivot
scaled_den pivot share own = simp ring (omega (arith, linear))

-- ---- the pivot row

-- the numbers of the pivot row are multiplied by the denominator
raw_own : (step : Step) (kept : List ℤ) (s : ℕ) → raw_number step kept step.row s ≡ step.den *ℤ old_number step kept step.row s
raw_own step kept s =
    let own : multiplier_of step step.row ≡ step.den = rw (eq-eqb step.row step.row refl) refl in
    let none : factor_of step kept step.row ≡ pos 0 = rw (eq-eqb step.row step.row refl) refl in
    rw (own, none) (omega (arith, ints))

-- the pivot row exchanges its denominator and the number at the place of the pivot
pub IsNewRow-pivot : (step : Step) (rows : Rows) (f : ℕ → ℤ) → IsRowStep step rows → ((s : ℕ) → s < rows.width → s ≢ step.place → f s ≡ own_number rows step.row s) → f step.place ≡ own_den rows step.row → IsNewRow step (kept_of (step.rows + 2) rows) step.row (own_number rows step.row step.place) f
IsNewRow-pivot step rows f h beside here = record {
  least = record {
    positive = pivot_own_positive step rows h;
    only_one = λ x a b. (h.table.least step.row row_in).only_one x (subst (Divides x) here (b.at step.place (place_in_row step rows h))) (record { at = λ s c. old_divides x a b s c });
  };
  factor = step.den *ℤ share_of rows step.row;
  positive = positive-*ℤ step.den (share_of rows step.row) h.pivot.table.den_positive (share_positive step rows step.row h row_in);
  den_is =
      scaled_pivot step.den (share_of rows step.row) (own_number rows step.row step.place)
      ∙ ap (λ z. step.den *ℤ z) (sym (pivot_own step rows h));
  numbers = λ s b.
      scaled_pivot step.den (share_of rows step.row) (f s)
      ∙ ap (λ z. step.den *ℤ z) (old_is s b)
      ∙ sym (raw_own step (table_of step rows) s);
}
  where
    row_in : step.row < step.rows + 2
    row_in = pivot_row_in step rows h

    old_divides : (x : ℤ) → Divides x (own_number rows step.row step.place) → IsCommonDivisor (step.columns + 1) f x → (s : ℕ) → s < rows.width → Divides x (own_number rows step.row s)
    old_divides x a b s c =
        elim (cases_eq s step.place) [
          | inl same ↦ subst (λ t. Divides x (own_number rows step.row t)) (sym same) a
          | inr o ↦ subst (Divides x) (beside s c o) (b.at s (in_step step rows s h c))
        ]

    old_is : (s : ℕ) → s < step.columns + 1 → share_of rows step.row *ℤ f s ≡ old_number step (table_of step rows) step.row s
    old_is s b =
        elim (cases_eq s step.place) [
          | inl same ↦
              subst (λ t. share_of rows step.row *ℤ f t ≡ old_number step (table_of step rows) step.row t) (sym same)
              (ap (λ z. share_of rows step.row *ℤ z) here ∙ sym (old_number-pivot_here step rows h))
          | inr o ↦ ap (λ z. share_of rows step.row *ℤ z) (beside s (row_place step rows s h b) o) ∙ sym (old_number-own_beside step rows step.row s h row_in b o)
        ]

-- ---- a row that stays

-- a row with 0 at the place of the pivot keeps its denominator and its numbers; the face row may have another number in the leaving column
pub IsNewRow-stays : (step : Step) (rows : Rows) (i : ℕ) (f : ℕ → ℤ) → IsRowStep step rows → i < step.rows + 2 → i ≢ step.row → i ≢ step.rows → own_number rows i step.place ≡ pos 0 → ((s : ℕ) → s < rows.width → f s ≡ own_number rows i s) → IsNewRow step (kept_of (step.rows + 2) rows) i (own_den rows i) f
IsNewRow-stays step rows i f h a other not_face zero same = record {
  least = record {
    positive = (h.table.least i a).positive;
    only_one = λ x p q. (h.table.least i a).only_one x p (record { at = λ s c. subst (Divides x) (same s c) (q.at s (in_step step rows s h c)) });
  };
  factor = step.pivot *ℤ share_of rows i;
  positive = positive-*ℤ step.pivot (share_of rows i) h.pivot.table.pivot_positive (share_positive step rows i h a);
  den_is =
      scaled_den step.pivot (share_of rows i) (own_den rows i)
      ∙ ap (λ z. z *ℤ step.pivot) (h.table.shared i a);
  numbers = λ s b.
      scaled_pivot step.pivot (share_of rows i) (f s)
      ∙ ap (λ z. step.pivot *ℤ z) (old_is s b)
      ∙ sym (raw_apart step (table_of step rows) i s apart);
}
  where
    apart : IsApart step (table_of step rows) i
    apart = record { other = other; zero = number_in-rows step rows i step.place h a (place_in_row step rows h) ∙ ap (λ z. share_of rows i *ℤ z) zero ∙ *ℤ-zero (share_of rows i) }

    old_is : (s : ℕ) → s < step.columns + 1 → share_of rows i *ℤ f s ≡ old_number step (table_of step rows) i s
    old_is s b =
        elim (cases_eq s step.place) [
          | inl here ↦
              subst (λ t. share_of rows i *ℤ f t ≡ old_number step (table_of step rows) i t) (sym here)
              (ap (λ z. share_of rows i *ℤ z) (same step.place (row_place step rows step.place h (place_in_row step rows h)) ∙ zero ∙ sym (basic_other step.rows step.columns step.row step.leaving i (own_den rows i) other (inl not_face)))
              ∙ sym (old_number-own_here step rows i h a))
          | inr o ↦ ap (λ z. share_of rows i *ℤ z) (same s (row_place step rows s h b)) ∙ sym (old_number-own_beside step rows i s h a b o)
        ]

-- ---- a row that is combined with the pivot row

-- what the combination is multiplied by to give the raw numbers
abbrev unit_of : (step : Step) (rows : Rows) (i : ℕ) (common : ℤ) → ℤ
unit_of step rows i common = share_of rows i *ℤ (share_of rows step.row *ℤ common)

-- two multiplied numbers whose factors are taken out
cross_out : (s r k m f a b : ℤ) → (r *ℤ (k *ℤ m)) *ℤ (s *ℤ a) -ℤ (s *ℤ (k *ℤ f)) *ℤ (r *ℤ b) ≡ (s *ℤ (r *ℤ k)) *ℤ (m *ℤ a -ℤ f *ℤ b)
cross_out s r k m f a b = simp ring (omega (arith, linear))

den_out : (s r k m d : ℤ) → (s *ℤ d) *ℤ (r *ℤ (k *ℤ m)) ≡ (s *ℤ (r *ℤ k)) *ℤ (m *ℤ d)
den_out s r k m d = simp ring (omega (arith, linear))

-- the premises of a row that is combined with the pivot row
pub record IsCombinedRow (step : Step) (rows : Rows) (i : ℕ) (c : Combination) (own taken : List ℤ) : Type 0 where
  pub is_step : IsRowStep step rows
  pub row_in : i < step.rows + 2
  pub of : IsCombinationOf step rows i c
  pub own_row : IsOwnRow rows i own
  pub taken_row : IsOwnRow rows step.row taken

-- the two old numbers at a place give the combined number
raw_of_two : (step : Step) (rows : Rows) (i s : ℕ) (c : Combination) (own taken : List ℤ) (x y : ℤ) → (h : IsCombinedRow step rows i c own taken) → old_number step (table_of step rows) i s ≡ share_of rows i *ℤ x → old_number step (table_of step rows) step.row s ≡ share_of rows step.row *ℤ y → raw_number step (table_of step rows) i s ≡ unit_of step rows i h.of.common *ℤ (c.multiplier *ℤ x -ℤ c.factor *ℤ y)
raw_of_two step rows i s c own taken x y h p q =
    let u : multiplier_of step i ≡ share_of rows step.row *ℤ (h.of.common *ℤ c.multiplier) =
    (let other : multiplier_of step i ≡ step.pivot = rw (ne_eqb i step.row h.of.other) refl in other)
    ∙ pivot_own step rows h.is_step ∙ ap (λ z. share_of rows step.row *ℤ z) (sym h.of.multiplier) in
    let v : factor_of step (table_of step rows) i ≡ share_of rows i *ℤ (h.of.common *ℤ c.factor) =
    (let other : factor_of step (table_of step rows) i ≡ number_in step (table_of step rows) i step.place = rw (ne_eqb i step.row h.of.other) refl in other)
    ∙ number_in-rows step rows i step.place h.is_step h.row_in (place_in_row step rows h.is_step) ∙ ap (λ z. share_of rows i *ℤ z) (sym h.of.factor) in
    ap₂ (λ a b. a -ℤ b) (ap₂ (λ a b. a *ℤ b) u p) (ap₂ (λ a b. a *ℤ b) v q)
    ∙ cross_out (share_of rows i) (share_of rows step.row) h.of.common c.multiplier c.factor x y

-- the raw numbers are a multiple of the combination
pub raw_combined : (step : Step) (rows : Rows) (i s : ℕ) (c : Combination) (own taken : List ℤ) → (h : IsCombinedRow step rows i c own taken) → s < step.columns + 1 → raw_number step (table_of step rows) i s ≡ unit_of step rows i h.of.common *ℤ combined c own taken s
raw_combined step rows i s c own taken h b =
    elim (cases_eq s step.place) [
      | inl same ↦
          raw_of_two step rows i s c own taken c.leaving c.pivot_den h
          (subst (λ t. old_number step (table_of step rows) i t ≡ share_of rows i *ℤ c.leaving) (sym same)
          (old_number-own_here step rows i h.is_step h.row_in ∙ ap (λ z. share_of rows i *ℤ z) (sym h.of.leaving)))
          (subst (λ t. old_number step (table_of step rows) step.row t ≡ share_of rows step.row *ℤ c.pivot_den) (sym same)
          (old_number-pivot_here step rows h.is_step ∙ ap (λ z. share_of rows step.row *ℤ z) (sym h.of.pivot_den)))
          ∙ ap (λ z. unit_of step rows i h.of.common *ℤ z) (sym (combined_here c own taken s (same ∙ sym h.of.place)))
      | inr o ↦
          raw_of_two step rows i s c own taken (number_at own s) (number_at taken s) h
          (old_number-own_beside step rows i s h.is_step h.row_in b o ∙ ap (λ z. share_of rows i *ℤ z) (sym (h.own_row.numbers s (row_place step rows s h.is_step b))))
          (old_number-own_beside step rows step.row s h.is_step (pivot_row_in step rows h.is_step) b o ∙ ap (λ z. share_of rows step.row *ℤ z) (sym (h.taken_row.numbers s (row_place step rows s h.is_step b))))
          ∙ ap (λ z. unit_of step rows i h.of.common *ℤ z) (sym (combined_beside c own taken s (λ e. o (e ∙ h.of.place))))
    ]

-- so is the denominator
pub den_combined : (step : Step) (rows : Rows) (i : ℕ) (c : Combination) (own taken : List ℤ) → (h : IsCombinedRow step rows i c own taken) → step.den *ℤ step.pivot ≡ unit_of step rows i h.of.common *ℤ combined_den c
den_combined step rows i c own taken h =
    ap₂ (λ a b. a *ℤ b)
    (sym (h.is_step.table.shared i h.row_in) ∙ ap (λ z. share_of rows i *ℤ z) (sym h.of.den))
    (pivot_own step rows h.is_step ∙ ap (λ z. share_of rows step.row *ℤ z) (sym h.of.multiplier))
    ∙ den_out (share_of rows i) (share_of rows step.row) h.of.common c.multiplier c.den

unit_positive : (step : Step) (rows : Rows) (i : ℕ) (c : Combination) (own taken : List ℤ) → (h : IsCombinedRow step rows i c own taken) → pos 0 <ℤ unit_of step rows i h.of.common
unit_positive step rows i c own taken h =
    positive-*ℤ (share_of rows i) (share_of rows step.row *ℤ h.of.common) (share_positive step rows i h.is_step h.row_in)
    (positive-*ℤ (share_of rows step.row) h.of.common (share_positive step rows step.row h.is_step (pivot_row_in step rows h.is_step)) h.of.positive)

-- what multiplies the row is positive, as the pivot is
pub multiplier_positive : (step : Step) (rows : Rows) (i : ℕ) (c : Combination) → IsRowStep step rows → IsCombinationOf step rows i c → pos 0 <ℤ c.multiplier
multiplier_positive step rows i c h of = positive_from_*ℤ of.common c.multiplier of.positive (subst (λ z. pos 0 <ℤ z) (sym of.multiplier) (pivot_own_positive step rows h))

-- the row has as many numbers as the step has places
own_length : (step : Step) (rows : Rows) (i : ℕ) (c : Combination) (own taken : List ℤ) → IsCombinedRow step rows i c own taken → length own ≡ step.columns + 1
own_length step rows i c own taken h = h.own_row.long ∙ h.is_step.width

-- out of a product of three
factor_in : (u d x y : ℤ) → d *ℤ x ≡ y → (u *ℤ d) *ℤ x ≡ u *ℤ y
factor_in u d x y e = (let out : (u *ℤ d) *ℤ x ≡ u *ℤ (d *ℤ x) = simp ring (omega (arith, linear)) in out) ∙ ap (λ z. u *ℤ z) e

-- the combination in least terms is the new row
pub IsNewRow-combined : (step : Step) (rows : Rows) (i : ℕ) (c : Combination) (own taken : List ℤ) (den : ℤ) (f : ℕ → ℤ) → IsRowStep step rows → i < step.rows + 2 → IsCombinationOf step rows i c → IsOwnRow rows i own → IsOwnRow rows step.row taken → IsInLeastTerms c own taken den f → IsNewRow step (kept_of (step.rows + 2) rows) i den f
IsNewRow-combined step rows i c own taken den f is_step row_in of own_row taken_row r = record {
  least = subst (λ w. IsLeastRow w den f) long r.least;
  factor = unit_of step rows i of.common *ℤ r.divisor;
  positive = positive-*ℤ (unit_of step rows i of.common) r.divisor (unit_positive step rows i c own taken h) r.positive;
  den_is = factor_in (unit_of step rows i of.common) r.divisor den (combined_den c) r.den_is ∙ sym (den_combined step rows i c own taken h);
  numbers = λ s b.
      factor_in (unit_of step rows i of.common) r.divisor (f s) (combined c own taken s) (r.numbers s (omega (arith, long)))
      ∙ sym (raw_combined step rows i s c own taken h b);
}
  where
    h : IsCombinedRow step rows i c own taken
    h = record { is_step = is_step; row_in = row_in; of = of; own_row = own_row; taken_row = taken_row }

    long : length own ≡ step.columns + 1
    long = own_length step rows i c own taken h

-- ---- a combination that is too wide

-- the greatest number that divides the combination, and what divides a multiple of the combination divides that multiple of it
record IsCombinationGcd (c : Combination) (own taken : List ℤ) (d : ℤ) : Type 0 where
  positive : pos 0 <ℤ d
  divides : DividesCombination c own taken d
  factor : (g u : ℤ) → Divides g (u *ℤ combined_den c) → ((s : ℕ) → s < length own → Divides g (u *ℤ combined c own taken s)) → Divides g (u *ℤ d)

combination_gcd : (c : Combination) (own taken : List ℤ) → pos 0 <ℤ combined_den c → (d : ℤ) × IsCombinationGcd c own taken d
combination_gcd c own taken above =
    let (e, p) = family_gcd (length own) (combined c own taken) in
    let (d, q) = gcd_of_two (combined_den c) e in (
      d,
      record {
        positive = positive_divisor (combined_den c) d above q.is_gcd.left q.is_gcd.nonneg;
        divides = record {
          of_den = q.is_gcd.left;
          of_numbers = record { at = λ s b. Divides_trans d e (combined c own taken s) q.is_gcd.right (p.is_gcd.common.at s b) };
        };
        factor = λ g u a b. q.factor g u a (p.factor g u b);
      },
    )

-- a number that is above the limit times d is so after both are multiplied, and then for each divisor of the product
pub above_multiple : (limit : ℕ) (u d g x : ℤ) → pos 0 <ℤ u → pos 0 <ℤ d → Divides g (u *ℤ d) → limit * unsigned_abs d < unsigned_abs x → limit * unsigned_abs g < unsigned_abs (u *ℤ x)
above_multiple limit u d g x p q h l =
    by_sizes (unsigned_abs u) (unsigned_abs d) (unsigned_abs g) (unsigned_abs x) (unsigned_abs (u *ℤ x)) (omega (arith, ints, p)) small (unsigned_abs-mul u x) l
  where
    above : 0 < unsigned_abs (u *ℤ d)
    above = let product : pos 0 <ℤ (u *ℤ d) = positive-*ℤ u d p q in omega (arith, ints, product)

    small : unsigned_abs g ≤ unsigned_abs u * unsigned_abs d
    small = let le : unsigned_abs g ≤ unsigned_abs (u *ℤ d) = NatL.le_of_dvd above h.divides in omega (arith, unsigned_abs-mul u d, le)

    by_sizes : (u d g x y : ℕ) → 0 < u → g ≤ u * d → y ≡ u * x → limit * d < x → limit * g < y
    by_sizes u d g x y a b e c =
        let first : limit * g ≤ limit * (u * d) = mul-le-mul (omega arith) b in
        let more : u * (limit * d) < u * x = NatL.mul-lt-mul_of_pos_left c a in
        omega (arith, first, more, e)

-- where whatever divides the combination leaves it above the limit, the table is too wide
pub IsWideFor-row : (step : Step) (rows : Rows) (i : ℕ) (c : Combination) (own taken : List ℤ) → IsRowStep step rows → i < step.rows + 2 → IsCombinationOf step rows i c → IsOwnRow rows i own → IsOwnRow rows step.row taken → IsTooWideRow c own taken step.limit → IsWideFor step (kept_of (step.rows + 2) rows)
IsWideFor-row step rows i c own taken is_step row_in of own_row taken_row wide = record {
  wide = λ g q w n.
      let (d, p) = combination_gcd c own taken den_above in
      let whole : Divides g (unit *ℤ d) = p.factor g unit (subst (Divides g) (den_combined step rows i c own taken h) q.of_den) (λ s b. subst (Divides g) (raw_combined step rows i s c own taken h (place s b)) (q.of_rows.at i s row_in (place s b))) in
      elim (wide.above d p.positive p.divides) [
        | inl l ↦
            quotient_above step.limit g (step.den *ℤ step.pivot) q.of_den
            (subst (λ z. step.limit * unsigned_abs g < unsigned_abs z) (sym (den_combined step rows i c own taken h)) (above_multiple step.limit unit d g (combined_den c) unit_above p.positive whole l))
            w
        | inr (s, b, l) ↦
            quotient_above step.limit g (raw_number step (table_of step rows) i s) (q.of_rows.at i s row_in (place s b))
            (subst (λ z. step.limit * unsigned_abs g < unsigned_abs z) (sym (raw_combined step rows i s c own taken h (place s b))) (above_multiple step.limit unit d g (combined c own taken s) unit_above p.positive whole l))
            (n.at i s row_in (place s b))
      ];
}
  where
    h : IsCombinedRow step rows i c own taken
    h = record { is_step = is_step; row_in = row_in; of = of; own_row = own_row; taken_row = taken_row }

    unit : ℤ
    unit = unit_of step rows i of.common

    unit_above : pos 0 <ℤ unit_of step rows i of.common
    unit_above = unit_positive step rows i c own taken h

    place : (s : ℕ) → s < length own → s < step.columns + 1
    place s b = let long : length own ≡ step.columns + 1 = own_length step rows i c own taken h in omega (arith, long)

    den_above : pos 0 <ℤ combined_den c
    den_above = positive-*ℤ c.multiplier c.den (multiplier_positive step rows i c is_step of) (subst (λ z. pos 0 <ℤ z) (sym of.den) (is_step.table.least i row_in).positive)

-- ---- sizes

-- the numbers of a row have 62 bits
own_within : (step : Step) (rows : Rows) (i : ℕ) (own : List ℤ) → IsRowStep step rows → IsOwnRow rows i own → AllWithin (2 ^ 62) own
own_within step rows i own h o = record {
  at = λ k b. subst (IsWithin (2 ^ 62)) (sym (o.numbers k (let long = o.long in omega (arith, long)))) (AllWithin-number_at (2 ^ 62) rows.numbers.items (i * rows.width + k) h.table.numbers_size);
}

own_den_within : (step : Step) (rows : Rows) (i : ℕ) → IsRowStep step rows → IsWithin (2 ^ 62) (own_den rows i)
own_den_within step rows i h = AllWithin-number_at (2 ^ 62) rows.dens.items i h.table.dens_size

-- what the leaving column holds has 62 bits
pub leaving_within : (step : Step) (rows : Rows) (i : ℕ) (c : Combination) → IsRowStep step rows → IsCombinationOf step rows i c → IsWithin (2 ^ 62) c.leaving
leaving_within step rows i c h of = subst (IsWithin (2 ^ 62)) (sym of.leaving) (basic_within (2 ^ 62) step.rows step.columns step.row step.leaving i (own_den rows i) (own_den_within step rows i h))

-- what is combined has the sizes that a combination wants
pub IsCombination-of : (step : Step) (rows : Rows) (i : ℕ) (c : Combination) (own taken : List ℤ) → IsRowStep step rows → i < step.rows + 2 → IsCombinationOf step rows i c → IsOwnRow rows i own → IsOwnRow rows step.row taken → IsWithin (2 ^ 62) c.multiplier → IsWithin (2 ^ 62) c.factor → IsCombination c own taken
IsCombination-of step rows i c own taken h row_in of own_row taken_row p q = record {
  place_in = let place : step.place < step.columns + 1 = place_in_row step rows h in let width = h.width in let long = own_row.long in let here = of.place in omega (arith, place, width, long, here);
  same_length = taken_row.long ∙ sym own_row.long;
  own_size = own_within step rows i own h own_row;
  taken_size = own_within step rows step.row taken h taken_row;
  multiplier_size = p;
  multiplier_positive = multiplier_positive step rows i c h of;
  factor_size = q;
  den_size = subst (IsWithin (2 ^ 62)) (sym of.den) (own_den_within step rows i h);
  den_positive = subst (λ z. pos 0 <ℤ z) (sym of.den) (h.table.least i row_in).positive;
  pivot_den_size = subst (IsWithin (2 ^ 62)) (sym of.pivot_den) (own_den_within step rows step.row h);
  pivot_den_positive = subst (λ z. pos 0 <ℤ z) (sym of.pivot_den) (h.table.least step.row (pivot_row_in step rows h)).positive;
  leaving_size = leaving_within step rows i c h of;
}
