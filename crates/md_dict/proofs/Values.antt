-- What the code reads of a condensed dictionary.
use Rattle.std.proofs.Common.{◌≡◌, ℕ, ◌+◌, ◌-◌, ◌*◌, ◌^◌, ◌<◌, ◌≤◌, List, slice_index, slice_set, ℤ, pos, ◌*ℤ◌, ◌<ℤ◌, int_div, to_z, of_z, unsigned_abs, refl, sym, ap, ◌∙◌, subst, inl, inr, arith, eq-eqb, ne_eqb}
use Rattle.std.proofs.lemmas.Bool.{cases_lt, cases_eq}
use mir.Syntax.{w128}
use Rattle.md_num.specs.Limits.{limit_of}
use Rattle.md_math.specs.Sizes.{IsWithin}
use Rattle.md_math.proofs.SizeLaws.{AllWithin-number_at, IsWithin-wider}
use Rattle.md_math.proofs.Ring.{linear}
use Rattle.md_dict.specs.declared.step.Step.{Step}
use Rattle.md_dict.specs.Condensed.{Condensed, basic_at, kept_number, entry_at, IsShapedDictionary, TakesColumn}
use Rattle.md_dict.specs.Pivot.{with_column}
use Rattle.md_dict.specs.Wide.{IsNarrow}
use Rattle.md_dict.specs.Step.{new_entry, IsStepDivisor, IsTable}
use Rattle.md_dict.specs.Fill.{IsWideFor}
use Rattle.md_dict.specs.Exchange.{step_of, exchanged, IsExchange}
use Rattle.md_dict_division.proofs.Reading.{read_small, read_wide}
use Rattle.md_dict.proofs.Exchange.{limit_le, entry-right, entry-kept, entry-basic}
use Rattle.md_dict.proofs.Exchanged.{IsReady-of, den_within}
use Rattle.md_dict.proofs.RawPivot.{basic_other, basic_within}

-- the denominator
pub read_den : (d : Condensed) → IsShapedDictionary d → to_z w128 (of_z w128 d.den) ≡ d.den
read_den d h = read_small d.den (IsWithin-wider (limit_of d.bits) (2 ^ 62) d.den (limit_le d.bits h.most_bits) h.den_size)

-- the size of the width's limit
pub read_limit : (bits size : ℕ) (x : ℤ) → bits ≤ 62 → x ≡ pos (limit_of bits) → size ≡ unsigned_abs (to_z w128 (of_z w128 x)) → size ≡ limit_of bits
read_limit bits size x h e f =
    let small : unsigned_abs x < 2 ^ 126 = rw e (let l : limit_of bits ≤ 2 ^ 62 = limit_le bits h in omega arith) in
    f ∙ ap unsigned_abs (read_wide x small) ∙ ap unsigned_abs e

-- the step is made of what is read
pub step_is : (d : Condensed) (row column place leaving limit : ℕ) (pivot den : ℤ) → place ≡ slice_index d.seat column → leaving ≡ basic_at d row → pivot ≡ kept_number d row (slice_index d.seat column) → den ≡ d.den → limit ≡ limit_of d.bits → record { rows = d.rows; columns = d.columns; row = row; place = place; entering = column; leaving = leaving; pivot = pivot; den = den; limit = limit; divisor = pos 1 } ≡ step_of d row column (pos 1)
step_is d row column place leaving limit pivot den p q r s t = λ i. record { rows = d.rows; columns = d.columns; row = row; place = p i; entering = column; leaving = q i; pivot = r i; den = s i; limit = t i; divisor = pos 1 }

-- the divisor is no part of what it divides
pub IsStepDivisor-same : (d : Condensed) (row column : ℕ) (g h x : ℤ) (n : ℕ) → IsStepDivisor (step_of d row column g) d.kept n x → IsStepDivisor (step_of d row column h) d.kept n x
IsStepDivisor-same d row column g h x n q = record {
  positive = q.positive;
  of_den = q.of_den;
  of_rows = record { at = q.of_rows.at };
  greatest = λ y a b. q.greatest y a (record { at = b.at });
}

-- ---- a fact of one value, for an equal one

pub entry_for : (v d : Condensed) (i j : ℕ) (x : ℤ) → v ≡ d → x ≡ entry_at v i j → x ≡ entry_at d i j
entry_for v d i j x p h = subst (λ f. x ≡ entry_at f i j) p h

pub number_for : (v d : Condensed) (i s : ℕ) (x : ℤ) → v ≡ d → x ≡ kept_number v i s → x ≡ kept_number d i s
number_for v d i s x p h = subst (λ f. x ≡ kept_number f i s) p h

pub within_for : (v d : Condensed) (x : ℤ) → v ≡ d → IsWithin (limit_of v.bits) x → IsWithin (limit_of d.bits) x
within_for v d x p h = subst (λ f. IsWithin (limit_of f.bits) x) p h

pub step_for : (v d : Condensed) (row column : ℕ) (s : Step) → v ≡ d → s ≡ step_of v row column (pos 1) → s ≡ step_of d row column (pos 1)
step_for v d row column s p h = subst (λ f. s ≡ step_of f row column (pos 1)) p h

-- ---- the value that the code writes

pub exchanged_is : (v d : Condensed) (s : Step) (g den : ℤ) (kept : List ℤ) → v ≡ d → s ≡ step_of d s.row s.entering (pos 1) → den ≡ int_div (s.den *ℤ s.pivot) g → record { rows = v.rows; columns = v.columns; bits = v.bits; den = den; order = slice_set (slice_set v.order s.place s.leaving) (s.columns + s.row) s.entering; seat = slice_set (slice_set v.seat s.entering (s.columns + s.row)) s.leaving s.place; kept = kept } ≡ exchanged d s.row s.entering g kept
exchanged_is v d s g den kept p e q =
    λ i. record {
      rows = (p i).rows;
      columns = (p i).columns;
      bits = (p i).bits;
      den = (q ∙ ap (λ t. int_div (t.den *ℤ t.pivot) g) e) i;
      order = slice_set (slice_set (p i).order (e i).place (e i).leaving) ((e i).columns + (e i).row) (e i).entering;
      seat = slice_set (slice_set (p i).seat (e i).entering ((e i).columns + (e i).row)) (e i).leaving (e i).place;
      kept = kept;
    }

-- the divisor is no part of a table
pub IsTable-with : (d : Condensed) (row column : ℕ) (g h : ℤ) (kept : List ℤ) → IsTable (step_of d row column g) kept → IsTable (step_of d row column h) kept
IsTable-with d row column g h kept t = record {
  row_limit = t.row_limit;
  column_limit = t.column_limit;
  row_in = t.row_in;
  place_in = t.place_in;
  limit_size = t.limit_size;
  kept_length = t.kept_length;
  kept_size = t.kept_size;
  kept_limit = t.kept_limit;
  den_size = t.den_size;
  pivot_size = t.pivot_size;
  den_positive = t.den_positive;
  pivot_positive = t.pivot_positive;
}

-- where the denominator or a number is above the limit, not all entries are within it
pub not_narrow : (d : Condensed) (row column : ℕ) (s : Step) (g : ℤ) → s ≡ step_of d row column (pos 1) → IsExchange d row column → IsWideFor s d.kept → IsStepDivisor (step_of d row column (pos 1)) d.kept (d.rows + 2) g → IsNarrow d.rows d.columns (limit_of d.bits) (new_entry (step_of d row column g) d.kept d.seat g) → ⊥
not_narrow d row column s g e h w q n =
    let wide : IsWideFor (step_of d row column (pos 1)) d.kept = subst (λ t. IsWideFor t d.kept) e w in
    wide.wide g q (den_within d row column g h n)
    (record { at = λ i s a b. (IsReady-of d row column g h (IsStepDivisor-same d row column (pos 1) g g (d.rows + 2) q) n i a).narrow s b })

-- ---- a pivot at a column that is basic already

-- each entry of a dictionary is within its limit
pub IsNarrow-shaped : (d : Condensed) → IsShapedDictionary d → IsNarrow d.rows d.columns (limit_of d.bits) (entry_at d)
IsNarrow-shaped d h = record {
  entries = λ i j a b.
      elim (cases_lt j (d.columns + d.rows)) [
        | inr l ↦ subst (IsWithin (limit_of d.bits)) (sym (entry-right d i j l)) (AllWithin-number_at (limit_of d.bits) d.kept (i * (d.columns + 1) + d.columns) h.kept_size)
        | inl l ↦
            elim (cases_lt (slice_index d.seat j) d.columns) [
              | inl k ↦ subst (IsWithin (limit_of d.bits)) (sym (entry-kept d i j l k)) (AllWithin-number_at (limit_of d.bits) d.kept (i * (d.columns + 1) + slice_index d.seat j) h.kept_size)
              | inr k ↦ subst (IsWithin (limit_of d.bits)) (sym (entry-basic d i j l k)) (basic_within (limit_of d.bits) d.rows d.columns (slice_index d.seat j - d.columns) j i d.den h.den_size)
            ]
      ];
}

-- a column that is basic, with a positive entry in a row, is the basic column of that row
pub basic_already : (d : Condensed) (row column : ℕ) → IsShapedDictionary d → row < d.rows → column < d.columns → d.columns ≤ slice_index d.seat column → pos 0 <ℤ entry_at d row column → TakesColumn d d row column
basic_already d row column h a b k p = record {
  rows = refl;
  columns = refl;
  bits = refl;
  basis = λ i c.
      elim (cases_eq i row) [
        | inl same ↦ subst (λ r. basic_at d r ≡ with_column (basic_at d) row column r) (sym same) (here ∙ sym (let e : with_column (basic_at d) row column row ≡ column = rw (eq-eqb row row refl) refl in e))
        | inr o ↦ sym (let e : with_column (basic_at d) row column i ≡ basic_at d i = rw (ne_eqb i row o) refl in e)
      ];
}
  where
    here : basic_at d row ≡ column
    here =
        elim (cases_eq (slice_index d.seat column) (d.columns + row)) [
          | inl e ↦ ap (λ s. slice_index d.order s) (sym e) ∙ h.places.order_of_seat column (omega arith)
          | inr o ↦
              let none : entry_at d row column ≡ pos 0 = entry-basic d row column (omega arith) k ∙ basic_other d.rows d.columns (slice_index d.seat column - d.columns) column row d.den (λ e. o (omega arith)) (inl (λ e. omega arith)) in
              absurd (omega (arith, linear))
        ]

-- a column that is not basic, with a positive entry, is exchanged
pub IsExchange-from_entry : (d : Condensed) (row column : ℕ) → IsShapedDictionary d → row < d.rows → column < d.columns → slice_index d.seat column < d.columns → pos 0 <ℤ entry_at d row column → IsExchange d row column
IsExchange-from_entry d row column h a b k p = record {
  shape = h;
  row_in = a;
  column_in = b;
  place_in = k;
  positive = subst (λ z. pos 0 <ℤ z) (entry-kept d row column (omega arith) k) p;
}
