-- The numbers after a pivot of a condensed dictionary are those of the raw pivot.
use Rattle.std.proofs.Common.{◌≡◌, ◌≢◌, ℕ, ◌+◌, ◌-◌, ◌*◌, ◌^◌, ◌<◌, ◌≤◌, slice_index, ℤ, pos, ◌-ℤ◌, ◌*ℤ◌, refl, sym, ap, ap₂, ◌∙◌, subst, inl, inr, arith, ne_eqb, eq-eqb, lt-ltb, le-ltb, pow_mono}
use Rattle.std.proofs.lemmas.Bool.{cases_lt, cases_eq}
use Rattle.md_num.specs.Limits.{limit_of}
use Rattle.md_math.proofs.Ring.{linear, zero-*ℤ, *ℤ-zero}
use Rattle.md_math.proofs.SizeLaws.{AllWithin-wider, IsWithin-wider, AllWithin-number_at}
use lib.IntN.{*ℤ_comm}
use Rattle.md_dict.specs.Dictionary.{basic_value}
use Rattle.md_dict.specs.Pivot.{raw_entry}
use Rattle.md_dict.specs.Condensed.{Condensed, basic_at, kept_number, entry_at, AreInverse, IsShapedDictionary}
use Rattle.md_dict.specs.Step.{old_number, raw_number, seat_after, raw_at, IsStep, IsSeated}
use Rattle.md_dict.specs.Exchange.{step_of, IsExchange}
use Rattle.md_dict.proofs.RawPivot.{scaled_basic, basic_other, basic_own, raw_own, raw_other}
use Rattle.md_dict.proofs.Change.{raw_at-basic, raw_at-kept, raw_at-right}

-- ---- entries by the column's seat

pub entry-kept : (d : Condensed) (i j : ℕ) → j < d.columns + d.rows → slice_index d.seat j < d.columns → entry_at d i j ≡ kept_number d i (slice_index d.seat j)
entry-kept d i j a b = rw (lt-ltb j (d.columns + d.rows) a, lt-ltb (slice_index d.seat j) d.columns b) refl

pub entry-basic : (d : Condensed) (i j : ℕ) → j < d.columns + d.rows → d.columns ≤ slice_index d.seat j → entry_at d i j ≡ basic_value d.rows d.columns d.den (slice_index d.seat j - d.columns) j i
entry-basic d i j a b = rw (lt-ltb j (d.columns + d.rows) a, le-ltb (slice_index d.seat j) d.columns b) refl

pub entry-right : (d : Condensed) (i j : ℕ) → d.columns + d.rows ≤ j → entry_at d i j ≡ kept_number d i d.columns
entry-right d i j a = rw (le-ltb j (d.columns + d.rows) a) refl

-- ---- the two columns that change places

-- the leaving column stands at its row
pub leaving_seat : (d : Condensed) (row : ℕ) → AreInverse (d.columns + d.rows) d.order d.seat → row < d.rows → slice_index d.seat (basic_at d row) ≡ d.columns + row
leaving_seat d row h a = h.seat_of_order (d.columns + row) (omega arith)

pub leaving_in : (d : Condensed) (row : ℕ) → AreInverse (d.columns + d.rows) d.order d.seat → row < d.rows → basic_at d row < d.columns + d.rows
leaving_in d row h a = h.order_in (d.columns + row) (omega arith)

pub apart : (d : Condensed) (row column : ℕ) → IsExchange d row column → column ≢ basic_at d row
apart d row column h e =
    let same : slice_index d.seat column ≡ d.columns + row = ap (λ j. slice_index d.seat j) e ∙ leaving_seat d row h.shape.places h.row_in in
    let inside : slice_index d.seat column < d.columns = h.place_in in
    omega arith

-- where the columns stand afterwards
pub seat-entering : (d : Condensed) (row column : ℕ) (g : ℤ) → seat_after (step_of d row column g) d.seat column ≡ d.columns + row
seat-entering d row column g = rw (eq-eqb column column refl) refl

pub seat-leaving : (d : Condensed) (row column : ℕ) (g : ℤ) → IsExchange d row column → seat_after (step_of d row column g) d.seat (basic_at d row) ≡ slice_index d.seat column
seat-leaving d row column g h = rw (ne_eqb (basic_at d row) column (λ e. apart d row column h (sym e)), eq-eqb (basic_at d row) (basic_at d row) refl) refl

pub seat-other : (d : Condensed) (row column : ℕ) (g : ℤ) (j : ℕ) → j ≢ column → j ≢ basic_at d row → seat_after (step_of d row column g) d.seat j ≡ slice_index d.seat j
seat-other d row column g j a b = rw (ne_eqb j column a, ne_eqb j (basic_at d row) b) refl

-- the seat of one column is no other's
pub seat_apart : (d : Condensed) (i j : ℕ) → AreInverse (d.columns + d.rows) d.order d.seat → i < d.columns + d.rows → j < d.columns + d.rows → i ≢ j → slice_index d.seat i ≢ slice_index d.seat j
seat_apart d i j h a b o e = o (sym (h.order_of_seat i a) ∙ ap (λ s. slice_index d.order s) e ∙ h.order_of_seat j b)

-- ---- the step keeps its conditions

pub limit_le : (bits : ℕ) → bits ≤ 62 → limit_of bits ≤ 2 ^ 62
limit_le bits h = let p : 2 ^ bits ≤ 2 ^ 62 = pow_mono h in omega arith

pub IsStep-step_of : (d : Condensed) (row column : ℕ) (g : ℤ) → IsExchange d row column → IsStep (step_of d row column g) d.kept
IsStep-step_of d row column g h =
    let l : limit_of d.bits ≤ 2 ^ 62 = limit_le d.bits h.shape.most_bits in
    record {
      table = record {
        row_limit = h.shape.row_limit;
        column_limit = h.shape.column_limit;
        row_in = h.row_in;
        place_in = h.place_in;
        limit_size = l;
        kept_length = h.shape.kept_length;
        kept_size = AllWithin-wider (limit_of d.bits) (2 ^ 62) d.kept l h.shape.kept_size;
        kept_limit = h.shape.kept_size;
        den_size = IsWithin-wider (limit_of d.bits) (2 ^ 62) d.den l h.shape.den_size;
        pivot_size = IsWithin-wider (limit_of d.bits) (2 ^ 62) (kept_number d row (slice_index d.seat column)) l (AllWithin-number_at (limit_of d.bits) d.kept (row * (d.columns + 1) + slice_index d.seat column) h.shape.kept_size);
        den_positive = h.shape.positive;
        pivot_positive = h.positive;
      };
      entering_in = h.column_in;
      leaving_in = leaving_in d row h.shape.places h.row_in;
      apart = apart d row column h;
      pivot_is = refl;
    }

pub IsSeated-step_of : (d : Condensed) (row column : ℕ) (g : ℤ) → IsShapedDictionary d → IsSeated (step_of d row column g) d.seat
IsSeated-step_of d row column g h = record { seat_length = h.places.seat_length; seat_in = h.places.seat_in }

-- ---- raw numbers are raw entries

-- the pivot is the entry at its row and column
pub pivot_entry : (d : Condensed) (row column i : ℕ) → IsExchange d row column → entry_at d i column ≡ kept_number d i (slice_index d.seat column)
pivot_entry d row column i h = let c : column < d.columns = h.column_in in entry-kept d i column (omega arith) h.place_in

-- a column at a kept place, whose entries are the numbers before the pivot
pub record StandsAt (d : Condensed) (row column : ℕ) (g : ℤ) (i s j : ℕ) : Type 0 where
  pub here : entry_at d i j ≡ old_number (step_of d row column g) d.kept i s
  pub in_row : entry_at d row j ≡ old_number (step_of d row column g) d.kept row s

raw_of : (d : Condensed) (row column : ℕ) (g : ℤ) (i s j : ℕ) → IsExchange d row column → StandsAt d row column g i s j → raw_number (step_of d row column g) d.kept i s ≡ raw_entry row column d.den (entry_at d) i j
raw_of d row column g i s j h k =
    elim (cases_eq i row) [
      | inl same ↦
          let own : raw_number (step_of d row column g) d.kept i s ≡ d.den *ℤ old_number (step_of d row column g) d.kept i s -ℤ pos 0 *ℤ old_number (step_of d row column g) d.kept row s = rw (eq-eqb i row same) refl in
          let none : pos 0 *ℤ old_number (step_of d row column g) d.kept row s ≡ pos 0 = zero-*ℤ (old_number (step_of d row column g) d.kept row s) in
          own ∙ minus_zero _ _ none ∙ ap (λ z. d.den *ℤ z) (sym k.here)
          ∙ subst (λ r. d.den *ℤ entry_at d r j ≡ raw_entry row column d.den (entry_at d) r j) (sym same) (sym (raw_own row column d.den (entry_at d) j))
      | inr o ↦
          let other : raw_number (step_of d row column g) d.kept i s ≡ kept_number d row (slice_index d.seat column) *ℤ old_number (step_of d row column g) d.kept i s -ℤ kept_number d i (slice_index d.seat column) *ℤ old_number (step_of d row column g) d.kept row s = rw (ne_eqb i row o) refl in
          other
          ∙ ap₂ (λ x y. x -ℤ y) (ap₂ (λ x y. x *ℤ y) (sym (pivot_entry d row column row h)) (sym k.here)) (ap₂ (λ x y. x *ℤ y) (sym (pivot_entry d row column i h)) (sym k.in_row))
          ∙ sym (raw_other row column d.den (entry_at d) i j o)
    ]
  where
    minus_zero : (x y : ℤ) → y ≡ pos 0 → x -ℤ y ≡ x
    minus_zero x y e = omega (arith, linear)

-- a place that is not the pivot's reads the kept number
old_plain : (d : Condensed) (row column : ℕ) (g : ℤ) (i s : ℕ) → s ≢ slice_index d.seat column → old_number (step_of d row column g) d.kept i s ≡ kept_number d i s
old_plain d row column g i s o = rw (ne_eqb s (slice_index d.seat column) o) refl

old_pivot : (d : Condensed) (row column : ℕ) (g : ℤ) (i : ℕ) → old_number (step_of d row column g) d.kept i (slice_index d.seat column) ≡ basic_value d.rows d.columns d.den row (basic_at d row) i
old_pivot d row column g i = rw (eq-eqb (slice_index d.seat column) (slice_index d.seat column) refl) refl

-- the right side
raw_right : (d : Condensed) (row column : ℕ) (g : ℤ) (i j : ℕ) → IsExchange d row column → d.columns + d.rows ≤ j → raw_at (step_of d row column g) d.kept d.seat i j ≡ raw_entry row column d.den (entry_at d) i j
raw_right d row column g i j h a =
    let o : d.columns ≢ slice_index d.seat column = (λ e. let p : slice_index d.seat column < d.columns = h.place_in in omega arith) in
    raw_at-right (step_of d row column g) d.kept d.seat i j a
    ∙ raw_of d row column g i d.columns j h (record { here = entry-right d i j a ∙ sym (old_plain d row column g i d.columns o); in_row = entry-right d row j a ∙ sym (old_plain d row column g row d.columns o) })

-- the entering column
raw_entering : (d : Condensed) (row column : ℕ) (g : ℤ) (i : ℕ) → IsExchange d row column → raw_at (step_of d row column g) d.kept d.seat i column ≡ raw_entry row column d.den (entry_at d) i column
raw_entering d row column g i h =
    let c : column < d.columns = h.column_in in
    let seat : seat_after (step_of d row column g) d.seat column ≡ d.columns + row = seat-entering d row column g in
    let place : seat_after (step_of d row column g) d.seat column - d.columns ≡ row = omega arith in
    raw_at-basic (step_of d row column g) d.kept d.seat i column (omega arith) (omega arith)
    ∙ ap (λ k. basic_value d.rows d.columns (d.den *ℤ kept_number d row (slice_index d.seat column)) k column i) place
    ∙ ap (λ z. basic_value d.rows d.columns (d.den *ℤ z) row column i) (sym (pivot_entry d row column row h))
    ∙ elim (cases_eq i row) [
      | inl same ↦
          subst (λ r. basic_value d.rows d.columns (d.den *ℤ entry_at d row column) row column r ≡ raw_entry row column d.den (entry_at d) r column) (sym same)
          (basic_own d.rows d.columns row column (d.den *ℤ entry_at d row column) ∙ sym (raw_own row column d.den (entry_at d) column))
      | inr o ↦
          basic_other d.rows d.columns row column i (d.den *ℤ entry_at d row column) o (inr c)
          ∙ sym (crossed (entry_at d row column) (entry_at d i column)) ∙ sym (raw_other row column d.den (entry_at d) i column o)
    ]
  where
    crossed : (x y : ℤ) → x *ℤ y -ℤ y *ℤ x ≡ pos 0
    crossed x y = omega (arith, linear, *ℤ_comm x y)

-- the leaving column
raw_leaving : (d : Condensed) (row column : ℕ) (g : ℤ) (i : ℕ) → IsExchange d row column → raw_at (step_of d row column g) d.kept d.seat i (basic_at d row) ≡ raw_entry row column d.den (entry_at d) i (basic_at d row)
raw_leaving d row column g i h =
    let place : slice_index d.seat column < d.columns = h.place_in in
    let seat : seat_after (step_of d row column g) d.seat (basic_at d row) ≡ slice_index d.seat column = seat-leaving d row column g h in
    let old : slice_index d.seat (basic_at d row) ≡ d.columns + row = leaving_seat d row h.shape.places h.row_in in
    let inside : basic_at d row < d.columns + d.rows = leaving_in d row h.shape.places h.row_in in
    let k : slice_index d.seat (basic_at d row) - d.columns ≡ row = omega arith in
    raw_at-kept (step_of d row column g) d.kept d.seat i (basic_at d row) inside (omega arith)
    ∙ ap (λ s. raw_number (step_of d row column g) d.kept i s) seat
    ∙ raw_of d row column g i (slice_index d.seat column) (basic_at d row) h (record { here = at i inside (omega arith) k; in_row = at row inside (omega arith) k })
  where
    at : (r : ℕ) → basic_at d row < d.columns + d.rows → d.columns ≤ slice_index d.seat (basic_at d row) → slice_index d.seat (basic_at d row) - d.columns ≡ row → entry_at d r (basic_at d row) ≡ old_number (step_of d row column g) d.kept r (slice_index d.seat column)
    at r a b k = entry-basic d r (basic_at d row) a b ∙ ap (λ m. basic_value d.rows d.columns d.den m (basic_at d row) r) k ∙ sym (old_pivot d row column g r)

-- another column at a kept place
raw_kept : (d : Condensed) (row column : ℕ) (g : ℤ) (i j : ℕ) → IsExchange d row column → j < d.columns + d.rows → j ≢ column → j ≢ basic_at d row → slice_index d.seat j < d.columns → raw_at (step_of d row column g) d.kept d.seat i j ≡ raw_entry row column d.den (entry_at d) i j
raw_kept d row column g i j h a b e l =
    let c : column < d.columns = h.column_in in
    let seat : seat_after (step_of d row column g) d.seat j ≡ slice_index d.seat j = seat-other d row column g j b e in
    let o : slice_index d.seat j ≢ slice_index d.seat column = seat_apart d j column h.shape.places a (omega arith) b in
    raw_at-kept (step_of d row column g) d.kept d.seat i j a (omega arith)
    ∙ ap (λ s. raw_number (step_of d row column g) d.kept i s) seat
    ∙ raw_of d row column g i (slice_index d.seat j) j h (record { here = entry-kept d i j a l ∙ sym (old_plain d row column g i (slice_index d.seat j) o); in_row = entry-kept d row j a l ∙ sym (old_plain d row column g row (slice_index d.seat j) o) })

-- another basic column
raw_basic : (d : Condensed) (row column : ℕ) (g : ℤ) (i j : ℕ) → IsExchange d row column → j < d.columns + d.rows → j ≢ column → j ≢ basic_at d row → d.columns ≤ slice_index d.seat j → raw_at (step_of d row column g) d.kept d.seat i j ≡ raw_entry row column d.den (entry_at d) i j
raw_basic d row column g i j h a b e l =
    let r_in : row < d.rows = h.row_in in
    let seat : seat_after (step_of d row column g) d.seat j ≡ slice_index d.seat j = seat-other d row column g j b e in
    let o : slice_index d.seat j - d.columns ≢ row = (λ s. e (sym (h.shape.places.order_of_seat j a) ∙ ap (λ k. slice_index d.order k) (let t : slice_index d.seat j ≡ d.columns + row = omega arith in t))) in
    let none : entry_at d row j ≡ pos 0 = entry-basic d row j a l ∙ basic_other d.rows d.columns (slice_index d.seat j - d.columns) j row d.den (λ s. o (sym s)) (inl (λ s. omega arith)) in
    raw_at-basic (step_of d row column g) d.kept d.seat i j a (omega arith)
    ∙ ap₂ (λ k z. basic_value d.rows d.columns (d.den *ℤ z) k j i) (ap (λ s. s - d.columns) seat) (sym (pivot_entry d row column row h))
    ∙ elim (cases_eq i row) [
      | inl same ↦
          subst (λ r. basic_value d.rows d.columns (d.den *ℤ entry_at d row column) (slice_index d.seat j - d.columns) j r ≡ raw_entry row column d.den (entry_at d) r j) (sym same)
          (basic_other d.rows d.columns (slice_index d.seat j - d.columns) j row (d.den *ℤ entry_at d row column) (λ s. o (sym s)) (inl (λ s. omega arith))
          ∙ sym (*ℤ-zero d.den) ∙ ap (λ z. d.den *ℤ z) (sym none) ∙ sym (raw_own row column d.den (entry_at d) j))
      | inr f ↦
          ap (λ z. basic_value d.rows d.columns z (slice_index d.seat j - d.columns) j i) (*ℤ_comm d.den (entry_at d row column))
          ∙ scaled_basic d.rows d.columns (slice_index d.seat j - d.columns) j i (entry_at d row column) d.den
          ∙ ap (λ z. entry_at d row column *ℤ z) (sym (entry-basic d i j a l))
          ∙ sym (minus_none (entry_at d row column *ℤ entry_at d i j) (entry_at d i column) (entry_at d row j) none)
          ∙ sym (raw_other row column d.den (entry_at d) i j f)
    ]
  where
    minus_none : (x y z : ℤ) → z ≡ pos 0 → x -ℤ y *ℤ z ≡ x
    minus_none x y z e = rw e (omega (arith, linear, *ℤ-zero y))

-- the numbers after the pivot are those of the raw pivot
pub raw_at-is : (d : Condensed) (row column : ℕ) (g : ℤ) (i j : ℕ) → IsExchange d row column → raw_at (step_of d row column g) d.kept d.seat i j ≡ raw_entry row column d.den (entry_at d) i j
raw_at-is d row column g i j h =
    elim (cases_lt j (d.columns + d.rows)) [
      | inr a ↦ raw_right d row column g i j h a
      | inl a ↦
          elim (cases_eq j column) [
            | inl same ↦ subst (λ k. raw_at (step_of d row column g) d.kept d.seat i k ≡ raw_entry row column d.den (entry_at d) i k) (sym same) (raw_entering d row column g i h)
            | inr b ↦
                elim (cases_eq j (basic_at d row)) [
                  | inl same ↦ subst (λ k. raw_at (step_of d row column g) d.kept d.seat i k ≡ raw_entry row column d.den (entry_at d) i k) (sym same) (raw_leaving d row column g i h)
                  | inr e ↦
                      elim (cases_lt (slice_index d.seat j) d.columns) [
                        | inl l ↦ raw_kept d row column g i j h a b e l
                        | inr l ↦ raw_basic d row column g i j h a b e l
                      ]
                ]
          ]
    ]
