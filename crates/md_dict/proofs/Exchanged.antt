-- The dictionary after a pivot.
use Rattle.std.proofs.Common.{◌≡◌, ◌≢◌, ℕ, ◌+◌, ◌-◌, ◌<◌, List, length, slice_index, slice_set, ℤ, pos, ◌*ℤ◌, ◌<ℤ◌, int_div, refl, sym, ap, ◌∙◌, subst, inl, inr, arith, ne_eqb, eq-eqb, length-set, get_or-set_same, get_or-set_other}
use Rattle.std.proofs.lemmas.Bool.{cases_lt, cases_eq}
use Rattle.md_num.specs.Limits.{limit_of}
use Rattle.md_math.specs.Sizes.{IsWithin}
use Rattle.md_math.specs.Divisors.{Divides}
use Rattle.md_math.proofs.Division.{Divides-int_div}
use Rattle.md_math.proofs.Order.{positive_from_*ℤ, positive-*ℤ}
use Rattle.md_lp.specs.Program.{Program}
use Rattle.md_lp.specs.declared.entry.Entry.{Entry}
use Rattle.md_dict.specs.Dictionary.{basic_value, IsDictionary}
use Rattle.md_dict.specs.Pivot.{with_column, raw_entry}
use Rattle.md_dict.specs.Wide.{IsFirstWide, IsNarrow, IsWideBasis}
use Rattle.md_dict.specs.FirstTable.{first_entry}
use Rattle.md_dict.specs.Condensed.{Condensed, basic_at, kept_number, entry_at, AreInverse, IsShapedDictionary, Holds, TakesColumn}
use Rattle.md_dict.specs.Step.{raw_number, seat_after, raw_at, new_entry, IsStepDivisor, IsReady}
use Rattle.md_dict.specs.Exchange.{step_of, exchanged, IsExchange, AreWritten}
use Rattle.md_dict.proofs.RawPivot.{IsPivot, raw_pivot, scaled_basic, basic_own}
use Rattle.md_dict.proofs.Cancelling.{IsMultiple, IsGreatest, divided_dictionary, IsDictionary-same, IsDictionary-same_basis}
use Rattle.md_dict.proofs.Change.{raw_at-basic, raw_at-kept, raw_at-right, Divides-raw_at}
use Rattle.md_dict_rows.proofs.Quotients.{quotient_is}
use Rattle.md_dict.proofs.Exchange.{entry-kept, entry-basic, entry-right, leaving_seat, leaving_in, seat-entering, seat-leaving, seat-other, pivot_entry, raw_at-is}

-- ---- places and columns after the pivot

-- the column that stands at a kept place, or the right side, after the pivot
pub record IsColumnAt (d : Condensed) (row column : ℕ) (g : ℤ) (s j : ℕ) : Type 0 where
  pub inside : j < d.columns + d.rows + 1
  pub raw : (i : ℕ) → raw_at (step_of d row column g) d.kept d.seat i j ≡ raw_number (step_of d row column g) d.kept i s

pub column_at_place : (d : Condensed) (row column : ℕ) (g : ℤ) (s : ℕ) → IsExchange d row column → s < d.columns + 1 → (j : ℕ) × IsColumnAt d row column g s j
column_at_place d row column g s h a =
    elim (cases_lt s d.columns) [
      | inr l ↦
          let same : d.columns ≡ s = omega arith in
          (d.columns + d.rows, record { inside = omega arith; raw = λ i. raw_at-right (step_of d row column g) d.kept d.seat i (d.columns + d.rows) (omega arith) ∙ ap (λ k. raw_number (step_of d row column g) d.kept i k) same })
      | inl l ↦
          elim (cases_eq s (slice_index d.seat column)) [
            | inl same ↦
                let inside : basic_at d row < d.columns + d.rows = leaving_in d row h.shape.places h.row_in in
                let place : slice_index d.seat column < d.columns = h.place_in in
                let seat : seat_after (step_of d row column g) d.seat (basic_at d row) ≡ slice_index d.seat column = seat-leaving d row column g h in (
                  basic_at d row,
                  record {
                    inside = omega arith;
                    raw = λ i. raw_at-kept (step_of d row column g) d.kept d.seat i (basic_at d row) inside (omega arith) ∙ ap (λ k. raw_number (step_of d row column g) d.kept i k) (seat ∙ sym same);
                  },
                )
            | inr o ↦
                let inside : slice_index d.order s < d.columns + d.rows = h.shape.places.order_in s (omega arith) in
                let back : slice_index d.seat (slice_index d.order s) ≡ s = h.shape.places.seat_of_order s (omega arith) in
                let not_entering : slice_index d.order s ≢ column = (λ e. o (sym back ∙ ap (λ j. slice_index d.seat j) e)) in
                let not_leaving : slice_index d.order s ≢ basic_at d row = (λ e. let t : s ≡ d.columns + row = sym back ∙ ap (λ j. slice_index d.seat j) e ∙ leaving_seat d row h.shape.places h.row_in in omega arith) in
                let seat : seat_after (step_of d row column g) d.seat (slice_index d.order s) ≡ slice_index d.seat (slice_index d.order s) = seat-other d row column g (slice_index d.order s) not_entering not_leaving in (
                  slice_index d.order s,
                  record {
                    inside = omega arith;
                    raw = λ i. raw_at-kept (step_of d row column g) d.kept d.seat i (slice_index d.order s) inside (omega arith) ∙ ap (λ k. raw_number (step_of d row column g) d.kept i k) (seat ∙ back);
                  },
                )
          ]
    ]

-- ---- the raw table and its divisor

pub IsPivot-of : (p : Program) (d : Condensed) (row column : ℕ) → Holds p d → IsExchange d row column → IsPivot d.rows d.columns (first_entry p) (basic_at d) d.den (entry_at d) row column
IsPivot-of p d row column k h = record {
  scaled = k.dictionary.scaled;
  row_in = h.row_in;
  column_in = h.column_in;
  positive = subst (λ z. pos 0 <ℤ z) (sym (pivot_entry d row column row h)) h.positive;
}

-- the denominator times the pivot, by the entry
den_times_pivot : (d : Condensed) (row column : ℕ) → IsExchange d row column → d.den *ℤ entry_at d row column ≡ d.den *ℤ kept_number d row (slice_index d.seat column)
den_times_pivot d row column h = ap (λ z. d.den *ℤ z) (pivot_entry d row column row h)

pub IsGreatest-of : (d : Condensed) (row column : ℕ) (g : ℤ) → IsExchange d row column → IsStepDivisor (step_of d row column g) d.kept (d.rows + 2) g → IsGreatest d.rows d.columns g (d.den *ℤ entry_at d row column) (raw_entry row column d.den (entry_at d))
IsGreatest-of d row column g h q = record {
  greatest = λ x a b. q.greatest x (subst (Divides x) (den_times_pivot d row column h) a) (record {
    at = λ i s k l.
        let (j, c) = column_at_place d row column g s h l in
        subst (Divides x) (sym (raw_at-is d row column g i j h) ∙ c.raw i) (b.at i j k c.inside);
  });
}

-- the entries that are divided
pub new_multiple : (d : Condensed) (row column : ℕ) (g : ℤ) → IsExchange d row column → IsStepDivisor (step_of d row column g) d.kept (d.rows + 2) g → IsMultiple d.rows d.columns g (d.den *ℤ entry_at d row column) (int_div (d.den *ℤ kept_number d row (slice_index d.seat column)) g) (raw_entry row column d.den (entry_at d)) (new_entry (step_of d row column g) d.kept d.seat g)
new_multiple d row column g h q = record {
  positive = q.positive;
  den_is = den_times_pivot d row column h ∙ sym (Divides-int_div g (d.den *ℤ kept_number d row (slice_index d.seat column)) q.of_den);
  entries = λ i j a b.
      sym (raw_at-is d row column g i j h)
      ∙ sym (Divides-int_div g (raw_at (step_of d row column g) d.kept d.seat i j) (Divides-raw_at (step_of d row column g) d.kept d.seat g i j q a));
}

-- the dictionary of the new basis
pub new_dictionary : (p : Program) (d : Condensed) (row column : ℕ) (g : ℤ) → Holds p d → IsExchange d row column → IsStepDivisor (step_of d row column g) d.kept (d.rows + 2) g → IsDictionary d.rows d.columns (first_entry p) (with_column (basic_at d) row column) (int_div (d.den *ℤ kept_number d row (slice_index d.seat column)) g) (new_entry (step_of d row column g) d.kept d.seat g)
new_dictionary p d row column g k h q =
    divided_dictionary d.rows d.columns (first_entry p) (with_column (basic_at d) row column) g (d.den *ℤ entry_at d row column) (int_div (d.den *ℤ kept_number d row (slice_index d.seat column)) g)
    (raw_entry row column d.den (entry_at d)) (new_entry (step_of d row column g) d.kept d.seat g)
    (raw_pivot d.rows d.columns (first_entry p) (basic_at d) d.den (entry_at d) row column (IsPivot-of p d row column k h))
    (new_multiple d row column g h q) (IsGreatest-of d row column g h q)

-- the new basis is wide
pub IsWideBasis-of : (p : Program) (d : Condensed) (row column : ℕ) (g : ℤ) (entry : Entry) → Holds p d → IsExchange d row column → IsStepDivisor (step_of d row column g) d.kept (d.rows + 2) g → IsFirstWide d.rows d.columns (limit_of d.bits) (int_div (d.den *ℤ kept_number d row (slice_index d.seat column)) g) (new_entry (step_of d row column g) d.kept d.seat g) entry → IsWideBasis d.rows d.columns (first_entry p) (with_column (basic_at d) row column) (limit_of d.bits) entry
IsWideBasis-of p d row column g entry k h q w = record {
  den = int_div (d.den *ℤ kept_number d row (slice_index d.seat column)) g;
  table = new_entry (step_of d row column g) d.kept d.seat g;
  dictionary = new_dictionary p d row column g k h q;
  first = w;
}

-- where no entry is wide, each row can be written
pub IsReady-of : (d : Condensed) (row column : ℕ) (g : ℤ) → IsExchange d row column → IsStepDivisor (step_of d row column g) d.kept (d.rows + 2) g → IsNarrow d.rows d.columns (limit_of d.bits) (new_entry (step_of d row column g) d.kept d.seat g) → (i : ℕ) → i < d.rows + 2 → IsReady (step_of d row column g) d.kept g i
IsReady-of d row column g h q n i a = record {
  divides = record { at = λ s b. q.of_rows.at i s a b };
  narrow = λ s b.
      let (j, c) = column_at_place d row column g s h b in
      subst (λ z. IsWithin (limit_of d.bits) (int_div z g)) (c.raw i) (n.entries i j a c.inside);
}

-- ---- the value that is written

-- the seats
seat_is : (d : Condensed) (row column : ℕ) (g : ℤ) (kept : List ℤ) (j : ℕ) → IsExchange d row column → j < d.columns + d.rows → slice_index (exchanged d row column g kept).seat j ≡ seat_after (step_of d row column g) d.seat j
seat_is d row column g kept j h a =
    let c : column < d.columns = h.column_in in
    let len : length d.seat ≡ d.columns + d.rows = h.shape.places.seat_length in
    elim (cases_eq j (basic_at d row)) [
      | inl same ↦
          subst (λ k. slice_index (exchanged d row column g kept).seat k ≡ seat_after (step_of d row column g) d.seat k) (sym same)
          (get_or-set_same (slice_set d.seat column (d.columns + row)) (basic_at d row) (slice_index d.seat column) 0 (let t : length (slice_set d.seat column (d.columns + row)) ≡ length d.seat = length-set d.seat column (d.columns + row) in let u : basic_at d row < d.columns + d.rows = leaving_in d row h.shape.places h.row_in in omega arith)
          ∙ sym (seat-leaving d row column g h))
      | inr b ↦
          get_or-set_other (slice_set d.seat column (d.columns + row)) (basic_at d row) j (slice_index d.seat column) 0 b
          ∙ elim (cases_eq j column) [
            | inl same ↦
                subst (λ k. slice_index (slice_set d.seat column (d.columns + row)) k ≡ seat_after (step_of d row column g) d.seat k) (sym same)
                (get_or-set_same d.seat column (d.columns + row) 0 (omega arith) ∙ sym (seat-entering d row column g))
            | inr e ↦ get_or-set_other d.seat column j (d.columns + row) 0 e ∙ sym (seat-other d row column g j e b)
          ]
    ]

-- the columns in order
order-basic : (d : Condensed) (row column : ℕ) (g : ℤ) (kept : List ℤ) → IsExchange d row column → slice_index (exchanged d row column g kept).order (d.columns + row) ≡ column
order-basic d row column g kept h =
    let r : row < d.rows = h.row_in in
    let len : length d.order ≡ d.columns + d.rows = h.shape.places.order_length in
    let t : length (slice_set d.order (slice_index d.seat column) (basic_at d row)) ≡ length d.order = length-set d.order (slice_index d.seat column) (basic_at d row) in
    get_or-set_same (slice_set d.order (slice_index d.seat column) (basic_at d row)) (d.columns + row) column 0 (omega arith)

order-place : (d : Condensed) (row column : ℕ) (g : ℤ) (kept : List ℤ) → IsExchange d row column → slice_index (exchanged d row column g kept).order (slice_index d.seat column) ≡ basic_at d row
order-place d row column g kept h =
    let place : slice_index d.seat column < d.columns = h.place_in in
    let len : length d.order ≡ d.columns + d.rows = h.shape.places.order_length in
    get_or-set_other (slice_set d.order (slice_index d.seat column) (basic_at d row)) (d.columns + row) (slice_index d.seat column) column 0 (λ e. omega arith)
    ∙ get_or-set_same d.order (slice_index d.seat column) (basic_at d row) 0 (omega arith)

order-other : (d : Condensed) (row column : ℕ) (g : ℤ) (kept : List ℤ) (s : ℕ) → s ≢ d.columns + row → s ≢ slice_index d.seat column → slice_index (exchanged d row column g kept).order s ≡ slice_index d.order s
order-other d row column g kept s a b =
    get_or-set_other (slice_set d.order (slice_index d.seat column) (basic_at d row)) (d.columns + row) s column 0 a
    ∙ get_or-set_other d.order (slice_index d.seat column) s (basic_at d row) 0 b

-- a number that is neither of two
data Which (s a b : ℕ) : Type 0 where
  first : s ≡ a → Which s a b
  second : s ≢ a → s ≡ b → Which s a b
  other : s ≢ a → s ≢ b → Which s a b

which : (s a b : ℕ) → Which s a b
which s a b = elim (cases_eq s a) [ inl e ↦ first e | inr o ↦ elim (cases_eq s b) [ inl e ↦ second o e | inr p ↦ other o p ] ]

pub AreInverse-exchanged : (d : Condensed) (row column : ℕ) (g : ℤ) (kept : List ℤ) → IsExchange d row column → AreInverse (d.columns + d.rows) (exchanged d row column g kept).order (exchanged d row column g kept).seat
AreInverse-exchanged d row column g kept h = record {
  order_length = length-set (slice_set d.order (slice_index d.seat column) (basic_at d row)) (d.columns + row) column ∙ length-set d.order (slice_index d.seat column) (basic_at d row) ∙ h.shape.places.order_length;
  seat_length = length-set (slice_set d.seat column (d.columns + row)) (basic_at d row) (slice_index d.seat column) ∙ length-set d.seat column (d.columns + row) ∙ h.shape.places.seat_length;
  order_in = λ s a. order_in s a (which s (d.columns + row) (slice_index d.seat column));
  seat_in = λ j a. subst (λ k. k < d.columns + d.rows) (sym (seat_is d row column g kept j h a)) (seat_in j a (which j column (basic_at d row)));
  seat_of_order = λ s a. seat_of_order s a (which s (d.columns + row) (slice_index d.seat column));
  order_of_seat = λ j a. ap (λ k. slice_index (exchanged d row column g kept).order k) (seat_is d row column g kept j h a) ∙ order_of_seat j a (which j column (basic_at d row));
}
  where
    order_in : (s : ℕ) → s < d.columns + d.rows → Which s (d.columns + row) (slice_index d.seat column) → slice_index (exchanged d row column g kept).order s < d.columns + d.rows
    order_in s a (first e) = let c : column < d.columns = h.column_in in let t : slice_index (exchanged d row column g kept).order s ≡ column = ap (λ k. slice_index (exchanged d row column g kept).order k) e ∙ order-basic d row column g kept h in omega arith
    order_in s a (second o e) = let b : basic_at d row < d.columns + d.rows = leaving_in d row h.shape.places h.row_in in let t : slice_index (exchanged d row column g kept).order s ≡ basic_at d row = ap (λ k. slice_index (exchanged d row column g kept).order k) e ∙ order-place d row column g kept h in omega arith
    order_in s a (other o p) = subst (λ k. k < d.columns + d.rows) (sym (order-other d row column g kept s o p)) (h.shape.places.order_in s a)

    seat_in : (j : ℕ) → j < d.columns + d.rows → Which j column (basic_at d row) → seat_after (step_of d row column g) d.seat j < d.columns + d.rows
    seat_in j a (first e) = let r : row < d.rows = h.row_in in let t : seat_after (step_of d row column g) d.seat j ≡ d.columns + row = ap (λ k. seat_after (step_of d row column g) d.seat k) e ∙ seat-entering d row column g in omega arith
    seat_in j a (second o e) = let q : slice_index d.seat column < d.columns = h.place_in in let t : seat_after (step_of d row column g) d.seat j ≡ slice_index d.seat column = ap (λ k. seat_after (step_of d row column g) d.seat k) e ∙ seat-leaving d row column g h in omega arith
    seat_in j a (other o p) = subst (λ k. k < d.columns + d.rows) (sym (seat-other d row column g j o p)) (h.shape.places.seat_in j a)

    seat_of_order : (s : ℕ) → s < d.columns + d.rows → Which s (d.columns + row) (slice_index d.seat column) → slice_index (exchanged d row column g kept).seat (slice_index (exchanged d row column g kept).order s) ≡ s
    seat_of_order s a (first e) =
        let c : column < d.columns = h.column_in in
        ap (λ k. slice_index (exchanged d row column g kept).seat k) (ap (λ k. slice_index (exchanged d row column g kept).order k) e ∙ order-basic d row column g kept h)
        ∙ seat_is d row column g kept column h (omega arith) ∙ seat-entering d row column g ∙ sym e
    seat_of_order s a (second o e) =
        ap (λ k. slice_index (exchanged d row column g kept).seat k) (ap (λ k. slice_index (exchanged d row column g kept).order k) e ∙ order-place d row column g kept h)
        ∙ seat_is d row column g kept (basic_at d row) h (leaving_in d row h.shape.places h.row_in) ∙ seat-leaving d row column g h ∙ sym e
    seat_of_order s a (other o p) =
        let back : slice_index d.seat (slice_index d.order s) ≡ s = h.shape.places.seat_of_order s a in
        ap (λ k. slice_index (exchanged d row column g kept).seat k) (order-other d row column g kept s o p)
        ∙ seat_is d row column g kept (slice_index d.order s) h (h.shape.places.order_in s a)
        ∙ seat-other d row column g (slice_index d.order s) (λ e. p (sym back ∙ ap (λ j. slice_index d.seat j) e)) (λ e. o (sym back ∙ ap (λ j. slice_index d.seat j) e ∙ leaving_seat d row h.shape.places h.row_in))
        ∙ back

    order_of_seat : (j : ℕ) → j < d.columns + d.rows → Which j column (basic_at d row) → slice_index (exchanged d row column g kept).order (seat_after (step_of d row column g) d.seat j) ≡ j
    order_of_seat j a (first e) =
        ap (λ k. slice_index (exchanged d row column g kept).order k) (ap (λ k. seat_after (step_of d row column g) d.seat k) e ∙ seat-entering d row column g)
        ∙ order-basic d row column g kept h ∙ sym e
    order_of_seat j a (second o e) =
        ap (λ k. slice_index (exchanged d row column g kept).order k) (ap (λ k. seat_after (step_of d row column g) d.seat k) e ∙ seat-leaving d row column g h)
        ∙ order-place d row column g kept h ∙ sym e
    order_of_seat j a (other o p) =
        let c : column < d.columns = h.column_in in
        let back : slice_index d.order (slice_index d.seat j) ≡ j = h.shape.places.order_of_seat j a in
        ap (λ k. slice_index (exchanged d row column g kept).order k) (seat-other d row column g j o p)
        ∙ order-other d row column g kept (slice_index d.seat j) (λ e. p (sym back ∙ ap (λ s. slice_index d.order s) e)) (λ e. o (sym back ∙ ap (λ s. slice_index d.order s) e ∙ h.shape.places.order_of_seat column (omega arith)))
        ∙ back

-- the basis
pub TakesColumn-exchanged : (d : Condensed) (row column : ℕ) (g : ℤ) (kept : List ℤ) → IsExchange d row column → TakesColumn d (exchanged d row column g kept) row column
TakesColumn-exchanged d row column g kept h = record {
  rows = refl;
  columns = refl;
  bits = refl;
  basis = λ i a.
      elim (cases_eq i row) [
        | inl same ↦ subst (λ k. basic_at (exchanged d row column g kept) k ≡ with_column (basic_at d) row column k) (sym same) (order-basic d row column g kept h ∙ sym (let e : with_column (basic_at d) row column row ≡ column = rw (eq-eqb row row refl) refl in e))
        | inr o ↦
            order-other d row column g kept (d.columns + i) (λ e. o (omega arith)) (λ e. let q : slice_index d.seat column < d.columns = h.place_in in omega arith)
            ∙ sym (let e : with_column (basic_at d) row column i ≡ basic_at d i = rw (ne_eqb i row o) refl in e)
      ];
}

-- the entries
entry_is : (d : Condensed) (row column : ℕ) (g : ℤ) (kept : List ℤ) → AreWritten d row column g kept → (i j : ℕ) → i < d.rows + 2 → entry_at (exchanged d row column g kept) i j ≡ new_entry (step_of d row column g) d.kept d.seat g i j
entry_is d row column g kept h i j a =
    elim (cases_lt j (d.columns + d.rows)) [
      | inr l ↦
          entry-right (exchanged d row column g kept) i j l
          ∙ quotient_is g (raw_at (step_of d row column g) d.kept d.seat i j) (kept_number (exchanged d row column g kept) i d.columns) h.divisor.positive (Divides-raw_at (step_of d row column g) d.kept d.seat g i j h.divisor a)
          (h.written.numbers i d.columns a (omega arith) ∙ sym (raw_at-right (step_of d row column g) d.kept d.seat i j l))
      | inl l ↦
          let seat : slice_index (exchanged d row column g kept).seat j ≡ seat_after (step_of d row column g) d.seat j = seat_is d row column g kept j h.exchange l in
          elim (cases_lt (seat_after (step_of d row column g) d.seat j) d.columns) [
            | inl k ↦
                entry-kept (exchanged d row column g kept) i j l (omega arith)
                ∙ ap (λ s. kept_number (exchanged d row column g kept) i s) seat
                ∙ quotient_is g (raw_at (step_of d row column g) d.kept d.seat i j) (kept_number (exchanged d row column g kept) i (seat_after (step_of d row column g) d.seat j)) h.divisor.positive (Divides-raw_at (step_of d row column g) d.kept d.seat g i j h.divisor a)
                (h.written.numbers i (seat_after (step_of d row column g) d.seat j) a (omega arith) ∙ sym (raw_at-kept (step_of d row column g) d.kept d.seat i j l k))
            | inr k ↦
                entry-basic (exchanged d row column g kept) i j l (omega arith)
                ∙ ap (λ s. basic_value d.rows d.columns (exchanged d row column g kept).den (s - d.columns) j i) seat
                ∙ quotient_is g (raw_at (step_of d row column g) d.kept d.seat i j) _ h.divisor.positive (Divides-raw_at (step_of d row column g) d.kept d.seat g i j h.divisor a)
                (sym (scaled_basic d.rows d.columns (seat_after (step_of d row column g) d.seat j - d.columns) j i g (exchanged d row column g kept).den)
                ∙ ap (λ z. basic_value d.rows d.columns z (seat_after (step_of d row column g) d.seat j - d.columns) j i) (Divides-int_div g (d.den *ℤ kept_number d row (slice_index d.seat column)) h.divisor.of_den)
                ∙ sym (raw_at-basic (step_of d row column g) d.kept d.seat i j l k))
          ]
    ]

-- the value is the dictionary of the new basis
pub Holds-exchanged : (p : Program) (d : Condensed) (row column : ℕ) (g : ℤ) (kept : List ℤ) → AreWritten d row column g kept → Holds p d → Holds p (exchanged d row column g kept)
Holds-exchanged p d row column g kept h k = record {
  rows = k.rows;
  columns = k.columns;
  dictionary =
      IsDictionary-same_basis d.rows d.columns (first_entry p) (with_column (basic_at d) row column) (basic_at (exchanged d row column g kept)) _ (entry_at (exchanged d row column g kept))
      (λ i a. sym ((TakesColumn-exchanged d row column g kept h.exchange).basis i a))
      (IsDictionary-same d.rows d.columns (first_entry p) (with_column (basic_at d) row column) _ (new_entry (step_of d row column g) d.kept d.seat g) (entry_at (exchanged d row column g kept))
      (record { entries = λ i j a b. sym (entry_is d row column g kept h i j a) })
      (new_dictionary p d row column g k h.exchange h.divisor));
}

-- no entry is wide
pub IsNarrow-exchanged : (d : Condensed) (row column : ℕ) (g : ℤ) (kept : List ℤ) → AreWritten d row column g kept → IsNarrow d.rows d.columns (limit_of d.bits) (entry_at (exchanged d row column g kept))
IsNarrow-exchanged d row column g kept h = record { entries = λ i j a b. subst (IsWithin (limit_of d.bits)) (sym (entry_is d row column g kept h i j a)) (h.narrow.entries i j a b) }

-- where no entry is wide, the new denominator is within the limit
pub den_within : (d : Condensed) (row column : ℕ) (g : ℤ) → IsExchange d row column → IsNarrow d.rows d.columns (limit_of d.bits) (new_entry (step_of d row column g) d.kept d.seat g) → IsWithin (limit_of d.bits) (int_div (d.den *ℤ kept_number d row (slice_index d.seat column)) g)
den_within d row column g h n =
    let c : column < d.columns = h.column_in in
    let r : row < d.rows = h.row_in in
    let seat : seat_after (step_of d row column g) d.seat column ≡ d.columns + row = seat-entering d row column g in
    let place : seat_after (step_of d row column g) d.seat column - d.columns ≡ row = omega arith in
    subst (λ z. IsWithin (limit_of d.bits) (int_div z g))
    (raw_at-basic (step_of d row column g) d.kept d.seat row column (omega arith) (omega arith)
    ∙ ap (λ k. basic_value d.rows d.columns (d.den *ℤ kept_number d row (slice_index d.seat column)) k column row) place
    ∙ basic_own d.rows d.columns row column (d.den *ℤ kept_number d row (slice_index d.seat column)))
    (n.entries row column (omega arith) (omega arith))

-- the limits are kept
pub IsShaped-exchanged : (d : Condensed) (row column : ℕ) (g : ℤ) (kept : List ℤ) → AreWritten d row column g kept → IsShapedDictionary (exchanged d row column g kept)
IsShaped-exchanged d row column g kept h = record {
  row_limit = h.exchange.shape.row_limit;
  column_limit = h.exchange.shape.column_limit;
  least_bits = h.exchange.shape.least_bits;
  most_bits = h.exchange.shape.most_bits;
  positive =
      positive_from_*ℤ g (exchanged d row column g kept).den h.divisor.positive
      (subst (λ z. pos 0 <ℤ z) (sym (Divides-int_div g (d.den *ℤ kept_number d row (slice_index d.seat column)) h.divisor.of_den)) (positive-*ℤ d.den (kept_number d row (slice_index d.seat column)) h.exchange.shape.positive h.exchange.positive));
  den_size = den_within d row column g h.exchange h.narrow;
  places = AreInverse-exchanged d row column g kept h.exchange;
  kept_length = h.table.kept_length;
  kept_size = h.table.kept_limit;
}
