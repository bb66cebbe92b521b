-- The first table is the dictionary of the first basis.
use Rattle.std.proofs.Common.{◌≡◌, ◌≢◌, ℕ, ◌+◌, ◌-◌, ◌*◌, ◌/◌, ◌%◌, ◌^◌, ◌<◌, ◌≤◌, ◌⊎◌, ◌==◌, ◌&&◌, nat_le, Bool, true, false, if◌then◌else◌, List, length, slice_index, ℤ, pos, ◌*ℤ◌, neg_ℤ, refl, sym, ap, ap₂, ◌∙◌, subst, inl, inr, arith, ne_eqb, eq-eqb, lt-ltb, le-ltb, le-leb, pow_mono, mod-lt, mul-le-mul_right}
use Rattle.std.proofs.lemmas.Bool.{cases_lt, cases_eq}
use Rattle.std.proofs.Math.Nat as NatL
use Rattle.md_num.specs.Limits.{limit_of}
use Rattle.md_math.specs.Sums.{sum_to}
use Rattle.md_math.specs.Sizes.{IsWithin, AllWithin}
use Rattle.md_math.specs.Lists.{list_to, number_at}
use Rattle.md_math.proofs.Ring.{linear, zero-*ℤ, one-*ℤ, neg_ℤ-*ℤ}
use Rattle.md_math.proofs.SumLaws.{sum_to-same, sum_to-single, sum_to-zero, sum_to-neg_ℤ}
use Rattle.md_math.proofs.Builders.{length-list_to, get_or-list_to}
use Rattle.md_lp.specs.Program.{Program, row_count}
use Rattle.md_lp.specs.declared.entry.Entry.{Entry}
use Rattle.md_dict.specs.Dictionary.{basic_value, IsDictionary}
use Rattle.md_dict.specs.FirstTable.{column_count, row_entry, first_entry, first_basis, first_column, first_number}
use Rattle.md_dict.specs.Condensed.{basic_at, kept_number, entry_at, AreInverse, IsShapedDictionary}
use Rattle.md_dict.specs.Start.{IsBuilt, IsStart, IsFirstWidePlace, first_value}
use Rattle.md_dict.specs.Wide.{IsFirstWide, IsWideBasis}
use Rattle.md_dict.proofs.Cancelling.{IsDictionary-same, IsDictionary-same_basis}
use Rattle.md_dict.proofs.RawPivot.{basic_other}
use Rattle.md_dict.proofs.Exchange.{entry-kept, entry-basic, entry-right}
use Rattle.md_dict.proofs.Writing.{place_inside}

-- what makes a table a first one: unit start columns, a face row that is minus the sum, and a main row with 0 in the start columns
pub record IsFirstTable (m n : ℕ) (t : ℕ → ℕ → ℤ) : Type 0 where
  pub units : (k i : ℕ) → k < m → i < m → t k (n + i) ≡ (if k == i then pos 1 else pos 0)
  pub face : (j : ℕ) → t m j ≡ neg_ℤ (sum_to m (λ k. t k j))
  pub main : (i : ℕ) → i < m → t (m + 1) (n + i) ≡ pos 0

pub unit_own : (i : ℕ) → (if i == i then pos 1 else pos 0) ≡ pos 1
unit_own i = rw (eq-eqb i i refl) refl

pub unit_off : (k i : ℕ) → k ≢ i → (if k == i then pos 1 else pos 0) ≡ pos 0
unit_off k i o = rw (ne_eqb k i o) refl

face_unit : (m n : ℕ) (t : ℕ → ℕ → ℤ) → IsFirstTable m n t → (i : ℕ) → i < m → t m (n + i) ≡ neg_ℤ (pos 1)
face_unit m n t h i a =
    h.face (n + i)
    ∙ ap neg_ℤ (sum_to-single m i (λ k. t k (n + i)) a (λ k b o. h.units k i b a ∙ unit_off k i o) ∙ h.units i i a a ∙ unit_own i)

first_basic : (m n : ℕ) (t : ℕ → ℕ → ℤ) → IsFirstTable m n t → (i r : ℕ) → i < m → r < m + 2 → t r (n + i) ≡ basic_value m n (pos 1) i (n + i) r
first_basic m n t h i r a b =
    elim (cases_lt r m) [
      | inl l ↦
          h.units r i l a
          ∙ elim (cases_eq r i) [
            | inl e ↦ (rw (eq-eqb r i e) refl)
            | inr o ↦ (let left : (if r == i then pos 1 else pos 0) ≡ pos 0 = rw (ne_eqb r i o) refl in left) ∙ sym (basic_other m n i (n + i) r (pos 1) o (inl (λ e. omega arith)))
          ]
      | inr l ↦
          elim (cases_eq r m) [
            | inl e ↦
                subst (λ k. t k (n + i) ≡ basic_value m n (pos 1) i (n + i) k) (sym e)
                (face_unit m n t h i a ∙ sym (let f : basic_value m n (pos 1) i (n + i) m ≡ neg_ℤ (pos 1) = rw (ne_eqb m i (λ s. omega arith), eq-eqb m m refl, le-leb n (n + i) (omega arith)) refl in f))
            | inr o ↦
                let last : m + 1 ≡ r = omega arith in
                subst (λ k. t k (n + i) ≡ basic_value m n (pos 1) i (n + i) k) last
                (h.main i a ∙ sym (basic_other m n i (n + i) (m + 1) (pos 1) (λ s. omega arith) (inl (λ s. omega arith))))
          ]
    ]

-- a sum over the unit columns
unit_sum : (m n : ℕ) (t : ℕ → ℕ → ℤ) → IsFirstTable m n t → (r j : ℕ) → r < m → sum_to m (λ k. t r (n + k) *ℤ t k j) ≡ t r j
unit_sum m n t h r j a =
    sum_to-single m r (λ k. t r (n + k) *ℤ t k j) a (λ k b o. ap (λ z. z *ℤ t k j) (h.units r k a b ∙ unit_off r k (λ e. o (sym e))) ∙ zero-*ℤ (t k j))
    ∙ ap (λ z. z *ℤ t r j) (h.units r r a a ∙ unit_own r) ∙ one-*ℤ (t r j)

first_rows : (m n : ℕ) (t : ℕ → ℕ → ℤ) → IsFirstTable m n t → (r j : ℕ) → r < m + 1 → t r j ≡ sum_to m (λ k. t r (n + k) *ℤ t k j)
first_rows m n t h r j a =
    elim (cases_lt r m) [
      | inl l ↦ sym (unit_sum m n t h r j l)
      | inr l ↦
          let same : m ≡ r = omega arith in
          subst (λ i. t i j ≡ sum_to m (λ k. t i (n + k) *ℤ t k j)) same
          (h.face j ∙ sym (sum_to-neg_ℤ m (λ k. t k j))
          ∙ sym (sum_to-same m _ (λ k. neg_ℤ (t k j)) (λ k b. ap (λ z. z *ℤ t k j) (face_unit m n t h k b) ∙ neg_ℤ-*ℤ (pos 1) (t k j) ∙ ap neg_ℤ (one-*ℤ (t k j)))))
    ]

-- the first table over 1 is the dictionary of the start columns
pub first_dictionary : (m n : ℕ) (t : ℕ → ℕ → ℤ) → IsFirstTable m n t → IsDictionary m n t (λ i. n + i) (pos 1) t
first_dictionary m n t h = record {
  scaled = record {
    positive = omega (arith, linear);
    columns = λ i a. omega arith;
    basic = first_basic m n t h;
    rows = λ r j a _. first_rows m n t h r j a;
    main = λ j _.
        let none : sum_to m (λ k. t (m + 1) (n + k) *ℤ t k j) ≡ pos 0 = sum_to-zero m (λ k. t (m + 1) (n + k) *ℤ t k j) (λ k b. ap (λ z. z *ℤ t k j) (h.main k b) ∙ zero-*ℤ (t k j)) in
        omega (arith, linear, one-*ℤ (t (m + 1) j));
    first = λ k j a _. one-*ℤ (t k j) ∙ sym (unit_sum m n t h k j a);
  };
  reduced = record { only_one = λ d a _. NatL.eq-one_of_dvd-one a.divides };
}

-- the first table of a program
pub IsFirstTable-first_entry : (p : Program) → IsFirstTable (row_count p) (column_count p) (first_entry p)
IsFirstTable-first_entry p = record {
  units = λ k i a b. (rw (lt-ltb k (row_count p) a) refl) ∙ unit k i b (cases_eq k i);
  face = λ j. whole j ∙ ap neg_ℤ (sum_to-same (row_count p) _ _ (λ k b. sym (let e : first_entry p k j ≡ row_entry p k j = rw (lt-ltb k (row_count p) b) refl in e)));
  main = λ i a. (rw (le-ltb (row_count p + 1) (row_count p) (omega arith), ne_eqb (row_count p + 1) (row_count p) (λ e. omega arith), le-ltb (column_count p + i) p.columns (omega arith)) refl);
}
  where
    whole : (j : ℕ) → first_entry p (row_count p) j ≡ neg_ℤ (sum_to (row_count p) (λ k. row_entry p k j))
    whole j = rw (le-ltb (row_count p) (row_count p) (omega arith), eq-eqb (row_count p) (row_count p) refl) refl

    start : (k i : ℕ) → i < row_count p → row_entry p k (column_count p + i) ≡ (if (column_count p + i) == (column_count p + k) then pos 1 else pos 0)
    start k i b = rw (le-ltb (column_count p + i) p.columns (omega arith), le-ltb (column_count p + i) (column_count p) (omega arith), lt-ltb (column_count p + i) (column_count p + row_count p) (omega arith)) refl

    unit : (k i : ℕ) → i < row_count p → (k ≡ i) ⊎ (k ≢ i) → row_entry p k (column_count p + i) ≡ (if k == i then pos 1 else pos 0)
    unit k i b (inl e) = start k i b ∙ (rw (eq-eqb (column_count p + i) (column_count p + k) (ap (λ s. column_count p + s) (sym e)), eq-eqb k i e) refl)
    unit k i b (inr o) = start k i b ∙ (rw (ne_eqb (column_count p + i) (column_count p + k) (λ e. o (omega arith)), ne_eqb k i o) refl)

-- ---- the first value

seat_is_own : (n k : ℕ) → k < n → slice_index (list_to n (λ i. i)) k ≡ k
seat_is_own n k a = get_or-list_to n (λ i. i) k 0 a

AreInverse-own : (n : ℕ) → AreInverse n (list_to n (λ i. i)) (list_to n (λ i. i))
AreInverse-own n = record {
  order_length = length-list_to n (λ i. i);
  seat_length = length-list_to n (λ i. i);
  order_in = λ s a. subst (λ k. k < n) (sym (seat_is_own n s a)) a;
  seat_in = λ s a. subst (λ k. k < n) (sym (seat_is_own n s a)) a;
  seat_of_order = λ s a. ap (λ k. slice_index (list_to n (λ i. i)) k) (seat_is_own n s a) ∙ seat_is_own n s a;
  order_of_seat = λ s a. ap (λ k. slice_index (list_to n (λ i. i)) k) (seat_is_own n s a) ∙ seat_is_own n s a;
}

-- the first dictionary of the program
first_table : (p : Program) → IsDictionary (row_count p) (column_count p) (first_entry p) (first_basis p) (pos 1) (first_entry p)
first_table p = first_dictionary (row_count p) (column_count p) (first_entry p) (IsFirstTable-first_entry p)

-- numbers that are built
pub record IsWhole (p : Program) (kept : List ℤ) : Type 0 where
  pub built : IsBuilt p kept
  pub long : length kept ≡ (row_count p + 2) * (column_count p + 1)

built_number : (p : Program) (kept : List ℤ) (r s : ℕ) → IsWhole p kept → r < row_count p + 2 → s < column_count p + 1 → number_at kept (r * (column_count p + 1) + s) ≡ first_number p r s
built_number p kept r s h a b = h.built.numbers r s b (omega (arith, place_inside (column_count p + 1) r s (row_count p + 2) b a, h.long))

first_place : (p : Program) (r s : ℕ) → s < column_count p → first_number p r s ≡ first_entry p r s
first_place p r s a = ap (first_entry p r) (let e : first_column p s ≡ s = rw (lt-ltb s (column_count p) a) refl in e)

first_right : (p : Program) (r : ℕ) → first_number p r (column_count p) ≡ first_entry p r (column_count p + row_count p)
first_right p r = ap (first_entry p r) (let e : first_column p (column_count p) ≡ column_count p + row_count p = rw (le-ltb (column_count p) (column_count p) (omega arith)) refl in e)

-- a start column
start_entry : (p : Program) (r j : ℕ) → r < row_count p + 2 → column_count p ≤ j → j < column_count p + row_count p → first_entry p r j ≡ basic_value (row_count p) (column_count p) (pos 1) (j - column_count p) j r
start_entry p r j a b c =
    let place : column_count p + (j - column_count p) ≡ j = omega arith in
    subst (λ k. first_entry p r k ≡ basic_value (row_count p) (column_count p) (pos 1) (j - column_count p) k r) place
    ((first_table p).scaled.basic (j - column_count p) r (omega arith) a)

entry_of_first : (p : Program) (width : ℕ) (kept : List ℤ) → IsWhole p kept → (r j : ℕ) → r < row_count p + 2 → j < column_count p + row_count p + 1 → entry_at (first_value p width kept) r j ≡ first_entry p r j
entry_of_first p width kept h r j a b =
    elim (cases_lt j (column_count p + row_count p)) [
      | inr l ↦
          let same : j ≡ column_count p + row_count p = omega arith in
          entry-right (first_value p width kept) r j l ∙ built_number p kept r (column_count p) h a (omega arith) ∙ first_right p r ∙ ap (first_entry p r) (sym same)
      | inl l ↦
          let seat : slice_index (first_value p width kept).seat j ≡ j = seat_is_own (column_count p + row_count p) j l in
          elim (cases_lt j (column_count p)) [
            | inl k ↦
                entry-kept (first_value p width kept) r j l (omega arith)
                ∙ ap (λ s. kept_number (first_value p width kept) r s) seat
                ∙ built_number p kept r j h a (omega arith) ∙ first_place p r j k
            | inr k ↦
                entry-basic (first_value p width kept) r j l (omega arith)
                ∙ ap (λ s. basic_value (row_count p) (column_count p) (pos 1) (s - column_count p) j r) seat
                ∙ sym (start_entry p r j a k l)
          ]
    ]

basis_of_first : (p : Program) (width : ℕ) (kept : List ℤ) (i : ℕ) → i < row_count p → basic_at (first_value p width kept) i ≡ first_basis p i
basis_of_first p width kept i a = seat_is_own (column_count p + row_count p) (column_count p + i) (omega arith)

-- the first value is the dictionary of the first basis
pub IsStart-first_value : (p : Program) (width : ℕ) (kept : List ℤ) → IsWhole p kept → IsStart p width (first_value p width kept)
IsStart-first_value p width kept h = record {
  bits = refl;
  holds = record {
    rows = refl;
    columns = refl;
    dictionary =
        IsDictionary-same_basis (row_count p) (column_count p) (first_entry p) (first_basis p) (basic_at (first_value p width kept)) (pos 1) (entry_at (first_value p width kept))
        (λ i a. sym (basis_of_first p width kept i a))
        (IsDictionary-same (row_count p) (column_count p) (first_entry p) (first_basis p) (pos 1) (first_entry p) (entry_at (first_value p width kept))
        (record { entries = λ r j a b. sym (entry_of_first p width kept h r j a b) }) (first_table p));
  };
  basis = basis_of_first p width kept;
}

-- numbers that are all within the limit
all_within : (rows stride limit : ℕ) (kept : List ℤ) → 0 < stride → length kept ≡ rows * stride → ((r s : ℕ) → r < rows → s < stride → IsWithin limit (number_at kept (r * stride + s))) → AllWithin limit kept
all_within rows stride limit kept p e h = record {
  at = λ k a.
      let parts : k / stride * stride + k % stride ≡ k = NatL.div-add-mod' k stride in
      let rest : k % stride < stride = mod-lt k p in
      let row : k / stride < rows = row_in k (omega arith) parts in
      subst (λ i. IsWithin limit (number_at kept i)) parts (h (k / stride) (k % stride) row rest);
}
  where
    row_in : (k : ℕ) → k < rows * stride → k / stride * stride + k % stride ≡ k → k / stride < rows
    row_in k a q =
        elim (cases_lt (k / stride) rows) [
          | inl l ↦ l
          | inr l ↦ absurd (let m : rows * stride ≤ k / stride * stride = mul-le-mul_right stride l in omega arith)
        ]

limit_above : (bits : ℕ) → 4 ≤ bits → 15 ≤ limit_of bits
limit_above bits h = let p : 2 ^ 4 ≤ 2 ^ bits = pow_mono h in omega arith

pub IsShaped-first_value : (p : Program) (width : ℕ) (kept : List ℤ) → row_count p ≤ 8192 → column_count p ≤ 73728 → 4 ≤ width → width ≤ 62 → IsWhole p kept → ((r s : ℕ) → r < row_count p + 2 → s < column_count p + 1 → IsWithin (limit_of width) (number_at kept (r * (column_count p + 1) + s))) → IsShapedDictionary (first_value p width kept)
IsShaped-first_value p width kept a b c d h n = record {
  row_limit = a;
  column_limit = b;
  least_bits = c;
  most_bits = d;
  positive = omega (arith, linear);
  den_size = record { within = (let l : 15 ≤ limit_of width = limit_above width c in omega arith) };
  places = AreInverse-own (column_count p + row_count p);
  kept_length = h.long;
  kept_size = all_within (row_count p + 2) (column_count p + 1) (limit_of width) kept (omega arith) h.long n;
}

-- ---- the first wide entry

start_within : (p : Program) (limit r j : ℕ) → 15 ≤ limit → r < row_count p + 2 → column_count p ≤ j → j < column_count p + row_count p → IsWithin limit (first_entry p r j)
start_within p limit r j l a b c = subst (IsWithin limit) (sym (start_entry p r j a b c)) (by_tests (r == j - column_count p) ((r == row_count p) && nat_le (column_count p) j))
  where
    by_tests : (own face : Bool) → IsWithin limit (if own then pos 1 else (if face then neg_ℤ (pos 1) else pos 0))
    by_tests true face = record { within = omega arith }
    by_tests false true = record { within = omega arith }
    by_tests false false = record { within = omega arith }

IsFirstWide-of : (p : Program) (limit : ℕ) (kept : List ℤ) (entry : Entry) → 15 ≤ limit → IsWhole p kept → IsFirstWidePlace (row_count p) (column_count p) limit kept entry → IsFirstWide (row_count p) (column_count p) limit (pos 1) (first_entry p) entry
IsFirstWide-of p limit kept entry l h w = record {
  row_in = w.row_in;
  column_in = column_in (cases_lt w.place (column_count p));
  num_is = w.num_is ∙ built_number p kept entry.row w.place h w.row_in w.place_in ∙ ap (first_entry p entry.row) (sym w.column_is);
  den_is = w.den_is;
  wide = w.wide;
  rows_before = λ r j a b. row_before r j a b (cases_lt j (column_count p)) (cases_lt j (column_count p + row_count p));
  columns_before = λ j a. column_before j a (cases_lt w.place (column_count p)) (cases_lt j (column_count p));
}
  where
    column_in : (w.place < column_count p) ⊎ (column_count p ≤ w.place) → entry.column < column_count p + row_count p + 1
    column_in (inl k) = let e : entry.column ≡ w.place = w.column_is ∙ (rw (lt-ltb w.place (column_count p) k) refl) in omega arith
    column_in (inr k) = let e : entry.column ≡ column_count p + row_count p = w.column_is ∙ (rw (le-ltb w.place (column_count p) k) refl) in omega arith

    row_before : (r j : ℕ) → r < entry.row → j < column_count p + row_count p + 1 → (j < column_count p) ⊎ (column_count p ≤ j) → (j < column_count p + row_count p) ⊎ (column_count p + row_count p ≤ j) → IsWithin limit (first_entry p r j)
    row_before r j a b (inl k) _ =
        let inside : entry.row < row_count p + 2 = w.row_in in
        subst (IsWithin limit) (built_number p kept r j h (omega arith) (omega arith) ∙ first_place p r j k) (w.rows_before r j a (omega arith))
    row_before r j a b (inr k) (inl m) = let inside : entry.row < row_count p + 2 = w.row_in in start_within p limit r j l (omega arith) k m
    row_before r j a b (inr k) (inr m) =
        let inside : entry.row < row_count p + 2 = w.row_in in
        let same : column_count p + row_count p ≡ j = omega arith in
        subst (λ i. IsWithin limit (first_entry p r i)) same (subst (IsWithin limit) (built_number p kept r (column_count p) h (omega arith) (omega arith) ∙ first_right p r) (w.rows_before r (column_count p) a (omega arith)))

    column_before : (j : ℕ) → j < entry.column → (w.place < column_count p) ⊎ (column_count p ≤ w.place) → (j < column_count p) ⊎ (column_count p ≤ j) → IsWithin limit (first_entry p entry.row j)
    column_before j a (inl k) m =
        let e : entry.column ≡ w.place = w.column_is ∙ (rw (lt-ltb w.place (column_count p) k) refl) in
        subst (IsWithin limit) (built_number p kept entry.row j h w.row_in (omega arith) ∙ first_place p entry.row j (omega arith)) (w.places_before j (omega arith))
    column_before j a (inr k) (inl m) =
        subst (IsWithin limit) (built_number p kept entry.row j h w.row_in (omega arith) ∙ first_place p entry.row j m) (w.places_before j (omega arith))
    column_before j a (inr k) (inr m) =
        let e : entry.column ≡ column_count p + row_count p = w.column_is ∙ (rw (le-ltb w.place (column_count p) k) refl) in
        start_within p limit entry.row j l w.row_in m (omega arith)

-- the first basis is wide
pub IsWideBasis-first : (p : Program) (width : ℕ) (kept : List ℤ) (entry : Entry) → 4 ≤ width → IsWhole p kept → IsFirstWidePlace (row_count p) (column_count p) (limit_of width) kept entry → IsWideBasis (row_count p) (column_count p) (first_entry p) (first_basis p) (limit_of width) entry
IsWideBasis-first p width kept entry a h w = record {
  den = pos 1;
  table = first_entry p;
  dictionary = first_table p;
  first = IsFirstWide-of p (limit_of width) kept entry (limit_above width a) h w;
}

-- the value that the code makes
pub first_value_is : (p : Program) (width rows columns : ℕ) (order seat : List ℕ) (kept : List ℤ) → rows ≡ row_count p → columns ≡ column_count p → order ≡ list_to (columns + rows) (λ k. k) → seat ≡ list_to (columns + rows) (λ k. k) → record { rows = rows; columns = columns; bits = width; den = pos 1; order = order; seat = seat; kept = kept } ≡ first_value p width kept
first_value_is p width rows columns order seat kept e f g h =
    λ i. record {
      rows = e i;
      columns = f i;
      bits = width;
      den = pos 1;
      order = (g ∙ ap₂ (λ m n. list_to (n + m) (λ k. k)) e f) i;
      seat = (h ∙ ap₂ (λ m n. list_to (n + m) (λ k. k)) e f) i;
      kept = kept;
    }
