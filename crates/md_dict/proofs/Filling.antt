-- What a pivot reads of its rows.
use Rattle.std.proofs.Common.{◌≡◌, ◌≢◌, ℕ, zero, suc, ◌+◌, ◌-◌, ◌*◌, ◌^◌, ◌<◌, ◌≤◌, ◌==◌, ◌&&◌, not, Bool, true, false, List, length, set, take, drop, get_or, Option, Some, None, IfNone, IfSome, ℤ, pos, ◌*ℤ◌, to_z, of_z, unsigned_abs, ap, ◌∙◌, subst, sym, inl, inr, arith, eq-eqb, if◌then◌else◌, get_or-set_same, get_or-set_other, ◌<ℤ◌, refl, lit<, ne_eqb}
use Rattle.std.specs.Ordering.{int_eq}
use Rattle.std.proofs.lemmas.Bool.{cases_lt, cases_eq}
use Rattle.std.proofs.lemmas.Bool.Decides.{Decides-int_eq}
use Rattle.std.proofs.lemmas.List.{get_or_read}
use borrow.Rule.Slice.PartMut.{put_mid}
use mir.Syntax.{w128, w64}
use Rattle.md_math.specs.Lists.{number_at}
use Rattle.md_math.specs.Sizes.{IsWithin, AllWithin}
use Rattle.md_math.proofs.SizeLaws.{AllWithin-number_at}
use Rattle.md_dict.specs.declared.step.Step.{Step}
use Rattle.md_dict.specs.declared.rows.Rows.{Rows}
use Rattle.md_dict.specs.Step.{number_in, IsTable}
use Rattle.md_math.specs.Divisors.{Divides}
use Rattle.md_dict_rows.specs.declared.combination.Combination.{Combination}
use Rattle.md_dict_rows.specs.declared.combination.LeastRow.{LeastRow}
use Rattle.md_dict_rows.specs.Combination.{IsCombination, IsLeastDen, IsReducedTo, IsTooWideRow}
use Rattle.md_dict.specs.Fill.{AreFilledBy, IsDenOf, IsRowsMultiple, IsWideFor, Leaves}
use Rattle.md_dict.specs.Rows.{own_den, own_number, share_of, size_of}
use Rattle.md_dict_rows.specs.LeastRows.{IsLeastRow, IsRowSize}
use Rattle.md_dict.specs.Multiples.{IsMultipleOfTwo, IsNewRow}
use Rattle.md_dict.specs.RowStep.{kept_in, stays_in, AreDone, CanBeRestored, IsCombinationOf, IsDoneRow, IsMadeRow, IsOwnRow, IsRowStep}
use Rattle.md_dict.proofs.RowLaws.{kept_within, positive_share, within_by_share}
use Rattle.md_dict.proofs.RowSteps.{IsCombination-of, IsNewRow-combined, IsNewRow-pivot, IsNewRow-stays, IsWideFor-row}
use Rattle.md_dict.proofs.Parts.{end_inside, in_part, length_part, within_part}
use Rattle.md_dict.proofs.NewRows.{common_multiple}
use Rattle.md_math.proofs.Order.{positive-*ℤ}
use Rattle.md_dict.proofs.LeastMultiples.{IsLeastMultiple-more, IsLeastMultiple-none, IsLeastMultiple-same}
use Rattle.md_dict_division.proofs.Reading.{product_small, read_short, read_small}
use Rattle.md_dict.proofs.Writing.{place_inside, written_beside, written_here}

-- a number that was read at a place of a list whose numbers have 62 bits
pub record IsReadAt (xs : List ℤ) (k : ℕ) (x : ℤ) : Type 0 where
  pub value : x ≡ number_at xs k
  pub size : IsWithin (2 ^ 62) x
  pub short : to_z w64 (of_z w64 x) ≡ x
  pub long : to_z w128 (of_z w128 x) ≡ x

pub read_at : (xs : List ℤ) (k : ℕ) (x : ℤ) → AllWithin (2 ^ 62) xs → k < length xs → x ≡ get_or xs k x → IsReadAt xs k x
read_at xs k x w inside e =
    let value : x ≡ number_at xs k = get_or_read xs k x inside e (pos 0) in
    let size : IsWithin (2 ^ 62) x = subst (IsWithin (2 ^ 62)) (sym value) (AllWithin-number_at (2 ^ 62) xs k w) in
    record { value = value; size = size; short = read_short x size; long = read_small x size }

-- ---- the rows' own numbers as a table

-- a place of a table is one of a row
record IsPlaceOf (w n k : ℕ) : Type 0 where
  row : ℕ
  place : ℕ
  row_in : row < n
  place_in : place < w
  is : k ≡ row * w + place

split_place : (w n k : ℕ) → k < n * w → IsPlaceOf w n k
split_place w zero k b = absurd (omega arith)
split_place w (suc n) k b =
    elim (cases_lt k (n * w)) [
      | inl l ↦
          let h = split_place w n k l in
          record { row = h.row; place = h.place; row_in = (let a = h.row_in in omega (arith, a)); place_in = h.place_in; is = h.is }
      | inr l ↦ record { row = n; place = k - n * w; row_in = omega arith; place_in = omega (arith, l, b); is = omega (arith, l) }
    ]

pub number_in-own : (step : Step) (rows : Rows) (i s : ℕ) → IsRowStep step rows → number_in step rows.numbers.items i s ≡ own_number rows i s
number_in-own step rows i s h = ap (λ w. number_at rows.numbers.items (i * w + s)) (sym h.width)

-- the rows' own numbers are within the limit, since they are no larger than those over the denominator of all
pub IsTable-own : (step : Step) (rows : Rows) → IsRowStep step rows → IsTable step rows.numbers.items
IsTable-own step rows h =
    let t = h.pivot.table in
    record {
      row_limit = t.row_limit;
      column_limit = t.column_limit;
      row_in = t.row_in;
      place_in = t.place_in;
      limit_size = t.limit_size;
      kept_length = h.table.numbers_length ∙ ap (λ w. (step.rows + 2) * w) h.width;
      kept_size = h.table.numbers_size;
      kept_limit = record { at = λ k b. at_place k (split_place rows.width (step.rows + 2) k (omega (arith, b, h.table.numbers_length))) };
      den_size = t.den_size;
      pivot_size = t.pivot_size;
      den_positive = t.den_positive;
      pivot_positive = t.pivot_positive;
    }
  where
    at_place : (k : ℕ) → IsPlaceOf rows.width (step.rows + 2) k → IsWithin step.limit (number_at rows.numbers.items k)
    at_place k p =
        let share = positive_share (share_of rows p.row) (own_den rows p.row) step.den (h.table.shared p.row p.row_in) h.pivot.table.den_positive (h.table.least p.row p.row_in).positive in
        subst (λ z. IsWithin step.limit (number_at rows.numbers.items z)) (sym p.is)
        (within_by_share step.limit (share_of rows p.row) (own_number rows p.row p.place) (kept_within step.limit (step.rows + 2) rows h.pivot.table.kept_limit p.row p.place p.row_in p.place_in) share)

-- an own number is within the limit
pub own_limit : (step : Step) (rows : Rows) (i s : ℕ) → IsRowStep step rows → IsWithin step.limit (own_number rows i s)
own_limit step rows i s h = subst (IsWithin step.limit) (number_in-own step rows i s h) (AllWithin-number_at step.limit rows.numbers.items (i * (step.columns + 1) + s) (IsTable-own step rows h).kept_limit)

-- ---- rows that stay

-- what is known of a row that stays
pub record IsStaying (step : Step) (factors : List ℤ) (i : ℕ) : Type 0 where
  pub other : i ≢ step.row
  pub not_face : i ≢ step.rows
  pub zero : number_at factors i ≡ pos 0

pub staying : (step : Step) (factors : List ℤ) (i : ℕ) → stays_in step factors i ≡ true → IsStaying step factors i
staying step factors i e =
    elim (cases_eq i step.row) [
      | inl same ↦ absurd (clash (i == step.rows) (int_eq (number_at factors i) (pos 0)) (subst (λ b. (not b && not (i == step.rows) && int_eq (number_at factors i) (pos 0)) ≡ true) (eq-eqb i step.row same) e))
      | inr o ↦
          elim (cases_eq i step.rows) [
            | inl same ↦ absurd (clash_face (i == step.row) (int_eq (number_at factors i) (pos 0)) (subst (λ b. (not (i == step.row) && not b && int_eq (number_at factors i) (pos 0)) ≡ true) (eq-eqb i step.rows same) e))
            | inr f ↦
                record {
                  other = o;
                  not_face = f;
                  zero = (Decides-int_eq (number_at factors i) (pos 0)).0 (last (not (i == step.row)) (not (i == step.rows)) (int_eq (number_at factors i) (pos 0)) e);
                }
          ]
    ]
  where
    clash : (a b : Bool) → (not true && not a && b) ≡ true → ⊥
    clash a b e = cc

    clash_face : (a b : Bool) → (not a && not true && b) ≡ true → ⊥
    clash_face true b e = cc
    clash_face false b e = cc

    last : (a b c : Bool) → (a && b && c) ≡ true → c ≡ true
    last true true c e = e
    last true false c e = cc
    last false b c e = cc

-- the size of a row is that of equal numbers
pub IsRowSize-same : (w : ℕ) (f g : ℕ → ℤ) (size : ℤ) → ((s : ℕ) → s < w → g s ≡ f s) → IsRowSize w f size → IsRowSize w g size
IsRowSize-same w f g size e h = record {
  small = h.small;
  bound = λ s b. subst (IsWithin (unsigned_abs size)) (sym (e s b)) (h.bound s b);
  reached = elim h.reached [
    | inl z ↦ inl z
    | inr r ↦ inr (r.0, r.1, ap unsigned_abs (e r.0 r.1) ∙ r.2)
  ];
}

-- a row that stays is made
pub IsMadeRow-stays : (step : Step) (rows : Rows) (factors : List ℤ) (i : ℕ) (den size : ℤ) (f : ℕ → ℤ) → IsRowStep step rows → i < step.rows + 2 → IsStaying step factors i → number_at factors i ≡ own_number rows i step.place → ((s : ℕ) → s < step.columns + 1 → f s ≡ own_number rows i s) → den ≡ own_den rows i → size ≡ size_of rows i → IsWithin (2 ^ 62) den → IsMadeRow step rows i (record { den = den; size = size }) f
IsMadeRow-stays step rows factors i den size f h b t factor same den_is size_is w = record {
  new = subst (λ d. IsNewRow step (kept_in step rows) i d f) (sym den_is) (IsNewRow-stays step rows i f h b t.other t.not_face (sym factor ∙ t.zero) (λ s c. same s (omega (arith, c, h.width))));
  size = subst (IsRowSize (step.columns + 1) f) (sym size_is) (IsRowSize-same (step.columns + 1) (own_number rows i) f (size_of rows i) same (subst (λ w. IsRowSize w (own_number rows i) (size_of rows i)) h.width (h.table.sizes i b)));
  den_size = w;
}

-- ---- rows that are written

pub IsLeastRow-same : (w : ℕ) (den : ℤ) (f g : ℕ → ℤ) → ((s : ℕ) → s < w → g s ≡ f s) → IsLeastRow w den f → IsLeastRow w den g
IsLeastRow-same w den f g e h = record {
  positive = h.positive;
  only_one = λ x a b. h.only_one x a (record { at = λ k l. subst (Divides x) (e k l) (b.at k l) });
}

-- a row that is made has equal numbers
pub IsMadeRow-same : (step : Step) (rows : Rows) (i : ℕ) (least : LeastRow) (f g : ℕ → ℤ) → ((s : ℕ) → s < step.columns + 1 → g s ≡ f s) → IsMadeRow step rows i least f → IsMadeRow step rows i least g
IsMadeRow-same step rows i least f g same h = record {
  new = record {
    least = IsLeastRow-same (step.columns + 1) least.den f g same h.new.least;
    factor = h.new.factor;
    positive = h.new.positive;
    den_is = h.new.den_is;
    numbers = λ s b. ap (λ z. h.new.factor *ℤ z) (same s b) ∙ h.new.numbers s b;
  };
  size = IsRowSize-same (step.columns + 1) f g least.size same h.size;
  den_size = h.den_size;
}

-- a row's denominator is within the limit
pub den_within : (step : Step) (rows : Rows) (i : ℕ) → IsRowStep step rows → i < step.rows + 2 → IsWithin step.limit (own_den rows i)
den_within step rows i h b =
    let share = positive_share (share_of rows i) (own_den rows i) step.den (h.table.shared i b) h.pivot.table.den_positive (h.table.least i b).positive in
    within_by_share step.limit (share_of rows i) (own_den rows i) (subst (IsWithin step.limit) (sym (h.table.shared i b)) h.den_within) share

-- the pivot row, over the pivot, with its old denominator at the place of the pivot
pub IsMadeRow-pivot : (step : Step) (rows : Rows) (taken : List ℤ) (den size : ℤ) → IsRowStep step rows → IsTable step taken → ((s : ℕ) → s < step.columns + 1 → number_in step taken step.row s ≡ number_in step rows.numbers.items step.row s) → den ≡ own_number rows step.row step.place → IsRowSize (step.columns + 1) (number_in step (set taken (step.row * (step.columns + 1) + step.place) (own_den rows step.row)) step.row) size → IsMadeRow step rows step.row (record { den = den; size = size }) (number_in step (set taken (step.row * (step.columns + 1) + step.place) (own_den rows step.row)) step.row)
IsMadeRow-pivot step rows taken den size h t same den_is size_is =
    let inside : step.row * (step.columns + 1) + step.place < length taken = omega (arith, place_inside (step.columns + 1) step.row step.place (step.rows + 2) (omega (arith, t.place_in)) (omega (arith, t.row_in)), t.kept_length) in
    let new = number_in step (set taken (step.row * (step.columns + 1) + step.place) (own_den rows step.row)) step.row in
    record {
      new = subst (λ d. IsNewRow step (kept_in step rows) step.row d new) (sym den_is)
          (IsNewRow-pivot step rows new h
          (λ s b o. written_beside step taken step.row step.place s (own_den rows step.row) o ∙ same s (omega (arith, b, h.width)) ∙ number_in-own step rows step.row s h)
          (written_here step taken step.row step.place (own_den rows step.row) inside));
      size = size_is;
      den_size = subst (IsWithin (2 ^ 62)) (sym den_is) (AllWithin-number_at (2 ^ 62) rows.numbers.items (step.row * rows.width + step.place) h.table.numbers_size);
    }

-- the size of a row that was read
pub read_size : (step : Step) (rows : Rows) (i : ℕ) (x : ℤ) → IsRowStep step rows → i < step.rows + 2 → x ≡ get_or rows.sizes.items i x → IsReadAt rows.sizes.items i x
read_size step rows i x h b e =
    let value : x ≡ size_of rows i = get_or_read rows.sizes.items i x (omega (arith, h.table.sizes_length, b)) e (pos 0) in
    let size : IsWithin (2 ^ 62) x = subst (IsWithin (2 ^ 62)) (sym value) (h.table.sizes i b).small in
    record { value = value; size = size; short = read_short x size; long = read_small x size }

-- ---- rows that are combined

-- a row is a part of the list of all numbers
pub row_inside : (step : Step) (rows : Rows) (i : ℕ) → IsRowStep step rows → i < step.rows + 2 → i * rows.width + rows.width ≤ length rows.numbers.items
row_inside step rows i h b = omega (arith, end_inside rows.width i rows.width (step.rows + 2) b (omega arith), h.table.numbers_length)

pub own_row : (step : Step) (rows : Rows) (i : ℕ) (own : List ℤ) → IsRowStep step rows → i < step.rows + 2 → own ≡ take (i * rows.width + rows.width - i * rows.width) (drop (i * rows.width) rows.numbers.items) → IsOwnRow rows i own
own_row step rows i own h b e = record {
  long = ap length e ∙ length_part rows.numbers.items (i * rows.width) (i * rows.width + rows.width) (omega arith) (row_inside step rows i h b) ∙ (let same : i * rows.width + rows.width - i * rows.width ≡ rows.width = omega arith in same);
  numbers = λ s a. ap (λ ys. number_at ys s) e ∙ in_part rows.numbers.items (i * rows.width) (i * rows.width + rows.width) s (omega (arith, a));
}

-- the sizes of what a row is combined of
pub combination_of : (step : Step) (rows : Rows) (i : ℕ) (c : Combination) (own taken : List ℤ) → IsRowStep step rows → i < step.rows + 2 → IsCombinationOf step rows i c → IsOwnRow rows i own → IsOwnRow rows step.row taken → IsCombination c own taken
combination_of step rows i c own taken h b is o t =
    let numbers = h.table.numbers_size in
    IsCombination-of step rows i c own taken h b is o t
    (within_by_share (2 ^ 62) is.common c.multiplier (subst (IsWithin (2 ^ 62)) (sym is.multiplier) (AllWithin-number_at (2 ^ 62) rows.numbers.items (step.row * rows.width + step.place) numbers)) is.positive)
    (within_by_share (2 ^ 62) is.common c.factor (subst (IsWithin (2 ^ 62)) (sym is.factor) (AllWithin-number_at (2 ^ 62) rows.numbers.items (i * rows.width + step.place) numbers)) is.positive)

-- a combined row that is written in least terms is made
pub made_combined : (step : Step) (rows : Rows) (i : ℕ) (c : Combination) (own taken fresh new : List ℤ) (k : ℕ) (result : Option LeastRow) → IsRowStep step rows → i < step.rows + 2 → IsCombinationOf step rows i c → IsOwnRow rows i own → IsOwnRow rows step.row taken → IsTable step fresh → length new ≡ step.columns + 1 → IfSome result (λ least. IsReducedTo c own taken least new) → IfSome result (λ least. IsMadeRow step rows i least (number_in step (put_mid (i * (step.columns + 1)) k fresh new) i))
made_combined step rows i c own taken fresh new k None h b is o t table long told = told
made_combined step rows i c own taken fresh new k (Some least) h b is o t table long told =
    let width : length own ≡ step.columns + 1 = o.long ∙ h.width in
    let start : i * (step.columns + 1) ≤ length fresh = omega (arith, end_inside (step.columns + 1) i 0 (step.rows + 2) b (omega arith), table.kept_length) in
    IsMadeRow-same step rows i least (number_at new) (number_in step (put_mid (i * (step.columns + 1)) k fresh new) i) (λ s a. within_part (i * (step.columns + 1)) k s fresh new start (omega (arith, a, long)))
    (record {
      new = IsNewRow-combined step rows i c own taken least.den (number_at new) h b is o t told.terms;
      size = subst (λ w. IsRowSize w (number_at new) least.size) width told.size;
      den_size = told.den_size;
    })

pub wide_combined : (step : Step) (rows : Rows) (i : ℕ) (c : Combination) (own taken : List ℤ) (result : Option LeastRow) → IsRowStep step rows → i < step.rows + 2 → IsCombinationOf step rows i c → IsOwnRow rows i own → IsOwnRow rows step.row taken → IfNone result (IsTooWideRow c own taken step.limit) → IfNone result (IsWideFor step (kept_in step rows))
wide_combined step rows i c own taken (Some least) h b is o t told = told
wide_combined step rows i c own taken None h b is o t told = IsWideFor-row step rows i c own taken h b is o t told

-- the denominator of a combined row, however wide it is
pub den_combined : (step : Step) (rows : Rows) (i : ℕ) (c : Combination) (own taken : List ℤ) (den : ℤ) → IsRowStep step rows → i < step.rows + 2 → IsCombinationOf step rows i c → IsOwnRow rows i own → IsOwnRow rows step.row taken → IsLeastDen c own taken den → IsDenOf step rows i den
den_combined step rows i c own taken den h b is o t least = record {
  numbers = least.numbers;
  new = IsNewRow-combined step rows i c own taken den least.numbers h b is o t least.terms;
  size = least.size;
}

-- ---- all rows

-- a row whose old numbers are known has equal numbers
pub CanBeRestored-same : (step : Step) (rows : Rows) (factors : List ℤ) (i : ℕ) (den : ℤ) (f g : ℕ → ℤ) → ((s : ℕ) → s < step.columns + 1 → g s ≡ f s) → CanBeRestored step rows factors i den f → CanBeRestored step rows factors i den g
CanBeRestored-same step rows factors i den f g same h = record {
  positive = h.positive;
  size = h.size;
  kept = λ e s b. same s b ∙ h.kept e s b;
  back = λ e o.
      let k = h.back e o in
      record {
        divisor = k.divisor;
        den_is = k.den_is;
        numbers = record { at = λ s b p. ap (λ z. k.divisor *ℤ z) (same s b) ∙ k.numbers.at s b p };
      };
}

pub AreDone-none : (step : Step) (rows : Rows) (factors numbers dens sizes : List ℤ) → AreDone step rows factors numbers dens sizes 0
AreDone-none step rows factors numbers dens sizes = record { at = λ i b. absurd (omega arith) }

-- one more row
pub AreDone-more : (step : Step) (rows : Rows) (factors numbers more dens sizes : List ℤ) (n : ℕ) (least : LeastRow) → n < length dens → n < length sizes → AreDone step rows factors numbers dens sizes n → Leaves step n numbers more → IsDoneRow step rows factors more n least → AreDone step rows factors more (set dens n least.den) (set sizes n least.size) (n + 1)
AreDone-more step rows factors numbers more dens sizes n least a b h l done = record {
  at = λ i c.
      elim (cases_eq i n) [
        | inl same ↦
            subst (λ k. IsDoneRow step rows factors more k (record { den = number_at (set dens n least.den) k; size = number_at (set sizes n least.size) k })) (sym same)
            (subst (λ x. IsDoneRow step rows factors more n (record { den = x; size = number_at (set sizes n least.size) n })) (sym (get_or-set_same dens n least.den (pos 0) a))
            (subst (λ x. IsDoneRow step rows factors more n (record { den = least.den; size = x })) (sym (get_or-set_same sizes n least.size (pos 0) b)) done))
        | inr o ↦
            subst (λ x. IsDoneRow step rows factors more i (record { den = x; size = number_at (set sizes n least.size) i })) (sym (get_or-set_other dens n i least.den (pos 0) o))
            (subst (λ x. IsDoneRow step rows factors more i (record { den = number_at dens i; size = x })) (sym (get_or-set_other sizes n i least.size (pos 0) o))
            (let old = h.at i (omega arith) in
            record {
              made = IsMadeRow-same step rows i _ (number_in step numbers i) (number_in step more i) (λ s d. l.others i s o d) old.made;
              restorable = CanBeRestored-same step rows factors i _ (number_in step numbers i) (number_in step more i) (λ s d. l.others i s o d) old.restorable;
            }))
      ];
}

-- ---- the least common multiple of the rows' denominators

pub IsRowsMultiple-none : (step : Step) (rows : Rows) → IsRowsMultiple step rows 0 (pos 1)
IsRowsMultiple-none step rows = record {
  dens = λ _. pos 1;
  table = λ _ _. pos 1;
  new = λ i b. absurd (omega arith);
  multiple = IsLeastMultiple-none (λ _. pos 1);
  size = lit< tt;
}

-- one more row
pub IsRowsMultiple-more : (step : Step) (rows : Rows) (n : ℕ) (d den e : ℤ) (f : ℕ → ℤ) → IsRowsMultiple step rows n d → IsNewRow step (kept_in step rows) n den f → IsMultipleOfTwo d den e → unsigned_abs e < 2 ^ 126 → IsRowsMultiple step rows (n + 1) e
IsRowsMultiple-more step rows n d den e f h new m small = record {
  dens = dens;
  table = table;
  new = λ i b.
      elim (cases_eq i n) [
        | inl same ↦
            subst (λ k. IsNewRow step (kept_in step rows) k (dens k) (table k)) (sym same)
            (subst (λ x. IsNewRow step (kept_in step rows) n x (table n)) (sym den_here) (subst (IsNewRow step (kept_in step rows) n den) (sym row_here) new))
        | inr o ↦ subst (λ x. IsNewRow step (kept_in step rows) i x (table i)) (sym (den_other i o)) (subst (IsNewRow step (kept_in step rows) i (h.dens i)) (sym (row_other i o)) (h.new i (omega arith)))
      ];
  multiple = IsLeastMultiple-more n dens d e (IsLeastMultiple-same n h.dens dens d (λ k b. den_other k (omega arith)) h.multiple) (subst (λ x. IsMultipleOfTwo d x e) (sym den_here) m);
  size = small;
}
  where
    dens : ℕ → ℤ
    dens i = if i == n then den else h.dens i

    table : ℕ → ℕ → ℤ
    table i = if i == n then f else h.table i

    den_here : dens n ≡ den
    den_here = rw (eq-eqb n n refl) refl

    row_here : table n ≡ f
    row_here = rw (eq-eqb n n refl) refl

    den_other : (i : ℕ) → i ≢ n → dens i ≡ h.dens i
    den_other i o = rw (ne_eqb i n o) refl

    row_other : (i : ℕ) → i ≢ n → table i ≡ h.table i
    row_other i o = rw (ne_eqb i n o) refl

-- the multiple so far and the denominator of the next row have a common multiple
pub rows_room : (step : Step) (rows : Rows) (n : ℕ) (d den : ℤ) (f : ℕ → ℤ) → IsRowStep step rows → IsRowsMultiple step rows n d → IsNewRow step (kept_in step rows) n den f → (x : ℤ) × (unsigned_abs x < 2 ^ 126) × (pos 0 <ℤ x) × Divides d x × Divides den x
rows_room step rows n d den f h m new =
    let t = h.pivot.table in (
      step.den *ℤ step.pivot,
      product_small step.den step.pivot t.den_size t.pivot_size,
      positive-*ℤ step.den step.pivot t.den_positive t.pivot_positive,
      m.multiple.least (step.den *ℤ step.pivot) (λ k b. common_multiple step (kept_in step rows) k (m.dens k) (m.table k) (m.new k b)),
      common_multiple step (kept_in step rows) n den f new,
    )

-- one more row is written
pub AreFilledBy-more : (step : Step) (rows : Rows) (factors numbers more dens sizes : List ℤ) (n : ℕ) (least : LeastRow) (d e : ℤ) → n < length dens → n < length sizes → AreFilledBy step rows factors numbers dens sizes n d → Leaves step n numbers more → IsDoneRow step rows factors more n least → IsMultipleOfTwo d least.den e → AreFilledBy step rows factors more (set dens n least.den) (set sizes n least.size) (n + 1) e
AreFilledBy-more step rows factors numbers more dens sizes n least d e a b h l done m = record {
  done = AreDone-more step rows factors numbers more dens sizes n least a b h.done l done;
  multiple = IsLeastMultiple-more n (number_at (set dens n least.den)) d e
      (IsLeastMultiple-same n (number_at dens) (number_at (set dens n least.den)) d (λ k c. get_or-set_other dens n k least.den (pos 0) (omega arith)) h.multiple)
      (subst (λ x. IsMultipleOfTwo d x e) (sym (get_or-set_same dens n least.den (pos 0) a)) m);
}

pub AreFilledBy-none : (step : Step) (rows : Rows) (factors numbers dens sizes : List ℤ) → AreFilledBy step rows factors numbers dens sizes 0 (pos 1)
AreFilledBy-none step rows factors numbers dens sizes = record { done = AreDone-none step rows factors numbers dens sizes; multiple = IsLeastMultiple-none (number_at dens) }

-- a later row is written in vain
pub AreFilledBy-left : (step : Step) (rows : Rows) (factors numbers more dens sizes : List ℤ) (n : ℕ) (den : ℤ) → AreFilledBy step rows factors numbers dens sizes n den → Leaves step n numbers more → AreFilledBy step rows factors more dens sizes n den
AreFilledBy-left step rows factors numbers more dens sizes n den h l = record {
  done = record {
    at = λ i b.
        let old = h.done.at i b in
        let same : (s : ℕ) → s < step.columns + 1 → number_in step more i s ≡ number_in step numbers i s = λ s d. l.others i s (λ e. omega arith) d in
        record {
          made = IsMadeRow-same step rows i _ (number_in step numbers i) (number_in step more i) same old.made;
          restorable = CanBeRestored-same step rows factors i _ (number_in step numbers i) (number_in step more i) same old.restorable;
        };
  };
  multiple = h.multiple;
}

-- the rows that are written have a least common multiple of their denominators
pub IsRowsMultiple-filled : (step : Step) (rows : Rows) (factors numbers dens sizes : List ℤ) (n : ℕ) (den : ℤ) → AreFilledBy step rows factors numbers dens sizes n den → unsigned_abs den < 2 ^ 126 → IsRowsMultiple step rows n den
IsRowsMultiple-filled step rows factors numbers dens sizes n den h small = record {
  dens = number_at dens;
  table = number_in step numbers;
  new = λ i b. (h.done.at i b).made.new;
  multiple = h.multiple;
  size = small;
}

-- the numbers of a row are no larger than its size
pub row_within : (step : Step) (rows : Rows) (i : ℕ) (own : List ℤ) → IsRowStep step rows → i < step.rows + 2 → IsOwnRow rows i own → AllWithin (unsigned_abs (size_of rows i)) own
row_within step rows i own h b o = record {
  at = λ k l. let inside : k < rows.width = omega (arith, l, o.long) in subst (IsWithin (unsigned_abs (size_of rows i))) (sym (o.numbers k inside)) ((h.table.sizes i b).bound k inside);
}
