-- What a pivot reads of the rows as they were.
use Rattle.std.proofs.Common.{◌≡◌, ℕ, ◌+◌, ◌-◌, ◌*◌, ◌^◌, ◌<◌, ◌≤◌, false, List, ◌++◌, length, take, drop, Option, Some, None, IfNone, IfSome, ℤ, to_z, of_z, unsigned_abs, ap, ◌∙◌, subst, sym, inl, inr, arith}
use Rattle.std.proofs.lemmas.Bool.{cases_eq}
use Rattle.std.proofs.Math.Seq.{take-append_seam}
use mathlib.Core.Bool.{false≢true}
use mir.Syntax.{w128, w64}
use Rattle.md_math.specs.Lists.{number_at}
use Rattle.md_math.specs.Sizes.{IsWithin}
use Rattle.md_math.proofs.SizeLaws.{AllWithin-number_at}
use Rattle.md_dict.specs.Dictionary.{basic_value}
use Rattle.md_dict.specs.declared.step.Step.{Step}
use Rattle.md_dict.specs.declared.rows.Rows.{Rows}
use Rattle.md_dict.specs.declared.draft.Draft.{Draft}
use Rattle.md_dict.specs.declared.old_rows.OldRows.{OldRows}
use Rattle.md_dict_rows.specs.declared.combination.LeastRow.{LeastRow}
use Rattle.md_dict.specs.Step.{number_in, IsTable}
use Rattle.md_dict.specs.Fill.{Leaves}
use Rattle.md_dict.specs.Rows.{own_den, own_number, size_of}
use Rattle.md_dict.specs.RowStep.{stays_in, AreOldFrom, AreOldRows, CanBeTurnedBack, IsDoneRow, IsDraft, IsMadeRow, IsNoted, IsOwnRow, IsRowStep}
use Rattle.md_dict.proofs.Parts.{end_inside, in_part, length_part}
use Rattle.md_dict_division.proofs.Reading.{read_short, read_small}

-- a number that was read, of 62 bits
pub record IsRead (y x : ℤ) : Type 0 where
  pub value : x ≡ y
  pub size : IsWithin (2 ^ 62) x
  pub short : to_z w64 (of_z w64 x) ≡ x
  pub long : to_z w128 (of_z w128 x) ≡ x

is_read : (y x : ℤ) → IsWithin (2 ^ 62) y → x ≡ y → IsRead y x
is_read y x w e =
    let size : IsWithin (2 ^ 62) x = subst (IsWithin (2 ^ 62)) (sym e) w in
    record { value = e; size = size; short = read_short x size; long = read_small x size }

pub read_den : (step : Step) (rows : Rows) (old : OldRows) (i : ℕ) → AreOldRows step rows old → IsRead (own_den rows i) (number_at old.dens.now i)
read_den step rows old i h = is_read (own_den rows i) (number_at old.dens.now i) (AllWithin-number_at (2 ^ 62) rows.dens.items i h.step_is.table.dens_size) (ap (λ xs. number_at xs i) h.dens)

pub read_size : (step : Step) (rows : Rows) (old : OldRows) (i : ℕ) → AreOldRows step rows old → i < step.rows + 2 → IsRead (size_of rows i) (number_at old.sizes.now i)
read_size step rows old i h b = is_read (size_of rows i) (number_at old.sizes.now i) (h.step_is.table.sizes i b).small (ap (λ xs. number_at xs i) h.sizes)

pub read_factor : (step : Step) (rows : Rows) (old : OldRows) (i : ℕ) → AreOldRows step rows old → i < step.rows + 2 → IsRead (own_number rows i step.place) (number_at old.factors.now i)
read_factor step rows old i h b = is_read (own_number rows i step.place) (number_at old.factors.now i) (AllWithin-number_at (2 ^ 62) rows.numbers.items (i * rows.width + step.place) h.step_is.table.numbers_size) (h.factors i b)

-- the lists are as long as there are rows
pub dens_long : (step : Step) (rows : Rows) (old : OldRows) → AreOldRows step rows old → length old.dens.now ≡ step.rows + 2
dens_long step rows old h = ap length h.dens ∙ h.step_is.table.dens_length

pub sizes_long : (step : Step) (rows : Rows) (old : OldRows) → AreOldRows step rows old → length old.sizes.now ≡ step.rows + 2
sizes_long step rows old h = ap length h.sizes ∙ h.step_is.table.sizes_length

-- what the leaving column holds in a row, over the row's denominator, is no larger than that
pub record IsLeavingValue (step : Step) (rows : Rows) (i : ℕ) (x : ℤ) : Type 0 where
  pub value : x ≡ basic_value step.rows step.columns (own_den rows i) step.row step.leaving i
  pub size : IsWithin (2 ^ 62) x

pub leaving_value : (step : Step) (rows : Rows) (i : ℕ) (den from x : ℤ) → IsRead (own_den rows i) den → from ≡ to_z w64 (of_z w64 den) → x ≡ basic_value step.rows step.columns (to_z w128 (of_z w128 from)) step.row step.leaving i → unsigned_abs x ≤ unsigned_abs (to_z w128 (of_z w128 from)) → IsLeavingValue step rows i x
leaving_value step rows i den from x r e value size =
    let same : from ≡ den = e ∙ r.short in
    let told = rw (same, r.long, r.value) at value in
    let small = rw (same, r.long) at size in
    record { value = told; size = record { within = (let within = r.size.within in omega (arith, small, within)) } }

-- ---- copies of a row

-- a copy of a row that is not written yet has the old numbers
pub own_of_copy : (step : Step) (rows : Rows) (numbers own : List ℤ) (i : ℕ) → IsRowStep step rows → AreOldFrom step rows numbers i → i < step.rows + 2 → length own ≡ step.columns + 1 → ((s : ℕ) → s < step.columns + 1 → number_at own s ≡ number_in step numbers i s) → IsOwnRow rows i own
own_of_copy step rows numbers own i h from b long same = record {
  long = long ∙ sym h.width;
  numbers = λ s c. let inside : s < step.columns + 1 = omega (arith, c, h.width) in same s inside ∙ from.at i s (omega arith) b inside;
}

-- so has the part of the list where it stands
pub own_of_part : (step : Step) (rows : Rows) (numbers : List ℤ) (i from to : ℕ) → IsRowStep step rows → IsTable step numbers → AreOldFrom step rows numbers i → i < step.rows + 2 → from ≡ i * (step.columns + 1) → to ≡ i * (step.columns + 1) + (step.columns + 1) → IsOwnRow rows i (take (to - from) (drop from numbers))
own_of_part step rows numbers i from to h table old b start end =
    let inside : i * (step.columns + 1) + (step.columns + 1) ≤ length numbers = omega (arith, end_inside (step.columns + 1) i (step.columns + 1) (step.rows + 2) b (omega arith), table.kept_length) in
    own_of_copy step rows numbers (take (to - from) (drop from numbers)) i h old b
    (length_part numbers from to (omega (arith, start, end)) (omega (arith, end, inside)) ∙ (let same : to - from ≡ step.columns + 1 = omega (arith, start, end) in same))
    (λ s c. in_part numbers from to s (omega (arith, c, start, end)) ∙ ap (λ k. number_at numbers (k + s)) start)

-- ---- rows that are not written yet

pub AreOldFrom-next : (step : Step) (rows : Rows) (numbers more : List ℤ) (n : ℕ) → AreOldFrom step rows numbers n → Leaves step n numbers more → AreOldFrom step rows more (n + 1)
AreOldFrom-next step rows numbers more n h l = record { at = λ i s a b c. l.others i s (λ e. omega arith) c ∙ h.at i s (omega arith) b c }

pub AreOldFrom-later : (step : Step) (rows : Rows) (numbers : List ℤ) (n k : ℕ) → n ≤ k → AreOldFrom step rows numbers n → AreOldFrom step rows numbers k
AreOldFrom-later step rows numbers n k a h = record { at = λ i s b c d. h.at i s (omega arith) c d }

-- a row that is as it was
pub AreOldFrom-same : (step : Step) (rows : Rows) (numbers more : List ℤ) (n : ℕ) → AreOldFrom step rows numbers n → Leaves step n numbers more → ((s : ℕ) → s < step.columns + 1 → number_in step more n s ≡ number_in step numbers n s) → AreOldFrom step rows more n
AreOldFrom-same step rows numbers more n h l same = record {
  at = λ i s a b c.
      elim (cases_eq i n) [
        | inl e ↦ subst (λ k. number_in step more k s ≡ own_number rows k s) (sym e) (same s c ∙ h.at n s (omega arith) (subst (λ k. k < step.rows + 2) e b) c)
        | inr o ↦ l.others i s o c ∙ h.at i s a b c
      ];
}

-- ---- a row that is written

pub if_none : {P : Type 0} → (r : Option LeastRow) → P → IfNone r P
if_none None p = p
if_none (Some least) p = tt

pub if_done : (step : Step) (rows : Rows) (factors numbers : List ℤ) (i : ℕ) (r : Option LeastRow) → stays_in step factors i ≡ false → IfSome r (λ least. IsMadeRow step rows i least (number_in step numbers i)) → IfSome r (λ least. CanBeTurnedBack step rows i least.den (number_in step numbers i)) → IfSome r (IsDoneRow step rows factors numbers i)
if_done step rows factors numbers i None e made back = tt
if_done step rows factors numbers i (Some least) e made back = record {
  made = made;
  restorable = record {
    positive = made.new.least.positive;
    size = made.den_size;
    kept = λ t. absurd (false≢true (sym e ∙ t));
    back = λ _ _. back;
  };
}

-- what is read of 62 bits has less than 126
pub wide_enough : (x : ℤ) → IsWithin (2 ^ 62) x → unsigned_abs x < 2 ^ 126
wide_enough x h = let within = h.within in omega (arith, within)

-- ---- the pivot row

-- a number of the pivot row
pub pivot_number : (step : Step) (rows : Rows) (old : OldRows) (s : ℕ) → AreOldRows step rows old → s < step.columns + 1 → IsRead (own_number rows step.row s) (number_at old.pivot_row.now s)
pivot_number step rows old s h b = is_read (own_number rows step.row s) (number_at old.pivot_row.now s) (AllWithin-number_at (2 ^ 62) rows.numbers.items (step.row * rows.width + s) h.step_is.table.numbers_size) (h.pivot_row.numbers s (omega (arith, b, h.step_is.width)))

-- an own number has 62 bits
pub own_within : (step : Step) (rows : Rows) (old : OldRows) (i s : ℕ) → AreOldRows step rows old → IsWithin (2 ^ 62) (own_number rows i s)
own_within step rows old i s h = AllWithin-number_at (2 ^ 62) rows.numbers.items (i * rows.width + s) h.step_is.table.numbers_size

-- ---- what a pivot notes

-- what is read by the notes is what was there
pub old_rows_of : (step : Step) (rows now : Rows) (draft : Draft) (old : OldRows) → IsRowStep step rows → IsNoted step rows draft → IsDraft (step.rows + 2) (step.columns + 1) draft → now ≡ record rows { numbers = now.numbers } → old.dens.now ≡ now.dens.items → old.sizes.now ≡ now.sizes.items → old.pivot_row.now ≡ draft.pivot_row.items → old.factors.now ≡ draft.factors.items → old.zeros.now ≡ draft.zeros.items → AreOldRows step rows old
old_rows_of step rows now draft old h noted room same dens sizes pivot_row factors zeros = record {
  step_is = h;
  dens = dens ∙ ap (λ r. r.dens.items) same;
  sizes = sizes ∙ ap (λ r. r.sizes.items) same;
  pivot_row = subst (IsOwnRow rows step.row) (sym pivot_row) noted.pivot_row;
  factors_length = ap length factors ∙ room.factors_length;
  factors = λ i b. ap (λ xs. number_at xs i) factors ∙ noted.factors i b;
  zeros = zeros ∙ room.zeros;
}

-- before the first row is written all are the old ones
pub AreOldFrom-all : (step : Step) (rows : Rows) → IsRowStep step rows → AreOldFrom step rows rows.numbers.items 0
AreOldFrom-all step rows h = record { at = λ i s a b c. ap (λ w. number_at rows.numbers.items (i * w + s)) (sym h.width) }

-- the first part of two, by its length
pub first_part : (xs ys : List ℤ) (n : ℕ) → n ≡ length xs → take n (xs ++ ys) ≡ xs
first_part xs ys n e = rw e (take-append_seam xs ys)
