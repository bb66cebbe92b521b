-- What is read of a dictionary whose kept numbers stand in rows over denominators of their own.
use Rattle.std.proofs.Common.{◌≡◌, ℕ, ◌+◌, ◌*◌, ◌^◌, ◌<◌, ◌≤◌, ◌==◌, ◌⊎◌, Bool, true, false, if◌then◌else◌, List, length, ℤ, pos, ◌*ℤ◌, ◌<ℤ◌, ◌≤ℤ◌, unsigned_abs, refl, sym, ap, ◌∙◌, subst, inl, inr, arith}
use Rattle.std.proofs.lemmas.Int.{ints, unsigned_abs-mul}
use Rattle.md_num.specs.Limits.{limit_of}
use Rattle.md_math.specs.Lists.{list_to, number_at}
use Rattle.md_math.specs.Sizes.{AllWithin, IsWithin}
use Rattle.md_math.proofs.Order.{nonneg-*ℤ}
use Rattle.md_math.proofs.SizeLaws.{AllWithin-number_at, IsWithin-wider, IsWithin-zero}
use Rattle.md_lp.specs.Program.{Program, row_count}
use Rattle.md_dict.specs.declared.rows.Rows.{Rows}
use Rattle.md_dict.specs.Condensed.{Condensed, kept_number, IsGreatestSize, IsShapedDictionary}
use Rattle.md_dict.specs.FirstTable.{column_count}
use Rattle.md_dict.specs.Rows.{own_den, own_number, share_of, size_of, kept_of, HasRows}
use Rattle.md_dict.specs.Start.{first_value}
use Rattle.md_dict.proofs.Exchange.{limit_le}
use Rattle.md_dict.proofs.FirstLaws.{first_value_is}
use Rattle.md_dict.proofs.Readers.{IsGreatestSize-found}
use Rattle.md_dict.proofs.RowLaws.{AllWithin-kept_of, kept_at, positive_share, within_by_size}
use Rattle.md_dict.proofs.Writing.{place_inside}

-- a number of the rows stands in their list, and times its share it is a kept number, within the limit
pub record IsRowNumber (d : Condensed) (t : Rows) (i s : ℕ) : Type 0 where
  pub inside : i * t.width + s < length t.numbers.items
  pub value : share_of t i *ℤ own_number t i s ≡ kept_number d i s
  pub size : IsWithin (limit_of d.bits) (kept_number d i s)

pub IsRowNumber-of : (d : Condensed) (t : Rows) (i s : ℕ) → IsShapedDictionary d → d.kept ≡ kept_of (d.rows + 2) t → HasRows d.rows d.columns d.den t → i < d.rows + 2 → s < d.columns + 1 → IsRowNumber d t i s
IsRowNumber-of d t i s h k r a b =
    let place : s < t.width = subst (λ w. s < w) (sym r.width) b in
    record {
      inside = omega (arith, place_inside t.width i s (d.rows + 2) place a, r.table.numbers_length);
      value = sym (ap (λ w. number_at d.kept (i * w + s)) (sym r.width) ∙ ap (λ xs. number_at xs (i * t.width + s)) k ∙ kept_at (d.rows + 2) i s t a place);
      size = AllWithin-number_at (limit_of d.bits) d.kept (i * (d.columns + 1) + s) h.kept_size;
    }

-- the first value, where the kept numbers are those of a list
pub first_value_by : (p : Program) (width rows columns : ℕ) (order seat : List ℕ) (kept numbers : List ℤ) → kept ≡ numbers → rows ≡ row_count p → columns ≡ column_count p → order ≡ list_to (columns + rows) (λ k. k) → seat ≡ list_to (columns + rows) (λ k. k) → record { rows = rows; columns = columns; bits = width; den = pos 1; order = order; seat = seat; kept = kept } ≡ first_value p width numbers
first_value_by p width rows columns order seat kept numbers k e f g h =
    (λ i. record { rows = rows; columns = columns; bits = width; den = pos 1; order = order; seat = seat; kept = k i })
    ∙ first_value_is p width rows columns order seat numbers e f g h

-- ---- the greatest size

-- the size that the basic columns have, if there are any
pub record IsLeastSize (d : Condensed) (least : ℤ) : Type 0 where
  pub nonneg : pos 0 ≤ℤ least
  pub small : IsWithin (2 ^ 62) least
  pub size : unsigned_abs least ≡ (if d.rows == 0 then 0 else unsigned_abs d.den)

pub IsLeastSize-of : (d : Condensed) (least : ℤ) → IsShapedDictionary d → least ≡ (if d.rows == 0 then pos 0 else d.den) → IsLeastSize d least
IsLeastSize-of d least h e =
    subst (IsLeastSize d) (sym e) (record { nonneg = nonneg (d.rows == 0); small = small (d.rows == 0); size = size (d.rows == 0) })
  where
    nonneg : (none : Bool) → pos 0 ≤ℤ (if none then pos 0 else d.den)
    nonneg true = omega (arith, ints)
    nonneg false = omega (arith, ints, h.positive)

    small : (none : Bool) → IsWithin (2 ^ 62) (if none then pos 0 else d.den)
    small true = IsWithin-zero (2 ^ 62)
    small false = IsWithin-wider (limit_of d.bits) (2 ^ 62) d.den (limit_le d.bits h.most_bits) h.den_size

    size : (none : Bool) → unsigned_abs (if none then pos 0 else d.den) ≡ (if none then 0 else unsigned_abs d.den)
    size true = refl
    size false = refl

-- what the code finds: the greatest of that number and of the rows' sizes, each times its share
pub record IsGreatestProduct (t : Rows) (least size : ℤ) : Type 0 where
  pub least_in : least ≤ℤ size
  pub bound : (k : ℕ) → k < length t.sizes.items → (share_of t k *ℤ pos (unsigned_abs (size_of t k))) ≤ℤ size
  pub reached : (size ≡ least) ⊎ ((k : ℕ) × (k < length t.sizes.items) × (share_of t k *ℤ pos (unsigned_abs (size_of t k)) ≡ size))

-- a product with a positive share is within the size of what it does not exceed
product_within : (share x bound : ℤ) → pos 0 <ℤ share → (share *ℤ pos (unsigned_abs x)) ≤ℤ bound → IsWithin (unsigned_abs bound) (share *ℤ x)
product_within share x bound p l =
    let low : pos 0 ≤ℤ (share *ℤ pos (unsigned_abs x)) = nonneg-*ℤ share (pos (unsigned_abs x)) (omega (arith, ints, p)) (omega (arith, ints)) in
    let within : unsigned_abs (share *ℤ pos (unsigned_abs x)) ≤ unsigned_abs bound = omega (arith, ints, low, l) in
    record { within = omega (arith, within, unsigned_abs-mul share (pos (unsigned_abs x)), unsigned_abs-mul share x) }

-- it is the greatest size of an entry
pub IsGreatestSize-product : (d : Condensed) (t : Rows) (least size : ℤ) → IsShapedDictionary d → d.kept ≡ kept_of (d.rows + 2) t → HasRows d.rows d.columns d.den t → IsLeastSize d least → IsGreatestProduct t least size → IsGreatestSize d (unsigned_abs size)
IsGreatestSize-product d t least size h k r l g = IsGreatestSize-found d (unsigned_abs least) (unsigned_abs size) h (record {
  kept = λ i a. (AllWithin-number_at (unsigned_abs size) d.kept i all).within;
  least_in = omega (arith, ints, l.nonneg, g.least_in);
  least_is = l.size;
  reached = elim g.reached [
    | inl e ↦ inl (ap unsigned_abs e)
    | inr (i, a, e) ↦ by_row i (omega (arith, a, r.table.sizes_length)) e
  ];
})
  where
    positive : (i : ℕ) → i < d.rows + 2 → pos 0 <ℤ share_of t i
    positive i a = positive_share (share_of t i) (own_den t i) d.den (r.table.shared i a) h.positive (r.table.least i a).positive

    all : AllWithin (unsigned_abs size) d.kept
    all = subst (AllWithin (unsigned_abs size)) (sym k) (AllWithin-kept_of (unsigned_abs size) (d.rows + 2) t (λ i s a b.
        within_by_size (unsigned_abs size) t.width (own_number t i) (size_of t i) (share_of t i) (r.table.sizes i a)
        (product_within (share_of t i) (size_of t i) size (positive i a) (g.bound i (omega (arith, a, r.table.sizes_length)))) s b))

    by_row : (i : ℕ) → i < d.rows + 2 → share_of t i *ℤ pos (unsigned_abs (size_of t i)) ≡ size → (unsigned_abs size ≡ unsigned_abs least) ⊎ ((n : ℕ) × (n < length d.kept) × (unsigned_abs (number_at d.kept n) ≡ unsigned_abs size))
    by_row i a e =
        let product : unsigned_abs (share_of t i) * unsigned_abs (size_of t i) ≡ unsigned_abs size = sym (unsigned_abs-mul (share_of t i) (pos (unsigned_abs (size_of t i)))) ∙ ap unsigned_abs e in
        elim (r.table.sizes i a).reached [
          | inl z ↦
              let none : unsigned_abs size ≡ 0 = sym product ∙ ap (λ x. unsigned_abs (share_of t i) * unsigned_abs x) z ∙ (omega arith) in
              inl (omega (arith, ints, none, l.nonneg, g.least_in))
          | inr (s, b, f) ↦
              let place : s < d.columns + 1 = subst (λ w. s < w) r.width b in
              let n : IsRowNumber d t i s = IsRowNumber-of d t i s h k r a place in
              inr (
                i * (d.columns + 1) + s,
                omega (arith, place_inside (d.columns + 1) i s (d.rows + 2) place a, h.kept_length),
                sym (ap unsigned_abs n.value) ∙ unsigned_abs-mul (share_of t i) (own_number t i s) ∙ ap (λ m. unsigned_abs (share_of t i) * m) f ∙ product,
              )
        ]
