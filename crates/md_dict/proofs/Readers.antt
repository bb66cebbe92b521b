-- What the readers of a dictionary say: each column that is not basic is kept once, the greatest size, and that a basis has one dictionary.
use Rattle.std.proofs.Common.{◌≡◌, ℕ, ◌+◌, ◌-◌, ◌*◌, ◌/◌, ◌%◌, ◌<◌, ◌≤◌, ◌⊎◌, ◌==◌, ◌&&◌, nat_le, Bool, true, false, if◌then◌else◌, length, slice_index, ℤ, pos, neg_ℤ, unsigned_abs, refl, sym, ap, ◌∙◌, subst, inl, inr, arith, mod-lt, mul-le-mul_right, eq-eqb, ne_eqb, lt-ltb, le-ltb}
use Rattle.std.proofs.lemmas.Bool.{cases_lt}
use Rattle.std.proofs.Math.Nat as NatL
use Rattle.md_math.specs.Lists.{number_at}
use Rattle.md_math.specs.Sizes.{IsWithin}
use Rattle.md_math.proofs.SizeLaws.{IsWithin-neg_ℤ, IsWithin-zero}
use Rattle.md_lp.specs.Program.{Program}
use Rattle.md_dict.specs.Dictionary.{basic_value, IsDictionary}
use Rattle.md_dict.specs.FirstTable.{first_entry}
use Rattle.md_dict.specs.Condensed.{Condensed, basic_at, kept_column_at, kept_number, place_column, entry_at, IsShapedDictionary, Holds, KeepsEachOnce, IsGreatestSize}
use Rattle.md_dict.proofs.RawPivot.{basic_own}
use Rattle.md_dict.proofs.Writing.{place_inside}
use Rattle.md_dict.proofs.Exchange.{entry-kept, entry-basic, entry-right, leaving_seat, leaving_in}
use Rattle.md_dict.proofs.Uniqueness.{same_dens, same_entries}

pub KeepsEachOnce-shaped : (d : Condensed) → IsShapedDictionary d → KeepsEachOnce d
KeepsEachOnce-shaped d h = record {
  not_basic = λ s i a b e.
      let seat : slice_index d.seat (kept_column_at d s) ≡ s = h.places.seat_of_order s (omega arith) in
      let basic : slice_index d.seat (basic_at d i) ≡ d.columns + i = leaving_seat d i h.places b in
      let same : slice_index d.seat (kept_column_at d s) ≡ slice_index d.seat (basic_at d i) = ap (λ j. slice_index d.seat j) e in
      omega arith;
  once = λ s t a b e. sym (h.places.seat_of_order s (omega arith)) ∙ ap (λ j. slice_index d.seat j) e ∙ h.places.seat_of_order t (omega arith);
  each = λ j a o.
      elim (cases_lt (slice_index d.seat j) d.columns) [
        | inl l ↦ (slice_index d.seat j, l, h.places.order_of_seat j a)
        | inr l ↦
            let inside : slice_index d.seat j < d.columns + d.rows = h.places.seat_in j a in
            let seat : d.columns + (slice_index d.seat j - d.columns) ≡ slice_index d.seat j = omega arith in
            absurd (o (slice_index d.seat j - d.columns) (omega arith) (ap (λ s. slice_index d.order s) seat ∙ h.places.order_of_seat j a))
      ];
}

-- the number at a kept place is the entry at the column that stands there
pub entry-place : (d : Condensed) (r s : ℕ) → IsShapedDictionary d → s < d.columns + 1 → entry_at d r (place_column d s) ≡ kept_number d r s
entry-place d r s h a =
    elim (cases_lt s d.columns) [
      | inl l ↦
          let seat : slice_index d.seat (kept_column_at d s) ≡ s = h.places.seat_of_order s (omega arith) in
          let inside : kept_column_at d s < d.columns + d.rows = h.places.order_in s (omega arith) in
          rw (lt-ltb s d.columns l) (entry-kept d r (kept_column_at d s) inside (omega arith) ∙ ap (λ t. kept_number d r t) seat)
      | inr l ↦
          let same : d.columns ≡ s = omega arith in
          rw (le-ltb s d.columns l) (entry-right d r (d.columns + d.rows) (omega arith) ∙ ap (λ t. kept_number d r t) same)
    ]

-- a size that bounds the kept numbers and the denominator bounds each entry
pub bound_of : (d : Condensed) (size : ℕ) → IsShapedDictionary d → ((k : ℕ) → k < length d.kept → unsigned_abs (number_at d.kept k) ≤ size) → (0 < d.rows → unsigned_abs d.den ≤ size) → (r j : ℕ) → r < d.rows + 2 → j < d.columns + d.rows + 1 → IsWithin size (entry_at d r j)
bound_of d size h k m r j a b =
    elim (cases_lt j (d.columns + d.rows)) [
      | inr l ↦ subst (IsWithin size) (sym (entry-right d r j l)) (at d.columns (omega arith))
      | inl l ↦
          elim (cases_lt (slice_index d.seat j) d.columns) [
            | inl s ↦ subst (IsWithin size) (sym (entry-kept d r j l s)) (at (slice_index d.seat j) (omega arith))
            | inr s ↦
                let inside : slice_index d.seat j < d.columns + d.rows = h.places.seat_in j l in
                subst (IsWithin size) (sym (entry-basic d r j l s)) (by_tests (r == slice_index d.seat j - d.columns) ((r == d.rows) && nat_le d.columns j) (record { within = m (omega arith) }))
          ]
    ]
  where
    at : (s : ℕ) → s < d.columns + 1 → IsWithin size (kept_number d r s)
    at s c = record { within = k (r * (d.columns + 1) + s) (omega (arith, place_inside (d.columns + 1) r s (d.rows + 2) c a, h.kept_length)) }

    by_tests : (own face : Bool) → IsWithin size d.den → IsWithin size (if own then d.den else (if face then neg_ℤ d.den else pos 0))
    by_tests true face w = w
    by_tests false true w = IsWithin-neg_ℤ size d.den w
    by_tests false false w = IsWithin-zero size

place_column-in : (d : Condensed) (s : ℕ) → IsShapedDictionary d → place_column d s < d.columns + d.rows + 1
place_column-in d s h =
    elim (cases_lt s d.columns) [
      | inl l ↦ rw (lt-ltb s d.columns l) (let inside : kept_column_at d s < d.columns + d.rows = h.places.order_in s (omega arith) in omega arith)
      | inr l ↦ rw (le-ltb s d.columns l) (omega arith)
    ]

-- each kept number is an entry
kept_entry : (d : Condensed) (size k : ℕ) → IsShapedDictionary d → ((r j : ℕ) → r < d.rows + 2 → j < d.columns + d.rows + 1 → IsWithin size (entry_at d r j)) → k < length d.kept → unsigned_abs (number_at d.kept k) ≡ size → IsGreatestSize d size
kept_entry d size k h b a e =
    let parts : k / (d.columns + 1) * (d.columns + 1) + k % (d.columns + 1) ≡ k = NatL.div-add-mod' k (d.columns + 1) in
    let place : k % (d.columns + 1) < d.columns + 1 = mod-lt k (omega arith) in
    let row : k / (d.columns + 1) < d.rows + 2 = row_in (omega (arith, h.kept_length)) parts in
    let number : unsigned_abs (kept_number d (k / (d.columns + 1)) (k % (d.columns + 1))) ≡ size = ap (λ i. unsigned_abs (number_at d.kept i)) parts ∙ e in
    record {
      bound = b;
      row = k / (d.columns + 1);
      column = place_column d (k % (d.columns + 1));
      row_in = row;
      column_in = place_column-in d (k % (d.columns + 1)) h;
      reached = ap unsigned_abs (entry-place d (k / (d.columns + 1)) (k % (d.columns + 1)) h place) ∙ number;
    }
  where
    row_in : k < (d.rows + 2) * (d.columns + 1) → k / (d.columns + 1) * (d.columns + 1) + k % (d.columns + 1) ≡ k → k / (d.columns + 1) < d.rows + 2
    row_in c q =
        elim (cases_lt (k / (d.columns + 1)) (d.rows + 2)) [
          | inl l ↦ l
          | inr l ↦ absurd (let m : (d.rows + 2) * (d.columns + 1) ≤ k / (d.columns + 1) * (d.columns + 1) = mul-le-mul_right (d.columns + 1) l in omega arith)
        ]

-- the denominator is an entry where there is a row
den_entry : (d : Condensed) (size : ℕ) → IsShapedDictionary d → ((r j : ℕ) → r < d.rows + 2 → j < d.columns + d.rows + 1 → IsWithin size (entry_at d r j)) → 0 < d.rows → unsigned_abs d.den ≡ size → IsGreatestSize d size
den_entry d size h b a e =
    let seat : slice_index d.seat (basic_at d 0) ≡ d.columns + 0 = leaving_seat d 0 h.places a in
    let inside : basic_at d 0 < d.columns + d.rows = leaving_in d 0 h.places a in
    let own : slice_index d.seat (basic_at d 0) - d.columns ≡ 0 = omega arith in
    record {
      bound = b;
      row = 0;
      column = basic_at d 0;
      row_in = omega arith;
      column_in = omega arith;
      reached = ap unsigned_abs (entry-basic d 0 (basic_at d 0) inside (omega arith) ∙ ap (λ i. basic_value d.rows d.columns d.den i (basic_at d 0) 0) own ∙ basic_own d.rows d.columns 0 (basic_at d 0) d.den) ∙ e;
    }

-- what the code finds: a bound of the kept numbers and of the denominator, where there is a row, that is one of them or 0
pub record IsSizeFound (d : Condensed) (least size : ℕ) : Type 0 where
  pub kept : (k : ℕ) → k < length d.kept → unsigned_abs (number_at d.kept k) ≤ size
  pub least_in : least ≤ size
  pub least_is : least ≡ (if d.rows == 0 then 0 else unsigned_abs d.den)
  pub reached : (size ≡ least) ⊎ ((k : ℕ) × (k < length d.kept) × (unsigned_abs (number_at d.kept k) ≡ size))

pub IsGreatestSize-found : (d : Condensed) (least size : ℕ) → IsShapedDictionary d → IsSizeFound d least size → IsGreatestSize d size
IsGreatestSize-found d least size h f = by_reached f.reached (cases_lt 0 d.rows)
  where
    den_is : 0 < d.rows → least ≡ unsigned_abs d.den
    den_is a = f.least_is ∙ (rw (ne_eqb d.rows 0 (λ e. omega arith)) refl)

    bound : (r j : ℕ) → r < d.rows + 2 → j < d.columns + d.rows + 1 → IsWithin size (entry_at d r j)
    bound = bound_of d size h f.kept (λ a. let e : least ≡ unsigned_abs d.den = den_is a in let l : least ≤ size = f.least_in in omega arith)

    by_reached : (size ≡ least) ⊎ ((k : ℕ) × (k < length d.kept) × (unsigned_abs (number_at d.kept k) ≡ size)) → (0 < d.rows) ⊎ (d.rows ≤ 0) → IsGreatestSize d size
    by_reached (inr (k, a, e)) _ = kept_entry d size k h bound a e
    by_reached (inl e) (inl a) = den_entry d size h bound a (sym (e ∙ den_is a))
    by_reached (inl e) (inr a) =
        let none : size ≡ 0 = e ∙ f.least_is ∙ (rw (eq-eqb d.rows 0 (omega arith)) refl) in
        let long : 0 < length d.kept = omega (arith, h.kept_length) in
        let small : unsigned_abs (number_at d.kept 0) ≤ size = f.kept 0 long in
        kept_entry d size 0 h bound long (omega arith)

-- a basis has at most one dictionary
pub only_den : (p : Program) (d : Condensed) → Holds p d → (den : ℤ) (e : ℕ → ℕ → ℤ) → IsDictionary d.rows d.columns (first_entry p) (basic_at d) den e → den ≡ d.den
only_den p d h den e q = same_dens d.rows d.columns (first_entry p) (basic_at d) den d.den e (entry_at d) q h.dictionary

pub only_entry : (p : Program) (d : Condensed) → Holds p d → (den : ℤ) (e : ℕ → ℕ → ℤ) → IsDictionary d.rows d.columns (first_entry p) (basic_at d) den e → (r j : ℕ) → r < d.rows + 2 → j < d.columns + d.rows + 1 → e r j ≡ entry_at d r j
only_entry p d h den e q r j a b = same_entries d.rows d.columns (first_entry p) (basic_at d) den d.den e (entry_at d) q h.dictionary r j a b
