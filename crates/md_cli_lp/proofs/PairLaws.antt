-- The pairs of a row, term by term.
use Rattle.std.proofs.Common.{◌≡◌, ◌≢◌, ℕ, zero, suc, ◌+◌, ◌<◌, ◌≤◌, ◌==◌, ◌^◌, ℤ, to_z, of_z, pos, ◌+ℤ◌, List, [], ◌∷◌, ◌++◌, length, take, get_or, unsigned_abs, if◌then◌else◌, refl, sym, ap, ◌∙◌, inl, inr, arith, append-nil, eq-eqb, ne_eqb, get_or-take, length-take-le}
use Rattle.std.proofs.lemmas.List.{take_more}
use Rattle.std.proofs.lemmas.Bool.{cases_eq}
use Rattle.std.proofs.lemmas.Int.{ints, to_z-of_z, fits_signed_from_abs}
use mir.Syntax.{w128}
use Rattle.md_math.specs.Sizes.{IsWithin}
use Rattle.md_math.proofs.Builders.{up_to-same, up_to-more}
use Rattle.md_math.proofs.Ring.{linear}
use Rattle.md_lp.specs.Program.{value_of}
use Rattle.md_lp.specs.Shape.{HasPlaces, column_in}
use Rattle.md_lp.specs.declared.term.Term.{Term}
use Rattle.md_lp.proofs.SparseRows.{value_of-absent}
use Rattle.md_num.specs.WholeText.{text_of}
use Rattle.md_cli_lp.specs.ProgramTexts.{pair_of, pair_at, pairs_of}

-- ---- pairs

-- a pair is decided by the number
pair_at-same : (f g : ℕ → ℤ) (j : ℕ) → f j ≡ g j → pair_at f j ≡ pair_at g j
pair_at-same f g j e = ap (pair_of j) e

pair_at-zero : (f : ℕ → ℤ) (j : ℕ) → f j ≡ pos 0 → pair_at f j ≡ []
pair_at-zero f j e = ap (pair_of j) e

pub pairs_of-same : (n : ℕ) (f g : ℕ → ℤ) → ((j : ℕ) → j < n → f j ≡ g j) → pairs_of n f ≡ pairs_of n g
pairs_of-same n f g h = up_to-same n (pair_at f) (pair_at g) (λ j b. pair_at-same f g j (h j b))

-- columns with 0 at the end leave nothing
pub pairs_of-shorter : (n m : ℕ) (f : ℕ → ℤ) → m ≤ n → ((j : ℕ) → m ≤ j → j < n → f j ≡ pos 0) → pairs_of n f ≡ pairs_of m f
pairs_of-shorter zero m f l h = ap (λ k. pairs_of k f) (let e : 0 ≡ m = omega arith in e)
pairs_of-shorter (suc n) m f l h =
    elim (cases_eq m (suc n)) [
      | inl same ↦ ap (λ k. pairs_of k f) (sym same)
      | inr o ↦
          ap (λ xs. pairs_of n f ++ xs) (pair_at-zero f n (h n (omega arith) (omega arith)))
          ∙ append-nil (pairs_of n f)
          ∙ pairs_of-shorter n m f (omega arith) (λ j a b. h j a (omega arith))
    ]

-- ---- terms

abbrev pub none : Term
none = record { column = 0; value = pos 0 }

value_of-push : (terms : List Term) (t : Term) (j : ℕ) → value_of (terms ++ t ∷ []) j ≡ value_of terms j +ℤ (if t.column == j then t.value else pos 0)
value_of-push [] t j = omega (arith, linear)
value_of-push (first ∷ terms) t j = omega (arith, linear, value_of-push terms t j)

-- the terms before a place stand at lower columns
value_of-before : (columns : ℕ) (terms : List Term) (k j : ℕ) → HasPlaces columns terms → k < length terms → column_in terms k ≤ j → value_of (take k terms) j ≡ pos 0
value_of-before columns terms k j h b l =
    value_of-absent (take k terms) j (λ i a e.
    let inside : i < k = omega (arith, length-take-le k terms (omega arith)) in
    let same : column_in (take k terms) i ≡ column_in terms i = ap (λ (t : Term). t.column) (get_or-take k terms i none inside) in
    let below : column_in terms i < column_in terms k = h.order.ascending i k inside b in
    absurd (omega (arith, same, below, e)))

value_of-take : (terms : List Term) (k j : ℕ) → k < length terms → value_of (take (k + 1) terms) j ≡ value_of (take k terms) j +ℤ (if column_in terms k == j then (get_or terms k none).value else pos 0)
value_of-take terms k j b = ap (λ xs. value_of xs j) (take_more terms k none b) ∙ value_of-push (take k terms) (get_or terms k none) j

-- the value at the column of the term at a place
pub value_of-here : (columns : ℕ) (terms : List Term) (k : ℕ) → HasPlaces columns terms → k < length terms → value_of (take (k + 1) terms) (column_in terms k) ≡ (get_or terms k none).value
value_of-here columns terms k h b =
    let before : value_of (take k terms) (column_in terms k) ≡ pos 0 = value_of-before columns terms k (column_in terms k) h b (omega arith) in
    value_of-take terms k (column_in terms k) b ∙ (rw (before, eq-eqb (column_in terms k) (column_in terms k) refl) (omega (arith, linear)))

-- and at another one
value_of-beside : (terms : List Term) (k j : ℕ) → k < length terms → column_in terms k ≢ j → value_of (take (k + 1) terms) j ≡ value_of (take k terms) j
value_of-beside terms k j b o = value_of-take terms k j b ∙ (rw (ne_eqb (column_in terms k) j o) (omega (arith, linear)))

-- one term more adds its pair
pub pairs_of-more : (columns : ℕ) (terms : List Term) (k : ℕ) → HasPlaces columns terms → k < length terms → pairs_of columns (value_of (take (k + 1) terms)) ≡ pairs_of columns (value_of (take k terms)) ++ pair_at (value_of (take (k + 1) terms)) (column_in terms k)
pairs_of-more columns terms k h b =
    let c = column_in terms k in
    let inside : c < columns = h.below k b in
    let old = value_of (take k terms) in
    let new = value_of (take (k + 1) terms) in
    let shorter : pairs_of columns new ≡ pairs_of (c + 1) new =
    pairs_of-shorter columns (c + 1) new (omega arith) (λ j l a. value_of-beside terms k j b (λ e. omega arith) ∙ value_of-before columns terms k j h b (omega arith)) in
    let same : pairs_of c new ≡ pairs_of c old = pairs_of-same c new old (λ j a. value_of-beside terms k j b (λ e. omega arith)) in
    let short : pairs_of columns old ≡ pairs_of c old = pairs_of-shorter columns c old (omega arith) (λ j l a. value_of-before columns terms k j h b l) in
    shorter ∙ up_to-more c (pair_at new) ∙ ap (λ xs. xs ++ pair_at new c) (same ∙ sym short)

-- no term leaves no pair
pub pairs_of-none : (columns : ℕ) → pairs_of columns (value_of []) ≡ []
pairs_of-none columns = pairs_of-shorter columns 0 (value_of []) (omega arith) (λ j a b. refl)

-- a number that is not 0 has its pair
pub pair_of-number : (j : ℕ) (z : ℤ) → z ≢ pos 0 → pair_of j z ≡ text_of (pos j) ∷ text_of z ∷ []
pair_of-number j z o = rw (ne_eqb (unsigned_abs z) 0 (λ q. o (zero_from z q))) refl
  where
    zero_from : (x : ℤ) → unsigned_abs x ≡ 0 → x ≡ pos 0
    zero_from x q = omega (arith, ints)

pub pair_of-zero : (j : ℕ) (z : ℤ) → z ≡ pos 0 → pair_of j z ≡ []
pair_of-zero j z e = ap (pair_of j) e

pub small_back : (z : ℤ) → IsWithin (2 ^ 44) z → to_z w128 (of_z w128 z) ≡ z
small_back z h = to_z-of_z w128 z (fits_signed_from_abs w128 z (omega (arith, h.within)))
