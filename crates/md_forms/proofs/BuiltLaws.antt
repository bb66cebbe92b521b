-- How a program of forms grows.
use Rattle.std.proofs.Common.{◌≡◌, ◌≢◌, ℕ, zero, suc, ◌+◌, ◌<◌, ◌^◌, Bool, true, false, ℤ, pos, ◌*ℤ◌, List, [], ◌∷◌, ◌++◌, length, get_or, All, refl, sym, ap, ◌∙◌, subst, arith, append_assoc, length-append, inl, inr}
use Rattle.std.specs.Prelude.{◌==◌, if◌then◌else◌, slice_get, Some}
use Rattle.std.proofs.lemmas.Option.{none-some}
use Rattle.md_lp.specs.declared.row_kind.RowKind.TheVariants.{AtMost}
use Rattle.std.proofs.lemmas.Bool.{cases_Bool}
use Rattle.std.proofs.lemmas.List.{append-nil, length-map, get_or-map}
use Rattle.std.proofs.lemmas.List.Elements.{All-head, All-tail, All-from_get_or}
use Rattle.md_math.specs.Divisors.{Divides, IsCommonDivisor}
use Rattle.md_math.specs.Lists.{number_at, up_to}
use Rattle.md_math.proofs.Builders.{up_to-more, up_to-split}
use Rattle.md_math.proofs.Division.{Divides-zero, Divides-+ℤ}
use Rattle.md_math.proofs.Ring.{linear, *ℤ-zero, *ℤ-one}
use Rattle.md_math.specs.Sizes.{IsWithin}
use Rattle.md_forms.specs.Forms.{Form, unit, number_of}
use Rattle.md_lp.specs.declared.row_kind.RowKind.{RowKind}
use Rattle.md_lp.specs.declared.term.Term.{Term}
use Rattle.md_lp.specs.declared.lp_refusal.LpRefusal.{LpRefusal}
use Rattle.md_lp.specs.declared.lp_refusal.LpRefusal.TheVariants.{Index, Magnitude, TooManyRows, Memory}
use Rattle.md_lp.specs.Program.{Program, Row, row_count, value_of}
use Rattle.md_lp.specs.Shape.{HasPlaces, IsShapedRow, numbers_of, column_in}
use Rattle.md_lp.proofs.SparseRows.{no_term, share, All-below, dot-value_of, value_of-present}
use Rattle.md_lp.proofs.Dividing.{zero-Divides, left_of-times}
use Rattle.md_lp.proofs.ShapeLaws.{AllWithin-numbers_of}
use Rattle.md_lp.specs.Divided.{IsDivisorFor, IsDividedRow, AppendsDivided}
use Rattle.md_forms.specs.ProgramOf.{IsRowOf, AreRowsOf, HasCostOf, IsProgramOf, HasEachRow}
use Rattle.md_forms.specs.Built.{HasRoom, Extends, IsWritten}
use Rattle.md_forms.specs.Terms.{sum_at, AreTermsBelow}

-- ---- rows one by one

pub rows-append : (n : ℕ) (cs ds : List Form) (ps qs : List Row) → AreRowsOf n cs ps → AreRowsOf n ds qs → AreRowsOf n (cs ++ ds) (ps ++ qs)
rows-append n [] ds [] qs p q = q
rows-append n [] ds (row ∷ ps) qs p q = absurd p
rows-append n (c ∷ cs) ds [] qs p q = absurd p
rows-append n (c ∷ cs) ds (row ∷ ps) qs p q = (p.0, rows-append n cs ds ps qs p.1 q)

pub rows-length : (n : ℕ) (cs : List Form) (ps : List Row) → AreRowsOf n cs ps → length ps ≡ length cs
rows-length n [] [] p = refl
rows-length n [] (row ∷ ps) p = absurd p
rows-length n (c ∷ cs) [] p = absurd p
rows-length n (c ∷ cs) (row ∷ ps) p = ap suc (rows-length n cs ps p.1)

-- ---- growing

pub same_columns : (cs : List Form) (old new : Program) → Extends cs old new → new.columns ≡ old.columns
same_columns cs old new p = ap (λ (m : Program). m.columns) p.appended

pub extends-none : (p : Program) → Extends [] p p
extends-none p = record { added = []; are = tt; appended = ap (λ rows. record p { rows = rows }) (sym (append-nil p.rows)) }

pub extends-both : (cs ds : List Form) (old mid new : Program) → Extends cs old mid → Extends ds mid new → Extends (cs ++ ds) old new
extends-both cs ds old mid new p q = record {
  added = p.added ++ q.added;
  are = rows-append old.columns cs ds p.added q.added p.are (subst (λ n. AreRowsOf n ds q.added) (same_columns cs old mid p) q.are);
  appended =
      q.appended
      ∙ ap (λ (m : Program). record m { rows = m.rows ++ q.added }) p.appended
      ∙ ap (λ rows. record old { rows = rows }) (append_assoc old.rows p.added q.added);
}

pub extends-more : (k : ℕ) (f : ℕ → List Form) (old mid new : Program) → Extends (up_to k f) old mid → Extends (f k) mid new → Extends (up_to (k + 1) f) old new
extends-more k f old mid new p q = subst (λ cs. Extends cs old new) (sym (up_to-more k f)) (extends-both (up_to k f) (f k) old mid new p q)

-- ---- room

pub grown : (cs : List Form) (old new : Program) → Extends cs old new → row_count new ≡ row_count old + length cs
grown cs old new p =
    ap row_count p.appended ∙ length-append old.rows p.added ∙ ap (λ m. row_count old + m) (rows-length old.columns cs p.added p.are)

pub room-left : (cs ds : List Form) (old : Program) → HasRoom (cs ++ ds) old → HasRoom cs old
room-left cs ds old h = record { room = omega (arith, h.room, length-append cs ds) }

pub room-right : (cs ds : List Form) (old mid : Program) → HasRoom (cs ++ ds) old → Extends cs old mid → HasRoom ds mid
room-right cs ds old mid h p = record { room = omega (arith, h.room, length-append cs ds, grown cs old mid p) }

pub room-at : (count k : ℕ) (f : ℕ → List Form) (old mid : Program) → HasRoom (up_to count f) old → k < count → Extends (up_to k f) old mid → HasRoom (f k) mid
room-at count k f old mid h below p =
    let split = up_to-split count k f below in
    room-right (up_to k f) (f k) old mid (room-left (up_to k f ++ f k) split.0 old (subst (λ cs. HasRoom cs old) split.1 h)) p

-- ---- a row of terms as a row of all columns

-- what has the same common divisors is divided by the same number
divisor-as : (m n : ℕ) (f h : ℕ → ℤ) (g : ℤ) → ((d : ℤ) → IsCommonDivisor m f d → IsCommonDivisor n h d) → ((d : ℤ) → IsCommonDivisor n h d → IsCommonDivisor m f d)
    → IsDivisorFor m f g → IsDivisorFor n h g
divisor-as m n f h g to back (inl p) = inl (record { nonneg = p.0.nonneg; common = to g p.0.common; greatest = λ d c. p.0.greatest d (back d c) }, p.1)
divisor-as m n f h g to back (inr p) =
    let zero_divides : IsCommonDivisor n h (pos 0) = to (pos 0) (record { at = λ k b. subst (Divides (pos 0)) (sym (p.0.zero k b)) (Divides-zero (pos 0)) }) in
    inr (record { zero = λ k b. zero-Divides (h k) (zero_divides.at k b) }, p.1)

unit-term : (v : ℤ) (c j : ℕ) → v *ℤ unit j c ≡ (if c == j then v else pos 0)
unit-term v c j = elim (cases_Bool (c == j)) [
  | inl here ↦ rw here (*ℤ-one v)
  | inr away ↦ rw away (*ℤ-zero v)
]

-- the sum at one column is its coefficient
sum-at_unit : (terms : List Term) (j : ℕ) → sum_at (unit j) terms ≡ value_of terms j
sum-at_unit [] j = refl
sum-at_unit (t ∷ terms) j = omega (arith, linear, unit-term t.value t.column j, sum-at_unit terms j)

Divides-value_of : (d : ℤ) (terms : List Term) (j : ℕ) → All (λ t. Divides d t.value) terms → Divides d (value_of terms j)
Divides-value_of d [] j h = Divides-zero d
Divides-value_of d (t ∷ terms) j h =
    Divides-+ℤ d (share t j) (value_of terms j) (at (t.column == j) (All-head (λ (u : Term). Divides d u.value) t terms h)) (Divides-value_of d terms j (All-tail (λ (u : Term). Divides d u.value) t terms h))
  where
    at : (b : Bool) → Divides d t.value → Divides d (if b then t.value else pos 0)
    at true p = p
    at false p = Divides-zero d

-- the numbers of a row by column: the right side, and then the coefficients
abbrev pub dense : Row → ℕ → ℤ
dense row zero = row.right
dense row (suc j) = value_of row.terms j

term-number : (row : Row) (i : ℕ) → i < length row.terms → number_at (numbers_of row) (suc i) ≡ (get_or row.terms i no_term).value
term-number row i b = get_or-map (λ (t : Term). t.value) row.terms i no_term (pos 0) b

to-dense : (n : ℕ) (row : Row) (d : ℤ) → IsCommonDivisor (length (numbers_of row)) (number_at (numbers_of row)) d → IsCommonDivisor (suc n) (dense row) d
to-dense n row d h = record { at = at }
  where
    values : All (λ (t : Term). Divides d t.value) row.terms
    values = All-from_get_or (λ (t : Term). Divides d t.value) row.terms no_term
        (λ i b. subst (Divides d) (term-number row i b) (h.at (suc i) (omega (arith, length-map row.terms (λ (t : Term). t.value)))))

    at : (k : ℕ) → k < suc n → Divides d (dense row k)
    at zero b = h.at 0 (omega arith)
    at (suc j) b = Divides-value_of d row.terms j values

from-dense : (n : ℕ) (row : Row) (d : ℤ) → HasPlaces n row.terms → IsCommonDivisor (suc n) (dense row) d → IsCommonDivisor (length (numbers_of row)) (number_at (numbers_of row)) d
from-dense n row d places h = record { at = at }
  where
    at : (k : ℕ) → k < length (numbers_of row) → Divides d (number_at (numbers_of row) k)
    at zero b = h.at 0 (omega arith)
    at (suc i) b =
        let inside : i < length row.terms = omega (arith, length-map row.terms (λ (t : Term). t.value)) in
        let below : column_in row.terms i < n = places.below i inside in
        subst (Divides d) (value_of-present row.terms i places.order inside ∙ sym (term-number row i inside)) (h.at (suc (column_in row.terms i)) (omega arith))

-- the numbers of the form are those of the row
written-number : (c : Form) (row : Row) → IsWritten c row.kind row.terms row.right → (k : ℕ) → dense row k ≡ number_of c k
written-number c row w zero = w.right_is
written-number c row w (suc j) = sym (sum-at_unit row.terms j) ∙ w.left_is (unit j)

pub divisor-below : (n : ℕ) (f h : ℕ → ℤ) (g : ℤ) → ((k : ℕ) → k < n → f k ≡ h k) → IsDivisorFor n f g → IsDivisorFor n h g
divisor-below n f h g e p = divisor-as n n f h g (λ d c. record { at = λ k b. subst (Divides d) (e k b) (c.at k b) }) (λ d c. record { at = λ k b. subst (Divides d) (sym (e k b)) (c.at k b) }) p

row-of : (n : ℕ) (c : Form) (raw row : Row) → HasPlaces n raw.terms → IsWritten c raw.kind raw.terms raw.right → IsDividedRow raw row → IsRowOf n c row
row-of n c raw row places w d = record {
  by = d.by;
  divisor = divisor-below (suc n) (dense raw) (number_of c) d.by (λ k l. written-number c raw w k)
      (divisor-as (length (numbers_of raw)) (suc n) (number_at (numbers_of raw)) (dense raw) d.by (to-dense n raw) (λ e. from-dense n raw e places) d.divisor);
  kind = d.kind ∙ w.kind_is;
  right = sym w.right_is ∙ d.right;
  left = λ x. sym (w.left_is x) ∙ sym (dot-value_of n raw.terms x (All-below n raw.terms places)) ∙ left_of-times n d.by raw row x d.terms;
}

-- one more row
pub extends-row : (c : Form) (kind : RowKind) (terms : List Term) (right : ℤ) (old new : Program)
    → AreTermsBelow (2 ^ 44) old.columns terms → IsWritten c kind terms right → AppendsDivided old new (record { kind = kind; terms = terms; right = right }) → Extends (c ∷ []) old new
extends-row c kind terms right old new placed w a = record {
  added = a.row ∷ [];
  are = (row-of old.columns c (record { kind = kind; terms = terms; right = right }) a.row placed.places w a.divided, tt);
  appended = a.appended;
}

-- what a row of terms needs to be taken
pub shaped-row : (columns : ℕ) (kind : RowKind) (terms : List Term) (right : ℤ) → AreTermsBelow (2 ^ 44) columns terms → IsWithin (2 ^ 44) right
    → IsShapedRow columns (record { kind = kind; terms = terms; right = right })
shaped-row columns kind terms right placed size = record {
  places = placed.places;
  sizes = AllWithin-numbers_of (2 ^ 44) (record { kind = kind; terms = terms; right = right }) size placed.sizes;
}

-- a refusal that is none of the others
pub only-memory : (refusal : LpRefusal) → refusal ≢ Index → refusal ≢ Magnitude → refusal ≢ TooManyRows → refusal ≡ Memory
only-memory Index i m t = absurd (i refl)
only-memory Magnitude i m t = absurd (m refl)
only-memory TooManyRows i m t = absurd (t refl)
only-memory Memory i m t = refl

-- all forms in place
pub program-of : (n : ℕ) (forms : List Form) (cost : (ℕ → ℤ) → ℤ) (old new : Program) → old.columns ≡ n → HasCostOf n cost old → old.rows ≡ [] → Extends forms old new → IsProgramOf n forms cost new
program-of n forms cost old new columns has none p =
    subst (IsProgramOf n forms cost) (sym p.appended) (record {
      columns = columns;
      has_cost = record { factor = has.factor; cost_is = has.cost_is };
      rows = subst (AreRowsOf n forms) (ap (λ rows. rows ++ p.added) (sym none)) (subst (λ m. AreRowsOf m forms p.added) columns p.are);
    })

-- a program with some more rows at its end
pub program-more : (n : ℕ) (forms more : List Form) (cost : (ℕ → ℤ) → ℤ) (old new : Program) → IsProgramOf n forms cost old → Extends more old new → IsProgramOf n (forms ++ more) cost new
program-more n forms more cost old new is p =
    subst (IsProgramOf n (forms ++ more) cost) (sym p.appended) (record {
      columns = is.columns;
      has_cost = record { factor = is.has_cost.factor; cost_is = is.has_cost.cost_is };
      rows = rows-append n forms more old.rows p.added is.rows (subst (λ m. AreRowsOf m more p.added) is.columns p.are);
    })

-- ---- rows by their numbers

rows-at : (n : ℕ) (cs : List Form) (ps : List Row) (r : ℕ) (c : Form) (d : Row) → AreRowsOf n cs ps → slice_get cs r ≡ Some c → IsRowOf n c (get_or ps r d)
rows-at n [] [] r c d p e = absurd (none-some c e)
rows-at n [] (row ∷ ps) r c d p e = absurd p
rows-at n (b ∷ cs) [] r c d p e = absurd p
rows-at n (b ∷ cs) (row ∷ ps) zero c d p e = (let same : b ≡ c = cc in subst (λ x. IsRowOf n x row) same p.0)
rows-at n (b ∷ cs) (row ∷ ps) (suc r) c d p e = rows-at n cs ps r c d p.1 e

pub each-row : (n : ℕ) (forms : List Form) (cost : (ℕ → ℤ) → ℤ) (p : Program) → IsProgramOf n forms cost p → HasEachRow n forms p
each-row n forms cost p is number form e = rows-at n forms p.rows number form (record { kind = AtMost; terms = []; right = pos 0 }) is.rows e

pub rows-count : (n : ℕ) (forms : List Form) (cost : (ℕ → ℤ) → ℤ) (p : Program) → IsProgramOf n forms cost p → row_count p ≡ length forms
rows-count n forms cost p is = rows-length n forms p.rows is.rows
