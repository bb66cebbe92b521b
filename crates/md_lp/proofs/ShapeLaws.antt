-- What the shape of a program says of its places.
use Rattle.std.proofs.Common.{◌≡◌, ℕ, zero, suc, ◌+◌, ◌^◌, ◌<◌, ℤ, pos, List, [], ◌∷◌, length, get_or, map, All, sym, subst, arith, add-one}
use Rattle.std.proofs.lemmas.List.{get_or-map, length-map}
use Rattle.std.proofs.lemmas.List.Elements.{All-from_get_or}
use Rattle.md_math.specs.Lists.{number_at}
use Rattle.md_math.specs.Sizes.{IsWithin, AllWithin}
use Rattle.md_lp.specs.declared.row_kind.RowKind.TheVariants.{AtMost}
use Rattle.md_lp.specs.declared.term.Term.{Term}
use Rattle.md_lp.specs.Program.{Program, Row, row_count, row_at, right_at, coefficient_at}
use Rattle.md_lp.specs.Shape.{numbers_of, IsShaped, IsShapedRow}
use Rattle.md_lp.proofs.SparseRows.{no_term, value_of-within}

-- each row is shaped
pub row-shaped : (p : Program) (r : ℕ) → IsShaped p → r < row_count p → IsShapedRow p.columns (row_at p r)
row-shaped p r h b = h.rows r (record { kind = AtMost; terms = []; right = pos 0 }) b

pub right-within : (p : Program) (r : ℕ) → IsShaped p → r < row_count p → IsWithin (2 ^ 44) (right_at p r)
right-within p r h b = (row-shaped p r h b).sizes.at 0 (omega arith)

-- the numbers of a row are its right side and what its terms have
pub right_size : (limit : ℕ) (row : Row) → AllWithin limit (numbers_of row) → IsWithin limit row.right
right_size limit row h = h.at 0 (omega arith)

-- the number after the right side is the first term's, and so on
pub number_at-term : (right : ℤ) (terms : List Term) (i : ℕ) → i < length terms → number_at (right ∷ map (λ (t : Term). t.value) terms) (i + 1) ≡ (get_or terms i no_term).value
number_at-term right terms i b = rw add-one (get_or-map (λ (t : Term). t.value) terms i no_term (pos 0) b)

pub value_sizes : (limit : ℕ) (row : Row) → AllWithin limit (numbers_of row) → All (λ t. IsWithin limit t.value) row.terms
value_sizes limit row h =
    All-from_get_or (λ t. IsWithin limit t.value) row.terms no_term (λ k b.
    let inside : suc k < length (numbers_of row) = omega (arith, length-map row.terms (λ (t : Term). t.value)) in
    subst (IsWithin limit) (get_or-map (λ (t : Term). t.value) row.terms k no_term (pos 0) b) (h.at (suc k) inside))

pub AllWithin-numbers_of : (limit : ℕ) (row : Row) → IsWithin limit row.right → All (λ t. IsWithin limit t.value) row.terms → AllWithin limit (numbers_of row)
AllWithin-numbers_of limit row h s = record { at = at }
  where
    at : (k : ℕ) → k < length (numbers_of row) → IsWithin limit (number_at (numbers_of row) k)
    at zero b = h
    at (suc k) b =
        let inside : k < length row.terms = omega (arith, length-map row.terms (λ (t : Term). t.value)) in
        subst (IsWithin limit) (sym (get_or-map (λ (t : Term). t.value) row.terms k no_term (pos 0) inside)) (s k no_term inside)

pub coefficient-within : (p : Program) (r j : ℕ) → IsShaped p → r < row_count p → IsWithin (2 ^ 44) (coefficient_at p r j)
coefficient-within p r j h b =
    let shaped : IsShapedRow p.columns (row_at p r) = row-shaped p r h b in
    value_of-within (2 ^ 44) (row_at p r).terms j shaped.places.order (value_sizes (2 ^ 44) (row_at p r) shaped.sizes)
