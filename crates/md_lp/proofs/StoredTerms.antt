-- What contracts see of terms as they are kept.
use Rattle.std.proofs.Common.{◌≡◌, ℕ, ◌-◌, ◌<◌, ◌≤◌, List, [], ◌∷◌, ◌++◌, length, get_or, take, drop, All, inl, inr, refl, subst, sym, ap, ◌∙◌, arith}
use Rattle.std.proofs.Math.ListN.{get_or-map}
use Rattle.std.proofs.lemmas.List.{length-map, map-append, take_all, length-drop, drop-map}
use Rattle.md_math.specs.Sizes.{IsWithin}
use Rattle.md_lp.specs.declared.term.Term.{Term}
use Rattle.md_lp.specs.declared.stored_term.StoredTerm.{StoredTerm}
use Rattle.std.proofs.lemmas.Bool.{cases_lt}
use Rattle.md_lp.specs.Search.{IsGapFor, StartsFrom}
use Rattle.md_lp.specs.Shape.{column_in, IsAscending}
use Rattle.md_lp.specs.Stored.{kept_column, kept_value, shown_term, shown_terms}
use Rattle.md_lp.proofs.SparseRows.{no_term}

abbrev pub no_stored : StoredTerm
no_stored = record { packed = 0 }

pub at_shown : (terms : List StoredTerm) (i : ℕ) → get_or (shown_terms terms) i no_term ≡ shown_term (get_or terms i no_stored)
unfolding kept_column kept_value
at_shown terms i = get_or-map shown_term terms i no_stored

pub column_in-shown : (terms : List StoredTerm) (i : ℕ) → column_in (shown_terms terms) i ≡ kept_column (get_or terms i no_stored)
column_in-shown terms i = ap (λ (t : Term). t.column) (at_shown terms i)

pub value-shown : (terms : List StoredTerm) (i : ℕ) → (get_or (shown_terms terms) i no_term).value ≡ kept_value (get_or terms i no_stored)
value-shown terms i = ap (λ (t : Term). t.value) (at_shown terms i)

pub length-shown : (terms : List StoredTerm) → length (shown_terms terms) ≡ length terms
length-shown terms = length-map terms shown_term

pub shown-push : (terms : List StoredTerm) (term : StoredTerm) → shown_terms (terms ++ term ∷ []) ≡ shown_terms terms ++ shown_term term ∷ []
shown-push terms term = map-append shown_term terms (term ∷ [])

-- the value of a term that is kept
pub value_size : (limit : ℕ) (terms : List StoredTerm) (i : ℕ) → All (λ t. IsWithin limit t.value) (shown_terms terms) → i < length terms → IsWithin limit (kept_value (get_or terms i no_stored))
value_size limit terms i h b =
    let inside : i < length (shown_terms terms) = omega (arith, length-shown terms) in
    subst (IsWithin limit) (value-shown terms i) (h i no_term inside)

-- ---- the terms from a column on

pub StartsFrom-at : (terms : List StoredTerm) (first at : ℕ) → at ≤ length terms → ((j : ℕ) → j < at → column_in (shown_terms terms) j < first) → ((j : ℕ) → at ≤ j → j < length (shown_terms terms) → first ≤ column_in (shown_terms terms) j) → StartsFrom (shown_terms terms) first (shown_terms (take (length terms - at) (drop at terms)))
StartsFrom-at terms first at b before after = record {
  place = at;
  in_range = omega (arith, length-shown terms);
  is = ap shown_terms (take_all (length terms - at) (drop at terms) (omega (arith, length-drop at terms))) ∙ sym (drop-map shown_term at terms);
  before = before;
  after = after;
}

pub StartsFrom-first : (terms : List StoredTerm) (first : ℕ) → first ≡ 0 → StartsFrom (shown_terms terms) first (shown_terms terms)
StartsFrom-first terms first e = record {
  place = 0;
  in_range = omega arith;
  is = refl;
  before = λ j b. absurd (omega arith);
  after = λ j l b. omega arith;
}

pub StartsFrom-found : (terms : List StoredTerm) (first at : ℕ) → IsAscending (shown_terms terms) → (at < length terms) × (column_in (shown_terms terms) at ≡ first) → StartsFrom (shown_terms terms) first (shown_terms (take (length terms - at) (drop at terms)))
StartsFrom-found terms first at h found =
    let here : column_in (shown_terms terms) at ≡ first = found.1 in
    let inside : at < length (shown_terms terms) = omega (arith, length-shown terms, found.0) in
    StartsFrom-at terms first at (omega (arith, found.0))
    (λ j b. (let below : column_in (shown_terms terms) j < column_in (shown_terms terms) at = h.ascending j at b inside in omega arith))
    (λ j l b. elim (cases_lt at j) [
      | inl past ↦ (let above : column_in (shown_terms terms) at < column_in (shown_terms terms) j = h.ascending at j past b in omega arith)
      | inr not_past ↦ (let same : at ≡ j = omega arith in omega (arith, ap (column_in (shown_terms terms)) same))
    ])

pub StartsFrom-gap : (terms : List StoredTerm) (first at : ℕ) → IsGapFor (shown_terms terms) first at → StartsFrom (shown_terms terms) first (shown_terms (take (length terms - at) (drop at terms)))
StartsFrom-gap terms first at gap =
    let within : at ≤ length (shown_terms terms) = gap.in_range in
    StartsFrom-at terms first at (omega (arith, length-shown terms)) gap.smaller_before
    (λ j l b. (let above : first < column_in (shown_terms terms) j = gap.greater_after j l b in omega arith))
