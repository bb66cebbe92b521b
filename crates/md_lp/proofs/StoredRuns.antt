-- One more term, as it is kept, of a run of sums.
use Rattle.std.proofs.Common.{◌≡◌, ℕ, ◌+◌, ◌-◌, ◌*◌, ◌^◌, ◌<◌, ◌≤◌, ℤ, ◌+ℤ◌, ◌*ℤ◌, to_z, of_z, unsigned_abs, List, length, get_or, set, All, lit<, arith}
use mir.Syntax.{w128}
use Rattle.md_math.specs.Lists.{number_at}
use Rattle.md_math.specs.Sizes.{IsWithin, AllWithin}
use Rattle.md_math.proofs.Bits.{read_within}
use Rattle.md_lp.specs.declared.stored_term.StoredTerm.{StoredTerm}
use Rattle.md_lp.specs.Runs.{AddsRow}
use Rattle.md_lp.specs.Shape.{column_in, IsAscending}
use Rattle.md_lp.specs.Stored.{kept_column, kept_value, shown_terms}
use Rattle.md_lp.proofs.SparseRows.{no_term}
use Rattle.md_lp.proofs.StoredTerms.{no_stored, at_shown, column_in-shown, value-shown, length-shown}
use Rattle.md_lp.proofs.RowRuns.{AddsSoFar, AddsSoFar-more, AddsRow-past, run_room}

module _ (terms : List StoredTerm) (i first : ℕ) (weight : ℤ) (old new : List ℤ) (ascending : IsAscending (shown_terms terms)) (b : i < length terms) (h : AddsSoFar (shown_terms terms) i first weight old new) where
  inside : i < length (shown_terms terms)
  inside = omega (arith, length-shown terms, b)

  module _ (values : All (λ t. IsWithin (2 ^ 44) t.value) (shown_terms terms)) (small : IsWithin (2 ^ 62 - 1) weight) (room : AllWithin (2 ^ 124) old) (c : kept_column (get_or terms i no_stored) - first < length new) where
    pub step_room : unsigned_abs (number_at new (kept_column (get_or terms i no_stored) - first)) + unsigned_abs (kept_value (get_or terms i no_stored)) * unsigned_abs weight < 2 ^ 126
    step_room = rw (at_shown terms i) at (run_room (shown_terms terms) i first weight old new (kept_column (get_or terms i no_stored) - first) ascending values small room h inside c)

    pub sum_back : to_z w128 (of_z w128 (number_at new (kept_column (get_or terms i no_stored) - first))) ≡ number_at new (kept_column (get_or terms i no_stored) - first)
    sum_back = read_within (2 ^ 126) (number_at new (kept_column (get_or terms i no_stored) - first)) (record { within = omega (arith, step_room) }) (lit< tt)

  pub step_more : (sum : ℤ) → first ≤ column_in (shown_terms terms) i → sum ≡ number_at new (kept_column (get_or terms i no_stored) - first) +ℤ kept_value (get_or terms i no_stored) *ℤ weight → AddsSoFar (shown_terms terms) (i + 1) first weight old (set new (kept_column (get_or terms i no_stored) - first) sum)
  step_more sum from e =
      let here : column_in (shown_terms terms) i ≡ kept_column (get_or terms i no_stored) = column_in-shown terms i in
      let sum_is : sum ≡ number_at new (column_in (shown_terms terms) i - first) +ℤ (get_or (shown_terms terms) i no_term).value *ℤ weight = rw (here, value-shown terms i) e in
      rw (← here) (AddsSoFar-more (shown_terms terms) i first weight sum old new inside from h sum_is)

  pub step_past : first ≤ column_in (shown_terms terms) i → length new ≤ kept_column (get_or terms i no_stored) - first → AddsRow (shown_terms terms) first weight old new
  step_past from past =
      let beyond : length new ≤ column_in (shown_terms terms) i - first = rw (column_in-shown terms i) past in
      AddsRow-past (shown_terms terms) i first weight old new ascending inside from beyond h
