-- Terms that are written down column by column.
use Rattle.std.specs.Prelude.{ℕ, ◌≡◌, ◌≤◌, ℤ, ◌+ℤ◌, ◌*ℤ◌, List, All}
use Rattle.md_math.specs.Sizes.{IsWithin}
use Rattle.md_math.specs.Sums.{total_by}
use Rattle.md_lp.specs.declared.term.Term.{Term}
use Rattle.md_lp.specs.Shape.{HasPlaces}

-- the sum of the terms, each value times the number of its column
abbrev pub sum_at : (ℕ → ℤ) → List Term → ℤ
sum_at x terms = total_by (λ term. term.value *ℤ x term.column) terms

-- the terms stand at ascending columns below `next`, with values of at most the limit in size
pub record AreTermsBelow (limit next : ℕ) (terms : List Term) : Type 0 where
  pub places : HasPlaces next terms
  pub sizes : All (λ term. IsWithin limit term.value) terms

-- terms at columns from `first` on and below `next` were added, which have this sum at each x
pub record AddsTerms (limit first next : ℕ) (form : (ℕ → ℤ) → ℤ) (old new : List Term) : Type 0 where
  pub below : (start : ℕ) → start ≤ first → AreTermsBelow limit start old → AreTermsBelow limit next new
  pub sum : (x : ℕ → ℤ) → sum_at x new ≡ sum_at x old +ℤ form x
