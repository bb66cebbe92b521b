-- Nodes of a search tree: what is fixed at each rank, and the choices that agree with it.
use Rattle.std.specs.Prelude.{◌≡◌, ◌≢◌, ℕ, ◌<◌, List, Option, Some, None, is_none, length, replicate, slice_set, slice_index_or}
use Rattle.std.specs.List.{count_by}
use Rattle.md_math.specs.Lists.{list_to}

-- the outcome that is fixed at a rank; none past the last rank
abbrev pub fixed_at : List (Option ℕ) → ℕ → Option ℕ
fixed_at fixed rank = slice_index_or fixed rank None

-- the node with nothing fixed at any rank
abbrev pub nothing_fixed : ℕ → List (Option ℕ)
nothing_fixed ranks = replicate ranks None

-- the node with this outcome fixed at a rank
abbrev pub with_fixed : List (Option ℕ) → ℕ → ℕ → List (Option ℕ)
with_fixed fixed rank outcome = slice_set fixed rank (Some outcome)

-- the node with nothing fixed at a rank
abbrev pub with_freed : List (Option ℕ) → ℕ → List (Option ℕ)
with_freed fixed rank = slice_set fixed rank None

-- there is such a rank, and nothing is fixed there
pub record IsFree (fixed : List (Option ℕ)) (rank : ℕ) : Type 0 where
  pub below : rank < length fixed
  pub free : fixed_at fixed rank ≡ None

-- nothing is fixed at this rank, and at no lower one
pub record IsFirstFree (fixed : List (Option ℕ)) (rank : ℕ) : Type 0 where
  pub free : IsFree fixed rank
  pub first : (lower : ℕ) → lower < rank → fixed_at fixed lower ≢ None

-- an outcome is fixed at each rank
pub record IsWhole (fixed : List (Option ℕ)) : Type 0 where
  pub at : (rank : ℕ) → rank < length fixed → fixed_at fixed rank ≢ None

-- at how many ranks nothing is fixed
abbrev pub free_count : List (Option ℕ) → ℕ
free_count fixed = count_by is_none fixed

-- the nodes with one outcome more, fixed at a rank, by outcome
abbrev pub children_of : ℕ → List (Option ℕ) → ℕ → List (List (Option ℕ))
children_of outcomes fixed rank = list_to outcomes (with_fixed fixed rank)

-- each outcome that is fixed is one of so many
pub record AreOutcomes (outcomes : ℕ) (fixed : List (Option ℕ)) : Type 0 where
  pub below : (rank outcome : ℕ) → fixed_at fixed rank ≡ Some outcome → outcome < outcomes

-- the choice has each outcome that is fixed
pub record Agrees (choice : ℕ → ℕ) (fixed : List (Option ℕ)) : Type 0 where
  pub same : (rank outcome : ℕ) → fixed_at fixed rank ≡ Some outcome → choice rank ≡ outcome
