-- How the path of the branches says which nodes are open.
use Rattle.std.specs.Prelude.{◌≡◌, ℕ, zero, suc, ◌<◌, ◌≤◌, Bool, cond, List, Option, [], ◌∷◌, ◌++◌, length, drop, slice_index, Some, None}
use Rattle.md_determ_branching.specs.Fixed.{fixed_at, nothing_fixed, with_freed, children_of}

-- the outcome that comes after the one that is fixed, or the first
abbrev pub next_to : Option ℕ → ℕ
next_to None = 0
next_to (Some outcome) = suc outcome

-- the siblings that come after a node, of which the last branch was at this rank
abbrev pub siblings_of : ℕ → List (Option ℕ) → ℕ → List (List (Option ℕ))
siblings_of outcomes fixed rank = drop (next_to (fixed_at fixed rank)) (children_of outcomes (with_freed fixed rank) rank)

-- the open nodes behind a node that came of branches at the first ranks of a path: its later siblings, then those of the node
-- above it, and so on
abbrev pub behind : ℕ → List (Option ℕ) → List ℕ → ℕ → List (List (Option ℕ))
behind outcomes fixed path zero = []
behind outcomes fixed path (suc depth) =
    siblings_of outcomes fixed (slice_index path depth) ++ behind outcomes (with_freed fixed (slice_index path depth)) path depth

-- the node that is visited with the open nodes behind it, unless the tour is over
abbrev pub opens_of : Bool → ℕ → List (Option ℕ) → List ℕ → ℕ → List (List (Option ℕ))
opens_of over outcomes fixed path depth = cond over [] (fixed ∷ behind outcomes fixed path depth)

-- one of the outcomes is fixed at a rank
pub record IsBranched (outcomes : ℕ) (fixed : List (Option ℕ)) (rank : ℕ) : Type 0 where
  pub below : rank < length fixed
  pub outcome : ℕ
  pub is : fixed_at fixed rank ≡ Some outcome
  pub among : outcome < outcomes

-- nothing is fixed but what the branches at the first ranks of a path have fixed
abbrev pub IsTrail : ℕ → List (Option ℕ) → List ℕ → ℕ → Type 0
IsTrail outcomes fixed path zero = fixed ≡ nothing_fixed (length fixed)
IsTrail outcomes fixed path (suc depth) =
    IsBranched outcomes fixed (slice_index path depth) × IsTrail outcomes (with_freed fixed (slice_index path depth)) path depth

-- what is kept of a walk
pub record IsKept (outcomes : ℕ) (fixed : List (Option ℕ)) (path : List ℕ) (depth : ℕ) : Type 0 where
  pub some_outcome : 1 ≤ outcomes
  pub room : length path ≡ length fixed
  pub trail : IsTrail outcomes fixed path depth
