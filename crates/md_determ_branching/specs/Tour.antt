-- The open nodes of a search tree that is visited in preorder, and how many nodes may still come.
use Rattle.std.specs.Prelude.{ℕ, zero, suc, ◌+◌, ◌*◌, List, Option, [], drop, slice_index_or}
use Rattle.std.specs.List.{Contains, sum_by}
use Rattle.md_determ_branching.specs.Fixed.{Agrees, free_count}

-- a tour through nodes of so many ranks, each with one of so many outcomes: the node that is visited, and then the others
-- that are open, in their order
pub record Tour : Type 0 where
  pub outcomes : ℕ
  pub ranks : ℕ
  pub opens : List (List (Option ℕ))

-- the node that is visited
abbrev pub current_of : Tour → List (Option ℕ)
current_of tour = slice_index_or tour.opens 0 []

-- the nodes that come after it
abbrev pub rest_of : Tour → List (List (Option ℕ))
rest_of tour = drop 1 tour.opens

-- how many nodes a tree has that branches at so many ranks, one after another, into all outcomes
abbrev pub tree_size : ℕ → ℕ → ℕ
tree_size outcomes zero = 1
tree_size outcomes (suc free) = 1 + outcomes * tree_size outcomes free

-- the most nodes that the trees below some nodes have together
abbrev pub nodes_below : ℕ → List (List (Option ℕ)) → ℕ
nodes_below outcomes opens = sum_by (λ node. tree_size outcomes (free_count node)) opens

-- the most nodes that may still be visited
abbrev pub left_of : Tour → ℕ
left_of tour = nodes_below tour.outcomes tour.opens

-- the choice agrees with one of the nodes
pub record SomeAgrees (choice : ℕ → ℕ) (opens : List (List (Option ℕ))) : Type 0 where
  pub node : List (Option ℕ)
  pub open_is : Contains opens node
  pub agrees : Agrees choice node
