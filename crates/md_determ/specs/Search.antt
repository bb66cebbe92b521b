-- The search for the best deterministic mechanism (a branch and bound search, Land and Doig 1960): which nodes it visits, in
-- which order, and how it ends. It visits the root first, where nothing is fixed, and holds the best mechanism that it found, at
-- first none. At a node:
--   1. where the node's program has no taken path, the search ends: too wide;
--   2. where no point meets the program, the node is an infeasible leaf;
--   3. where its cost has no end and each lottery of the point is on one outcome, the search ends: unbounded;
--   4. where it has a best point that is worth at most what the best mechanism is, the node is an optimal leaf;
--   5. where it has a best point and each lottery of it is on one outcome, this mechanism becomes the best one, and the node is an
--      optimal leaf;
--   6. else the node branches at the least rank where nothing is fixed. Its children fix the outcomes there, in their order, and are
--      visited in this order.
use Rattle.std.specs.Prelude.{◌≡◌, ◌⊎◌, ℕ, List, [], ◌∷◌, ◌++◌, Option, None, Some}
use Rattle.md_setting.specs.Setting.{GeneralSetting}
use Rattle.md_setting.specs.Meaning.{outcome_count}
use Rattle.md_mech.specs.declared.mechanism.Mechanism.{Mechanism}
use Rattle.md_mech.specs.Value.{IsValueOf}
use Rattle.md_determ_branching.specs.Fixed.{children_of, IsFirstFree}
use Rattle.md_determ_node.specs.Deterministic.{IsDeterministic}
use Rattle.md_tree.specs.Trees.{root_of}
use Rattle.md_tree.specs.Leaves.{IsWorthAtMost}
use Rattle.md_tree.specs.declared.node.Node.{Node}
use Rattle.md_tree.specs.declared.node.Node.TheVariants as nodes
use Rattle.md_tree.specs.declared.answer.DetAnswer.{DetAnswer}
use Rattle.md_tree.specs.declared.answer.DetAnswer.TheVariants as answers
use Rattle.md_question_solve.specs.declared.reading.Reading.{Reading}
use Rattle.md_question_solve.specs.declared.reading.Reading.TheVariants.{Optimal, Infeasible, Unbounded}
use Rattle.md_determ.specs.Pairs.{ArePairsOf}
use Rattle.md_determ.specs.Readings.{IsReadAt, IsWideAt}

-- a mechanism is worth at most what the best one is, where one was found
abbrev pub IsNoBetter : GeneralSetting → Option Mechanism → Mechanism → Type 0
IsNoBetter s None m = ⊥
IsNoBetter s (Some best) m = IsWorthAtMost s m best

-- ---- a node

-- what is read at a node neither makes it a leaf nor ends the search
abbrev pub LeavesOpen : GeneralSetting → Option Mechanism → Reading → Type 0
LeavesOpen s best (Optimal m bound) = (¬ IsNoBetter s best m) × (¬ IsDeterministic s m)
LeavesOpen s best (Infeasible face) = ⊥
LeavesOpen s best (Unbounded m ray) = ¬ IsDeterministic s m

-- the node branches at this rank
pub record IsBranchAt (s : GeneralSetting) (width : ℕ) (best : Option Mechanism) (fixed : List (Option ℕ)) (rank : ℕ) : Type 0 where
  pub reading : Reading
  pub is_read : IsReadAt s width fixed reading
  pub leaves_open : LeavesOpen s best reading
  pub least : IsFirstFree fixed rank

-- the search ends at this node
abbrev pub IsStoppedAt : GeneralSetting → ℕ → List (Option ℕ) → DetAnswer → Type 0
IsStoppedAt s width fixed (answers.Unbounded m ray) = IsDeterministic s m × IsReadAt s width fixed (Unbounded m ray)
IsStoppedAt s width fixed (answers.TooWide pairs first second) = ArePairsOf fixed pairs × IsWideAt s width fixed first second
IsStoppedAt s width fixed _ = ⊥

-- ---- the search

-- no node is open any more: the best mechanism is told, with the tree of all nodes that were visited
abbrev pub IsFinished : GeneralSetting → Option Mechanism → List Node → DetAnswer → Type 0
IsFinished s (Some best) tree (answers.Optimal value m told) = (m ≡ best) × IsValueOf s best value × (told ≡ tree)
IsFinished s None tree (answers.Infeasible told) = told ≡ tree
IsFinished s _ tree _ = ⊥

-- From these open nodes on, with this best mechanism so far, the search visits these nodes, and answers so. `tree` lists all nodes
-- that it visits from the root on.
abbrev pub IsSearchFrom : GeneralSetting → (width : ℕ) → (tree : List Node) → DetAnswer → (best : Option Mechanism) → (opens : List (List (Option ℕ))) → (visited : List Node) → Type 0
IsSearchFrom s width tree answer best [] [] = IsFinished s best tree answer
IsSearchFrom s width tree answer best [] (node ∷ visited) = ⊥
IsSearchFrom s width tree answer best (fixed ∷ opens) [] = IsStoppedAt s width fixed answer
IsSearchFrom s width tree answer best (fixed ∷ opens) (nodes.Branch rank ∷ visited) =
    IsBranchAt s width best fixed rank × IsSearchFrom s width tree answer best (children_of (outcome_count s) fixed rank ++ opens) visited
IsSearchFrom s width tree answer best (fixed ∷ opens) (nodes.Infeasible face ∷ visited) =
    IsReadAt s width fixed (Infeasible face) × IsSearchFrom s width tree answer best opens visited
IsSearchFrom s width tree answer best (fixed ∷ opens) (nodes.Optimal m bound ∷ visited) =
    IsReadAt s width fixed (Optimal m bound)
    × ((IsNoBetter s best m × IsSearchFrom s width tree answer best opens visited)
    ⊎ ((¬ IsNoBetter s best m) × IsDeterministic s m × IsSearchFrom s width tree answer (Some m) opens visited))

-- the answer of the search from the root on
pub record IsSearched (s : GeneralSetting) (width : ℕ) (answer : DetAnswer) : Type 0 where
  pub tree : List Node
  pub search : IsSearchFrom s width tree answer None (root_of s ∷ []) tree
