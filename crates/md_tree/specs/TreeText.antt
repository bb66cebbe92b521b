-- The records of a search tree: its nodes in preorder.
use Rattle.std.specs.Prelude.{ℕ, zero, suc, ◌==◌, unsigned_abs, List, [], ◌∷◌, length, codes, Option, None, Some, Ok, Err, if◌then◌else◌}
use Rattle.md_math.specs.Lists.{number_at}
use Rattle.md_space.specs.Profiles.{profile_count}
use Rattle.md_setting.specs.Setting.{GeneralSetting}
use Rattle.md_setting.specs.Meaning.{outcome_count, sizes_of}
use Rattle.md_parts.specs.declared.refusal.AnswerRefusal.TheVariants.{Cell, End}
use Rattle.md_parts.specs.Fields.{place_field}
use Rattle.md_parts.specs.FirstRecord.{word_among}
use Rattle.md_parts.specs.Reading.{Reading, ◌>>=◌, nothing_more, read_record}
use Rattle.md_parts.specs.Repeated.{comes_next}
use Rattle.md_parts.specs.Multipliers.{bound_of, face_of}
use Rattle.md_parts.specs.Table.{mechanism_of}
use Rattle.md_determ_branching.specs.Fixed.{fixed_at}
use Rattle.md_determ_node.specs.NodeProgram.{row_count_of}
use Rattle.md_tree.specs.Trees.{root_of}
use Rattle.md_tree.specs.Visits.{opens_after}
use Rattle.md_tree.specs.declared.node.Node.{Node}
use Rattle.md_tree.specs.declared.node.Node.TheVariants.{Branch, Infeasible, Optimal}

-- ---- a node

-- a branch stands where nothing is fixed; the rank is field 2 of the record that was read last
abbrev pub free_branch : Option ℕ → ℕ → Reading Node
free_branch None rank rest = Ok (Branch rank, rest)
free_branch (Some outcome) rank rest = Err (Cell rest.read 2)

abbrev pub branch_of : GeneralSetting → List (Option ℕ) → Reading Node
branch_of s fixed = do
  numbers ← read_record (codes "branch") (place_field 0 (profile_count (sizes_of s)) ∷ [])
  free_branch (fixed_at fixed (unsigned_abs (number_at numbers 0))) (unsigned_abs (number_at numbers 0))

abbrev pub leaf_words : List (List ℕ)
leaf_words = codes "infeasible" ∷ codes "optimal" ∷ []

abbrev pub infeasible_leaf : GeneralSetting → List (Option ℕ) → Reading Node
infeasible_leaf s fixed = do
  face ← face_of (row_count_of s fixed)
  nothing_more (Infeasible face)

abbrev pub optimal_leaf : GeneralSetting → List (Option ℕ) → Reading Node
optimal_leaf s fixed = do
  mechanism ← mechanism_of s
  bound ← bound_of (row_count_of s fixed)
  nothing_more (Optimal mechanism bound)

-- a leaf has the numbers of the program of what is fixed there
abbrev pub leaf_of : GeneralSetting → List (Option ℕ) → Reading Node
leaf_of s fixed = do
  numbers ← read_record (codes "leaf") (word_among leaf_words ∷ [])
  if unsigned_abs (number_at numbers 0) == 0 then infeasible_leaf s fixed else optimal_leaf s fixed

-- the node where this is fixed
abbrev pub node_of : GeneralSetting → List (Option ℕ) → Reading Node
node_of s fixed rest = if comes_next (codes "branch") rest.left then branch_of s fixed rest else leaf_of s fixed rest

-- ---- the tree

-- The nodes of the trees at these open nodes, one after another, of which so many records are left: each node takes one at
-- least.
abbrev pub nodes_of : GeneralSetting → ℕ → List (List (Option ℕ)) → Reading (List Node)
nodes_of s records [] = nothing_more []
nodes_of s zero (fixed ∷ opens) = λ rest. Err (End rest.read)
nodes_of s (suc records) (fixed ∷ opens) = do
  node ← node_of s fixed
  others ← nodes_of s records (opens_after (outcome_count s) fixed node opens)
  nothing_more (node ∷ others)

-- one whole tree
abbrev pub tree_of : GeneralSetting → Reading (List Node)
tree_of s rest = nodes_of s (length rest.left) (root_of s ∷ []) rest
