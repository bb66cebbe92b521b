-- Search trees as lists of their nodes in preorder.
use Rattle.std.specs.Prelude.{ℕ, List, [], ◌∷◌, ◌++◌, Option}
use Rattle.md_space.specs.Profiles.{profile_count}
use Rattle.md_setting.specs.Setting.{GeneralSetting}
use Rattle.md_setting.specs.Meaning.{outcome_count, sizes_of}
use Rattle.md_determ_branching.specs.Fixed.{IsFree, children_of, nothing_fixed}
use Rattle.md_tree.specs.declared.node.Node.{Node}
use Rattle.md_tree.specs.declared.node.Node.TheVariants.{Branch}

-- What is fixed at the open nodes, and a list of nodes: in preorder these are the trees that stand there, one after another. A
-- branch stands at a profile where nothing is fixed, and has a child for each outcome. `Leaf` holds of each leaf and of what
-- is fixed there.
abbrev pub AreTrees : (outcomes : ℕ) → (List (Option ℕ) → Node → Type 0) → List (List (Option ℕ)) → List Node → Type 0
AreTrees outcomes Leaf [] [] = Unit {0}
AreTrees outcomes Leaf [] (node ∷ nodes) = ⊥
AreTrees outcomes Leaf (fixed ∷ opens) [] = ⊥
AreTrees outcomes Leaf (fixed ∷ opens) (Branch rank ∷ nodes) = IsFree fixed rank × AreTrees outcomes Leaf (children_of outcomes fixed rank ++ opens) nodes
AreTrees outcomes Leaf (fixed ∷ opens) (leaf ∷ nodes) = Leaf fixed leaf × AreTrees outcomes Leaf opens nodes

-- the root, where nothing is fixed
abbrev pub root_of : GeneralSetting → List (Option ℕ)
root_of s = nothing_fixed (profile_count (sizes_of s))

-- one whole tree of the setting
abbrev pub IsTree : GeneralSetting → (List (Option ℕ) → Node → Type 0) → List Node → Type 0
IsTree s Leaf nodes = AreTrees (outcome_count s) Leaf (root_of s ∷ []) nodes
