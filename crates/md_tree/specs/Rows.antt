-- The records that an answer about deterministic mechanisms is written as.
use Rattle.std.specs.Prelude.{ℕ, pos, List, [], ◌∷◌, ◌++◌, map, codes, Option}
use Rattle.md_lp.specs.declared.pivot.Pivot.{Pivot}
use Rattle.md_records.specs.Written.{text_of_records}
use Rattle.md_setting.specs.Setting.{GeneralSetting}
use Rattle.md_setting.specs.Meaning.{outcome_count}
use Rattle.md_parts.specs.declared.version.Version.TheVariants.{One}
use Rattle.md_parts.specs.Rows.{again_row, bound_rows, end_row, face_rows, first_row, mechanism_rows, number_row, ray_rows, value_row, wide_rows}
use Rattle.md_determ_node.specs.NodeProgram.{row_count_of}
use Rattle.md_tree.specs.Trees.{root_of}
use Rattle.md_tree.specs.Visits.{opens_after}
use Rattle.md_tree.specs.declared.node.Node.{Node}
use Rattle.md_tree.specs.declared.node.Node.TheVariants as nodes
use Rattle.md_tree.specs.declared.answer.DetAnswer.{DetAnswer}
use Rattle.md_tree.specs.declared.answer.DetAnswer.TheVariants.{Optimal, Infeasible, Unbounded, TooWide}
use Rattle.md_tree.specs.declared.kind.Kind.{Kind}
use Rattle.md_tree.specs.declared.kind.Kind.TheVariants as kind
use Rattle.md_tree.specs.Kinds.{word_of}

-- a node where this is fixed
abbrev pub rows_at : GeneralSetting → List (Option ℕ) → Node → List (List (List ℕ))
rows_at s fixed (nodes.Branch rank) = number_row (codes "branch") (pos rank ∷ []) ∷ []
rows_at s fixed (nodes.Infeasible face) = (codes "leaf" ∷ codes "infeasible" ∷ []) ∷ face_rows (row_count_of s fixed) face
rows_at s fixed (nodes.Optimal m bound) = (codes "leaf" ∷ codes "optimal" ∷ []) ∷ (mechanism_rows s m ++ bound_rows (row_count_of s fixed) bound)

-- the nodes of the trees at these open nodes, one after another
abbrev pub rows_from : GeneralSetting → List (List (Option ℕ)) → List Node → List (List (List ℕ))
rows_from s opens [] = []
rows_from s [] (node ∷ others) = []
rows_from s (fixed ∷ opens) (node ∷ others) = rows_at s fixed node ++ rows_from s (opens_after (outcome_count s) fixed node opens) others

abbrev pub tree_rows : GeneralSetting → List Node → List (List (List ℕ))
tree_rows s tree = rows_from s (root_of s ∷ []) tree

abbrev pub fixed_row : Pivot → List (List ℕ)
fixed_row pair = number_row (codes "fix") (pos pair.row ∷ pos pair.column ∷ [])

-- what stands between the first record and the last
abbrev pub inner_rows : GeneralSetting → DetAnswer → List (List (List ℕ))
inner_rows s (Optimal value m tree) = value_row value ∷ (mechanism_rows s m ++ tree_rows s tree)
inner_rows s (Infeasible tree) = tree_rows s tree
inner_rows s (Unbounded m ray) = mechanism_rows s m ++ ray_rows s ray
inner_rows s (TooWide fixed first second) = map fixed_row fixed ++ (wide_rows first ++ again_row ∷ wide_rows second)

abbrev pub kind_in : DetAnswer → Kind
kind_in (Optimal value m tree) = kind.Optimal
kind_in (Infeasible tree) = kind.Infeasible
kind_in (Unbounded m ray) = kind.Unbounded
kind_in (TooWide fixed first second) = kind.TooWide

abbrev pub answer_rows : GeneralSetting → DetAnswer → List (List (List ℕ))
answer_rows s answer = first_row One (codes "determ") (word_of (kind_in answer)) ∷ (inner_rows s answer ++ end_row ∷ [])

-- the one text of an answer
abbrev pub text_of_determ : GeneralSetting → DetAnswer → List ℕ
text_of_determ s answer = text_of_records (answer_rows s answer)
