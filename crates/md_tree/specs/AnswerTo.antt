-- What is known of an answer that was read for a setting, and what an answer must be to be written or checked.
use Rattle.std.specs.Prelude.{ℕ, suc, ◌<◌, ◌≤◌, List, [], ◌∷◌, Option}
use Rattle.md_space.specs.Profiles.{profile_count}
use Rattle.md_setting.specs.Setting.{GeneralSetting}
use Rattle.md_setting.specs.Meaning.{outcome_count, sizes_of}
use Rattle.md_mech.specs.Accepted.{IsAccepted}
use Rattle.md_lp.specs.declared.pivot.Pivot.{Pivot}
use Rattle.md_parts.specs.Fitting.{IsFraction, AreMultipliers, IsBoundOver, IsRayFor, HasFraction, HasWidePlaces}
use Rattle.md_determ_node.specs.NodeProgram.{row_count_of}
use Rattle.md_tree.specs.Trees.{IsTree}
use Rattle.md_tree.specs.declared.node.Node.{Node}
use Rattle.md_tree.specs.declared.node.Node.TheVariants.{Branch, Infeasible, Optimal}
use Rattle.md_tree.specs.declared.answer.DetAnswer.{DetAnswer}
use Rattle.md_tree.specs.declared.answer.DetAnswer.TheVariants as answers

-- the leaf has the sizes and ranges of the program of what is fixed there
abbrev pub IsLeafFor : GeneralSetting → List (Option ℕ) → Node → Type 0
IsLeafFor s fixed (Branch rank) = ⊥
IsLeafFor s fixed (Infeasible face) = AreMultipliers (row_count_of s fixed) face
IsLeafFor s fixed (Optimal m bound) = IsAccepted s m × IsBoundOver (row_count_of s fixed) bound

-- each pair of a rank and an outcome is one of the setting, and ranks ascend from `next` on
abbrev pub AreFixedFrom : GeneralSetting → ℕ → List Pivot → Type 0
AreFixedFrom s next [] = Unit {0}
AreFixedFrom s next (pair ∷ pairs) = (next ≤ pair.row) × (pair.row < profile_count (sizes_of s)) × (pair.column < outcome_count s) × AreFixedFrom s (suc pair.row) pairs

-- the answer has the setting's sizes, and its numbers are in their ranges
abbrev pub IsDetAnswerTo : GeneralSetting → DetAnswer → Type 0
IsDetAnswerTo s (answers.Optimal value m tree) = IsFraction value.num value.den × IsAccepted s m × IsTree s (IsLeafFor s) tree
IsDetAnswerTo s (answers.Infeasible tree) = IsTree s (IsLeafFor s) tree
IsDetAnswerTo s (answers.Unbounded m ray) = IsAccepted s m × IsRayFor s ray
IsDetAnswerTo s (answers.TooWide fixed first second) = AreFixedFrom s 0 fixed × HasFraction first × HasFraction second

-- the places that an answer names are as its types hold them
abbrev pub HasPlaces : DetAnswer → Type 0
HasPlaces (answers.TooWide fixed first second) = HasWidePlaces first × HasWidePlaces second
HasPlaces _ = Unit {0}
