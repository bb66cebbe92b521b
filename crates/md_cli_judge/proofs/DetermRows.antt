-- The broken row that a verdict tells.
use Rattle.std.proofs.Common.{◌≡◌, ℕ, suc, ◌+◌, ◌<◌, List, [], ◌∷◌, Option, None, Some, ◌++◌, length, length-append, ap, inl, inr, ◌∙◌, arith}
use mathlib.Core.Logic.{⊎_elim}
use Rattle.std.specs.Prelude.{slice_get}
use Rattle.std.proofs.lemmas.Option.{slice_get_cases}
use Rattle.md_setting.specs.Setting.{GeneralSetting}
use Rattle.md_setting.specs.Meaning.{outcome_count}
use Rattle.md_mech.specs.declared.broken.Broken.{Broken}
use Rattle.md_mech.specs.declared.mechanism.Mechanism.{Mechanism}
use Rattle.md_mech.specs.Rows.{Condition, IsFirstBroken, conditions_of}
use Rattle.md_determ_branching.specs.Fixed.{children_of}
use Rattle.md_tree.specs.Verdicts.{IsFirstLeafFault, IsVerdict}
use Rattle.md_tree.specs.declared.answer.DetAnswer.{DetAnswer}
use Rattle.md_tree.specs.declared.answer.DetAnswer.TheVariants as answers
use Rattle.md_tree.specs.declared.node.Node.{Node}
use Rattle.md_tree.specs.declared.node.Node.TheVariants.{Branch, Infeasible, Optimal}
use Rattle.md_tree.specs.declared.verdict.DetReject.TheVariants.{Audit}
use Rattle.md_tree.specs.declared.verdict.DetVerdict.TheVariants.{Rejected}
use Rattle.md_tree.specs.Trees.{root_of}

-- the first broken row is one of the setting's
first-in : (s : GeneralSetting) (m : Mechanism) (broken : Broken) → IsFirstBroken s m (conditions_of s) 0 broken → broken.row < length (conditions_of s)
first-in s m broken h =
    let size : length (conditions_of s) ≡ length h.before + length (h.row ∷ h.after) = ap length h.parts ∙ length-append h.before (h.row ∷ h.after) in
    omega (arith, h.number, size)

-- no leaf of a tree breaks a row
no-row-at_leaves : (s : GeneralSetting) (best : Option Mechanism) (opens : List (List (Option ℕ))) (number : ℕ) (nodes : List Node) (broken : Broken)
    → IsFirstLeafFault s best opens number nodes (Audit broken) → ⊥
no-row-at_leaves s best [] number nodes broken h = absurd h
no-row-at_leaves s best (fixed ∷ opens) number [] broken h = absurd h
no-row-at_leaves s best (fixed ∷ opens) number (Branch rank ∷ nodes) broken h =
    no-row-at_leaves s best (children_of (outcome_count s) fixed rank ++ opens) (suc number) nodes broken h
no-row-at_leaves s best (fixed ∷ opens) number (Infeasible face ∷ nodes) broken (inl h) = absurd h
no-row-at_leaves s best (fixed ∷ opens) number (Infeasible face ∷ nodes) broken (inr h) = no-row-at_leaves s best opens (suc number) nodes broken h.1
no-row-at_leaves s best (fixed ∷ opens) number (Optimal m bound ∷ nodes) broken (inl h) = absurd h
no-row-at_leaves s best (fixed ∷ opens) number (Optimal m bound ∷ nodes) broken (inr h) = no-row-at_leaves s best opens (suc number) nodes broken h.1

-- a row that is told broken is one of the setting's
pub told-in : (s : GeneralSetting) (answer : DetAnswer) (broken : Broken) → IsVerdict s answer (Rejected (Audit broken)) → broken.row < length (conditions_of s)
told-in s (answers.Optimal value m tree) broken h = first-in s m broken h.1
told-in s (answers.Infeasible tree) broken h = absurd (no-row-at_leaves s None (root_of s ∷ []) 0 tree broken h)
told-in s (answers.Unbounded m ray) broken h = first-in s m broken h.1
told-in s (answers.TooWide fixed first second) broken h = absurd (let e = h in cc)

-- the row of a number
pub row_at : (s : GeneralSetting) (r : ℕ) → r < length (conditions_of s) → (row : Condition) × (slice_get (conditions_of s) r ≡ Some row)
row_at s r within =
    ⊎_elim (λ there. (there.0, there.2)) (λ past. absurd (omega (arith, past.0, within))) (slice_get_cases (conditions_of s) r).1
