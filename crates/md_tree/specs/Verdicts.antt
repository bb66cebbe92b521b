-- The verdict on an answer, by conditions that are tried in their order. Those of an optimal answer are:
--   1. each lottery of the mechanism is on one outcome;
--   2. the mechanism is admissible;
--   3. the value is that of the mechanism;
--   4. leaf by leaf, in preorder: the certificate of the leaf holds for the program of what is fixed there, and the leaf is
--      worth at most what the mechanism is.
-- Those of an infeasible answer are the fourth alone, where no leaf may be optimal. Those of an unbounded answer are the first two,
-- and then:
--   5. the point of the mechanism with the ray is certified for the setting's program.
use Rattle.std.specs.Prelude.{◌≡◌, ℕ, suc, ◌⊎◌, ℤ, List, [], ◌∷◌, ◌++◌, Option, None, Some}
use Rattle.md_num.specs.declared.frac.Frac.{Frac}
use Rattle.md_setting.specs.Setting.{GeneralSetting}
use Rattle.md_setting.specs.Meaning.{outcome_count}
use Rattle.md_mech.specs.declared.mechanism.Mechanism.{Mechanism}
use Rattle.md_mech.specs.Admissible.{IsAdmissible}
use Rattle.md_mech.specs.Value.{HasValue}
use Rattle.md_mech.specs.Rows.{IsFirstBroken, conditions_of}
use Rattle.md_lp.specs.Program.{Program}
use Rattle.md_cert.specs.Certified.{Certified}
use Rattle.md_rows.specs.ProgramOf.{IsProgramOf}
use Rattle.md_claims.specs.Certificates.{unbounded_certificate}
use Rattle.md_claims.specs.Values.{IsOtherValue}
use Rattle.md_determ_branching.specs.Fixed.{children_of}
use Rattle.md_determ_node.specs.Deterministic.{IsDeterministic, IsFirstLottery, IsOptimalDeterministic, HasNoDeterministic, GrowsDeterministic}
use Rattle.md_tree.specs.Trees.{AreTrees, root_of}
use Rattle.md_tree.specs.Leaves.{IsCertifiedLeaf, IsRefusedLeaf, IsNoBetter, IsSoundLeaf}
use Rattle.md_tree.specs.declared.node.Node.{Node}
use Rattle.md_tree.specs.declared.node.Node.TheVariants.{Branch}
use Rattle.md_tree.specs.declared.answer.DetAnswer.{DetAnswer}
use Rattle.md_tree.specs.declared.answer.DetAnswer.TheVariants.{Optimal, Infeasible, Unbounded, TooWide}
use Rattle.md_tree.specs.declared.verdict.DetReject.{DetReject}
use Rattle.md_tree.specs.declared.verdict.DetReject.TheVariants.{Lottery, Audit, Value, Leaf, Worth, Root}
use Rattle.md_tree.specs.declared.verdict.DetVerdict.{DetVerdict}
use Rattle.md_tree.specs.declared.verdict.DetVerdict.TheVariants.{Valid, Undecided, Rejected}

-- ---- the tree

-- why the leaf of this number shows nothing
abbrev pub IsLeafFault : GeneralSetting → Option Mechanism → List (Option ℕ) → Node → ℕ → DetReject → Type 0
IsLeafFault s best fixed leaf number (Leaf told) = (told ≡ number) × IsRefusedLeaf s fixed leaf
IsLeafFault s best fixed leaf number (Worth told) = (told ≡ number) × IsCertifiedLeaf s fixed leaf × (¬ IsNoBetter s best leaf)
IsLeafFault s best fixed leaf number _ = ⊥

-- the fault is that of the first leaf that shows nothing, where the first node of the list has this number
abbrev pub IsFirstLeafFault : GeneralSetting → Option Mechanism → List (List (Option ℕ)) → ℕ → List Node → DetReject → Type 0
IsFirstLeafFault s best [] number nodes fault = ⊥
IsFirstLeafFault s best (fixed ∷ opens) number [] fault = ⊥
IsFirstLeafFault s best (fixed ∷ opens) number (Branch rank ∷ nodes) fault = IsFirstLeafFault s best (children_of (outcome_count s) fixed rank ++ opens) (suc number) nodes fault
IsFirstLeafFault s best (fixed ∷ opens) number (leaf ∷ nodes) fault = IsLeafFault s best fixed leaf number fault ⊎ (IsSoundLeaf s best fixed leaf × IsFirstLeafFault s best opens (suc number) nodes fault)

-- the verdict on the trees below open nodes, where the first node of the list has this number
abbrev pub IsVerdictFrom : GeneralSetting → Option Mechanism → List (List (Option ℕ)) → ℕ → List Node → DetVerdict → Type 0
IsVerdictFrom s best opens number nodes Valid = AreTrees (outcome_count s) (IsSoundLeaf s best) opens nodes
IsVerdictFrom s best opens number nodes Undecided = ⊥
IsVerdictFrom s best opens number nodes (Rejected fault) = IsFirstLeafFault s best opens number nodes fault

-- the verdict on a tree that is to show that no deterministic mechanism is better than the best one
abbrev pub IsTreeVerdict : GeneralSetting → Option Mechanism → List Node → DetVerdict → Type 0
IsTreeVerdict s best tree verdict = IsVerdictFrom s best (root_of s ∷ []) 0 tree verdict

-- ---- the answers

-- an admissible mechanism whose lotteries are each on one outcome
pub record IsRule (s : GeneralSetting) (m : Mechanism) : Type 0 where
  pub deterministic : IsDeterministic s m
  pub admissible : IsAdmissible s m

-- why a mechanism is no such rule
abbrev pub IsRuleFault : GeneralSetting → Mechanism → DetReject → Type 0
IsRuleFault s m (Lottery rank) = IsFirstLottery s m rank
IsRuleFault s m (Audit broken) = IsDeterministic s m × IsFirstBroken s m (conditions_of s) 0 broken
IsRuleFault s m _ = ⊥

abbrev pub IsOptimalVerdict : GeneralSetting → Frac → Mechanism → List Node → DetVerdict → Type 0
IsOptimalVerdict s value m tree (Rejected (Lottery rank)) = IsFirstLottery s m rank
IsOptimalVerdict s value m tree (Rejected (Audit broken)) = IsDeterministic s m × IsFirstBroken s m (conditions_of s) 0 broken
IsOptimalVerdict s value m tree (Rejected (Value right)) = IsRule s m × IsOtherValue s m value right
IsOptimalVerdict s value m tree verdict = IsRule s m × HasValue s m value × IsTreeVerdict s (Some m) tree verdict

-- whether the setting's program certifies the ray with the point of the mechanism
pub record HasGrowth (s : GeneralSetting) (m : Mechanism) (ray : List ℤ) : Type 0 where
  pub program : Program
  pub is_program : IsProgramOf s program
  pub certified : Certified program (unbounded_certificate s m ray)

pub record HasNoGrowth (s : GeneralSetting) (m : Mechanism) (ray : List ℤ) : Type 0 where
  pub program : Program
  pub is_program : IsProgramOf s program
  pub refused : ¬ Certified program (unbounded_certificate s m ray)

abbrev pub IsUnboundedVerdict : GeneralSetting → Mechanism → List ℤ → DetVerdict → Type 0
IsUnboundedVerdict s m ray (Rejected (Lottery rank)) = IsFirstLottery s m rank
IsUnboundedVerdict s m ray (Rejected (Audit broken)) = IsDeterministic s m × IsFirstBroken s m (conditions_of s) 0 broken
IsUnboundedVerdict s m ray (Rejected Root) = IsRule s m × HasNoGrowth s m ray
IsUnboundedVerdict s m ray (Rejected _) = ⊥
IsUnboundedVerdict s m ray Valid = IsRule s m × HasGrowth s m ray
IsUnboundedVerdict s m ray Undecided = ⊥

-- an answer that is too wide claims nothing that could be checked
abbrev pub IsVerdict : GeneralSetting → DetAnswer → DetVerdict → Type 0
IsVerdict s (Optimal value m tree) verdict = IsOptimalVerdict s value m tree verdict
IsVerdict s (Infeasible tree) verdict = IsTreeVerdict s None tree verdict
IsVerdict s (Unbounded m ray) verdict = IsUnboundedVerdict s m ray verdict
IsVerdict s (TooWide fixed first second) verdict = verdict ≡ Undecided

abbrev pub ClaimsNothing : DetAnswer → Type 0
ClaimsNothing (TooWide fixed first second) = Unit {0}
ClaimsNothing _ = ⊥

-- ---- what is claimed

-- the claim of an answer is so, over mechanisms of any denominator, with numbers of any size
abbrev pub ClaimHolds : GeneralSetting → DetAnswer → Type 0
ClaimHolds s (Optimal value m tree) = IsOptimalDeterministic s m × HasValue s m value
ClaimHolds s (Infeasible tree) = HasNoDeterministic s
ClaimHolds s (Unbounded m ray) = GrowsDeterministic s m ray
ClaimHolds s (TooWide fixed first second) = ⊥
