-- What a tree of sound leaves says of all deterministic mechanisms: of any denominator, with numbers of any size.
use Rattle.std.proofs.Common.{ℕ, ◌<◌, ℤ, pos, ◌≤ℤ◌, ◌<ℤ◌, List, [], ◌∷◌, ◌++◌, Option, None, Some, All, inl, inr, ◌∙◌, arith}
use Rattle.std.proofs.Math.ListN.{length-replicate}
use Rattle.std.proofs.lemmas.Int.{ints}
use Rattle.std.proofs.lemmas.List.Elements.{All-append, All-cons, All-head, All-nil, All-tail}
use Rattle.md_math.proofs.Builders.{All-list_to}
use Rattle.md_space.specs.Profiles.{profile_count}
use Rattle.md_setting.specs.Setting.{GeneralSetting}
use Rattle.md_setting.specs.Meaning.{outcome_count, sizes_of}
use Rattle.md_mech.specs.declared.mechanism.Mechanism.{Mechanism}
use Rattle.md_mech.specs.Mechanism.{IsMechanism}
use Rattle.md_mech.specs.Accepted.{IsAccepted}
use Rattle.md_mech.specs.Admissible.{IsAdmissible}
use Rattle.md_mech.specs.Optimal.{worth_of}
use Rattle.md_claims.proofs.SettingClaims as claims
use Rattle.md_determ_branching.specs.Fixed.{IsFree, with_fixed, children_of, Agrees}
use Rattle.md_determ_branching.specs.Tour.{SomeAgrees}
use Rattle.md_determ_branching.proofs.Laws.{length-with_fixed, AreOutcomes-nothing, AreOutcomes-child, some-first, some-none, some-cases, some-of_children}
use Rattle.md_determ_node.specs.Deterministic.{IsDeterministic, IsChoice, IsOptimalDeterministic, HasNoDeterministic, GrowsDeterministic}
use Rattle.md_determ_node.specs.NodeProgram.{IsNode, HasFixed}
use Rattle.md_determ_node.proofs.PointLaws.{with_laws}
use Rattle.md_determ_node.proofs.Laws.{choice, agrees, leaf-optimal, leaf-infeasible, grows-deterministic}
use Rattle.md_tree.specs.Trees.{AreTrees, IsTree, root_of}
use Rattle.md_tree.specs.AnswerTo.{IsLeafFor}
use Rattle.md_tree.specs.Leaves.{IsNoBetter, IsSoundLeaf, IsWorthAtMost}
use Rattle.md_tree.specs.Verdicts.{IsRule, HasGrowth}
use Rattle.md_tree.specs.Visits.{IsBest}
use Rattle.md_tree.specs.declared.node.Node.{Node}
use Rattle.md_tree.specs.declared.node.Node.TheVariants.{Branch, Infeasible, Optimal}
use Rattle.md_tree.proofs.WorthLaws.{at_most-chain}

-- the mechanism is worth at most what the best one is; where none is best there is no such mechanism
abbrev pub IsWithin : GeneralSetting → Option Mechanism → Mechanism → Type 0
IsWithin s None other = ⊥
IsWithin s (Some best) other = IsWorthAtMost s other best

-- ---- nodes

pub root-node : (s : GeneralSetting) → IsNode s (root_of s)
root-node s = record {
  one_each = length-replicate (profile_count (sizes_of s)) None;
  outcomes = AreOutcomes-nothing (outcome_count s) (profile_count (sizes_of s));
}

child-node : (s : GeneralSetting) (fixed : List (Option ℕ)) (rank outcome : ℕ) → IsNode s fixed → outcome < outcome_count s → IsNode s (with_fixed fixed rank outcome)
child-node s fixed rank outcome node below = record {
  one_each = length-with_fixed fixed rank outcome ∙ node.one_each;
  outcomes = AreOutcomes-child (outcome_count s) fixed rank outcome below node.outcomes;
}

children-nodes : (s : GeneralSetting) (fixed : List (Option ℕ)) (rank : ℕ) → IsNode s fixed → All (IsNode s) (children_of (outcome_count s) fixed rank)
children-nodes s fixed rank node = All-list_to (IsNode s) (outcome_count s) (with_fixed fixed rank) (λ outcome below. child-node s fixed rank outcome node below)

-- ---- the law

module _ (s : GeneralSetting) (best : Option Mechanism) (is_best : IsBest s best) (other : Mechanism) (admissible : IsAdmissible s other) (chosen : ℕ → ℕ) (is : IsChoice s other chosen) where
  den-positive : (m : Mechanism) → IsMechanism s m → pos 0 <ℤ m.den
  den-positive m mechanism = (let one : pos 1 ≤ℤ m.den = mechanism.den in omega (arith, ints, one))

  has-fixed : (fixed : List (Option ℕ)) → IsNode s fixed → Agrees chosen fixed → HasFixed s fixed other
  has-fixed fixed node agree = (agrees s other chosen fixed admissible.mechanism is node).0 agree

  -- a sound leaf bounds the mechanisms that have what is fixed there
  leaf-within : (fixed : List (Option ℕ)) (leaf : Node) → IsNode s fixed → IsLeafFor s fixed leaf → IsSoundLeaf s best fixed leaf → HasFixed s fixed other → IsWithin s best other
  leaf-within fixed (Branch rank) node for sound fixes = absurd for
  leaf-within fixed (Infeasible face) node for sound fixes =
      let program = sound.certified.program in
      absurd (leaf-infeasible s fixed program face (with_laws s fixed program node sound.certified.is_program) sound.certified.certified other admissible fixes)
  leaf-within fixed (Optimal m bound) node for sound fixes =
      let program = sound.certified.program in
      below best is_best sound.within
      (leaf-optimal s fixed program m bound (with_laws s fixed program node sound.certified.is_program) for.0.mechanism sound.certified.certified other admissible fixes)
    where
      below : (best : Option Mechanism) → IsBest s best → IsNoBetter s best (Optimal m bound) → IsWorthAtMost s other m → IsWithin s best other
      below None is_best within h = absurd within
      below (Some best) is_best within h =
          at_most-chain (worth_of s other) other.den (worth_of s m) m.den (worth_of s best) best.den (den-positive other admissible.mechanism) (den-positive m for.0.mechanism) (den-positive best is_best.mechanism)
          h within

  -- so do the trees at open nodes, of which one agrees with what the mechanism chooses
  pub trees-within : (opens : List (List (Option ℕ))) (nodes : List Node) → All (IsNode s) opens → AreTrees (outcome_count s) (IsLeafFor s) opens nodes
      → AreTrees (outcome_count s) (IsSoundLeaf s best) opens nodes → SomeAgrees chosen opens → IsWithin s best other
  trees-within [] [] all for sound some = absurd (some-none chosen some)
  trees-within [] (node ∷ nodes) all for sound some = absurd for
  trees-within (fixed ∷ opens) [] all for sound some = absurd for
  trees-within (fixed ∷ opens) (Branch rank ∷ nodes) all for sound some =
      trees-within (children_of (outcome_count s) fixed rank ++ opens) nodes
      (All-append (IsNode s) (children_of (outcome_count s) fixed rank) opens (children-nodes s fixed rank (All-head (IsNode s) fixed opens all)) (All-tail (IsNode s) fixed opens all)) for.1 sound.1
      (some-of_children chosen (outcome_count s) fixed rank opens (chosen-below fixed rank (All-head (IsNode s) fixed opens all) for.0) some)
    where
      chosen-below : (fixed : List (Option ℕ)) (rank : ℕ) → IsNode s fixed → IsFree fixed rank → chosen rank < outcome_count s
      chosen-below fixed rank node free = is.below rank (let below = free.below in omega (arith, below, node.one_each))
  trees-within (fixed ∷ opens) (Infeasible face ∷ nodes) all for sound some =
      elim (some-cases chosen fixed opens some) [
        | inl here ↦ leaf-within fixed (Infeasible face) (All-head (IsNode s) fixed opens all) for.0 sound.0 (has-fixed fixed (All-head (IsNode s) fixed opens all) here)
        | inr behind ↦ trees-within opens nodes (All-tail (IsNode s) fixed opens all) for.1 sound.1 behind
      ]
  trees-within (fixed ∷ opens) (Optimal m bound ∷ nodes) all for sound some =
      elim (some-cases chosen fixed opens some) [
        | inl here ↦ leaf-within fixed (Optimal m bound) (All-head (IsNode s) fixed opens all) for.0 sound.0 (has-fixed fixed (All-head (IsNode s) fixed opens all) here)
        | inr behind ↦ trees-within opens nodes (All-tail (IsNode s) fixed opens all) for.1 sound.1 behind
      ]

-- each admissible deterministic mechanism is within the best one
pub tree-within : (s : GeneralSetting) (best : Option Mechanism) (tree : List Node) → IsBest s best → IsTree s (IsLeafFor s) tree → IsTree s (IsSoundLeaf s best) tree
    → (other : Mechanism) → IsAdmissible s other → IsDeterministic s other → IsWithin s best other
tree-within s best tree is_best for sound other admissible deterministic =
    let chosen = choice s other admissible.mechanism deterministic in
    trees-within s best is_best other admissible chosen.choice chosen.is_choice (root_of s ∷ []) tree
    (All-cons (IsNode s) (root_of s) [] (root-node s) (All-nil (IsNode s))) for sound (some-first chosen.choice (profile_count (sizes_of s)))

-- ---- what answers claim

pub optimal-claimed : (s : GeneralSetting) (m : Mechanism) (tree : List Node) → IsAccepted s m → IsTree s (IsLeafFor s) tree → IsRule s m → IsTree s (IsSoundLeaf s (Some m)) tree → IsOptimalDeterministic s m
optimal-claimed s m tree accepted for rule sound = record {
  admissible = rule.admissible;
  deterministic = rule.deterministic;
  best = tree-within s (Some m) tree accepted for sound;
}

pub infeasible-claimed : (s : GeneralSetting) (tree : List Node) → IsTree s (IsLeafFor s) tree → IsTree s (IsSoundLeaf s None) tree → HasNoDeterministic s
infeasible-claimed s tree for sound other admissible deterministic = tree-within s None tree tt for sound other admissible deterministic

pub unbounded-claimed : (s : GeneralSetting) (m : Mechanism) (ray : List ℤ) → IsRule s m → HasGrowth s m ray → GrowsDeterministic s m ray
unbounded-claimed s m ray rule growth =
    grows-deterministic s m ray (claims.grows_mechanism s growth.program m ray (claims.with_laws s growth.program growth.is_program) rule.admissible.mechanism growth.certified) rule.deterministic
