-- What a search shows: its answer is valid.
use Rattle.std.proofs.Common.{◌≡◌, inl, inr, ℕ, ◌<◌, ℤ, pos, ◌*ℤ◌, ◌≤ℤ◌, ◌<ℤ◌, List, [], ◌∷◌, ◌++◌, All, Option, None, Some, refl, sym, ◌∙◌, subst, arith}
use Rattle.std.proofs.lemmas.Int.{ints}
use Rattle.std.proofs.lemmas.Option.{none-some}
use Rattle.std.proofs.lemmas.List.Elements.{All-append, All-cons, All-head, All-nil, All-tail}
use Rattle.md_math.proofs.Builders.{All-list_to}
use Rattle.md_math.proofs.Order.{le_from_lt, lt_or_le}
use Rattle.md_setting.specs.Setting.{GeneralSetting}
use Rattle.md_setting.specs.Meaning.{outcome_count}
use Rattle.md_mech.specs.declared.mechanism.Mechanism.{Mechanism}
use Rattle.md_mech.specs.Optimal.{worth_of}
use Rattle.md_mech.specs.Value.{IsValueOf}
use Rattle.md_cert.specs.declared.bound.Bound.{Bound}
use Rattle.md_determ_branching.specs.Fixed.{IsFree, children_of, with_fixed}
use Rattle.md_determ_branching.proofs.Laws.{AreOutcomes-child, length-with_fixed}
use Rattle.md_determ_node.specs.NodeProgram.{IsNode}
use Rattle.md_tree.specs.Leaves.{IsSoundLeaf, IsWorthAtMost}
use Rattle.md_tree.specs.Trees.{AreTrees, root_of}
use Rattle.md_tree.specs.Verdicts.{ClaimsNothing, HasGrowth, IsRule, IsVerdict}
use Rattle.md_tree.specs.declared.answer.DetAnswer.{DetAnswer}
use Rattle.md_tree.specs.declared.answer.DetAnswer.TheVariants as answers
use Rattle.md_tree.specs.declared.node.Node.{Node}
use Rattle.md_tree.specs.declared.node.Node.TheVariants as nodes
use Rattle.md_tree.specs.declared.verdict.DetVerdict.TheVariants.{Valid}
use Rattle.md_tree.proofs.ClaimLaws.{root-node}
use Rattle.md_tree.proofs.WorthLaws.{at_most-chain}
use Rattle.md_determ.specs.Search.{IsFinished, IsNoBetter, IsSearched, IsSearchFrom, IsStoppedAt}
use Rattle.md_question_solve.specs.declared.reading.Reading.TheVariants.{Optimal, Infeasible, Unbounded}
use Rattle.md_determ.proofs.ReadingLaws.{IsShownAt, read-shown}

-- ---- nodes

child-node : (s : GeneralSetting) (fixed : List (Option ℕ)) (rank outcome : ℕ) → IsNode s fixed → outcome < outcome_count s → IsNode s (with_fixed fixed rank outcome)
child-node s fixed rank outcome node below = record {
  one_each = length-with_fixed fixed rank outcome ∙ node.one_each;
  outcomes = AreOutcomes-child (outcome_count s) fixed rank outcome below node.outcomes;
}

-- the open nodes after a branch
pub branched-nodes : (s : GeneralSetting) (fixed : List (Option ℕ)) (opens : List (List (Option ℕ))) (rank : ℕ) → All (IsNode s) (fixed ∷ opens) → All (IsNode s) (children_of (outcome_count s) fixed rank ++ opens)
branched-nodes s fixed opens rank all =
    All-append (IsNode s) (children_of (outcome_count s) fixed rank) opens
    (All-list_to (IsNode s) (outcome_count s) (with_fixed fixed rank) (λ outcome below. child-node s fixed rank outcome (All-head (IsNode s) fixed opens all) below))
    (All-tail (IsNode s) fixed opens all)

-- ---- the best mechanism so far

-- it is one that could be told
abbrev pub IsFound : GeneralSetting → Option Mechanism → Type 0
IsFound s None = Unit {0}
IsFound s (Some best) = IsRule s best

-- a mechanism is worth at least what it is
abbrev pub IsAtLeast : GeneralSetting → Option Mechanism → Mechanism → Type 0
IsAtLeast s None m = Unit {0}
IsAtLeast s (Some best) m = IsWorthAtMost s best m

den-positive : (s : GeneralSetting) (m : Mechanism) → IsRule s m → pos 0 <ℤ m.den
den-positive s m rule = (let one : pos 1 ≤ℤ m.den = rule.admissible.mechanism.den in omega (arith, ints, one))

worth-chain : (s : GeneralSetting) (a b c : Mechanism) → pos 0 <ℤ a.den → pos 0 <ℤ b.den → pos 0 <ℤ c.den → IsWorthAtMost s a b → IsWorthAtMost s b c → IsWorthAtMost s a c
worth-chain s a b c pa pb pc first second = at_most-chain (worth_of s a) a.den (worth_of s b) b.den (worth_of s c) c.den pa pb pc first second

worth-self : (s : GeneralSetting) (a b : Mechanism) → a ≡ b → IsWorthAtMost s b a
worth-self s a b same = subst (λ m. IsWorthAtMost s b m) (sym same) (at (worth_of s b *ℤ b.den))
  where
    at : (z : ℤ) → z ≤ℤ z
    at z = omega (arith, ints)

turned : (y z : ℤ) → (¬ (y ≤ℤ z)) → z ≤ℤ y
turned y z h = elim (lt_or_le z y) [ inl less ↦ le_from_lt z y less | inr most ↦ absurd (h most) ]

-- one that is no worse than the best one so far, where the other was found before
better-chain : (s : GeneralSetting) (best : Option Mechanism) (new m : Mechanism) → IsFound s best → (¬ IsNoBetter s best new) → IsRule s new → IsRule s m → IsWorthAtMost s new m → IsAtLeast s best m
better-chain s None new m found better rule told at_most = tt
better-chain s (Some best) new m found better rule told at_most =
    worth-chain s best new m (den-positive s best found) (den-positive s new rule) (den-positive s m told)
    (turned (worth_of s new *ℤ best.den) (worth_of s best *ℤ new.den) better) at_most

-- ---- what a search shows from some open nodes on

abbrev pub IsShownFrom : GeneralSetting → (tree : List Node) → Option Mechanism → List (List (Option ℕ)) → List Node → DetAnswer → Type 0
IsShownFrom s tree best opens visited (answers.Optimal value m told) =
    (told ≡ tree) × IsRule s m × IsValueOf s m value × IsAtLeast s best m × AreTrees (outcome_count s) (IsSoundLeaf s (Some m)) opens visited
IsShownFrom s tree best opens visited (answers.Infeasible told) = (told ≡ tree) × (best ≡ None) × AreTrees (outcome_count s) (IsSoundLeaf s None) opens visited
IsShownFrom s tree best opens visited (answers.Unbounded m pays) = IsRule s m × HasGrowth s m pays
IsShownFrom s tree best opens visited (answers.TooWide pairs first second) = Unit {0}

finished-shown : (s : GeneralSetting) (tree : List Node) (best : Option Mechanism) (answer : DetAnswer) → IsFound s best → IsFinished s best tree answer → IsShownFrom s tree best [] [] answer
finished-shown s tree None (answers.Optimal value m told) found h = absurd h
finished-shown s tree None (answers.Infeasible told) found h = (h, refl, tt)
finished-shown s tree None (answers.Unbounded m pays) found h = absurd h
finished-shown s tree None (answers.TooWide pairs first second) found h = absurd h
finished-shown s tree (Some best) (answers.Optimal value m told) found h =
    (h.2, subst (IsRule s) (sym h.0) found, subst (λ k. IsValueOf s k value) (sym h.0) h.1, worth-self s m best h.0, tt)
finished-shown s tree (Some best) (answers.Infeasible told) found h = absurd h
finished-shown s tree (Some best) (answers.Unbounded m pays) found h = absurd h
finished-shown s tree (Some best) (answers.TooWide pairs first second) found h = absurd h

stopped-shown : (s : GeneralSetting) (width : ℕ) (tree : List Node) (best : Option Mechanism) (fixed : List (Option ℕ)) (opens : List (List (Option ℕ))) (answer : DetAnswer)
    → IsNode s fixed → IsStoppedAt s width fixed answer → IsShownFrom s tree best (fixed ∷ opens) [] answer
stopped-shown s width tree best fixed opens (answers.Optimal value m told) node h = absurd h
stopped-shown s width tree best fixed opens (answers.Infeasible told) node h = absurd h
stopped-shown s width tree best fixed opens (answers.Unbounded m pays) node h =
    let shown : IsShownAt s fixed (Unbounded m pays) = read-shown s width fixed (Unbounded m pays) node h.1 in
    (record { deterministic = h.0; admissible = shown.0 }, shown.2)
stopped-shown s width tree best fixed opens (answers.TooWide pairs first second) node h = tt

branch-shown : (s : GeneralSetting) (tree : List Node) (best : Option Mechanism) (fixed : List (Option ℕ)) (opens : List (List (Option ℕ))) (rank : ℕ) (visited : List Node) (answer : DetAnswer)
    → IsFree fixed rank → IsShownFrom s tree best (children_of (outcome_count s) fixed rank ++ opens) visited answer → IsShownFrom s tree best (fixed ∷ opens) (nodes.Branch rank ∷ visited) answer
branch-shown s tree best fixed opens rank visited (answers.Optimal value m told) free h = (h.0, h.1, h.2, h.3, (free, h.4))
branch-shown s tree best fixed opens rank visited (answers.Infeasible told) free h = (h.0, h.1, (free, h.2))
branch-shown s tree best fixed opens rank visited (answers.Unbounded m pays) free h = h
branch-shown s tree best fixed opens rank visited (answers.TooWide pairs first second) free h = h

infeasible-shown : (s : GeneralSetting) (tree : List Node) (best : Option Mechanism) (fixed : List (Option ℕ)) (opens : List (List (Option ℕ))) (face : List ℤ) (visited : List Node) (answer : DetAnswer)
    → IsShownAt s fixed (Infeasible face) → IsShownFrom s tree best opens visited answer → IsShownFrom s tree best (fixed ∷ opens) (nodes.Infeasible face ∷ visited) answer
infeasible-shown s tree best fixed opens face visited (answers.Optimal value m told) here h = (h.0, h.1, h.2, h.3, (record { certified = here; within = tt }, h.4))
infeasible-shown s tree best fixed opens face visited (answers.Infeasible told) here h = (h.0, h.1, (record { certified = here; within = tt }, h.2))
infeasible-shown s tree best fixed opens face visited (answers.Unbounded m pays) here h = h
infeasible-shown s tree best fixed opens face visited (answers.TooWide pairs first second) here h = h

-- a leaf that is worth at most what the best mechanism is
kept-shown : (s : GeneralSetting) (tree : List Node) (best : Option Mechanism) (fixed : List (Option ℕ)) (opens : List (List (Option ℕ))) (leaf : Mechanism) (bound : Bound) (visited : List Node) (answer : DetAnswer)
    → IsFound s best → IsNoBetter s best leaf → IsShownAt s fixed (Optimal leaf bound) → IsShownFrom s tree best opens visited answer → IsShownFrom s tree best (fixed ∷ opens) (nodes.Optimal leaf bound ∷ visited) answer
kept-shown s tree None fixed opens leaf bound visited answer found within here h = absurd within
kept-shown s tree (Some best) fixed opens leaf bound visited (answers.Optimal value m told) found within here h = (
  h.0,
  h.1,
  h.2,
  h.3,
  (
    record {
      certified = here.2;
      within = worth-chain s leaf best m (let one : pos 1 ≤ℤ leaf.den = here.0.mechanism.den in omega (arith, ints, one)) (den-positive s best found) (den-positive s m h.1) within h.3;
    },
    h.4,
  ),
)
kept-shown s tree (Some best) fixed opens leaf bound visited (answers.Infeasible told) found within here h = absurd (none-some best (sym h.1))
kept-shown s tree (Some best) fixed opens leaf bound visited (answers.Unbounded m pays) found within here h = h
kept-shown s tree (Some best) fixed opens leaf bound visited (answers.TooWide pairs first second) found within here h = h

-- a leaf that becomes the best mechanism
new-shown : (s : GeneralSetting) (tree : List Node) (best : Option Mechanism) (fixed : List (Option ℕ)) (opens : List (List (Option ℕ))) (leaf : Mechanism) (bound : Bound) (visited : List Node) (answer : DetAnswer)
    → IsFound s best → (¬ IsNoBetter s best leaf) → IsRule s leaf → IsShownAt s fixed (Optimal leaf bound) → IsShownFrom s tree (Some leaf) opens visited answer
    → IsShownFrom s tree best (fixed ∷ opens) (nodes.Optimal leaf bound ∷ visited) answer
new-shown s tree best fixed opens leaf bound visited (answers.Optimal value m told) found better rule here h =
    (h.0, h.1, h.2, better-chain s best leaf m found better rule h.1 h.3, (record { certified = here.2; within = h.3 }, h.4))
new-shown s tree best fixed opens leaf bound visited (answers.Infeasible told) found better rule here h = absurd (none-some leaf (sym h.1))
new-shown s tree best fixed opens leaf bound visited (answers.Unbounded m pays) found better rule here h = h
new-shown s tree best fixed opens leaf bound visited (answers.TooWide pairs first second) found better rule here h = h

module _ (s : GeneralSetting) (width : ℕ) (tree : List Node) (answer : DetAnswer) where
  pub sound : (best : Option Mechanism) (opens : List (List (Option ℕ))) (visited : List Node) → IsFound s best → All (IsNode s) opens
      → IsSearchFrom s width tree answer best opens visited → IsShownFrom s tree best opens visited answer
  sound best [] [] found all h = finished-shown s tree best answer found h
  sound best [] (node ∷ visited) found all h = absurd h
  sound best (fixed ∷ opens) [] found all h = stopped-shown s width tree best fixed opens answer (All-head (IsNode s) fixed opens all) h
  sound best (fixed ∷ opens) (nodes.Branch rank ∷ visited) found all h =
      branch-shown s tree best fixed opens rank visited answer h.0.least.free
      (sound best (children_of (outcome_count s) fixed rank ++ opens) visited found (branched-nodes s fixed opens rank all) h.1)
  sound best (fixed ∷ opens) (nodes.Infeasible face ∷ visited) found all h =
      infeasible-shown s tree best fixed opens face visited answer (read-shown s width fixed (Infeasible face) (All-head (IsNode s) fixed opens all) h.0)
      (sound best opens visited found (All-tail (IsNode s) fixed opens all) h.1)
  sound best (fixed ∷ opens) (nodes.Optimal m bound ∷ visited) found all h =
      let here : IsShownAt s fixed (Optimal m bound) = read-shown s width fixed (Optimal m bound) (All-head (IsNode s) fixed opens all) h.0 in
      let rest = All-tail (IsNode s) fixed opens all in
      elim h.1 [
        | inl kept ↦ kept-shown s tree best fixed opens m bound visited answer found kept.0 here (sound best opens visited found rest kept.1)
        | inr new ↦
            let rule : IsRule s m = record { deterministic = new.1; admissible = here.0 } in
            new-shown s tree best fixed opens m bound visited answer found new.0 rule here (sound (Some m) opens visited rule rest new.2)
      ]

-- ---- the answer

shown-valid : (s : GeneralSetting) (tree : List Node) (answer : DetAnswer) → IsShownFrom s tree None (root_of s ∷ []) tree answer → (¬ ClaimsNothing answer) → IsVerdict s answer Valid
shown-valid s tree (answers.Optimal value m told) h claims = (h.1, h.2.is_value, subst (AreTrees (outcome_count s) (IsSoundLeaf s (Some m)) (root_of s ∷ [])) (sym h.0) h.4)
shown-valid s tree (answers.Infeasible told) h claims = subst (AreTrees (outcome_count s) (IsSoundLeaf s None) (root_of s ∷ [])) (sym h.0) h.2
shown-valid s tree (answers.Unbounded m pays) h claims = h
shown-valid s tree (answers.TooWide pairs first second) h claims = absurd (claims tt)

-- the answer of a search that claims something is valid
pub searched-valid : (s : GeneralSetting) (width : ℕ) (answer : DetAnswer) → IsSearched s width answer → (¬ ClaimsNothing answer) → IsVerdict s answer Valid
searched-valid s width answer h claims =
    shown-valid s h.tree answer (sound s width h.tree answer None (root_of s ∷ []) h.tree tt (All-cons (IsNode s) (root_of s) [] (root-node s) (All-nil (IsNode s))) h.search) claims
