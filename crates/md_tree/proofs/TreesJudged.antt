-- A loop over the records of a tree that checks what it reads.
use Rattle.std.proofs.Common.{◌≡◌, ◌≢◌, ℕ, suc, ◌+◌, ◌<◌, ◌≤◌, List, [], ◌∷◌, ◌++◌, length, Option, refl, sym, ap, subst, ◌∙◌, add-one, arith, append-nil, append_assoc}
use Rattle.md_space.specs.Profiles.{profile_count}
use Rattle.md_setting.specs.Setting.{GeneralSetting}
use Rattle.md_setting.specs.Meaning.{outcome_count, sizes_of}
use Rattle.md_mech.specs.declared.mechanism.Mechanism.{Mechanism}
use Rattle.md_parts.specs.Reading.{Rest}
use Rattle.md_determ_branching.specs.Fixed.{nothing_fixed}
use Rattle.md_determ_branching.specs.Tour.{Tour, current_of, rest_of}
use Rattle.md_determ_branching.proofs.Measure.{opens-first}
use Rattle.md_tree.specs.AnswerTo.{IsLeafFor}
use Rattle.md_tree.specs.Trees.{AreTrees, root_of}
use Rattle.md_tree.specs.Visits.{opens_after}
use Rattle.md_tree.specs.declared.node.Node.{Node}
use Rattle.md_tree.specs.declared.verdict.DetVerdict.{DetVerdict}
use Rattle.md_tree.specs.Judging.{IsJudgedFrom, IsTreeJudged, IsJudgedTree, IsNextJudged}
use Rattle.md_tree.proofs.Shorter.{node-fewer}
use Rattle.md_tree.proofs.TreesRead.{AreRead, read-start, read-more, read-all, read-fits, trees-before}
use Rattle.md_tree.proofs.JudgeLaws.{judged-after, judged-end}

-- So many nodes were read, and the verdict behind them is this one: the one behind all nodes that may follow is that behind the
-- whole tree.
pub record AreJudged (s : GeneralSetting) (best : Option Mechanism) (known : DetVerdict) (start now : Rest) (tour : Tour) (number : ℕ) (verdict : DetVerdict) : Type 0 where
  pub nodes : List Node
  pub read : AreRead s start now tour nodes
  pub few : number + length now.left ≤ length start.left
  pub judged : (others : List Node) (last : DetVerdict) → AreTrees (outcome_count s) (IsLeafFor s) tour.opens others
      → IsJudgedFrom s best tour.opens number others verdict last → IsTreeJudged s best (nodes ++ others) known last

pub start-judged : (s : GeneralSetting) (best : Option Mechanism) (known : DetVerdict) (start : Rest) (outcomes ranks : ℕ) (tour : Tour) → outcomes ≡ outcome_count s → ranks ≡ profile_count (sizes_of s)
    → tour ≡ record { outcomes = outcomes; ranks = ranks; opens = nothing_fixed ranks ∷ [] } → AreJudged s best known start start tour 0 known
start-judged s best known start outcomes ranks tour o r is =
    let root : tour.opens ≡ root_of s ∷ [] = ap (λ (t : Tour). t.opens) is ∙ ap (λ (k : ℕ). nothing_fixed k ∷ []) r in
    record {
      nodes = [];
      read = read-start s start outcomes ranks tour o r is;
      few = omega arith;
      judged = λ others last trees h. subst (λ (os : List (List (Option ℕ))). IsJudgedFrom s best os 0 others known last) root h;
    }

module _ (s : GeneralSetting) (best : Option Mechanism) (known : DetVerdict) (start now next : Rest) (tour later : Tour) (number : ℕ) (before behind : DetVerdict)
    (h : AreJudged s best known start now tour number before) (some : tour.opens ≢ []) (one : IsNextJudged s best tour later now next number before behind) where
  -- fewer records are left
  pub next-fewer : length next.left < length now.left
  next-fewer = node-fewer s (current_of tour) now next one.node one.reads

  -- the number of the next node is in its range
  pub number-few : suc number + length next.left ≤ length start.left
  number-few = (let fewer = next-fewer in omega (arith, fewer, h.few))

  pub more-judged : AreJudged s best known start next later (number + 1) behind
  more-judged =
      let open_is : tour.opens ≡ current_of tour ∷ rest_of tour = opens-first tour some in
      let here : later.opens ≡ opens_after (outcome_count s) (current_of tour) one.node (rest_of tour) = one.opens ∙ ap (λ (k : ℕ). opens_after k (current_of tour) one.node (rest_of tour)) h.read.outcomes in
      subst (λ (n : ℕ). AreJudged s best known start next later n behind) (sym (add-one number)) record {
        nodes = h.nodes ++ one.node ∷ [];
        read = read-more s start now next tour later (current_of tour) h.nodes one.node h.read open_is refl one.reads one.fits one.outcomes one.ranks one.opens;
        few = number-few;
        judged = λ others last trees more.
            let after = subst (λ (os : List (List (Option ℕ))). AreTrees (outcome_count s) (IsLeafFor s) os others) here trees in
            let before_all = trees-before s (outcome_count s) (current_of tour) (rest_of tour) one.node others one.fits after in
            let all = subst (λ (os : List (List (Option ℕ))). AreTrees (outcome_count s) (IsLeafFor s) os (one.node ∷ others)) (sym open_is) before_all in
            let rest = subst (λ (os : List (List (Option ℕ))). IsJudgedFrom s best os (suc number) others behind last) here more in
            rw (append_assoc h.nodes (one.node ∷ []) others)
            (h.judged (one.node ∷ others) last all (judged-after s best tour.opens number one.node others before behind last all one.judged rest));
      }

pub all-judged : (s : GeneralSetting) (best : Option Mechanism) (known : DetVerdict) (start now : Rest) (tour : Tour) (number : ℕ) (verdict : DetVerdict) → AreJudged s best known start now tour number verdict → tour.opens ≡ []
    → IsJudgedTree s best known start now verdict
all-judged s best known start now tour number verdict h over = record {
  tree = h.nodes;
  reads = read-all s start now tour h.nodes h.read over;
  fits = read-fits s start now tour h.nodes h.read over;
  judged =
      let none = subst (λ (os : List (List (Option ℕ))). AreTrees (outcome_count s) (IsLeafFor s) os []) (sym over) tt in
      let end = subst (λ (os : List (List (Option ℕ))). IsJudgedFrom s best os number [] verdict verdict) (sym over) (judged-end s best number verdict) in
      rw append-nil at (h.judged [] verdict none end);
}
