-- How a search goes on at the node that is visited.
use Rattle.std.proofs.Common.{◌≡◌, ◌≢◌, inl, inr, ℕ, ℤ, List, [], ◌∷◌, ◌++◌, length, Option, None, Some, refl, sym, ap, ◌∙◌, subst, append_assoc, append-nil}
use Rattle.md_space.specs.Profiles.{profile_count}
use Rattle.md_setting.specs.Setting.{GeneralSetting}
use Rattle.md_setting.specs.Meaning.{outcome_count, sizes_of}
use Rattle.md_mech.specs.declared.mechanism.Mechanism.{Mechanism}
use Rattle.md_mech.specs.Value.{IsValueOf}
use Rattle.md_num.specs.declared.frac.Frac.{Frac}
use Rattle.md_cert.specs.declared.bound.Bound.{Bound}
use Rattle.md_parts.specs.Fitting.{HasFraction, IsFraction}
use Rattle.md_lp.specs.declared.pivot.Pivot.{Pivot}
use Rattle.md_lp.specs.declared.wide.Wide.{Wide}
use Rattle.md_determ_branching.specs.Fixed.{AreOutcomes, IsWhole, children_of}
use Rattle.md_determ_branching.specs.Tour.{Tour, current_of, rest_of}
use Rattle.md_determ_branching.proofs.Measure.{opens-first}
use Rattle.md_determ_node.specs.Deterministic.{IsDeterministic}
use Rattle.md_determ_node.specs.NodeProgram.{IsNode, row_count_of}
use Rattle.md_determ_node.proofs.Laws.{all-fixed}
use Rattle.md_tree.specs.AnswerTo.{IsLeafFor}
use Rattle.md_tree.specs.Trees.{AreTrees, IsTree, root_of}
use Rattle.md_tree.specs.declared.answer.DetAnswer.{DetAnswer}
use Rattle.md_tree.specs.declared.answer.DetAnswer.TheVariants as answers
use Rattle.md_tree.specs.declared.node.Node.{Node}
use Rattle.md_tree.specs.declared.node.Node.TheVariants as nodes
use Rattle.md_question_solve.specs.Readings.{FitsReading}
use Rattle.md_determ.specs.Pairs.{ArePairsOf}
use Rattle.md_determ.specs.Readings.{IsReadAt, IsWideAt}
use Rattle.md_determ.specs.Search.{IsFinished, IsNoBetter, IsSearched, IsSearchFrom, IsStoppedAt, LeavesOpen}
use Rattle.md_determ.specs.Way.{IsAcceptedBest, IsAtNode, IsClosed, IsSplit, IsTold, IsTurn, IsUnderWay}
use Rattle.md_question_solve.specs.declared.reading.Reading.{Reading}
use Rattle.md_question_solve.specs.declared.reading.Reading.TheVariants.{Optimal, Infeasible, Unbounded}
use Rattle.md_determ.specs.declared.search.Search.{Search}
use Rattle.md_determ.proofs.FixedPairs.{pairs-fixed}
use Rattle.md_determ.proofs.ReadingLaws.{IsShownAt, read-shown}

-- ---- one node more

more-nodes : (tree : List Node) (node : Node) (rest new : List Node) → new ≡ tree ++ node ∷ [] → new ++ rest ≡ tree ++ node ∷ rest
more-nodes tree node rest new same = ap (λ (t : List Node). t ++ rest) same ∙ append_assoc tree (node ∷ []) rest

module _ (s : GeneralSetting) (width : ℕ) (old new : Search) (node : Node) (way : IsUnderWay s width old) where
  -- the new search is the old one with a node more, which changes what is open and what is best so
  record IsStep : Type 0 where
    same_width : new.width ≡ old.width
    ranks : new.walk.ranks ≡ old.walk.ranks
    outcomes : new.walk.outcomes ≡ old.walk.outcomes
    tree : new.tree ≡ old.tree ++ node ∷ []
    accepted : IsAcceptedBest s new.best
    trees : (rest : List Node) → AreTrees (outcome_count s) (IsLeafFor s) new.walk.opens rest → AreTrees (outcome_count s) (IsLeafFor s) old.walk.opens (node ∷ rest)
    searches : (all : List Node) (answer : DetAnswer) (visited : List Node) → IsSearchFrom s width all answer new.best new.walk.opens visited
        → IsSearchFrom s width all answer old.best old.walk.opens (node ∷ visited)

  on-way : IsStep → IsUnderWay s width new
  on-way step = record {
    same_width = step.same_width ∙ way.same_width;
    ranks = step.ranks ∙ way.ranks;
    outcomes = step.outcomes ∙ way.outcomes;
    accepted = step.accepted;
    trees = λ rest h. subst (IsTree s (IsLeafFor s)) (sym (more-nodes old.tree node rest new.tree step.tree)) (way.trees (node ∷ rest) (step.trees rest h));
    searches = λ answer visited h.
        subst (λ (all : List Node). IsSearchFrom s width all answer None (root_of s ∷ []) all) (sym (more-nodes old.tree node visited new.tree step.tree))
        (way.searches answer (node ∷ visited)
        (step.searches (old.tree ++ node ∷ visited) answer visited
        (subst (λ (all : List Node). IsSearchFrom s width all answer new.best new.walk.opens visited) (more-nodes old.tree node visited new.tree step.tree) h)));
  }

-- ---- the open nodes

opened : (old : Search) → old.walk.opens ≢ [] → old.walk.opens ≡ current_of old.walk ∷ rest_of old.walk
opened old some = opens-first old.walk some

-- ---- leaves

module _ (s : GeneralSetting) (width : ℕ) (old new : Search) where
  pub infeasible-turn : (face : List ℤ) → IsAtNode s width old (Infeasible face) → IsClosed (nodes.Infeasible face) old new → IsTurn s width old new
  infeasible-turn face at closed = record {
    way = on-way s width old new (nodes.Infeasible face) at.way
        (record {
          same_width = closed.width;
          ranks = closed.ranks;
          outcomes = closed.outcomes;
          tree = closed.tree;
          accepted = subst (IsAcceptedBest s) (sym closed.best) at.way.accepted;
          trees = λ rest h.
              subst (λ (opens : List (List (Option ℕ))). AreTrees (outcome_count s) (IsLeafFor s) opens (nodes.Infeasible face ∷ rest)) (sym (opened old at.some_open))
              (at.fits, subst (λ (opens : List (List (Option ℕ))). AreTrees (outcome_count s) (IsLeafFor s) opens rest) closed.opens h);
          searches = λ all answer visited h.
              subst (λ (opens : List (List (Option ℕ))). IsSearchFrom s width all answer old.best opens (nodes.Infeasible face ∷ visited)) (sym (opened old at.some_open)) (
                at.is_read,
                subst (λ (opens : List (List (Option ℕ))). IsSearchFrom s width all answer old.best opens visited) closed.opens
                    (subst (λ (best : Option Mechanism). IsSearchFrom s width all answer best new.walk.opens visited) closed.best h),
              );
        });
    less = closed.less;
  }

  module _ (m : Mechanism) (bound : Bound) (at : IsAtNode s width old (Optimal m bound)) where
    -- the leaf of a best point, once it is known which mechanism is the best one then
    optimal-turn : (best : Option Mechanism) → IsClosed (nodes.Optimal m bound) (record old { best = best }) new → IsAcceptedBest s best
        → ((all : List Node) (answer : DetAnswer) (visited : List Node) → IsSearchFrom s width all answer best (rest_of old.walk) visited
        → IsSearchFrom s width all answer old.best (current_of old.walk ∷ rest_of old.walk) (nodes.Optimal m bound ∷ visited)) → IsTurn s width old new
    optimal-turn best closed accepted on = record {
      way = on-way s width old new (nodes.Optimal m bound) at.way
          (record {
            same_width = closed.width;
            ranks = closed.ranks;
            outcomes = closed.outcomes;
            tree = closed.tree;
            accepted = subst (IsAcceptedBest s) (sym closed.best) accepted;
            trees = λ rest h.
                subst (λ (opens : List (List (Option ℕ))). AreTrees (outcome_count s) (IsLeafFor s) opens (nodes.Optimal m bound ∷ rest)) (sym (opened old at.some_open))
                (at.fits, subst (λ (opens : List (List (Option ℕ))). AreTrees (outcome_count s) (IsLeafFor s) opens rest) closed.opens h);
            searches = λ all answer visited h.
                subst (λ (opens : List (List (Option ℕ))). IsSearchFrom s width all answer old.best opens (nodes.Optimal m bound ∷ visited)) (sym (opened old at.some_open))
                (on all answer visited
                (subst (λ (opens : List (List (Option ℕ))). IsSearchFrom s width all answer best opens visited) closed.opens
                (subst (λ (b : Option Mechanism). IsSearchFrom s width all answer b new.walk.opens visited) closed.best h)));
          });
      less = closed.less;
    }

    pub kept-turn : IsNoBetter s old.best m → IsClosed (nodes.Optimal m bound) old new → IsTurn s width old new
    kept-turn within closed = optimal-turn old.best closed at.way.accepted (λ all answer visited h. (at.is_read, inl (within, h)))

    pub found-turn : (¬ IsNoBetter s old.best m) → IsDeterministic s m → IsClosed (nodes.Optimal m bound) (record old { best = Some m }) new → IsTurn s width old new
    found-turn better deterministic closed = optimal-turn (Some m) closed at.fits.0 (λ all answer visited h. (at.is_read, inr (better, deterministic, h)))

  -- ---- branches

  pub split-turn : (reading : Reading) → IsAtNode s width old reading → LeavesOpen s old.best reading → IsSplit old new → IsTurn s width old new
  split-turn reading at leaves_open split = record {
    way = on-way s width old new (nodes.Branch split.rank) at.way
        (record {
          same_width = split.width;
          ranks = split.ranks;
          outcomes = split.outcomes;
          tree = split.tree;
          accepted = subst (IsAcceptedBest s) (sym split.best) at.way.accepted;
          trees = λ rest h.
              subst (λ (opens : List (List (Option ℕ))). AreTrees (outcome_count s) (IsLeafFor s) opens (nodes.Branch split.rank ∷ rest)) (sym (opened old at.some_open))
              (split.least.free, subst (λ (opens : List (List (Option ℕ))). AreTrees (outcome_count s) (IsLeafFor s) opens rest) children h);
          searches = λ all answer visited h.
              subst (λ (opens : List (List (Option ℕ))). IsSearchFrom s width all answer old.best opens (nodes.Branch split.rank ∷ visited)) (sym (opened old at.some_open)) (
                record { reading = reading; is_read = at.is_read; leaves_open = leaves_open; least = split.least },
                subst (λ (opens : List (List (Option ℕ))). IsSearchFrom s width all answer old.best opens visited) children
                    (subst (λ (best : Option Mechanism). IsSearchFrom s width all answer best new.walk.opens visited) split.best h),
              );
        });
    less = split.less;
  }
    where
      children : new.walk.opens ≡ children_of (outcome_count s) (current_of old.walk) split.rank ++ rest_of old.walk
      children = split.opens ∙ ap (λ outcomes. children_of outcomes (current_of old.walk) split.rank ++ rest_of old.walk) at.way.outcomes

-- ---- an outcome is fixed at each rank

-- who has what is fixed has no lottery then
pub open-not_whole : (s : GeneralSetting) (width : ℕ) (search : Search) (reading : Reading) → IsAtNode s width search reading → LeavesOpen s search.best reading → IsWhole (current_of search.walk) → ⊥
open-not_whole s width search (Optimal m bound) at leaves_open whole =
    let shown : IsShownAt s (current_of search.walk) (Optimal m bound) = read-shown s width (current_of search.walk) (Optimal m bound) at.node at.is_read in
    leaves_open.1 (all-fixed s (current_of search.walk) m at.node whole shown.1 shown.0.mechanism)
open-not_whole s width search (Infeasible face) at leaves_open whole = leaves_open
open-not_whole s width search (Unbounded m pays) at leaves_open whole =
    let shown : IsShownAt s (current_of search.walk) (Unbounded m pays) = read-shown s width (current_of search.walk) (Unbounded m pays) at.node at.is_read in
    leaves_open (all-fixed s (current_of search.walk) m at.node whole shown.1 shown.0.mechanism)

-- ---- the ends of a search

module _ (s : GeneralSetting) (width : ℕ) (search : Search) (way : IsUnderWay s width search) where
  -- the answer of what is visited from here on is that of the whole search
  whole-search : (answer : DetAnswer) (visited : List Node) → IsSearchFrom s width (search.tree ++ visited) answer search.best search.walk.opens visited → IsSearched s width answer
  whole-search answer visited h = record { tree = search.tree ++ visited; search = way.searches answer visited h }

  pub stopped-searched : (answer : DetAnswer) → search.walk.opens ≢ [] → IsStoppedAt s width (current_of search.walk) answer → IsSearched s width answer
  stopped-searched answer some h =
      whole-search answer []
      (subst (λ (opens : List (List (Option ℕ))). IsSearchFrom s width (search.tree ++ []) answer search.best opens []) (sym (opened search some)) h)

  ended-searched : (answer : DetAnswer) → search.walk.opens ≡ [] → IsFinished s search.best (search.tree ++ []) answer → IsSearched s width answer
  ended-searched answer over h =
      whole-search answer []
      (subst (λ (opens : List (List (Option ℕ))). IsSearchFrom s width (search.tree ++ []) answer search.best opens []) (sym over) h)

  ended-tree : search.walk.opens ≡ [] → IsTree s (IsLeafFor s) search.tree
  ended-tree over =
      subst (IsTree s (IsLeafFor s)) (append-nil search.tree)
      (way.trees [] (subst (λ (opens : List (List (Option ℕ))). AreTrees (outcome_count s) (IsLeafFor s) opens []) (sym over) tt))

  -- no node is open any more
  pub best-told : (best : Mechanism) (value : Frac) → search.walk.opens ≡ [] → search.best ≡ Some best → IsValueOf s best value → IsFraction value.num value.den → IsTold s width (answers.Optimal value best search.tree)
  best-told best value over same is_value fraction =
      let answer : DetAnswer = answers.Optimal value best search.tree in
      record {
        searched = ended-searched answer over
            (subst (λ (b : Option Mechanism). IsFinished s b (search.tree ++ []) answer) (sym same) (refl, is_value, sym (append-nil search.tree)));
        writable = (fraction, subst (IsAcceptedBest s) same way.accepted, ended-tree over);
      }

  pub none-told : search.walk.opens ≡ [] → search.best ≡ None → IsTold s width (answers.Infeasible search.tree)
  none-told over same =
      let answer : DetAnswer = answers.Infeasible search.tree in
      record {
        searched = ended-searched answer over
            (subst (λ (b : Option Mechanism). IsFinished s b (search.tree ++ []) answer) (sym same) (sym (append-nil search.tree)));
        writable = ended-tree over;
      }

-- where the cost of a node has no end
pub unbounded-told : (s : GeneralSetting) (width : ℕ) (search : Search) (m : Mechanism) (pays : List ℤ) → IsAtNode s width search (Unbounded m pays) → IsDeterministic s m → IsTold s width (answers.Unbounded m pays)
unbounded-told s width search m pays at deterministic = record {
  searched = stopped-searched s width search at.way (answers.Unbounded m pays) at.some_open (deterministic, at.is_read);
  writable = at.fits;
}

-- where a node has no taken path
pub wide-told : (s : GeneralSetting) (width : ℕ) (search : Search) (fixed : List (Option ℕ)) (pairs : List Pivot) (first second : Wide) → IsUnderWay s width search → search.walk.opens ≢ [] → fixed ≡ current_of search.walk
    → IsNode s fixed → ArePairsOf fixed pairs → IsWideAt s width fixed first second → HasFraction first → HasFraction second → IsTold s width (answers.TooWide pairs first second)
wide-told s width search fixed pairs first second way some same node are wide a b = record {
  searched = stopped-searched s width search way (answers.TooWide pairs first second) some
      (subst (λ (current : List (Option ℕ)). ArePairsOf current pairs × IsWideAt s width current first second) same (are, wide));
  writable = (pairs-fixed s fixed node pairs are, a, b);
}

-- ---- the node that is visited

pub visited-node : (s : GeneralSetting) (width : ℕ) (search : Search) (fixed : List (Option ℕ)) → IsUnderWay s width search → length fixed ≡ search.walk.ranks → AreOutcomes search.walk.outcomes fixed → IsNode s fixed
visited-node s width search fixed way ranks outcomes = record {
  one_each = ranks ∙ way.ranks;
  outcomes = subst (λ n. AreOutcomes n fixed) way.outcomes outcomes;
}

pub visited-at : (s : GeneralSetting) (width : ℕ) (search : Search) (fixed : List (Option ℕ)) (reading : Reading) → IsUnderWay s width search → search.walk.opens ≢ [] → fixed ≡ current_of search.walk
    → IsNode s fixed → IsReadAt s width fixed reading → FitsReading s (row_count_of s fixed) reading → IsAtNode s width search reading
visited-at s width search fixed reading way some same node is_read fits = record {
  way = way;
  some_open = some;
  node = subst (IsNode s) same node;
  is_read = subst (λ (current : List (Option ℕ)). IsReadAt s width current reading) same is_read;
  fits = subst (λ (current : List (Option ℕ)). FitsReading s (row_count_of s current) reading) same fits;
}

-- ---- the root

-- a search begins there
pub begun : (s : GeneralSetting) (width : ℕ) (search : Search) → search.width ≡ width → search.walk ≡ record { outcomes = outcome_count s; ranks = profile_count (sizes_of s); opens = root_of s ∷ [] }
    → search.tree ≡ [] → search.best ≡ None → IsUnderWay s width search
begun s width search same_width walk tree best = record {
  same_width = same_width;
  ranks = ap (λ (t : Tour). t.ranks) walk;
  outcomes = ap (λ (t : Tour). t.outcomes) walk;
  accepted = subst (IsAcceptedBest s) (sym best) tt;
  trees = λ rest h.
      subst (IsTree s (IsLeafFor s)) (sym (ap (λ (t : List Node). t ++ rest) tree))
      (subst (λ (opens : List (List (Option ℕ))). AreTrees (outcome_count s) (IsLeafFor s) opens rest) opens h);
  searches = λ answer visited h.
      subst (λ (all : List Node). IsSearchFrom s width all answer None (root_of s ∷ []) all) (sym (ap (λ (t : List Node). t ++ visited) tree))
      (subst (λ (all : List Node). IsSearchFrom s width all answer None (root_of s ∷ []) visited) (ap (λ (t : List Node). t ++ visited) tree)
      (subst (λ (b : Option Mechanism). IsSearchFrom s width (search.tree ++ visited) answer b (root_of s ∷ []) visited) best
      (subst (λ (os : List (List (Option ℕ))). IsSearchFrom s width (search.tree ++ visited) answer search.best os visited) opens h)));
}
  where
    opens : search.walk.opens ≡ root_of s ∷ []
    opens = ap (λ (t : Tour). t.opens) walk
