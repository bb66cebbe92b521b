-- A loop over the records of a tree.
use Rattle.std.proofs.Common.{◌≡◌, ℕ, zero, suc, ◌≤◌, List, [], ◌∷◌, ◌++◌, length, Option, Result, Ok, Err, refl, sym, ap, ap₂, subst, ◌∙◌, arith, append-nil, append_assoc}
use Rattle.md_space.specs.Profiles.{profile_count}
use Rattle.md_setting.specs.Setting.{GeneralSetting}
use Rattle.md_setting.specs.Meaning.{outcome_count, sizes_of}
use Rattle.md_parts.specs.declared.refusal.AnswerRefusal.{AnswerRefusal}
use Rattle.md_parts.specs.declared.refusal.AnswerRefusal.TheVariants.{End}
use Rattle.md_parts.specs.Reading.{Rest, then_read}
use Rattle.md_determ_branching.specs.Fixed.{nothing_fixed}
use Rattle.md_determ_branching.specs.Tour.{Tour, current_of, rest_of}
use Rattle.md_tree.specs.AnswerTo.{IsLeafFor}
use Rattle.md_tree.specs.Trees.{AreTrees, IsTree, root_of}
use Rattle.md_tree.specs.declared.node.Node.{Node}
use Rattle.md_tree.specs.declared.node.Node.TheVariants.{Branch, Infeasible, Optimal}
use Rattle.md_tree.specs.Visits.{IsNodeFor, MayStand, opens_after}
use Rattle.md_tree.specs.TreeText.{node_of, nodes_of, tree_of}
use Rattle.md_tree.proofs.Shorter.{node-fewer}

-- ---- what is fixed at the open nodes, and the nodes that are left

pub stands : (s : GeneralSetting) (fixed : List (Option ℕ)) (node : Node) → IsNodeFor s fixed node → MayStand fixed node
stands s fixed (Branch rank) h = h
stands s fixed (Infeasible face) h = tt
stands s fixed (Optimal m bound) h = tt

-- a node before the trees that stand behind it
pub trees-before : (s : GeneralSetting) (outcomes : ℕ) (fixed : List (Option ℕ)) (opens : List (List (Option ℕ))) (node : Node) (nodes : List Node) → IsNodeFor s fixed node
    → AreTrees outcomes (IsLeafFor s) (opens_after outcomes fixed node opens) nodes → AreTrees outcomes (IsLeafFor s) (fixed ∷ opens) (node ∷ nodes)
trees-before s outcomes fixed opens (Branch rank) nodes one more = (one, more)
trees-before s outcomes fixed opens (Infeasible face) nodes one more = (one, more)
trees-before s outcomes fixed opens (Optimal m bound) nodes one more = (one, more)

-- ---- the next node

-- nodes that were read before those that come
abbrev pub before_nodes : List Node → Result (List Node × Rest) AnswerRefusal → Result (List Node × Rest) AnswerRefusal
before_nodes nodes (Ok read) = Ok (nodes ++ read.0, read.1)
before_nodes nodes (Err refusal) = Err refusal

before-none : (r : Result (List Node × Rest) AnswerRefusal) → r ≡ before_nodes [] r
before-none (Ok read) = refl
before-none (Err refusal) = refl

before-one : (nodes : List Node) (node : Node) (r : Result (List Node × Rest) AnswerRefusal) → before_nodes nodes (then_read r (λ others rest. Ok (node ∷ others, rest))) ≡ before_nodes (nodes ++ node ∷ []) r
before-one nodes node (Ok read) = ap (λ (l : List Node). Ok (l, read.1)) (sym (append_assoc nodes (node ∷ []) read.0))
before-one nodes node (Err refusal) = refl

pub nodes-none : (s : GeneralSetting) (records : ℕ) (now : Rest) → nodes_of s records [] now ≡ Ok ([], now)
nodes-none s zero now = refl
nodes-none s (suc records) now = refl

-- where no record is left there is no node
ended : (s : GeneralSetting) (fixed : List (Option ℕ)) (now : Rest) → length now.left ≤ 0 → node_of s fixed now ≡ Err (End now.read)
ended s fixed now l = on_left now.read now.left l
  where
    on_left : (read : ℕ) (left : List (List (List ℕ))) → length left ≤ 0 → node_of s fixed record { read = read; left = left } ≡ Err (End read)
    on_left read [] l = refl
    on_left read (next ∷ others) l = absurd (omega arith)

nodes-fail : (s : GeneralSetting) (records : ℕ) (fixed : List (Option ℕ)) (opens : List (List (Option ℕ))) (now : Rest) (refusal : AnswerRefusal) → length now.left ≤ records → node_of s fixed now ≡ Err refusal
    → nodes_of s records (fixed ∷ opens) now ≡ Err refusal
nodes-fail s zero fixed opens now refusal l e =
    let both = sym (ended s fixed now l) ∙ e in
    let same : End now.read ≡ refusal = cc in
    ap Err same
nodes-fail s (suc records) fixed opens now refusal l e = rw e refl

-- so many records may be left behind it
record HasNext (s : GeneralSetting) (records : ℕ) (fixed : List (Option ℕ)) (opens : List (List (Option ℕ))) (now next : Rest) (node : Node) : Type 0 where
  more : ℕ
  enough : length next.left ≤ more
  nodes_are : nodes_of s records (fixed ∷ opens) now ≡ then_read (nodes_of s more (opens_after (outcome_count s) fixed node opens) next) (λ others rest. Ok (node ∷ others, rest))

nodes-next : (s : GeneralSetting) (records : ℕ) (fixed : List (Option ℕ)) (opens : List (List (Option ℕ))) (now next : Rest) (node : Node) → length now.left ≤ records → node_of s fixed now ≡ Ok (node, next)
    → HasNext s records fixed opens now next node
nodes-next s zero fixed opens now next node l e = let f = node-fewer s fixed now next node e in absurd (omega (arith, l, f))
nodes-next s (suc records) fixed opens now next node l e =
    let f = node-fewer s fixed now next node e in
    record { more = records; enough = omega (arith, l, f); nodes_are = rw e refl }

-- ---- the loop

-- the nodes that were read, and what is open behind them
pub record AreRead (s : GeneralSetting) (start now : Rest) (tour : Tour) (nodes : List Node) : Type 0 where
  pub outcomes : tour.outcomes ≡ outcome_count s
  pub ranks : tour.ranks ≡ profile_count (sizes_of s)
  pub records : ℕ
  pub enough : length now.left ≤ records
  pub so_far : tree_of s start ≡ before_nodes nodes (nodes_of s records tour.opens now)
  pub fits : (others : List Node) → AreTrees (outcome_count s) (IsLeafFor s) tour.opens others → IsTree s (IsLeafFor s) (nodes ++ others)

pub read-none : (s : GeneralSetting) (start : Rest) → AreRead s start start record { outcomes = outcome_count s; ranks = profile_count (sizes_of s); opens = root_of s ∷ [] } []
read-none s start = record {
  outcomes = refl;
  ranks = refl;
  records = length start.left;
  enough = omega arith;
  so_far = before-none (tree_of s start);
  fits = λ others h. h;
}

pub read-start : (s : GeneralSetting) (start : Rest) (outcomes ranks : ℕ) (tour : Tour) → outcomes ≡ outcome_count s → ranks ≡ profile_count (sizes_of s) → tour ≡ record { outcomes = outcomes; ranks = ranks; opens = nothing_fixed ranks ∷ [] }
    → AreRead s start start tour []
read-start s start outcomes ranks tour o r is =
    let first : record { outcomes = outcomes; ranks = ranks; opens = nothing_fixed ranks ∷ [] } ≡ record { outcomes = outcome_count s; ranks = profile_count (sizes_of s); opens = root_of s ∷ [] } =
    ap₂ (λ (n m : ℕ). record { outcomes = n; ranks = m; opens = nothing_fixed m ∷ [] }) o r in
    subst (λ (t : Tour). AreRead s start start t []) (sym (is ∙ first)) (read-none s start)

pub read-more : (s : GeneralSetting) (start now next : Rest) (tour later : Tour) (fixed : List (Option ℕ)) (nodes : List Node) (node : Node) → AreRead s start now tour nodes → tour.opens ≡ fixed ∷ rest_of tour
    → fixed ≡ current_of tour → node_of s fixed now ≡ Ok (node, next) → IsNodeFor s fixed node → later.outcomes ≡ tour.outcomes → later.ranks ≡ tour.ranks → later.opens ≡ opens_after tour.outcomes (current_of tour) node (rest_of tour)
    → AreRead s start next later (nodes ++ node ∷ [])
read-more s start now next tour later fixed nodes node h open_is current one stands outcomes ranks opens =
    let n = nodes-next s h.records fixed (rest_of tour) now next node h.enough one in
    let here : later.opens ≡ opens_after (outcome_count s) fixed node (rest_of tour) =
    opens ∙ ap₂ (λ (k : ℕ) (f : List (Option ℕ)). opens_after k f node (rest_of tour)) h.outcomes (sym current) in
    record {
      outcomes = outcomes ∙ h.outcomes;
      ranks = ranks ∙ h.ranks;
      records = n.more;
      enough = n.enough;
      so_far = h.so_far ∙ ap (λ (os : List (List (Option ℕ))). before_nodes nodes (nodes_of s h.records os now)) open_is ∙ ap (before_nodes nodes) n.nodes_are
          ∙ before-one nodes node (nodes_of s n.more (opens_after (outcome_count s) fixed node (rest_of tour)) next)
          ∙ ap (λ (os : List (List (Option ℕ))). before_nodes (nodes ++ node ∷ []) (nodes_of s n.more os next)) (sym here);
      fits = λ others trees.
          let behind = subst (λ (os : List (List (Option ℕ))). AreTrees (outcome_count s) (IsLeafFor s) os others) here trees in
          let before = trees-before s (outcome_count s) fixed (rest_of tour) node others stands behind in
          rw (append_assoc nodes (node ∷ []) others) (h.fits (node ∷ others) (subst (λ (os : List (List (Option ℕ))). AreTrees (outcome_count s) (IsLeafFor s) os (node ∷ others)) (sym open_is) before));
    }

pub read-fails : (s : GeneralSetting) (start now : Rest) (tour : Tour) (fixed : List (Option ℕ)) (nodes : List Node) (refusal : AnswerRefusal) → AreRead s start now tour nodes → tour.opens ≡ fixed ∷ rest_of tour
    → node_of s fixed now ≡ Err refusal → tree_of s start ≡ Err refusal
read-fails s start now tour fixed nodes refusal h open_is one =
    h.so_far ∙ ap (λ (os : List (List (Option ℕ))). before_nodes nodes (nodes_of s h.records os now)) open_is
    ∙ ap (before_nodes nodes) (nodes-fail s h.records fixed (rest_of tour) now refusal h.enough one)

pub read-all : (s : GeneralSetting) (start now : Rest) (tour : Tour) (nodes : List Node) → AreRead s start now tour nodes → tour.opens ≡ [] → tree_of s start ≡ Ok (nodes, now)
read-all s start now tour nodes h over =
    h.so_far ∙ ap (λ (os : List (List (Option ℕ))). before_nodes nodes (nodes_of s h.records os now)) over ∙ ap (before_nodes nodes) (nodes-none s h.records now)
    ∙ ap (λ (l : List Node). Ok (l, now)) (append-nil nodes)

pub read-fits : (s : GeneralSetting) (start now : Rest) (tour : Tour) (nodes : List Node) → AreRead s start now tour nodes → tour.opens ≡ [] → IsTree s (IsLeafFor s) nodes
read-fits s start now tour nodes h over =
    rw append-nil at (h.fits [] (subst (λ (os : List (List (Option ℕ))). AreTrees (outcome_count s) (IsLeafFor s) os []) (sym over) tt))
