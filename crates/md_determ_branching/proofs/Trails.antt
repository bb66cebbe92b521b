-- What the path of the branches says of the open nodes, as it grows and shrinks.
use Rattle.std.proofs.Common.{◌≡◌, ◌≢◌, Bool, true, false, is_none, add-one, ℕ, zero, suc, ◌+◌, ◌-◌, ◌<◌, ◌≤◌, List, Option, Some, None, [], ◌∷◌, ◌++◌, length, ◌==◌, get_or, set, drop, cond, refl, sym, ap, ap₂, subst, ◌∙◌, arith, length-set, get_or-set_same, get_or-set_other}
use Rattle.std.specs.Prelude.{slice_index}
use Rattle.std.proofs.lemmas.Bool.{ne_eqb}
use Rattle.std.proofs.lemmas.List.{set-set, set-get_or, drop_more, drop_all}
use Rattle.std.proofs.lemmas.List.Sums.{sum_by-cons}
use Rattle.md_math.proofs.Builders.{length-list_to, get_or-list_to}
use Rattle.md_determ_branching.specs.Fixed.{fixed_at, nothing_fixed, with_fixed, with_freed, IsFree, free_count, children_of, AreOutcomes}
use Rattle.md_determ_branching.specs.Tour.{Tour, current_of, rest_of}
use Rattle.md_determ_branching.specs.Path.{next_to, siblings_of, behind, opens_of, IsBranched, IsTrail, IsKept}
use Rattle.md_determ_branching.proofs.Laws.{fixed_at-here, free_count-child, AreOutcomes-nothing, AreOutcomes-child}

-- ---- one rank, changed twice

pub freed-fixed : (fixed : List (Option ℕ)) (rank outcome : ℕ) → with_freed (with_fixed fixed rank outcome) rank ≡ with_freed fixed rank
freed-fixed fixed rank outcome = set-set fixed rank (Some outcome) None

pub fixed-freed : (fixed : List (Option ℕ)) (rank outcome : ℕ) → with_fixed (with_freed fixed rank) rank outcome ≡ with_fixed fixed rank outcome
fixed-freed fixed rank outcome = set-set fixed rank None (Some outcome)

pub freed-free : (fixed : List (Option ℕ)) (rank : ℕ) → fixed_at fixed rank ≡ None → with_freed fixed rank ≡ fixed
freed-free fixed rank e = ap (set fixed rank) (sym e) ∙ set-get_or fixed rank None

-- ---- the children from an outcome on

pub children-from : (outcomes : ℕ) (fixed : List (Option ℕ)) (rank outcome : ℕ) → outcome < outcomes → drop outcome (children_of outcomes fixed rank) ≡ with_fixed fixed rank outcome ∷ drop (suc outcome) (children_of outcomes fixed rank)
children-from outcomes fixed rank outcome b =
    let inside : outcome < length (children_of outcomes fixed rank) = omega (arith, length-list_to outcomes (with_fixed fixed rank)) in
    let next : outcome + 1 ≡ suc outcome = omega arith in
    drop_more (children_of outcomes fixed rank) outcome [] inside
    ∙ ap₂ (λ node k. node ∷ drop k (children_of outcomes fixed rank)) (get_or-list_to outcomes (with_fixed fixed rank) outcome [] b) next

pub children-past : (outcomes : ℕ) (fixed : List (Option ℕ)) (rank outcome : ℕ) → outcomes ≤ outcome → drop outcome (children_of outcomes fixed rank) ≡ []
children-past outcomes fixed rank outcome b =
    drop_all outcome (children_of outcomes fixed rank) (omega (arith, length-list_to outcomes (with_fixed fixed rank)))

-- ---- ranks that are written past the depth

pub behind-past : (outcomes : ℕ) (fixed : List (Option ℕ)) (path : List ℕ) (place rank depth : ℕ) → depth ≤ place → behind outcomes fixed (set path place rank) depth ≡ behind outcomes fixed path depth
behind-past outcomes fixed path place rank zero b = refl
behind-past outcomes fixed path place rank (suc depth) b =
    let other : depth ≢ place = omega arith in
    let same : slice_index (set path place rank) depth ≡ slice_index path depth = get_or-set_other path place depth rank 0 other in
    ap (λ r. siblings_of outcomes fixed r ++ behind outcomes (with_freed fixed r) (set path place rank) depth) same
    ∙ ap (λ rest. siblings_of outcomes fixed (slice_index path depth) ++ rest) (behind-past outcomes (with_freed fixed (slice_index path depth)) path place rank depth (omega arith))

pub IsTrail-past : (outcomes : ℕ) (fixed : List (Option ℕ)) (path : List ℕ) (place rank depth : ℕ) → depth ≤ place → IsTrail outcomes fixed path depth → IsTrail outcomes fixed (set path place rank) depth
IsTrail-past outcomes fixed path place rank zero b h = h
IsTrail-past outcomes fixed path place rank (suc depth) b h =
    let other : depth ≢ place = omega arith in
    let same : slice_index (set path place rank) depth ≡ slice_index path depth = get_or-set_other path place depth rank 0 other in
    subst (λ r. IsBranched outcomes fixed r × IsTrail outcomes (with_freed fixed r) (set path place rank) depth) (sym same)
    (h.0, IsTrail-past outcomes (with_freed fixed (slice_index path depth)) path place rank depth (omega arith) h.1)

-- ---- what a trail says of a node

refixed : (outcomes : ℕ) (fixed : List (Option ℕ)) (rank : ℕ) (b : IsBranched outcomes fixed rank) → with_fixed (with_freed fixed rank) rank b.outcome ≡ fixed
refixed outcomes fixed rank b = fixed-freed fixed rank b.outcome ∙ ap (set fixed rank) (sym b.is) ∙ set-get_or fixed rank None

pub AreOutcomes-freed : (outcomes : ℕ) (fixed : List (Option ℕ)) (rank : ℕ) → IsBranched outcomes fixed rank → AreOutcomes outcomes (with_freed fixed rank) → AreOutcomes outcomes fixed
AreOutcomes-freed outcomes fixed rank b h =
    subst (AreOutcomes outcomes) (refixed outcomes fixed rank b) (AreOutcomes-child outcomes (with_freed fixed rank) rank b.outcome b.among h)

pub AreOutcomes-trail : (outcomes : ℕ) (fixed : List (Option ℕ)) (path : List ℕ) (depth : ℕ) → IsTrail outcomes fixed path depth → AreOutcomes outcomes fixed
AreOutcomes-trail outcomes fixed path zero h = subst (AreOutcomes outcomes) (sym h) (AreOutcomes-nothing outcomes (length fixed))
AreOutcomes-trail outcomes fixed path (suc depth) h =
    AreOutcomes-freed outcomes fixed (slice_index path depth) h.0 (AreOutcomes-trail outcomes (with_freed fixed (slice_index path depth)) path depth h.1)

pub free_count-nothing : (ranks : ℕ) → free_count (nothing_fixed ranks) ≡ ranks
free_count-nothing zero = refl
free_count-nothing (suc ranks) =
    omega (arith, sum_by-cons (λ (entry : Option ℕ). cond (is_none entry) 1 0) None (nothing_fixed ranks), free_count-nothing ranks)

pub free_count-freed : (outcomes : ℕ) (fixed : List (Option ℕ)) (rank : ℕ) → IsBranched outcomes fixed rank → free_count (with_freed fixed rank) ≡ free_count fixed + 1
free_count-freed outcomes fixed rank b =
    let free : IsFree (with_freed fixed rank) rank = record { below = (let in_freed : rank < length fixed = b.below in omega (arith, length-set fixed rank None)); free = get_or-set_same fixed rank None None b.below } in
    omega (arith, free_count-child (with_freed fixed rank) rank b.outcome free, ap free_count (refixed outcomes fixed rank b))

-- at as many ranks an outcome is fixed as there were branches
pub free_count-trail : (outcomes : ℕ) (fixed : List (Option ℕ)) (path : List ℕ) (depth : ℕ) → IsTrail outcomes fixed path depth → depth + free_count fixed ≡ length fixed
free_count-trail outcomes fixed path zero h = omega (arith, ap free_count h, free_count-nothing (length fixed))
free_count-trail outcomes fixed path (suc depth) h =
    omega (arith, free_count-freed outcomes fixed (slice_index path depth) h.0, free_count-trail outcomes (with_freed fixed (slice_index path depth)) path depth h.1, length-set fixed (slice_index path depth) None)

-- ---- the last branch of a trail

-- the node came of a branch at a rank, and the node above it of the branches before
pub record IsTop (outcomes : ℕ) (fixed : List (Option ℕ)) (path : List ℕ) (depth rank : ℕ) : Type 0 where
  pub branched : IsBranched outcomes fixed rank
  pub above : IsTrail outcomes (with_freed fixed rank) path (depth - 1)
  pub opens : behind outcomes fixed path depth ≡ siblings_of outcomes fixed rank ++ behind outcomes (with_freed fixed rank) path (depth - 1)

pub IsTop-trail : (outcomes : ℕ) (fixed : List (Option ℕ)) (path : List ℕ) (depth rank : ℕ) → 0 < depth → rank ≡ slice_index path (depth - 1) → IsTrail outcomes fixed path depth → IsTop outcomes fixed path depth rank
IsTop-trail outcomes fixed path zero rank b e h = absurd (omega arith)
IsTop-trail outcomes fixed path (suc depth) rank b e h =
    let less : suc depth - 1 ≡ depth = omega arith in
    let here : rank ≡ slice_index path depth = e ∙ ap (slice_index path) less in
    subst (λ r. IsTop outcomes fixed path (suc depth) r) (sym here)
    (record {
      branched = h.0;
      above = subst (λ k. IsTrail outcomes (with_freed fixed (slice_index path depth)) path k) (sym less) h.1;
      opens = ap (λ k. siblings_of outcomes fixed (slice_index path depth) ++ behind outcomes (with_freed fixed (slice_index path depth)) path k) (sym less);
    })

pub IsTrail-top : (outcomes : ℕ) (fixed : List (Option ℕ)) (path : List ℕ) (depth rank : ℕ) → 0 < depth → rank ≡ slice_index path (depth - 1) → IsBranched outcomes fixed rank → IsTrail outcomes (with_freed fixed rank) path (depth - 1) → IsTrail outcomes fixed path depth
IsTrail-top outcomes fixed path zero rank b e h above = absurd (omega arith)
IsTrail-top outcomes fixed path (suc depth) rank b e h above =
    let less : suc depth - 1 ≡ depth = omega arith in
    let here : rank ≡ slice_index path depth = e ∙ ap (slice_index path) less in
    subst (λ r. IsBranched outcomes fixed r × IsTrail outcomes (with_freed fixed r) path depth) here
    (h, subst (λ k. IsTrail outcomes (with_freed fixed rank) path k) less above)

-- ---- the next outcome at the rank of the last branch

pub IsBranched-fixed : (outcomes : ℕ) (fixed : List (Option ℕ)) (rank next : ℕ) → rank < length fixed → next < outcomes → IsBranched outcomes (with_fixed fixed rank next) rank
IsBranched-fixed outcomes fixed rank next b among = record {
  below = omega (arith, length-set fixed rank (Some next));
  outcome = next;
  is = fixed_at-here fixed rank next b;
  among = among;
}

pub IsTrail-next : (outcomes : ℕ) (fixed : List (Option ℕ)) (path : List ℕ) (depth rank next : ℕ) → 0 < depth → rank ≡ slice_index path (depth - 1) → IsTrail outcomes fixed path depth → next < outcomes → IsTrail outcomes (with_fixed fixed rank next) path depth
IsTrail-next outcomes fixed path depth rank next b e h among =
    let top = IsTop-trail outcomes fixed path depth rank b e h in
    IsTrail-top outcomes (with_fixed fixed rank next) path depth rank b e (IsBranched-fixed outcomes fixed rank next top.branched.below among)
    (subst (λ node. IsTrail outcomes node path (depth - 1)) (sym (freed-fixed fixed rank next)) top.above)

-- it is the first of the open nodes
pub behind-next : (outcomes : ℕ) (fixed : List (Option ℕ)) (path : List ℕ) (depth rank next : ℕ) → 0 < depth → rank ≡ slice_index path (depth - 1) → IsTrail outcomes fixed path depth → next ≡ next_to (fixed_at fixed rank) → next < outcomes → with_fixed fixed rank next ∷ behind outcomes (with_fixed fixed rank next) path depth ≡ behind outcomes fixed path depth
behind-next outcomes fixed path depth rank next b e h is among =
    let top = IsTop-trail outcomes fixed path depth rank b e h in
    let node = with_fixed fixed rank next in
    let above = with_freed fixed rank in
    let others = behind outcomes above path (depth - 1) in
    let new = IsTop-trail outcomes node path depth rank b e (IsTrail-next outcomes fixed path depth rank next b e h among) in
    let old : behind outcomes fixed path depth ≡ drop next (children_of outcomes above rank) ++ others = top.opens ∙ ap (λ k. drop k (children_of outcomes above rank) ++ others) (sym is) in
    let first : drop next (children_of outcomes above rank) ≡ node ∷ drop (suc next) (children_of outcomes above rank) = children-from outcomes above rank next among ∙ ap (λ n. n ∷ drop (suc next) (children_of outcomes above rank)) (fixed-freed fixed rank next) in
    let rest : behind outcomes node path depth ≡ drop (suc next) (children_of outcomes above rank) ++ others = new.opens ∙ ap₂ (λ entry n. drop (next_to entry) (children_of outcomes n rank) ++ behind outcomes n path (depth - 1)) (fixed_at-here fixed rank next top.branched.below) (freed-fixed fixed rank next) in
    ap (λ ns. node ∷ ns) rest ∙ sym (old ∙ ap (λ ns. ns ++ others) first)

-- where there is none, the open nodes are those behind the node above
pub behind-freed : (outcomes : ℕ) (fixed : List (Option ℕ)) (path : List ℕ) (depth rank next : ℕ) → 0 < depth → rank ≡ slice_index path (depth - 1) → IsTrail outcomes fixed path depth → next ≡ next_to (fixed_at fixed rank) → outcomes ≤ next → behind outcomes (with_freed fixed rank) path (depth - 1) ≡ behind outcomes fixed path depth
behind-freed outcomes fixed path depth rank next b e h is past =
    let top = IsTop-trail outcomes fixed path depth rank b e h in
    let none : siblings_of outcomes fixed rank ≡ [] = ap (λ k. drop k (children_of outcomes (with_freed fixed rank) rank)) (sym is) ∙ children-past outcomes (with_freed fixed rank) rank next past in
    sym (top.opens ∙ ap (λ ns. ns ++ behind outcomes (with_freed fixed rank) path (depth - 1)) none)

-- ---- one branch more

pub IsKept-room : (outcomes : ℕ) (fixed : List (Option ℕ)) (path : List ℕ) (depth rank : ℕ) → IsKept outcomes fixed path depth → IsFree fixed rank → depth < length path
IsKept-room outcomes fixed path depth rank h f =
    omega (arith, h.room, free_count-trail outcomes fixed path depth h.trail, free_count-child fixed rank 0 f)

pub IsKept-branch : (outcomes : ℕ) (fixed : List (Option ℕ)) (path : List ℕ) (depth rank : ℕ) → IsKept outcomes fixed path depth → IsFree fixed rank → IsKept outcomes (with_fixed fixed rank 0) (set path depth rank) (depth + 1)
IsKept-branch outcomes fixed path depth rank h f =
    let room = IsKept-room outcomes fixed path depth rank h f in
    let here : slice_index (set path depth rank) depth ≡ rank = get_or-set_same path depth rank 0 room in
    let back : with_freed (with_fixed fixed rank 0) rank ≡ fixed = freed-fixed fixed rank 0 ∙ freed-free fixed rank f.free in
    let last : IsBranched outcomes (with_fixed fixed rank 0) rank = IsBranched-fixed outcomes fixed rank 0 f.below (let some : 1 ≤ outcomes = h.some_outcome in omega arith) in
    let above : IsTrail outcomes (with_freed (with_fixed fixed rank 0) rank) (set path depth rank) depth = subst (λ node. IsTrail outcomes node (set path depth rank) depth) (sym back) (IsTrail-past outcomes fixed path depth rank depth (omega arith) h.trail) in
    let trail : IsTrail outcomes (with_fixed fixed rank 0) (set path depth rank) (suc depth) = subst (λ r. IsBranched outcomes (with_fixed fixed rank 0) r × IsTrail outcomes (with_freed (with_fixed fixed rank 0) r) (set path depth rank) depth) (sym here) (last, above) in
    record {
      some_outcome = h.some_outcome;
      room = length-set path depth rank ∙ h.room ∙ sym (length-set fixed rank (Some 0));
      trail = rw add-one trail;
    }

-- the first child, and the others behind it
pub behind-branch : (outcomes : ℕ) (fixed : List (Option ℕ)) (path : List ℕ) (depth rank : ℕ) → IsKept outcomes fixed path depth → IsFree fixed rank → with_fixed fixed rank 0 ∷ behind outcomes (with_fixed fixed rank 0) (set path depth rank) (depth + 1) ≡ children_of outcomes fixed rank ++ behind outcomes fixed path depth
behind-branch outcomes fixed path depth rank h f =
    let node = with_fixed fixed rank 0 in
    let longer = set path depth rank in
    let here : slice_index longer depth ≡ rank = get_or-set_same path depth rank 0 (IsKept-room outcomes fixed path depth rank h f) in
    let back : with_freed node rank ≡ fixed = freed-fixed fixed rank 0 ∙ freed-free fixed rank f.free in
    let rest : behind outcomes node longer (suc depth) ≡ drop 1 (children_of outcomes fixed rank) ++ behind outcomes fixed path depth = ap (λ r. siblings_of outcomes node r ++ behind outcomes (with_freed node r) longer depth) here ∙ ap₂ (λ entry n. drop (next_to entry) (children_of outcomes n rank) ++ behind outcomes n longer depth) (fixed_at-here fixed rank 0 f.below) back ∙ ap (λ ns. drop 1 (children_of outcomes fixed rank) ++ ns) (behind-past outcomes fixed path depth rank depth (omega arith)) in
    rw add-one (ap (λ ns. node ∷ ns) rest ∙ ap (λ ns. ns ++ behind outcomes fixed path depth) (sym (children-from outcomes fixed rank 0 (let some : 1 ≤ outcomes = h.some_outcome in omega arith))))

-- ---- a walk that is not over

pub record IsVisit (over : Bool) (outcomes : ℕ) (fixed : List (Option ℕ)) (path : List ℕ) (depth : ℕ) (tour : Tour) : Type 0 where
  pub running : over ≡ false
  pub current : current_of tour ≡ fixed
  pub rest : rest_of tour ≡ behind outcomes fixed path depth

pub IsVisit-view : (over : Bool) (outcomes : ℕ) (fixed : List (Option ℕ)) (path : List ℕ) (depth : ℕ) (tour : Tour) → opens_of over outcomes fixed path depth ≡ tour.opens → tour.opens ≢ [] → IsVisit over outcomes fixed path depth tour
IsVisit-view true outcomes fixed path depth tour e some = absurd (some (sym e))
IsVisit-view false outcomes fixed path depth tour e some =
    record { running = refl; current = ap (λ ns. get_or ns 0 []) (sym e); rest = ap (drop 1) (sym e) }

pub IsVisit-free : (over : Bool) (outcomes : ℕ) (fixed : List (Option ℕ)) (path : List ℕ) (depth rank : ℕ) (tour : Tour) → opens_of over outcomes fixed path depth ≡ tour.opens → IsFree (current_of tour) rank → IsVisit over outcomes fixed path depth tour
IsVisit-free over outcomes fixed path depth rank tour e f =
    IsVisit-view over outcomes fixed path depth tour e (λ none. (let short : length (current_of tour) ≡ 0 = ap (λ ns. length (get_or ns 0 [])) none in let below : rank < length (current_of tour) = f.below in omega arith))

pub opens-deep : (outcomes : ℕ) (fixed : List (Option ℕ)) (path : List ℕ) (depth : ℕ) → 0 < depth → opens_of (depth == 0) outcomes fixed path depth ≡ fixed ∷ behind outcomes fixed path depth
opens-deep outcomes fixed path depth b =
    let other : depth ≢ 0 = omega arith in
    ap (λ over. opens_of over outcomes fixed path depth) (ne_eqb depth 0 other)

-- what a branch makes of a walk
pub record IsBranching (over : Bool) (outcomes : ℕ) (fixed : List (Option ℕ)) (path : List ℕ) (depth rank : ℕ) (tour : Tour) : Type 0 where
  pub running : over ≡ false
  pub room : depth < length path
  pub kept : IsKept outcomes (with_fixed fixed rank 0) (set path depth rank) (depth + 1)
  pub opens : with_fixed fixed rank 0 ∷ behind outcomes (with_fixed fixed rank 0) (set path depth rank) (depth + 1) ≡ children_of tour.outcomes (current_of tour) rank ++ rest_of tour

pub IsBranching-kept : (over : Bool) (outcomes : ℕ) (fixed : List (Option ℕ)) (path : List ℕ) (depth rank : ℕ) (tour : Tour) → outcomes ≡ tour.outcomes → opens_of over outcomes fixed path depth ≡ tour.opens → IsKept outcomes fixed path depth → IsFree (current_of tour) rank → IsBranching over outcomes fixed path depth rank tour
IsBranching-kept over outcomes fixed path depth rank tour same e h f =
    let visit = IsVisit-free over outcomes fixed path depth rank tour e f in
    let free : IsFree fixed rank = subst (λ node. IsFree node rank) visit.current f in
    record {
      running = visit.running;
      room = IsKept-room outcomes fixed path depth rank h free;
      kept = IsKept-branch outcomes fixed path depth rank h free;
      opens = behind-branch outcomes fixed path depth rank h free
          ∙ ap₂ (λ n node. children_of n node rank ++ behind outcomes fixed path depth) same (sym visit.current)
          ∙ ap (λ ns. children_of tour.outcomes (current_of tour) rank ++ ns) (sym visit.rest);
    }
