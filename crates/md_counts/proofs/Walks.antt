-- Walks over the kinds of a list of counts: from its rank to its counts, and back.
use Rattle.std.proofs.Common.{◌≡◌, ℕ, suc, ◌+◌, ◌-◌, ◌<◌, ◌≤◌, List, [], ◌∷◌, ◌++◌, length, get_or, drop, sym, ap, ◌∙◌, subst, arith, append_assoc}
use Rattle.std.specs.List.{sum}
use Rattle.std.proofs.lemmas.List.{drop_all}
use Rattle.std.proofs.lemmas.List.Sums.{sum_by-drop_more}
use Rattle.md_setting.specs.CountLists.{count_lists}
use Rattle.md_counts.specs.Counts.{counts_at, AreCounts}
use Rattle.md_counts.specs.Ranks.{lists_before}
use Rattle.md_counts.proofs.RankLaws.{lists_before-more, counts_at-first, rank_of, rank_of-drop, listed, IsListed}

-- ---- from a rank to the counts

-- the list at a place begins with its first count
pub record IsFirst (left others place first : ℕ) : Type 0 where
  pub few : first ≤ left
  pub from : lists_before left others first ≤ place
  pub below : place < lists_before left others (first + 1)

pub record Goes (left others place first : ℕ) : Type 0 where
  pub inside : place - lists_before left others first < length (count_lists (left - first) others)
  pub list : counts_at left (suc others) place ≡ first ∷ counts_at (left - first) others (place - lists_before left others first)

pub goes : (left others place first : ℕ) → IsFirst left others place first → Goes left others place first
goes left others place first h =
    let from : lists_before left others first ≤ place = h.from in
    let below : place < lists_before left others (first + 1) = h.below in
    let inside : place - lists_before left others first < length (count_lists (left - first) others) = omega (arith, lists_before-more left others first) in
    let is : place ≡ lists_before left others first + (place - lists_before left others first) = omega arith in
    record {
      inside = inside;
      list = ap (counts_at left (suc others)) is ∙ counts_at-first left others first (place - lists_before left others first) h.few inside;
    }

-- what was written, and the list at a place over the kinds that are left, is the list at the rank
pub record IsWalk (before written : List ℕ) (whole : List ℕ) (left kinds place : ℕ) : Type 0 where
  pub few : left ≤ 12
  pub inside : place < length (count_lists left kinds)
  pub list : written ++ counts_at left kinds place ≡ before ++ whole

pub IsWalk-more : (before written new whole : List ℕ) (left kinds place kind first : ℕ) → kind < kinds → IsWalk before written whole left (kinds - kind) place
    → IsFirst left (kinds - kind - 1) place first → new ≡ written ++ first ∷ []
    → IsWalk before new whole (left - first) (kinds - (kind + 1)) (place - lists_before left (kinds - kind - 1) first)
IsWalk-more before written new whole left kinds place kind first b h f pushed =
    let others = kinds - kind - 1 in
    let e : kinds - kind ≡ suc others = omega arith in
    let d : others ≡ kinds - (kind + 1) = omega arith in
    let g : Goes left others place first = goes left others place first f in
    let few : left ≤ 12 = h.few in
    let rest = counts_at (left - first) others (place - lists_before left others first) in
    let list : new ++ rest ≡ before ++ whole =
    ap (λ xs. xs ++ rest) pushed ∙ append_assoc written (first ∷ []) rest ∙ ap (λ xs. written ++ xs) (sym g.list) ∙ ap (λ k. written ++ counts_at left k place) (sym e) ∙ h.list in
    subst (λ k. IsWalk before new whole (left - first) k (place - lists_before left others first)) d (record { few = omega arith; inside = g.inside; list = list })

-- ---- from the counts to the rank

-- what was added, and the rank of the counts that are left, is the rank of all
pub record IsSum (bidders : ℕ) (counts : List ℕ) (kind left rank : ℕ) : Type 0 where
  pub few : left ≤ 12
  pub left_is : sum (drop kind counts) ≡ left
  pub rank_is : rank + rank_of left (drop kind counts) ≡ rank_of bidders counts

pub count-left : (bidders : ℕ) (counts : List ℕ) (kind left rank : ℕ) → kind < length counts → IsSum bidders counts kind left rank → get_or counts kind 0 ≤ left
count-left bidders counts kind left rank b h = omega (arith, h.left_is, sum_by-drop_more (λ (x : ℕ). x) counts kind 0 b)

pub IsSum-more : (bidders : ℕ) (counts : List ℕ) (kind left rank others : ℕ) → kind < length counts → others ≡ length counts - kind - 1 → IsSum bidders counts kind left rank
    → IsSum bidders counts (kind + 1) (left - get_or counts kind 0) (rank + lists_before left others (get_or counts kind 0))
IsSum-more bidders counts kind left rank others b e h =
    let few : left ≤ 12 = h.few in
    let step = rank_of-drop left counts kind b in
    record {
      few = omega arith;
      left_is = omega (arith, h.left_is, sum_by-drop_more (λ (x : ℕ). x) counts kind 0 b);
      rank_is = omega (arith, h.rank_is, step, ap (λ n. lists_before left n (get_or counts kind 0)) e);
    }

pub rank-below : (bidders kinds : ℕ) (counts : List ℕ) (kind left rank others limit : ℕ) → kind < length counts → others ≡ length counts - kind - 1 → AreCounts bidders kinds counts → length (count_lists bidders kinds) ≤ limit
    → IsSum bidders counts kind left rank → rank + lists_before left others (get_or counts kind 0) < limit
rank-below bidders kinds counts kind left rank others limit b e a l h =
    let next : IsSum bidders counts (kind + 1) (left - get_or counts kind 0) (rank + lists_before left others (get_or counts kind 0)) = IsSum-more bidders counts kind left rank others b e h in
    let all : IsListed bidders kinds counts = listed kinds bidders counts a in
    omega (arith, next.rank_is, all.below)

-- at the end
pub rank-end : (bidders kinds : ℕ) (counts : List ℕ) (kind left rank : ℕ) → length counts ≤ kind → AreCounts bidders kinds counts → IsSum bidders counts kind left rank
    → (rank < length (count_lists bidders kinds)) × (counts_at bidders kinds rank ≡ counts)
rank-end bidders kinds counts kind left rank b a h =
    let none : drop kind counts ≡ [] = drop_all kind counts b in
    let is : rank ≡ rank_of bidders counts = omega (arith, h.rank_is, ap (rank_of left) none) in
    let all : IsListed bidders kinds counts = listed kinds bidders counts a in
    (omega (arith, is, all.below), ap (counts_at bidders kinds) is ∙ all.there)
