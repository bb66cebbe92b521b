-- The list at a rank, and the rank of a list of counts.
use Rattle.std.proofs.Common.{◌≡◌, ℕ, zero, suc, ◌+◌, ◌-◌, ◌<◌, ◌≤◌, ◌==◌, false, List, [], ◌∷◌, length, get_or, drop, drop-cons, refl, sym, ap, ◌∙◌, subst, arith, add-one, length-append, length-drop}
use Rattle.std.specs.List.{sum}
use Rattle.std.proofs.lemmas.Bool.Decides.{nat_tests}
use Rattle.std.proofs.lemmas.List.{length-map, get_or-map}
use Rattle.md_math.specs.Lists.{up_to}
use Rattle.md_setting.specs.CountLists.{count_lists}
use Rattle.md_setting.proofs.CountLaws.{one_more}
use Rattle.md_counts.specs.Counts.{counts_at, AreCounts}
use Rattle.md_counts.specs.Ranks.{with_first, lists_before}
use Rattle.md_math.proofs.ListLaws.{get_or-up_to_at, up_to-inside, IsPlaceIn, place_in, sum-cons}

-- ---- by the first count

pub with_first-length : (bidders others first : ℕ) → length (with_first bidders others first) ≡ length (count_lists (bidders - first) others)
with_first-length bidders others first = length-map (count_lists (bidders - first) others) (λ counts. first ∷ counts)

pub lists_before-more : (bidders others first : ℕ) → lists_before bidders others (first + 1) ≡ lists_before bidders others first + length (count_lists (bidders - first) others)
lists_before-more bidders others first =
    rw (add-one first) (length-append (up_to first (with_first bidders others)) (with_first bidders others first) ∙ ap (λ n. lists_before bidders others first + n) (with_first-length bidders others first))

-- the lists with a smaller first count, and those of the other bidders over all these kinds, are all lists
pub lists_before-ways : (bidders others first : ℕ) → first ≤ bidders → lists_before bidders others first + length (count_lists (bidders - first) (others + 1)) ≡ length (count_lists bidders (others + 1))
lists_before-ways bidders others zero b =
    let e : bidders - zero ≡ bidders = omega arith in
    omega (arith, ap (λ n. length (count_lists n (others + 1))) e)
lists_before-ways bidders others (suc first) b =
    let l = bidders - suc first in
    let e : l + 1 ≡ bidders - first = omega arith in
    let before : lists_before bidders others (suc first) ≡ lists_before bidders others first + length (count_lists (bidders - first) others) =
    subst (λ n. lists_before bidders others n ≡ lists_before bidders others first + length (count_lists (bidders - first) others)) (add-one first) (lists_before-more bidders others first) in
    let rest : lists_before bidders others first + length (count_lists (bidders - first) (others + 1)) ≡ length (count_lists bidders (others + 1)) = lists_before-ways bidders others first (omega arith) in
    let more : length (count_lists (bidders - first) (others + 1)) ≡ length (count_lists l (others + 1)) + length (count_lists (bidders - first) others) =
    subst (λ n. length (count_lists n (others + 1)) ≡ length (count_lists l (others + 1)) + length (count_lists n others)) e (one_more l others) in
    omega (arith, before, rest, more)

-- those with this first count are inside
pub first-inside : (bidders others first : ℕ) → first ≤ bidders → lists_before bidders others first + length (count_lists (bidders - first) others) ≤ length (count_lists bidders (suc others))
first-inside bidders others first b =
    omega (arith, up_to-inside (suc bidders) first (with_first bidders others) (omega arith), with_first-length bidders others first)

-- the list at a rank behind those with a smaller first count
pub counts_at-first : (bidders others first place : ℕ) → first ≤ bidders → place < length (count_lists (bidders - first) others)
    → counts_at bidders (suc others) (lists_before bidders others first + place) ≡ first ∷ counts_at (bidders - first) others place
counts_at-first bidders others first place b l =
    get_or-up_to_at (suc bidders) first place (with_first bidders others) [] (omega arith) (omega (arith, with_first-length bidders others first))
    ∙ get_or-map (λ counts. first ∷ counts) (count_lists (bidders - first) others) place [] [] l

-- ---- ranks

-- the rank of a list of counts
abbrev pub rank_of : ℕ → List ℕ → ℕ
rank_of bidders [] = 0
rank_of bidders (x ∷ xs) = lists_before bidders (length xs) x + rank_of (bidders - x) xs

-- the list stands at its rank
pub record IsListed (bidders kinds : ℕ) (counts : List ℕ) : Type 0 where
  pub below : rank_of bidders counts < length (count_lists bidders kinds)
  pub there : counts_at bidders kinds (rank_of bidders counts) ≡ counts

pub AreCounts-rest : (bidders others x : ℕ) (xs : List ℕ) → AreCounts bidders (suc others) (x ∷ xs) → (x ≤ bidders) × AreCounts (bidders - x) others xs
AreCounts-rest bidders others x xs h =
    let add : sum (x ∷ xs) ≡ bidders = h.add in
    let one_each : length (x ∷ xs) ≡ suc others = h.one_each in
    (omega (arith, sum-cons x xs), record { one_each = omega arith; add = omega (arith, sum-cons x xs) })

pub listed : (kinds bidders : ℕ) (counts : List ℕ) → AreCounts bidders kinds counts → IsListed bidders kinds counts
listed zero bidders [] h =
    let e : 0 ≡ bidders = h.add in
    subst (λ n. IsListed n zero []) e (record { below = omega arith; there = refl })
listed zero bidders (x ∷ xs) h = let e : length (x ∷ xs) ≡ zero = h.one_each in absurd (omega arith)
listed (suc kinds) bidders [] h = let e : length {A = ℕ} [] ≡ suc kinds = h.one_each in absurd (omega arith)
listed (suc kinds) bidders (x ∷ xs) h =
    let rest = AreCounts-rest bidders kinds x xs h in
    let l : IsListed (bidders - x) kinds xs = listed kinds (bidders - x) xs rest.1 in
    let below : rank_of (bidders - x) xs < length (count_lists (bidders - x) kinds) = l.below in
    let e : kinds ≡ length xs = sym rest.1.one_each in
    let inside : lists_before bidders kinds x + length (count_lists (bidders - x) kinds) ≤ length (count_lists bidders (suc kinds)) = first-inside bidders kinds x rest.0 in
    subst (λ n. (lists_before bidders n x + rank_of (bidders - x) xs < length (count_lists bidders (suc kinds))) → counts_at bidders (suc kinds) (lists_before bidders n x + rank_of (bidders - x) xs) ≡ x ∷ xs → IsListed bidders (suc kinds) (x ∷ xs)) (sym e)
    (λ a b. record { below = a; there = b })
    (omega arith)
    (counts_at-first bidders kinds x (rank_of (bidders - x) xs) rest.0 below ∙ ap (λ t. x ∷ t) l.there)

-- the list at a rank has one count for each kind, and its rank is that
pub record IsRanked (bidders kinds r : ℕ) : Type 0 where
  pub counts : AreCounts bidders kinds (counts_at bidders kinds r)
  pub rank : rank_of bidders (counts_at bidders kinds r) ≡ r

pub ranked : (kinds bidders r : ℕ) → r < length (count_lists bidders kinds) → IsRanked bidders kinds r
ranked zero zero r h =
    let e : 0 ≡ r = omega arith in
    subst (λ n. IsRanked zero zero n) e (record { counts = record { one_each = refl; add = refl }; rank = refl })
ranked zero (suc bidders) r h = absurd (none_left (rw (test bidders) at h))
  where
    test : (n : ℕ) → (suc n == 0) ≡ false
    test n = grind (arith, nat_tests)

    none_left : r < 0 → ⊥
    none_left l = omega arith
ranked (suc kinds) bidders r h =
    let p : IsPlaceIn (suc bidders) (with_first bidders kinds) r = place_in (suc bidders) (with_first bidders kinds) r h in
    let x = p.which in
    let s = p.place in
    let b : x ≤ bidders = let q : x < suc bidders = p.below in omega arith in
    let l : s < length (count_lists (bidders - x) kinds) = subst (λ n. s < n) (with_first-length bidders kinds x) p.inside in
    let rest : IsRanked (bidders - x) kinds s = ranked kinds (bidders - x) s l in
    let is : r ≡ lists_before bidders kinds x + s = p.is in
    let xs = counts_at (bidders - x) kinds s in
    let at : counts_at bidders (suc kinds) r ≡ x ∷ xs = ap (counts_at bidders (suc kinds)) is ∙ counts_at-first bidders kinds x s b l in
    let long : length xs ≡ kinds = rest.counts.one_each in
    let add : sum xs ≡ bidders - x = rest.counts.add in
    let rank : rank_of (bidders - x) xs ≡ s = rest.rank in
    record {
      counts = subst (AreCounts bidders (suc kinds)) (sym at) (record { one_each = ap suc long; add = omega (arith, sum-cons x xs) });
      rank = ap (rank_of bidders) at ∙ ap (λ n. lists_before bidders n x + rank_of (bidders - x) xs) long ∙ ap (λ n. lists_before bidders kinds x + n) rank ∙ sym is;
    }

-- the lists at two ranks differ
pub ranks-apart : (bidders kinds r s : ℕ) → r < length (count_lists bidders kinds) → s < length (count_lists bidders kinds) → counts_at bidders kinds r ≡ counts_at bidders kinds s → r ≡ s
ranks-apart bidders kinds r s h k e = sym (ranked kinds bidders r h).rank ∙ ap (rank_of bidders) e ∙ (ranked kinds bidders s k).rank

-- ---- a walk over the kinds

-- one count more
pub rank_of-drop : (bidders : ℕ) (counts : List ℕ) (i : ℕ) → i < length counts
    → rank_of bidders (drop i counts) ≡ lists_before bidders (length counts - i - 1) (get_or counts i 0) + rank_of (bidders - get_or counts i 0) (drop (i + 1) counts)
rank_of-drop bidders counts i b =
    let long : length (drop (i + 1) counts) ≡ length counts - i - 1 = omega (arith, length-drop (i + 1) counts) in
    let cut : drop i counts ≡ get_or counts i 0 ∷ drop (i + 1) counts = rw (add-one i) (drop-cons counts i 0 b) in
    ap (rank_of bidders) cut ∙ ap (λ n. lists_before bidders n (get_or counts i 0) + rank_of (bidders - get_or counts i 0) (drop (i + 1) counts)) long
