-- Each list of values has exactly one of the lists of counts.
use Rattle.std.proofs.Common.{◌≡◌, ◌≢◌, ℕ, zero, suc, ◌+◌, ◌<◌, ℤ, pos, ◌+ℤ◌, Bool, true, false, ◌==◌, if◌then◌else◌, List, [], ◌∷◌, length, get_or, All, refl, sym, ap, ap₂, ◌∙◌, subst, arith, inl, inr, eq-eqb, ne_eqb}
use Rattle.std.specs.Prelude.{slice_index}
use Rattle.std.proofs.lemmas.Bool.{cases_Bool, eqb-true}
use Rattle.std.proofs.lemmas.Int.{ints}
use Rattle.std.proofs.Math.ListN.{replicate}
use Rattle.md_math.specs.Lists.{list_to}
use Rattle.md_math.specs.Sums.{sum_to, total_by}
use Rattle.md_math.proofs.Builders.{length-list_to, get_or-list_to, same_list_to, list_to-get_or, All-list_to}
use Rattle.md_math.proofs.ProductLaws.{pos-sum_by}
use Rattle.md_math.proofs.SumLaws.{sum_to-same, sum_to-zero, sum_to-single, sum_to-+ℤ}
use Rattle.md_math.proofs.TotalLaws.{total_by-list_to}
use Rattle.md_space.specs.Profiles.{IsProfile}
use Rattle.md_setting.specs.CountLists.{count_lists}
use Rattle.md_setting.specs.Refusals.{all_below}
use Rattle.md_setting.proofs.TestLaws.{all_below-all, all_below-at, and_both}
use Rattle.md_counts.specs.Counts.{counts_at, AreCounts}
use Rattle.md_counts.specs.Weights.{count_in, counts_of, has_counts}
use Rattle.md_counts.proofs.RankLaws.{rank_of, listed, IsListed, ranked, ranks-apart}

-- ---- the counts of a list of values

-- a list of values has its own counts
pub has_counts-own : (kinds : ℕ) (values : List ℕ) → has_counts (counts_of kinds values) values ≡ true
has_counts-own kinds values =
    all_below-all (length (counts_of kinds values)) _
    (λ v b. (let l : v < kinds = omega (arith, length-list_to kinds (λ u. count_in u values)) in
    eq-eqb (count_in v values) (slice_index (counts_of kinds values) v) (sym (get_or-list_to kinds (λ u. count_in u values) v 0 l))))

-- and no others
pub has_counts-only : (kinds : ℕ) (counts values : List ℕ) → length counts ≡ kinds → has_counts counts values ≡ true → counts_of kinds values ≡ counts
has_counts-only kinds counts values e h =
    sym (same_list_to counts kinds (λ v. count_in v values) 0 e (λ v b. at v (omega (arith, e))))
  where
    at : (v : ℕ) → v < length counts → get_or counts v 0 ≡ count_in v values
    at v b = sym (eqb-true (count_in v values) (slice_index counts v) (all_below-at (length counts) v (λ u. count_in u values == slice_index counts u) h b))

-- how often all kinds come together
count-sum : (n kinds : ℕ) (values : List ℕ) → IsProfile (replicate n kinds) values → sum_to kinds (λ v. pos (count_in v values)) ≡ pos n
count-sum zero kinds [] p = sum_to-zero kinds (λ v. pos 0) (λ v b. refl)
count-sum zero kinds (x ∷ values) p = absurd p
count-sum (suc n) kinds [] p = absurd p
count-sum (suc n) kinds (x ∷ values) p =
    let one = λ (v : ℕ). pos (if x == v then 1 else 0) in
    let first : sum_to kinds one ≡ pos 1 =
    sum_to-single kinds x one p.0 (λ v b d. ap (λ t. pos (if t then 1 else 0)) (ne_eqb x v (λ e. d (sym e)))) ∙ ap (λ t. pos (if t then 1 else 0)) (eq-eqb x x refl) in
    sum_to-same kinds _ (λ v. one v +ℤ pos (count_in v values)) (λ v b. split (if x == v then 1 else 0) (count_in v values))
    ∙ sum_to-+ℤ kinds one (λ v. pos (count_in v values))
    ∙ ap₂ (λ y z. y +ℤ z) first (count-sum n kinds values p.1)
    ∙ more n
  where
    split : (a b : ℕ) → pos (a + b) ≡ pos a +ℤ pos b
    split a b = omega (arith, ints)

    more : (m : ℕ) → pos 1 +ℤ pos m ≡ pos (suc m)
    more m = omega (arith, ints)

-- the counts of so many values below a number of kinds
pub counts_of-AreCounts : (n kinds : ℕ) (values : List ℕ) → IsProfile (replicate n kinds) values → AreCounts n kinds (counts_of kinds values)
counts_of-AreCounts n kinds values p = record {
  one_each = length-list_to kinds (λ v. count_in v values);
  add =
      same_number _ _
      (pos-sum_by (λ x. x) (counts_of kinds values) ∙ total_by-list_to (λ x. pos x) kinds (λ v. count_in v values) ∙ count-sum n kinds values p);
}
  where
    same_number : (a b : ℕ) → pos a ≡ pos b → a ≡ b
    same_number a b e = omega (arith, ints)

-- ---- exactly one list

-- a list of values has the counts at one rank, and at no other
pub record HasOneRank (n kinds : ℕ) (values : List ℕ) : Type 0 where
  pub rank : ℕ
  pub below : rank < length (count_lists n kinds)
  pub is : counts_at n kinds rank ≡ counts_of kinds values
  pub has : has_counts (counts_at n kinds rank) values ≡ true
  pub only : (r : ℕ) → r < length (count_lists n kinds) → r ≢ rank → has_counts (counts_at n kinds r) values ≡ false

pub one_rank : (n kinds : ℕ) (values : List ℕ) → IsProfile (replicate n kinds) values → HasOneRank n kinds values
one_rank n kinds values p =
    let l : IsListed n kinds (counts_of kinds values) = listed kinds n (counts_of kinds values) (counts_of-AreCounts n kinds values p) in
    let rank : ℕ = rank_of n (counts_of kinds values) in
    record {
      rank = rank;
      below = l.below;
      is = l.there;
      has = ap (λ counts. has_counts counts values) l.there ∙ has_counts-own kinds values;
      only = λ r b d.
          elim (cases_Bool (has_counts (counts_at n kinds r) values)) [
            | inl here ↦
                absurd (d (ranks-apart n kinds r rank b l.below
                (sym (has_counts-only kinds (counts_at n kinds r) values (ranked kinds n r b).counts.one_each here) ∙ sym l.there)))
            | inr away ↦ away
          ];
    }

-- ---- all lists of counts

pub count_lists-by_rank : (n kinds : ℕ) → count_lists n kinds ≡ list_to (length (count_lists n kinds)) (counts_at n kinds)
count_lists-by_rank n kinds = sym (list_to-get_or (count_lists n kinds) [])

-- each has one count for each kind, and they add to the number of bidders
pub All-count_lists : (n kinds : ℕ) → All (AreCounts n kinds) (count_lists n kinds)
All-count_lists n kinds =
    subst (All (AreCounts n kinds)) (sym (count_lists-by_rank n kinds))
    (All-list_to (AreCounts n kinds) (length (count_lists n kinds)) (counts_at n kinds) (λ r b. (ranked kinds n r b).counts))

-- a sum over all lists of counts goes over the ranks
pub total_by-count_lists : (n kinds : ℕ) (f : List ℕ → ℤ) → total_by f (count_lists n kinds) ≡ sum_to (length (count_lists n kinds)) (λ r. f (counts_at n kinds r))
total_by-count_lists n kinds f = ap (total_by f) (count_lists-by_rank n kinds) ∙ total_by-list_to f (length (count_lists n kinds)) (counts_at n kinds)
