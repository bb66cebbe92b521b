-- Sums over all lists of values as sums over the lists of counts.
use Rattle.std.proofs.Common.{◌≡◌, ℕ, zero, suc, ◌<◌, ℤ, pos, ◌*ℤ◌, Bool, true, false, ◌==◌, if◌then◌else◌, List, length, get_or, refl, sym, ap, ◌∙◌, arith}
use Rattle.std.specs.Prelude.{slice_index}
use Rattle.std.proofs.Math.ListN.{replicate}
use lib.IntN.{*ℤ_comm}
use Rattle.md_math.specs.Products.{product_by}
use Rattle.md_math.specs.Sums.{sum_to, total_by}
use Rattle.md_math.proofs.Ring.{*ℤ_assoc, *ℤ-zero, zero-*ℤ}
use Rattle.md_math.proofs.SumLaws.{sum_to-same, sum_to-single}
use Rattle.md_math.proofs.TotalLaws.{total_by-same, total_by-*ℤ, total_by-sum_to}
use Rattle.md_space.specs.ByType.{where_type}
use Rattle.md_space.proofs.TypeSums.{total-same}
use Rattle.md_setting.specs.CountLists.{count_lists}
use Rattle.md_counts.specs.Counts.{counts_at, AreCounts}
use Rattle.md_counts.specs.Weights.{counts_of, has_counts, value_lists, weight_of_counts}
use Rattle.md_counts.proofs.Agreement.{weigh}
use Rattle.md_counts.proofs.ListsOfValues.{HasOneRank, one_rank, All-count_lists, total_by-count_lists}
use Rattle.md_counts.proofs.Multinomial.{behind-share}
use Rattle.md_counts.proofs.Symmetry.{given-first, IsSymmetric-weigh}
use Rattle.md_math.proofs.ProductLaws.{sum-places}
use Rattle.md_counts.proofs.WeightLaws.{pos-weight_of_counts}

-- ---- any weights

-- h of a list of values that has the counts, and 0 of others
abbrev pub where_counts : List ℕ → (List ℕ → ℤ) → List ℕ → ℤ
where_counts counts h values = if has_counts counts values then h values else pos 0

-- the term of a list of values at the rank of its counts, and 0 at other ranks
abbrev at_rank : ℕ → ℕ → (List ℕ → ℤ) → (List ℕ → ℤ) → List ℕ → ℕ → ℤ
at_rank n kinds h g values r = if has_counts (counts_at n kinds r) values then h values *ℤ g (counts_at n kinds r) else pos 0

-- what depends on the counts alone is taken out
pub by_counts-any : (n kinds : ℕ) (h g : List ℕ → ℤ) → total_by (λ values. h values *ℤ g (counts_of kinds values)) (value_lists n kinds)
    ≡ total_by (λ counts. total_by (where_counts counts h) (value_lists n kinds) *ℤ g counts) (count_lists n kinds)
by_counts-any n kinds h g =
    let lists = length (count_lists n kinds) in
    total-same (replicate n kinds) _ (λ values. sum_to lists (λ r. at_rank n kinds h g values r)) (λ values p. sym (one values (one_rank n kinds values p)))
    ∙ total_by-sum_to lists (at_rank n kinds h g) (value_lists n kinds)
    ∙ sum_to-same lists _ (λ r. total_by (where_counts (counts_at n kinds r) h) (value_lists n kinds) *ℤ g (counts_at n kinds r)) (λ r b. out r)
    ∙ sym (total_by-count_lists n kinds (λ counts. total_by (where_counts counts h) (value_lists n kinds) *ℤ g counts))
  where
    one : (values : List ℕ) → HasOneRank n kinds values → sum_to (length (count_lists n kinds)) (λ r. at_rank n kinds h g values r) ≡ h values *ℤ g (counts_of kinds values)
    one values o =
        sum_to-single (length (count_lists n kinds)) o.rank (λ r. at_rank n kinds h g values r) o.below (λ r b d. ap (λ t. if t then h values *ℤ g (counts_at n kinds r) else pos 0) (o.only r b d))
        ∙ ap (λ t. if t then h values *ℤ g (counts_at n kinds o.rank) else pos 0) o.has
        ∙ ap (λ counts. h values *ℤ g counts) o.is

    times : (t : Bool) (y z : ℤ) → (if t then y *ℤ z else pos 0) ≡ z *ℤ (if t then y else pos 0)
    times true y z = *ℤ_comm y z
    times false y z = sym (*ℤ-zero z)

    out : (r : ℕ) → total_by (λ values. at_rank n kinds h g values r) (value_lists n kinds) ≡ total_by (where_counts (counts_at n kinds r) h) (value_lists n kinds) *ℤ g (counts_at n kinds r)
    out r =
        total-same (replicate n kinds) (λ values. at_rank n kinds h g values r) (λ values. g (counts_at n kinds r) *ℤ where_counts (counts_at n kinds r) h values) (λ values p. times (has_counts (counts_at n kinds r) values) (h values) (g (counts_at n kinds r)))
        ∙ total_by-*ℤ (g (counts_at n kinds r)) (where_counts (counts_at n kinds r) h) (value_lists n kinds)
        ∙ *ℤ_comm (g (counts_at n kinds r)) (total_by (where_counts (counts_at n kinds r) h) (value_lists n kinds))

-- ---- the weights of kinds

-- the weight of a list of values
abbrev pub weight_of_values : List ℕ → List ℕ → ℤ
weight_of_values weights values = pos (product_by (slice_index weights) values)

pub where_counts-weight : (weights : List ℕ) (n : ℕ) (counts : List ℕ) → total_by (where_counts counts (weight_of_values weights)) (value_lists n (length counts)) ≡ pos (weight_of_counts weights n counts)
where_counts-weight weights n counts = sym (pos-weight_of_counts weights n counts)

-- a sum over all lists of values of the weight and what depends on the counts alone is one over the lists of counts
pub by_counts : (weights : List ℕ) (n kinds : ℕ) (g : List ℕ → ℤ) → total_by (λ values. weight_of_values weights values *ℤ g (counts_of kinds values)) (value_lists n kinds)
    ≡ total_by (λ counts. pos (weight_of_counts weights n counts) *ℤ g counts) (count_lists n kinds)
by_counts weights n kinds g =
    by_counts-any n kinds (weight_of_values weights) g
    ∙ total_by-same _ (λ counts. pos (weight_of_counts weights n counts) *ℤ g counts) (count_lists n kinds)
    (λ k d l. value (get_or (count_lists n kinds) k d) (All-count_lists n kinds k d l))
  where
    value : (counts : List ℕ) → AreCounts n kinds counts → total_by (where_counts counts (weight_of_values weights)) (value_lists n kinds) *ℤ g counts ≡ pos (weight_of_counts weights n counts) *ℤ g counts
    value counts h =
        ap (λ z. z *ℤ g counts)
        (ap (λ k. total_by (where_counts counts (weight_of_values weights)) (value_lists n k)) (sym h.one_each) ∙ where_counts-weight weights n counts)

-- the number of bidders times the weight of the lists with the counts in which one bidder has v is the weight of all with the counts, as often as v comes
pub given-counts : (weights : List ℕ) (n kinds i v : ℕ) (counts : List ℕ) → i < n → v < kinds → AreCounts n kinds counts
    → pos n *ℤ total_by (where_type i v (where_counts counts (weight_of_values weights))) (value_lists n kinds) ≡ pos (weight_of_counts weights n counts) *ℤ pos (slice_index counts v)
given-counts weights zero kinds i v counts b l h = absurd (omega arith)
given-counts weights (suc n) kinds i v counts b l h =
    let f = slice_index weights in
    let c = slice_index counts in
    let long : length counts ≡ kinds = h.one_each in
    let inside : v < length counts = omega (arith, long) in
    ap (λ k. pos (suc n) *ℤ total_by (where_type i v (where_counts counts (weight_of_values weights))) (value_lists (suc n) k)) (sym long)
    ∙ ap (λ z. pos (suc n) *ℤ z) (given-first n (length counts) i v (weigh (length counts) f c) (IsSymmetric-weigh (length counts) f c) (omega arith) inside)
    ∙ behind-share (length counts) f n c v inside (sym (sum-places counts) ∙ ap pos h.add)
    ∙ ap (λ z. z *ℤ pos (c v)) (sym (pos-weight_of_counts weights (suc n) counts))

-- the same, summed over all lists of counts: the lists of values in which one bidder has v, each with its weight and what depends on the counts alone
pub by_counts-given : (weights : List ℕ) (n kinds i v : ℕ) (g : List ℕ → ℤ) → i < n → v < kinds
    → pos n *ℤ total_by (where_type i v (λ values. weight_of_values weights values *ℤ g (counts_of kinds values))) (value_lists n kinds)
    ≡ total_by (λ counts. (pos (weight_of_counts weights n counts) *ℤ pos (slice_index counts v)) *ℤ g counts) (count_lists n kinds)
by_counts-given weights n kinds i v g b l =
    ap (λ z. pos n *ℤ z)
    (total-same (replicate n kinds) _ (λ values. where_type i v (weight_of_values weights) values *ℤ g (counts_of kinds values)) (λ values p. split (slice_index values i == v) (weight_of_values weights values) (g (counts_of kinds values)))
    ∙ by_counts-any n kinds (where_type i v (weight_of_values weights)) g)
    ∙ sym (total_by-*ℤ (pos n) (λ counts. total_by (where_counts counts (where_type i v (weight_of_values weights))) (value_lists n kinds) *ℤ g counts) (count_lists n kinds))
    ∙ total_by-same _ (λ counts. (pos (weight_of_counts weights n counts) *ℤ pos (slice_index counts v)) *ℤ g counts) (count_lists n kinds)
    (λ k d m. value (get_or (count_lists n kinds) k d) (All-count_lists n kinds k d m))
  where
    split : (t : Bool) (y z : ℤ) → (if t then y *ℤ z else pos 0) ≡ (if t then y else pos 0) *ℤ z
    split true y z = refl
    split false y z = sym (zero-*ℤ z)

    turned : (s t : Bool) (y : ℤ) → (if s then (if t then y else pos 0) else pos 0) ≡ (if t then (if s then y else pos 0) else pos 0)
    turned true true y = refl
    turned true false y = refl
    turned false true y = refl
    turned false false y = refl

    value : (counts : List ℕ) → AreCounts n kinds counts → pos n *ℤ (total_by (where_counts counts (where_type i v (weight_of_values weights))) (value_lists n kinds) *ℤ g counts) ≡ (pos (weight_of_counts weights n counts) *ℤ pos (slice_index counts v)) *ℤ g counts
    value counts h =
        sym (*ℤ_assoc (pos n) (total_by (where_counts counts (where_type i v (weight_of_values weights))) (value_lists n kinds)) (g counts))
        ∙ ap (λ z. z *ℤ g counts)
        (ap (λ z. pos n *ℤ z) (total-same (replicate n kinds) _ (where_type i v (where_counts counts (weight_of_values weights))) (λ values p. turned (has_counts counts values) (slice_index values i == v) (weight_of_values weights values)))
        ∙ given-counts weights n kinds i v counts b l h)
