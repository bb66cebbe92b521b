-- The right side of a set by profiles, by counts and by powers.
use Rattle.std.proofs.Common.{◌≡◌, ℕ, ◌-◌, ℤ, pos, ◌-ℤ◌, ◌*ℤ◌, Bool, true, false, if◌then◌else◌, List, length, sym, ap, ap₂, ◌∙◌, arith, min}
use Rattle.std.specs.Prelude.{slice_index}
use Rattle.std.proofs.lemmas.Int.{ints}
use Rattle.std.proofs.lemmas.List.{length-replicate}
use Rattle.std.proofs.Math.ListN.{replicate}
use Rattle.md_math.specs.Products.{product_by}
use Rattle.md_math.specs.Sums.{sum_to, total_by}
use Rattle.md_math.proofs.Ring.{*ℤ-one, *ℤ-zero}
use Rattle.md_math.proofs.TotalLaws.{total_by-sub}
use Rattle.md_space.specs.Profiles.{IsProfile}
use Rattle.md_space.specs.AllProfiles.{profiles_of}
use Rattle.md_space.proofs.Ranks.{length-IsProfile}
use Rattle.md_space.proofs.TypeSums.{total-same}
use Rattle.md_setting.specs.Meaning.{sizes_of, weight_of}
use Rattle.md_setting.specs.Auction.{SymmetricAuction, value_count, total_weight}
use Rattle.md_setting.specs.General.{general_of}
use Rattle.md_setting.proofs.GeneralLaws.{sizes_of-general, weight_of-general}
use Rattle.md_counts.specs.Weights.{counts_of, value_lists}
use Rattle.md_counts.proofs.Regrouping.{weight_of_values, by_counts}
use Rattle.md_math.proofs.ProductLaws.{sum-places}
use Rattle.md_counts.proofs.WeightLaws.{all-lists}
use Rattle.md_border.specs.Sets.{has_some, sum_in}
use Rattle.md_border.specs.Sides.{right_of, right_by_counts, right_by_power}
use Rattle.md_border.proofs.SetLaws.{outside, sum-outside, bidders_in, one-bidder, sum_in-counts, product-outside}

-- the weight of a profile is the product of the weights of its values
pub profile-weight : (a : SymmetricAuction) (t : List ℕ) → IsProfile (replicate a.bidders (value_count a)) t → weight_of (general_of a) t ≡ weight_of_values a.weights t
profile-weight a t p = weight_of-general a t (length-IsProfile _ t p ∙ length-replicate a.bidders (value_count a))

-- a sum over all profiles goes over the lists of values
pub over_values : (a : SymmetricAuction) (f : List ℕ → ℤ) → total_by f (profiles_of (sizes_of (general_of a))) ≡ total_by f (value_lists a.bidders (value_count a))
over_values a f = ap (λ sizes. total_by f (profiles_of sizes)) (sizes_of-general a)

-- ---- by counts

-- for any number of units: each profile has as many of them as there are bidders with values in the set
pub units-by_counts : (a : SymmetricAuction) (units set : ℕ)
    → total_by (λ t. weight_of (general_of a) t *ℤ pos (min units (bidders_in set t))) (profiles_of (sizes_of (general_of a))) ≡ right_by_counts a units set
units-by_counts a units set =
    let kinds = value_count a in
    over_values a (λ t. weight_of (general_of a) t *ℤ pos (min units (bidders_in set t)))
    ∙ total-same (replicate a.bidders kinds) _ (λ t. weight_of_values a.weights t *ℤ pos (min units (sum_in set (counts_of kinds t))))
    (λ t p. ap₂ (λ x y. x *ℤ pos (min units y)) (profile-weight a t p) (sym (sum_in-counts a.bidders kinds set t p)))
    ∙ by_counts a.weights a.bidders kinds (λ counts. pos (min units (sum_in set counts)))

pub right_of-counts : (a : SymmetricAuction) (set : ℕ) → right_of a set ≡ right_by_counts a 1 set
right_of-counts a set =
    total-same (sizes_of (general_of a)) _ (λ t. weight_of (general_of a) t *ℤ pos (min 1 (bidders_in set t)))
    (λ t p. sym (ap (λ m. weight_of (general_of a) t *ℤ pos m) (one-bidder set t) ∙ chosen-times (has_some set t) (weight_of (general_of a) t)))
    ∙ units-by_counts a 1 set
  where
    chosen-times : (s : Bool) (z : ℤ) → z *ℤ pos (if s then 1 else 0) ≡ (if s then z else pos 0)
    chosen-times true z = *ℤ-one z
    chosen-times false z = *ℤ-zero z

-- ---- by powers

pub right_of-power : (a : SymmetricAuction) (set : ℕ) → length a.weights ≡ value_count a → right_of a set ≡ right_by_power a set
right_of-power a set one_each =
    let n = a.bidders in
    let kinds = value_count a in
    let all : sum_to kinds (λ v. pos (slice_index a.weights v)) ≡ pos (total_weight a.weights) =
    ap (λ k. sum_to k (λ v. pos (slice_index a.weights v))) (sym one_each) ∙ sym (sum-places a.weights) in
    let others : sum_to kinds (λ v. pos (outside set a.weights v)) ≡ pos (total_weight a.weights - sum_in set a.weights) =
    ap (λ k. sum_to k (λ v. pos (outside set a.weights v))) (sym one_each) ∙ sum-outside set a.weights in
    over_values a _
    ∙ total-same (replicate n kinds) _ (λ t. pos (product_by (slice_index a.weights) t) -ℤ pos (product_by (outside set a.weights) t))
    (λ t p. ap (λ z. if has_some set t then z else pos 0) (profile-weight a t p)
    ∙ without (has_some set t) (product_by (slice_index a.weights) t)
    ∙ ap (λ m. pos (product_by (slice_index a.weights) t) -ℤ pos m) (sym (product-outside set a.weights t)))
    ∙ total_by-sub (λ t. pos (product_by (slice_index a.weights) t)) (λ t. pos (product_by (outside set a.weights) t)) (value_lists n kinds)
    ∙ ap₂ (λ x y. x -ℤ y) (all-lists n kinds (slice_index a.weights) (total_weight a.weights) all) (all-lists n kinds (outside set a.weights) (total_weight a.weights - sum_in set a.weights) others)
  where
    without : (s : Bool) (m : ℕ) → (if s then pos m else pos 0) ≡ pos m -ℤ pos (if s then 0 else m)
    without true m = omega (arith, ints)
    without false m = omega (arith, ints)
