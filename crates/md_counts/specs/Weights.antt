-- The weight of a list of counts: that of all lists of values in which each value comes so often.
use Rattle.std.specs.Prelude.{ℕ, ◌+◌, ◌^◌, ◌==◌, Bool, List, [], ◌∷◌, length, replicate, slice_index, if◌then◌else◌}
use Rattle.std.specs.List.{sum_by}
use Rattle.md_math.specs.Lists.{list_to}
use Rattle.md_math.specs.Products.{product_to, product_by, factorial}
use Rattle.md_space.specs.AllProfiles.{profiles_of}
use Rattle.md_setting.specs.Refusals.{all_below}

-- how many of some values are v
abbrev pub count_in : ℕ → List ℕ → ℕ
count_in v [] = 0
count_in v (x ∷ xs) = (if x == v then 1 else 0) + count_in v xs

-- the counts of a list of values below a number of kinds: for each kind how often it comes
abbrev pub counts_of : ℕ → List ℕ → List ℕ
counts_of kinds values = list_to kinds (λ v. count_in v values)

-- whether each kind comes as often in a list of values as the counts say
abbrev pub has_counts : List ℕ → List ℕ → Bool
has_counts counts values = all_below (length counts) (λ v. count_in v values == slice_index counts v)

-- all lists of so many values below a number of kinds
abbrev pub value_lists : ℕ → ℕ → List (List ℕ)
value_lists bidders kinds = profiles_of (replicate bidders kinds)

-- the sum, over the lists of one value for each bidder that have the counts, of the product of the weights of the values
abbrev pub weight_of_counts : List ℕ → ℕ → List ℕ → ℕ
weight_of_counts weights bidders counts =
    sum_by (λ values. if has_counts counts values then product_by (slice_index weights) values else 0) (value_lists bidders (length counts))

-- the product of the factorials of the counts
abbrev pub factorials : List ℕ → ℕ
factorials counts = product_to (length counts) (λ v. factorial (slice_index counts v))

-- the product of the weights of all kinds, each as often as its count
abbrev pub powers : List ℕ → List ℕ → ℕ
powers weights counts = product_to (length counts) (λ v. slice_index weights v ^ slice_index counts v)
