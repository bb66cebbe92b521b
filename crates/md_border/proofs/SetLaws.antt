-- The bidders of a profile whose values are in a set, by how many have each kind of value.
use Rattle.std.proofs.Common.{◌≡◌, ℕ, zero, suc, ◌+◌, ◌-◌, ◌*◌, ◌≤◌, ℤ, pos, ◌+ℤ◌, ◌≤ℤ◌, Bool, true, false, ◌==◌, if◌then◌else◌, List, [], ◌∷◌, length, refl, sym, ap, ap₂, ◌∙◌, arith, inl, inr, eq-eqb, ne_eqb, min}
use Rattle.std.specs.Prelude.{slice_index}
use Rattle.std.proofs.lemmas.Bool.{cases_Bool}
use Rattle.std.proofs.lemmas.Int.{ints}
use Rattle.std.proofs.Math.ListN.{replicate}
use Rattle.md_math.proofs.Order.{chosen-pos, same_number}
use Rattle.md_math.specs.Lists.{list_to}
use Rattle.md_math.specs.Products.{product_by}
use Rattle.md_math.specs.Sums.{sum_to}
use Rattle.md_math.proofs.Builders.{length-list_to, get_or-list_to}
use Rattle.md_math.proofs.ProductLaws.{pos-sum_by}
use Rattle.md_math.proofs.SumLaws.{sum_to-same, sum_to-zero, sum_to-single, sum_to-+ℤ, sum_to-nonneg, sum_to-by_test}
use Rattle.md_math.proofs.TotalLaws.{total_by-list_to}
use Rattle.md_space.specs.Profiles.{IsProfile}
use Rattle.md_setting.specs.Auction.{total_weight}
use Rattle.md_counts.specs.Weights.{count_in, counts_of}
use Rattle.md_math.proofs.ProductLaws.{sum-places}
use Rattle.md_border.specs.Sets.{has_some, sum_in}
use Rattle.md_math.specs.Sets.{member}

other_pos : (b : Bool) (x : ℕ) → pos (if b then 0 else x) ≡ (if b then pos 0 else pos x)
other_pos true x = refl
other_pos false x = refl

-- ---- sums over the kinds in a set

pub pos-sum_in : (set : ℕ) (numbers : List ℕ) → pos (sum_in set numbers) ≡ sum_to (length numbers) (λ v. if member set v then pos (slice_index numbers v) else pos 0)
pos-sum_in set numbers =
    pos-sum_by (λ x. x) (list_to (length numbers) (λ v. if member set v then slice_index numbers v else 0))
    ∙ total_by-list_to (λ x. pos x) (length numbers) (λ v. if member set v then slice_index numbers v else 0)
    ∙ sum_to-same (length numbers) _ _ (λ v b. chosen-pos (member set v) (slice_index numbers v))

-- the numbers of the kinds that are not in the set
abbrev pub outside : ℕ → List ℕ → ℕ → ℕ
outside set numbers v = if member set v then 0 else slice_index numbers v

parted : (set : ℕ) (numbers : List ℕ) → pos (total_weight numbers) ≡ pos (sum_in set numbers) +ℤ sum_to (length numbers) (λ v. pos (outside set numbers v))
parted set numbers =
    sum-places numbers
    ∙ sum_to-by_test (length numbers) (member set) (λ v. pos (slice_index numbers v))
    ∙ ap₂ (λ x y. x +ℤ y) (sym (pos-sum_in set numbers)) (sum_to-same (length numbers) _ _ (λ v b. sym (other_pos (member set v) (slice_index numbers v))))

rest-nonneg : (set : ℕ) (numbers : List ℕ) → pos 0 ≤ℤ sum_to (length numbers) (λ v. pos (outside set numbers v))
rest-nonneg set numbers = sum_to-nonneg (length numbers) _ (λ v b. nonneg (outside set numbers v))
  where
    nonneg : (m : ℕ) → pos 0 ≤ℤ pos m
    nonneg m = omega (arith, ints)

pub sum_in-le : (set : ℕ) (numbers : List ℕ) → sum_in set numbers ≤ total_weight numbers
sum_in-le set numbers = omega (arith, ints, parted set numbers, rest-nonneg set numbers)

pub sum-outside : (set : ℕ) (numbers : List ℕ) → sum_to (length numbers) (λ v. pos (outside set numbers v)) ≡ pos (total_weight numbers - sum_in set numbers)
sum-outside set numbers = less _ _ _ (parted set numbers) (rest-nonneg set numbers)
  where
    less : (m n : ℕ) (z : ℤ) → pos m ≡ pos n +ℤ z → pos 0 ≤ℤ z → z ≡ pos (m - n)
    less m n z e h = omega (arith, ints)

-- ---- the bidders with values in a set

-- how many bidders of a profile have values in the set
abbrev pub bidders_in : ℕ → List ℕ → ℕ
bidders_in set [] = 0
bidders_in set (x ∷ t) = (if member set x then 1 else 0) + bidders_in set t

-- one item goes to some bidder of the set exactly where there is one
pub one-bidder : (set : ℕ) (t : List ℕ) → min 1 (bidders_in set t) ≡ (if has_some set t then 1 else 0)
one-bidder set [] = refl
one-bidder set (x ∷ t) = elim (cases_Bool (member set x)) [
  | inl here ↦ rw here (let e : min 1 (1 + bidders_in set t) ≡ 1 = omega arith in e)
  | inr away ↦ rw away (ap (min 1) (let e : 0 + bidders_in set t ≡ bidders_in set t = omega arith in e) ∙ one-bidder set t)
]

-- by the counts of the profile
count-bidders : (n kinds set : ℕ) (t : List ℕ) → IsProfile (replicate n kinds) t → sum_to kinds (λ v. if member set v then pos (count_in v t) else pos 0) ≡ pos (bidders_in set t)
count-bidders zero kinds set [] p = sum_to-zero kinds _ (λ v b. none (member set v))
  where
    none : (t : Bool) → (if t then pos 0 else pos 0) ≡ pos 0
    none true = refl
    none false = refl
count-bidders zero kinds set (x ∷ t) p = absurd p
count-bidders (suc n) kinds set [] p = absurd p
count-bidders (suc n) kinds set (x ∷ t) p =
    let one = λ (v : ℕ). if member set v then pos (if x == v then 1 else 0) else pos 0 in
    let first : sum_to kinds one ≡ pos (if member set x then 1 else 0) =
    sum_to-single kinds x one p.0 (λ v b d. ap (λ s. if member set v then pos (if s then 1 else 0) else pos 0) (ne_eqb x v (λ e. d (sym e))) ∙ none (member set v))
    ∙ ap (λ s. if member set x then pos (if s then 1 else 0) else pos 0) (eq-eqb x x refl)
    ∙ sym (chosen-pos (member set x) 1) in
    sum_to-same kinds _ (λ v. one v +ℤ (if member set v then pos (count_in v t) else pos 0)) (λ v b. split (member set v) (if x == v then 1 else 0) (count_in v t))
    ∙ sum_to-+ℤ kinds one (λ v. if member set v then pos (count_in v t) else pos 0)
    ∙ ap₂ (λ y z. y +ℤ z) first (count-bidders n kinds set t p.1)
    ∙ together (if member set x then 1 else 0) (bidders_in set t)
  where
    none : (s : Bool) → (if s then pos 0 else pos 0) ≡ pos 0
    none true = refl
    none false = refl

    split : (s : Bool) (a b : ℕ) → (if s then pos (a + b) else pos 0) ≡ (if s then pos a else pos 0) +ℤ (if s then pos b else pos 0)
    split true a b = omega (arith, ints)
    split false a b = omega (arith, ints)

    together : (a b : ℕ) → pos a +ℤ pos b ≡ pos (a + b)
    together a b = omega (arith, ints)

pub sum_in-counts : (n kinds set : ℕ) (t : List ℕ) → IsProfile (replicate n kinds) t → sum_in set (counts_of kinds t) ≡ bidders_in set t
sum_in-counts n kinds set t p =
    same_number _ _
    (pos-sum_in set (counts_of kinds t)
    ∙ ap (λ k. sum_to k (λ v. if member set v then pos (slice_index (counts_of kinds t) v) else pos 0)) (length-list_to kinds (λ v. count_in v t))
    ∙ sum_to-same kinds _ _ (λ v b. ap (λ c. if member set v then pos c else pos 0) (get_or-list_to kinds (λ v. count_in v t) v 0 b))
    ∙ count-bidders n kinds set t p)

-- ---- the weights of profiles with no bidder in a set

pub product-outside : (set : ℕ) (weights t : List ℕ) → product_by (outside set weights) t ≡ (if has_some set t then 0 else product_by (slice_index weights) t)
product-outside set weights [] = refl
product-outside set weights (x ∷ t) = elim (cases_Bool (member set x)) [
  | inl here ↦ rw here (let e : 0 * product_by (outside set weights) t ≡ 0 = omega arith in e)
  | inr away ↦ rw away (ap (λ z. slice_index weights x * z) (product-outside set weights t) ∙ out (has_some set t) (slice_index weights x) (product_by (slice_index weights) t))
]
  where
    out : (s : Bool) (a b : ℕ) → a * (if s then 0 else b) ≡ (if s then 0 else a * b)
    out true a b = omega arith
    out false a b = refl
