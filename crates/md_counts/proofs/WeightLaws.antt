-- The weight of a list of counts: by factorials and powers, and against the weight of all lists of values.
use Rattle.std.proofs.Common.{◌≡◌, ℕ, zero, suc, ◌+◌, ◌*◌, ◌/◌, ◌^◌, ◌<◌, ◌≤◌, pos, ◌*ℤ◌, ◌≤ℤ◌, unsigned_abs, Bool, true, false, if◌then◌else◌, List, [], ◌∷◌, length, get_or, take, refl, sym, ap, ◌∙◌, subst, arith, inl, inr, add-one}
use Rattle.std.specs.Prelude.{slice_index}
use Rattle.std.specs.List.{sum_by}
use Rattle.std.proofs.lemmas.Bool.{cases_eq}
use Rattle.std.proofs.lemmas.Int.{ints}
use Rattle.std.proofs.lemmas.List.{get_or-replicate, take_more}
use Rattle.std.proofs.lemmas.List.Sums.{sum_by-cons, sum_by-take-le, sum_by_push}
use Rattle.std.proofs.lemmas.Nat.{mul-le, pow-add}
use Rattle.std.proofs.Math.IntN.{pos-*ℤ-pos}
use Rattle.std.proofs.Math.ListN.{replicate}
use Rattle.std.proofs.Math.Nat.{pow-zero, pow-suc, pow-le-pow_left, pow-le-pow_right, mul-div_cancel_left}
use Rattle.md_math.specs.Products.{product_to, product_by, factorial}
use Rattle.md_math.specs.Sums.{sum_to, total_by}
use lib.IntN.{*ℤ_comm}
use Rattle.md_math.proofs.Order.{chosen-le, chosen-pos, same_number}
use Rattle.md_math.proofs.ProductLaws.{pos-sum_by, sum-places, product_to-one, factorial-positive}
use Rattle.md_math.proofs.SumLaws.{sum_to-same, sum_to-*ℤ}
use Rattle.md_math.proofs.TotalLaws.{total_by-places, total_by-le, total_by-*ℤ}
use Rattle.md_space.proofs.TypeSums.{total-same, by_first}
use Rattle.md_setting.specs.Auction.{total_weight}
use Rattle.md_counts.specs.Counts.{AreCounts}
use Rattle.md_counts.specs.Weights.{has_counts, value_lists, weight_of_counts, factorials, powers}
use Rattle.md_counts.proofs.Agreement.{weigh, weight_with}
use Rattle.md_space.proofs.Walks.{divided}
use Rattle.md_math.proofs.ProductLaws.{one-pow, product_to-le, factorial-le}
use Rattle.md_counts.proofs.Multinomial.{factorials_to-positive, multinomial}

-- the weight of counts as a sum of signed numbers
pub pos-weight_of_counts : (weights : List ℕ) (n : ℕ) (counts : List ℕ) → pos (weight_of_counts weights n counts) ≡ weight_with (length counts) (slice_index weights) n (slice_index counts)
pos-weight_of_counts weights n counts =
    pos-sum_by (λ values. if has_counts counts values then product_by (slice_index weights) values else 0) (value_lists n (length counts))
    ∙ total-same (replicate n (length counts)) _ (weigh (length counts) (slice_index weights) (slice_index counts)) (λ values p. chosen-pos (has_counts counts values) (product_by (slice_index weights) values))

-- ---- by factorials and powers

pub factorials-positive : (counts : List ℕ) → 0 < factorials counts
factorials-positive counts = factorials_to-positive (length counts) (slice_index counts)

-- the weight of counts is a multinomial number times powers
pub weight_of_counts-law : (weights : List ℕ) (n kinds : ℕ) (counts : List ℕ) → AreCounts n kinds counts → weight_of_counts weights n counts * factorials counts ≡ factorial n * powers weights counts
weight_of_counts-law weights n kinds counts h =
    same_number _ _
    (sym (pos-*ℤ-pos (weight_of_counts weights n counts) (factorials counts))
    ∙ *ℤ_comm (pos (weight_of_counts weights n counts)) (pos (factorials counts))
    ∙ ap (λ w. pos (factorials counts) *ℤ w) (pos-weight_of_counts weights n counts)
    ∙ multinomial n (length counts) (slice_index weights) (slice_index counts) (sym (sum-places counts) ∙ ap pos h.add))

-- how many lists of values have the counts: their weight where each value weighs 1
abbrev unit_weight : ℕ → List ℕ → ℕ
unit_weight n counts = weight_of_counts (replicate (length counts) 1) n counts

unit_weight-law : (n kinds : ℕ) (counts : List ℕ) → AreCounts n kinds counts → unit_weight n counts * factorials counts ≡ factorial n
unit_weight-law n kinds counts h =
    let ones : List ℕ = replicate (length counts) 1 in
    let units : powers ones counts ≡ 1 =
    product_to-one (length counts) (λ v. slice_index ones v ^ slice_index counts v)
    (λ v b. ap (λ x. x ^ slice_index counts v) (get_or-replicate (length counts) v 1 0 b) ∙ one-pow (slice_index counts v)) in
    weight_of_counts-law ones n kinds counts h ∙ ap (λ x. factorial n * x) units ∙ omega arith

-- the factorials divide that of the number of bidders
pub factorials-le : (n kinds : ℕ) (counts : List ℕ) → AreCounts n kinds counts → factorials counts ≤ factorial n
factorials-le n kinds counts h =
    divisor (unit_weight n counts) (factorials counts) (factorial n) (factorial-positive n) (unit_weight-law n kinds counts h)
  where
    divisor : (w d m : ℕ) → 0 < m → w * d ≡ m → d ≤ m
    divisor zero d m p e = absurd (omega arith)
    divisor (suc w) d m p e = omega (arith, mul-le 1 d (suc w) d (omega arith) (omega arith))

-- ---- the weight of all lists of values

-- all lists together weigh the power of the sum of the weights
pub all-lists : (n kinds : ℕ) (f : ℕ → ℕ) (whole : ℕ) → sum_to kinds (λ v. pos (f v)) ≡ pos whole → total_by (λ values. pos (product_by f values)) (value_lists n kinds) ≡ pos (whole ^ n)
all-lists zero kinds f whole e = ap pos (sym (pow-zero whole))
all-lists (suc n) kinds f whole e =
    let rest = all-lists n kinds f whole e in
    by_first kinds (replicate n kinds) (λ values. pos (product_by f values))
    ∙ sum_to-same kinds _ (λ v. pos (whole ^ n) *ℤ pos (f v))
    (λ v b.
    total-same (replicate n kinds) _ (λ values. pos (f v) *ℤ pos (product_by f values)) (λ values p. sym (pos-*ℤ-pos (f v) (product_by f values)))
    ∙ total_by-*ℤ (pos (f v)) (λ values. pos (product_by f values)) (value_lists n kinds)
    ∙ ap (λ z. pos (f v) *ℤ z) rest
    ∙ *ℤ_comm (pos (f v)) (pos (whole ^ n)))
    ∙ sum_to-*ℤ kinds (pos (whole ^ n)) (λ v. pos (f v))
    ∙ ap (λ z. pos (whole ^ n) *ℤ z) e
    ∙ pos-*ℤ-pos (whole ^ n) whole
    ∙ ap pos (sym (pow-suc whole n))

-- the lists with some counts weigh no more
pub weight_of_counts-le : (weights : List ℕ) (n : ℕ) (counts : List ℕ) → length weights ≡ length counts → weight_of_counts weights n counts ≤ total_weight weights ^ n
weight_of_counts-le weights n counts e =
    let whole : sum_to (length counts) (λ v. pos (slice_index weights v)) ≡ pos (total_weight weights) =
    ap (λ k. sum_to k (λ v. pos (slice_index weights v))) (sym e) ∙ sym (sum-places weights) in
    let some : weight_with (length counts) (slice_index weights) n (slice_index counts) ≤ℤ total_by (λ values. pos (product_by (slice_index weights) values)) (value_lists n (length counts)) =
    total_by-le (weigh (length counts) (slice_index weights) (slice_index counts)) (λ values. pos (product_by (slice_index weights) values)) (value_lists n (length counts)) (λ k d l. chosen-le (has_counts counts (get_or (value_lists n (length counts)) k d)) _ (nonneg _)) in
    smaller _ _ (subst (λ z. z ≤ℤ pos (total_weight weights ^ n)) (sym (pos-weight_of_counts weights n counts))
    (subst (λ z. weight_with (length counts) (slice_index weights) n (slice_index counts) ≤ℤ z) (all-lists n (length counts) (slice_index weights) (total_weight weights) whole) some))
  where
    nonneg : (m : ℕ) → pos 0 ≤ℤ pos m
    nonneg m = omega (arith, ints)

    smaller : (a b : ℕ) → pos a ≤ℤ pos b → a ≤ b
    smaller a b h = omega (arith, ints)

-- ---- sizes of powers

-- a bound of each weight whose power is within the limit
pub record IsRoof (weights : List ℕ) (n : ℕ) : Type 0 where
  pub roof : ℕ
  pub some : 1 ≤ roof
  pub each : (v : ℕ) → slice_index weights v ≤ roof
  pub power : roof ^ n ≤ 10 ^ 12

pub roof_of : (weights : List ℕ) (n : ℕ) → total_weight weights ^ n ≤ 10 ^ 12 → IsRoof weights n
roof_of weights n h =
    elim (cases_eq (total_weight weights) 0) [
      | inl none ↦ record {
        roof = 1;
        some = omega arith;
        each = λ v. (let b : slice_index weights v ≤ total_weight weights = at_most weights v in omega arith);
        power = rw (one-pow n) (omega arith);
      }
      | inr some ↦ record { roof = total_weight weights; some = omega arith; each = λ v. at_most weights v; power = h }
    ]
  where
    at_most : (xs : List ℕ) (v : ℕ) → slice_index xs v ≤ sum_by (λ x. x) xs
    at_most [] v = omega arith
    at_most (x ∷ xs) zero = omega (arith, sum_by-cons (λ (y : ℕ). y) x xs)
    at_most (x ∷ xs) (suc v) = omega (arith, sum_by-cons (λ (y : ℕ). y) x xs, at_most xs v)

-- the power of one weight is small
pub power-small : (weights : List ℕ) (n c v : ℕ) → IsRoof weights n → c ≤ n → slice_index weights v ^ c ≤ 10 ^ 12
power-small weights n c v h l =
    let each : slice_index weights v ^ c ≤ h.roof ^ c = pow-le-pow_left (h.each v) c in
    let more : h.roof ^ c ≤ h.roof ^ n = pow-le-pow_right {n = h.roof} (let s : 1 ≤ h.roof = h.some in omega arith) {i = c} {j = n} l in
    let all : h.roof ^ n ≤ 10 ^ 12 = h.power in
    omega arith

-- the product of the powers of the first kinds is small
pub powers-small : (weights : List ℕ) (n kinds j : ℕ) (counts : List ℕ) → IsRoof weights n → AreCounts n kinds counts → j ≤ length counts
    → product_to j (λ v. slice_index weights v ^ slice_index counts v) ≤ 10 ^ 12
powers-small weights n kinds j counts h k b =
    let part : product_to j (λ v. slice_index weights v ^ slice_index counts v) ≤ h.roof ^ sum_by (λ x. x) (take j counts) = first j b in
    let few : sum_by (λ x. x) (take j counts) ≤ n = subst (λ m. sum_by (λ x. x) (take j counts) ≤ m) k.add (sum_by-take-le (λ x. x) counts j) in
    let more : h.roof ^ sum_by (λ x. x) (take j counts) ≤ h.roof ^ n = pow-le-pow_right {n = h.roof} (let s : 1 ≤ h.roof = h.some in omega arith) {i = sum_by (λ x. x) (take j counts)} {j = n} few in
    let all : h.roof ^ n ≤ 10 ^ 12 = h.power in
    omega arith
  where
    first : (i : ℕ) → i ≤ length counts → product_to i (λ v. slice_index weights v ^ slice_index counts v) ≤ h.roof ^ sum_by (λ x. x) (take i counts)
    first zero l = rw (pow-zero h.roof) (omega arith)
    first (suc i) l =
        let c = slice_index counts i in
        let s = sum_by (λ x. x) (take i counts) in
        let rest : product_to i (λ v. slice_index weights v ^ slice_index counts v) ≤ h.roof ^ s = first i (omega arith) in
        let here : slice_index weights i ^ c ≤ h.roof ^ c = pow-le-pow_left (h.each i) c in
        let next : sum_by (λ x. x) (take (suc i) counts) ≡ s + c =
        ap (λ m. sum_by (λ x. x) (take m counts)) (sym (add-one i)) ∙ ap (sum_by (λ x. x)) (take_more counts i 0 (omega arith)) ∙ sum_by_push (λ x. x) (take i counts) c in
        subst (λ m. product_to (suc i) (λ v. slice_index weights v ^ slice_index counts v) ≤ h.roof ^ m) (sym next)
        (subst (λ m. product_to (suc i) (λ v. slice_index weights v ^ slice_index counts v) ≤ m) (sym (pow-add h.roof s c)) (mul-le _ _ _ _ rest here))

-- ---- what is computed

-- the product of the first factorials is small
pub factorials-small : (n kinds j : ℕ) (counts : List ℕ) → n ≤ 12 → AreCounts n kinds counts → j ≤ length counts
    → product_to j (λ v. factorial (slice_index counts v)) ≤ 479001600
factorials-small n kinds j counts few h b =
    let some : product_to j (λ v. factorial (slice_index counts v)) ≤ factorials counts =
    product_to-le j (length counts) (λ v. factorial (slice_index counts v)) (λ v. factorial-positive (slice_index counts v)) b in
    let most : factorial n ≤ factorial 12 = factorial-le n 12 few in
    omega (arith, factorials-le n kinds counts h)

-- the number of lists with the counts, times the powers, is the weight
pub orders-times_powers : (weights : List ℕ) (n kinds : ℕ) (counts : List ℕ) → AreCounts n kinds counts
    → factorial n / factorials counts * powers weights counts ≡ weight_of_counts weights n counts
orders-times_powers weights n kinds counts h =
    let d = factorials counts in
    let q = unit_weight n counts in
    let whole : factorial n ≡ d * q = sym (unit_weight-law n kinds counts h) ∙ omega arith in
    let orders : factorial n / d ≡ q = divided d q (factorial n) whole (factorials-positive counts) in
    cancel d (factorial n / d * powers weights counts) (weight_of_counts weights n counts) (factorials-positive counts)
    (ap (λ x. d * (x * powers weights counts)) orders ∙ again d q (powers weights counts) ∙ ap (λ x. x * powers weights counts) (sym whole)
    ∙ sym (weight_of_counts-law weights n kinds counts h) ∙ turned (weight_of_counts weights n counts) d)
  where
    again : (a b c : ℕ) → a * (b * c) ≡ a * b * c
    again a b c = omega arith

    turned : (a b : ℕ) → a * b ≡ b * a
    turned a b = omega arith

    cancel : (d x y : ℕ) → 0 < d → d * x ≡ d * y → x ≡ y
    cancel d x y p e = sym (mul-div_cancel_left x p) ∙ ap (λ z. z / d) e ∙ mul-div_cancel_left y p
