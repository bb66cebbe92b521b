-- The right side of a set for some units, by one bidder more.
use Rattle.std.proofs.Common.{◌≡◌, ℕ, zero, suc, ◌+◌, ◌-◌, ◌*◌, ◌^◌, ◌≤◌, ℤ, pos, ◌+ℤ◌, ◌*ℤ◌, true, false, if◌then◌else◌, List, ◌∷◌, length, refl, sym, ap, ap₂, ◌∙◌, subst, arith, inl, inr, min, mul-le-mul, le_refl}
use Rattle.std.specs.Prelude.{slice_index}
use Rattle.std.proofs.lemmas.Bool.{cases_Bool}
use Rattle.std.proofs.lemmas.Int.{ints}
use Rattle.std.proofs.Math.IntN.{pos-*ℤ-pos}
use Rattle.std.proofs.Math.Nat.{pow-zero, pow-suc, pow-le-pow_right}
use Rattle.std.proofs.Math.ListN.{replicate}
use lib.IntN.{*ℤ_comm}
use Rattle.md_math.specs.Products.{product_by}
use Rattle.md_math.specs.Sums.{sum_to, total_by}
use Rattle.md_math.proofs.Ring.{linear, ring, *ℤ-zero, *ℤ_assoc}
use Rattle.md_math.proofs.ProductLaws.{sum-places}
use Rattle.md_math.proofs.SumLaws.{sum_to-same, sum_to-+ℤ, sum_to-*ℤ}
use Rattle.md_math.proofs.TotalLaws.{total_by-zero, total_by-+ℤ, total_by-*ℤ}
use Rattle.md_space.proofs.TypeSums.{by_first, total-same}
use Rattle.md_setting.specs.Auction.{SymmetricAuction, value_count, total_weight}
use Rattle.md_counts.specs.Weights.{counts_of, value_lists}
use Rattle.md_counts.proofs.Regrouping.{weight_of_values, by_counts}
use Rattle.md_counts.proofs.WeightLaws.{all-lists}
use Rattle.md_border.specs.Sets.{sum_in}
use Rattle.md_border.specs.Sides.{right_by_counts}
use Rattle.md_border.proofs.SetLaws.{bidders_in, outside, pos-sum_in, sum-outside, sum_in-counts}
use Rattle.md_math.specs.Sets.{member}

-- ---- by lists of values

-- as many of some units as there are bidders with values in the set, by the weight of the list
abbrev taken : List ℕ → ℕ → ℕ → List ℕ → ℤ
taken weights set units t = weight_of_values weights t *ℤ pos (min units (bidders_in set t))

-- the same of all lists of so many bidders' values
abbrev all-taken : List ℕ → ℕ → ℕ → ℕ → ℕ → ℤ
all-taken weights kinds set n units = total_by (taken weights set units) (value_lists n kinds)

right-by_values : (a : SymmetricAuction) (n units set : ℕ) → all-taken a.weights (value_count a) set n units ≡ right_by_counts (record a { bidders = n }) units set
right-by_values a n units set =
    let kinds = value_count a in
    total-same (replicate n kinds) _ (λ t. weight_of_values a.weights t *ℤ pos (min units (sum_in set (counts_of kinds t))))
    (λ t p. ap (λ y. weight_of_values a.weights t *ℤ pos (min units y)) (sym (sum_in-counts n kinds set t p)))
    ∙ by_counts a.weights n kinds (λ counts. pos (min units (sum_in set counts)))

-- ---- one bidder more

-- one whose value is in the set takes a unit
with-inside : (w p u b : ℕ) → pos (w * p) *ℤ pos (min (suc u) (1 + b)) ≡ pos w *ℤ (pos p +ℤ pos p *ℤ pos (min u b))
with-inside w p u b =
    ap₂ (λ x m. x *ℤ pos m) (sym (pos-*ℤ-pos w p)) (let e : min (suc u) (1 + b) ≡ 1 + min u b = omega arith in e)
    ∙ ap (λ z. (pos w *ℤ pos p) *ℤ z) (let e : pos (1 + min u b) ≡ pos 1 +ℤ pos (min u b) = omega (arith, ints) in e)
    ∙ apart (pos w) (pos p) (pos (min u b))
  where
    apart : (x y z : ℤ) → (x *ℤ y) *ℤ (pos 1 +ℤ z) ≡ x *ℤ (y +ℤ y *ℤ z)
    apart x y z = simp ring (omega (arith, linear))

with-outside : (w p u b : ℕ) → pos (w * p) *ℤ pos (min u (0 + b)) ≡ pos w *ℤ (pos p *ℤ pos (min u b))
with-outside w p u b =
    ap₂ (λ x m. x *ℤ pos (min u m)) (sym (pos-*ℤ-pos w p)) (let e : 0 + b ≡ b = omega arith in e)
    ∙ *ℤ_assoc (pos w) (pos p) (pos (min u b))

module _ (weights : List ℕ) (kinds set n u : ℕ) (one_each : length weights ≡ kinds) where
  abbrev weight : ℕ → ℤ
  weight c = pos (slice_index weights c)

  abbrev others : ℤ
  others = pos (total_weight weights ^ n)

  -- what those have whose first bidder has the value c
  abbrev by-first : ℕ → ℤ
  by-first c = (if member set c then weight c else pos 0) *ℤ (others +ℤ all-taken weights kinds set n u) +ℤ pos (outside set weights c) *ℤ all-taken weights kinds set n (suc u)

  whole : sum_to kinds (λ v. pos (slice_index weights v)) ≡ pos (total_weight weights)
  whole = ap (λ k. sum_to k (λ v. pos (slice_index weights v))) (sym one_each) ∙ sym (sum-places weights)

  here : (c : ℕ) → member set c ≡ true → total_by (λ t. taken weights set (suc u) (c ∷ t)) (value_lists n kinds) ≡ weight c *ℤ (others +ℤ all-taken weights kinds set n u)
  here c is =
      total-same (replicate n kinds) (λ t. taken weights set (suc u) (c ∷ t)) (λ t. weight c *ℤ (weight_of_values weights t +ℤ taken weights set u t))
      (λ t p. rw is (with-inside (slice_index weights c) (product_by (slice_index weights) t) u (bidders_in set t)))
      ∙ total_by-*ℤ (weight c) (λ t. weight_of_values weights t +ℤ taken weights set u t) (value_lists n kinds)
      ∙ ap (λ z. weight c *ℤ z)
      (total_by-+ℤ (weight_of_values weights) (taken weights set u) (value_lists n kinds)
      ∙ ap (λ z. z +ℤ all-taken weights kinds set n u) (all-lists n kinds (slice_index weights) (total_weight weights) whole))

  away : (c : ℕ) → member set c ≡ false → total_by (λ t. taken weights set (suc u) (c ∷ t)) (value_lists n kinds) ≡ weight c *ℤ all-taken weights kinds set n (suc u)
  away c is =
      total-same (replicate n kinds) (λ t. taken weights set (suc u) (c ∷ t)) (λ t. weight c *ℤ taken weights set (suc u) t)
      (λ t p. rw is (with-outside (slice_index weights c) (product_by (slice_index weights) t) (suc u) (bidders_in set t)))
      ∙ total_by-*ℤ (weight c) (taken weights set (suc u)) (value_lists n kinds)

  first : (c : ℕ) → total_by (λ t. taken weights set (suc u) (c ∷ t)) (value_lists n kinds) ≡ by-first c
  first c = elim (cases_Bool (member set c)) [
    | inl is ↦ here c is ∙ rw is (right-zero (weight c *ℤ (others +ℤ all-taken weights kinds set n u)) (all-taken weights kinds set n (suc u)))
    | inr is ↦ away c is ∙ rw is (left-zero (weight c *ℤ all-taken weights kinds set n (suc u)) (others +ℤ all-taken weights kinds set n u))
  ]
    where
      right-zero : (x y : ℤ) → x ≡ x +ℤ pos 0 *ℤ y
      right-zero x y = simp ring (omega (arith, linear))

      left-zero : (x y : ℤ) → x ≡ pos 0 *ℤ y +ℤ x
      left-zero x y = simp ring (omega (arith, linear))

  taken-more : all-taken weights kinds set (suc n) (suc u)
      ≡ pos (sum_in set weights) *ℤ (others +ℤ all-taken weights kinds set n u) +ℤ pos (total_weight weights - sum_in set weights) *ℤ all-taken weights kinds set n (suc u)
  taken-more =
      by_first kinds (replicate n kinds) (taken weights set (suc u))
      ∙ sum_to-same kinds _ by-first (λ c b. first c)
      ∙ sum_to-+ℤ kinds (λ c. (if member set c then weight c else pos 0) *ℤ (others +ℤ all-taken weights kinds set n u)) (λ c. pos (outside set weights c) *ℤ all-taken weights kinds set n (suc u))
      ∙ ap₂ (λ x y. x +ℤ y)
      (times (λ c. if member set c then weight c else pos 0) (others +ℤ all-taken weights kinds set n u)
      ∙ ap (λ z. z *ℤ (others +ℤ all-taken weights kinds set n u)) (ap (λ k. sum_to k (λ c. if member set c then weight c else pos 0)) (sym one_each) ∙ sym (pos-sum_in set weights)))
      (times (λ c. pos (outside set weights c)) (all-taken weights kinds set n (suc u))
      ∙ ap (λ z. z *ℤ all-taken weights kinds set n (suc u)) (ap (λ k. sum_to k (λ c. pos (outside set weights c))) (sym one_each) ∙ sum-outside set weights))
    where
      times : (f : ℕ → ℤ) (z : ℤ) → sum_to kinds (λ c. f c *ℤ z) ≡ sum_to kinds f *ℤ z
      times f z =
          sum_to-same kinds _ (λ c. z *ℤ f c) (λ c b. *ℤ_comm (f c) z)
          ∙ sum_to-*ℤ kinds z f
          ∙ *ℤ_comm z (sum_to kinds f)

-- ---- right sides

pub right-no_bidders : (a : SymmetricAuction) (units set : ℕ) → right_by_counts (record a { bidders = 0 }) units set ≡ pos 0
right-no_bidders a units set = sym (right-by_values a 0 units set) ∙ nothing
  where
    nothing : all-taken a.weights (value_count a) set 0 units ≡ pos 0
    nothing = (let e : min units 0 ≡ 0 = omega arith in rw e refl)

pub right-no_units : (a : SymmetricAuction) (n set : ℕ) → right_by_counts (record a { bidders = n }) 0 set ≡ pos 0
right-no_units a n set =
    sym (right-by_values a n 0 set)
    ∙ total-same (replicate n (value_count a)) (taken a.weights set 0) (λ t. pos 0) (λ t p. (let e : min 0 (bidders_in set t) ≡ 0 = omega arith in rw e (*ℤ-zero (weight_of_values a.weights t))))
    ∙ total_by-zero (λ t. pos 0) (value_lists n (value_count a)) (λ k d b. refl)

pub right-more : (a : SymmetricAuction) (n u set : ℕ) → length a.weights ≡ value_count a → right_by_counts (record a { bidders = suc n }) (suc u) set
    ≡ pos (sum_in set a.weights) *ℤ (pos (total_weight a.weights ^ n) +ℤ right_by_counts (record a { bidders = n }) u set) +ℤ pos (total_weight a.weights - sum_in set a.weights) *ℤ right_by_counts (record a { bidders = n }) (suc u) set
right-more a n u set one_each =
    sym (right-by_values a (suc n) (suc u) set)
    ∙ taken-more a.weights (value_count a) set n u one_each
    ∙ ap₂ (λ x y. pos (sum_in set a.weights) *ℤ (pos (total_weight a.weights ^ n) +ℤ x) +ℤ pos (total_weight a.weights - sum_in set a.weights) *ℤ y)
    (right-by_values a n u set) (right-by_values a n (suc u) set)

-- the same by the numbers that the code has
pub right-next : (a : SymmetricAuction) (b u set i o p r s : ℕ) → 1 ≤ b → 1 ≤ u → length a.weights ≡ value_count a → sum_in set a.weights ≡ i → total_weight a.weights ≡ i + o → p ≡ (i + o) ^ (b - 1)
    → pos r ≡ right_by_counts (record a { bidders = b - 1 }) (u - 1) set → pos s ≡ right_by_counts (record a { bidders = b - 1 }) u set
    → pos (i * (p + r) + o * s) ≡ right_by_counts (record a { bidders = b }) u set
right-next a b u set i o p r s lb lu one_each inside total power first second =
    let same_b : suc (b - 1) ≡ b = omega (arith, lb) in
    let same_u : suc (u - 1) ≡ u = omega (arith, lu) in
    let rest : total_weight a.weights - sum_in set a.weights ≡ o = omega (arith, inside, total) in
    let all : total_weight a.weights ^ (b - 1) ≡ p = ap (λ w. w ^ (b - 1)) total ∙ sym power in
    signed i p r o s
    ∙ ap₂ (λ x y. pos i *ℤ (pos p +ℤ x) +ℤ pos o *ℤ y) first (second ∙ ap (λ m. right_by_counts (record a { bidders = b - 1 }) m set) (sym same_u))
    ∙ sym (ap₂ (λ m q. pos m *ℤ (pos q +ℤ right_by_counts (record a { bidders = b - 1 }) (u - 1) set) +ℤ pos (total_weight a.weights - sum_in set a.weights) *ℤ right_by_counts (record a { bidders = b - 1 }) (suc (u - 1)) set) inside all
    ∙ ap (λ m. pos i *ℤ (pos p +ℤ right_by_counts (record a { bidders = b - 1 }) (u - 1) set) +ℤ pos m *ℤ right_by_counts (record a { bidders = b - 1 }) (suc (u - 1)) set) rest)
    ∙ sym (right-more a (b - 1) (u - 1) set one_each)
    ∙ ap₂ (λ m k. right_by_counts (record a { bidders = m }) k set) same_b same_u
  where
    signed : (i p r o s : ℕ) → pos (i * (p + r) + o * s) ≡ pos i *ℤ (pos p +ℤ pos r) +ℤ pos o *ℤ pos s
    signed i p r o s =
        (let e : pos (i * (p + r) + o * s) ≡ pos (i * (p + r)) +ℤ pos (o * s) = omega (arith, ints) in e)
        ∙ ap₂ (λ x y. x +ℤ y) (sym (pos-*ℤ-pos i (p + r)) ∙ ap (λ z. pos i *ℤ z) (let e : pos (p + r) ≡ pos p +ℤ pos r = omega (arith, ints) in e)) (sym (pos-*ℤ-pos o s))

-- ---- sizes

-- a number is no greater than a power of it
pub base-small : (x b : ℕ) → 1 ≤ b → x ^ b ≤ 10 ^ 12 → x ≤ 10 ^ 12
base-small zero b l h = omega arith
base-small (suc x) b l h =
    let same : suc x ^ 1 ≡ suc x = pow-suc (suc x) 0 ∙ ap (λ y. y * suc x) (pow-zero (suc x)) ∙ (let e : 1 * suc x ≡ suc x = omega arith in e) in
    let less : suc x ≤ suc x ^ b = subst (λ y. y ≤ suc x ^ b) same (pow-le-pow_right {n = suc x} (omega arith) {i = 1} {j = b} l) in
    omega (arith, less, h)

-- nor is a smaller power
pub fewer-small : (x b : ℕ) → x ^ b ≤ 10 ^ 12 → x ^ (b - 1) ≤ 10 ^ 12
fewer-small zero b h = omega (arith, zero-small (b - 1))
  where
    zero-small : (n : ℕ) → 0 ^ n ≤ 1
    zero-small zero = omega (arith, pow-zero 0)
    zero-small (suc n) = omega (arith, pow-suc 0 n)
fewer-small (suc x) b h =
    let less : suc x ^ (b - 1) ≤ suc x ^ b = pow-le-pow_right {n = suc x} (omega arith) {i = b - 1} {j = b} (omega arith) in
    omega (arith, less, h)

-- no more units are taken than there are at each profile, where the first bidder takes one
pub taken-first : (u q p r : ℕ) → 1 ≤ u → p ≡ q → r ≤ (u - 1) * q → p + r ≤ u * q
taken-first zero q p r l same rest = absurd (omega (arith, l))
taken-first (suc u) q p r l same rest =
    let e : suc u - 1 ≡ u = omega arith in
    let few : r ≤ u * q = subst (λ n. r ≤ n * q) e rest in
    let unit : u * q + q ≡ suc u * q = omega arith in
    omega (arith, same, few, unit)

-- and over all profiles
pub taken-few : (i o b u p r s : ℕ) → 1 ≤ b → 1 ≤ u → p ≡ (i + o) ^ (b - 1) → r ≤ (u - 1) * (i + o) ^ (b - 1) → s ≤ u * (i + o) ^ (b - 1)
    → i * (p + r) + o * s ≤ u * (i + o) ^ b
taken-few i o b u p r s lb lu power first second =
    let q : ℕ = (i + o) ^ (b - 1) in
    let next : (i + o) ^ b ≡ q * (i + o) = ap (λ n. (i + o) ^ n) (let e : b ≡ suc (b - 1) = omega (arith, lb) in e) ∙ pow-suc (i + o) (b - 1) in
    let here : i * (p + r) ≤ i * (u * q) = mul-le-mul (le_refl i) (taken-first u q p r lu power first) in
    let away : o * s ≤ o * (u * q) = mul-le-mul (le_refl o) second in
    omega (arith, here, away, together i o u q, ap (λ n. u * n) next)
  where
    together : (i o u q : ℕ) → i * (u * q) + o * (u * q) ≡ u * (q * (i + o))
    together i o u q = omega arith
