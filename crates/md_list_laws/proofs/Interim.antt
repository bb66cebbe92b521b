-- Sums over all profiles by the value of one bidder, where bidders' values are independent.
use Rattle.std.proofs.Common.{◌≡◌, ℕ, zero, suc, ◌<◌, ℤ, pos, ◌-ℤ◌, ◌*ℤ◌, ◌≤ℤ◌, ◌<ℤ◌, ◌==◌, Bool, true, false, if◌then◌else◌, List, length, get_or, eqb-true, refl, sym, ap, ◌∙◌, arith}
use Rattle.std.specs.Prelude.{slice_index}
use Rattle.std.proofs.lemmas.List.{set-set, set-get_or}
use Rattle.md_math.specs.Sums.{sum_to, total_by}
use Rattle.md_math.proofs.Order.{nonneg-*ℤ}
use Rattle.md_math.proofs.Ring.{linear, ring, *ℤ-zero, *ℤ_assoc, *ℤ_left_comm}
use Rattle.md_math.proofs.SumLaws.{sum_to-same, sum_to-*ℤ, sum_to-zero}
use Rattle.md_math.proofs.TotalLaws.{total_by-nonneg, total_by-sub, total_by-*ℤ, total_by-sum_to}
use Rattle.md_space.specs.AllProfiles.{profiles_of}
use Rattle.md_space.specs.ByType.{where_type}
use Rattle.md_space.specs.Profiles.{IsProfile, replaced}
use Rattle.md_space.proofs.InOrder.{All-profiles_of}
use Rattle.md_space.proofs.TypeSums.{total-same, total_given-same, total_given-*ℤ, by_type, swapped}
use Rattle.md_list.specs.Rule.{step_of, pay_by}

-- the weight of a profile has a factor for each bidder's value
pub record AreApart (sizes : List ℕ) (weight : List ℕ → ℤ) (own : ℕ → ℕ → ℤ) : Type 0 where
  pub factor : (t : List ℕ) (i v : ℕ) → IsProfile sizes t → i < length sizes → v < slice_index sizes i → own i (slice_index t i) *ℤ weight (replaced t i v) ≡ own i v *ℤ weight t
  pub positive : (i v : ℕ) → i < length sizes → v < slice_index sizes i → pos 0 <ℤ own i v
  pub nonneg : (t : List ℕ) → IsProfile sizes t → pos 0 ≤ℤ weight t
  pub some : (i : ℕ) → i < length sizes → 0 < slice_index sizes i

-- the sum of f, by weight, over the profiles in which bidder i has a value
abbrev pub given : List ℕ → (List ℕ → ℤ) → ℕ → ℕ → (List ℕ → ℤ) → ℤ
given sizes weight i v f = total_by (where_type i v (λ t. weight t *ℤ f t)) (profiles_of sizes)

-- the average of f over the others' values when bidder i reports a value, in units of the weight of the bidder's first value
abbrev pub interim : List ℕ → (List ℕ → ℤ) → ℕ → (List ℕ → ℤ) → ℕ → ℤ
interim sizes weight i f v = given sizes weight i 0 (λ t. f (replaced t i v))

module _ (sizes : List ℕ) (weight : List ℕ → ℤ) (own : ℕ → ℕ → ℤ) (apart : AreApart sizes weight own) (i : ℕ) (inside : i < length sizes) where
  first-inside : 0 < get_or sizes i 0
  first-inside = apart.some i inside

  -- over the profiles with one true value, where the bidder reports another
  pub given-told : (f : List ℕ → ℤ) (v u : ℕ) → v < slice_index sizes i → own i 0 *ℤ given sizes weight i v (λ t. f (replaced t i u)) ≡ own i v *ℤ interim sizes weight i f u
  given-told f v u b =
      let h = λ (t : List ℕ). f (replaced t i u) in
      ap (λ z. own i 0 *ℤ z)
      (total_given-same sizes i v (λ t. weight t *ℤ h t) (λ t. weight t *ℤ h (replaced t i 0)) (λ t p e. ap (λ r. weight t *ℤ f r) (sym (set-set t i 0 u)))
      ∙ sym (swapped sizes i v 0 (λ r t. weight r *ℤ h t) inside b first-inside))
      ∙ sym (total_given-*ℤ sizes i 0 (own i 0) (λ t. weight (replaced t i v) *ℤ h t))
      ∙ total_given-same sizes i 0 (λ t. own i 0 *ℤ (weight (replaced t i v) *ℤ h t)) (λ t. own i v *ℤ (weight t *ℤ h t))
      (λ t p e.
      sym (*ℤ_assoc (own i 0) (weight (replaced t i v)) (h t))
      ∙ ap (λ k. (own i k *ℤ weight (replaced t i v)) *ℤ h t) (sym e)
      ∙ ap (λ z. z *ℤ h t) (apart.factor t i v p inside b)
      ∙ *ℤ_assoc (own i v) (weight t) (h t))
      ∙ total_given-*ℤ sizes i 0 (own i v) (λ t. weight t *ℤ h t)

  -- where it reports its true value
  pub given-own : (f : List ℕ → ℤ) (v : ℕ) → v < slice_index sizes i → own i 0 *ℤ given sizes weight i v f ≡ own i v *ℤ interim sizes weight i f v
  given-own f v b =
      ap (λ z. own i 0 *ℤ z)
      (total_given-same sizes i v (λ t. weight t *ℤ f t) (λ t. weight t *ℤ f (replaced t i v))
      (λ t p e. ap (λ r. weight t *ℤ f r) (sym (ap (λ k. replaced t i k) (sym e) ∙ set-get_or t i 0))))
      ∙ given-told f v v b

  -- over all profiles, with a factor for each of its values
  pub by-values : (k : ℕ → ℤ) (f : List ℕ → ℤ)
      → own i 0 *ℤ total_by (λ t. weight t *ℤ (k (slice_index t i) *ℤ f t)) (profiles_of sizes) ≡ sum_to (slice_index sizes i) (λ v. own i v *ℤ (k v *ℤ interim sizes weight i f v))
  by-values k f =
      ap (λ z. own i 0 *ℤ z) (by_type sizes i (λ t. weight t *ℤ (k (slice_index t i) *ℤ f t)) inside)
      ∙ sym (sum_to-*ℤ (slice_index sizes i) (own i 0) (λ v. total_by (where_type i v (λ t. weight t *ℤ (k (slice_index t i) *ℤ f t))) (profiles_of sizes)))
      ∙ sum_to-same (slice_index sizes i) _ (λ v. own i v *ℤ (k v *ℤ interim sizes weight i f v))
      (λ v b.
      ap (λ z. own i 0 *ℤ z)
      (total_given-same sizes i v (λ t. weight t *ℤ (k (slice_index t i) *ℤ f t)) (λ t. k v *ℤ (weight t *ℤ f t)) (λ t p e. ap (λ u. weight t *ℤ (k u *ℤ f t)) e ∙ *ℤ_left_comm (weight t) (k v) (f t))
      ∙ total_given-*ℤ sizes i v (k v) (λ t. weight t *ℤ f t))
      ∙ *ℤ_left_comm (own i 0) (k v) (given sizes weight i v f)
      ∙ ap (λ z. k v *ℤ z) (given-own f v b)
      ∙ *ℤ_left_comm (k v) (own i v) (interim sizes weight i f v))

  -- what is never negative is not negative on average
  pub interim-nonneg : (f : List ℕ → ℤ) (v : ℕ) → ((t : List ℕ) → IsProfile sizes t → slice_index t i ≡ 0 → pos 0 ≤ℤ f (replaced t i v)) → pos 0 ≤ℤ interim sizes weight i f v
  interim-nonneg f v h =
      total_by-nonneg (where_type i 0 (λ t. weight t *ℤ f (replaced t i v))) (profiles_of sizes)
      (λ k d l. let t = get_or (profiles_of sizes) k d in at t (All-profiles_of sizes k d l) (slice_index t i == 0) refl)
    where
      at : (t : List ℕ) → IsProfile sizes t → (b : Bool) → (slice_index t i == 0) ≡ b → pos 0 ≤ℤ (if b then weight t *ℤ f (replaced t i v) else pos 0)
      at t p true e = nonneg-*ℤ (weight t) (f (replaced t i v)) (apart.nonneg t p) (h t p (eqb-true (slice_index t i) 0 e))
      at t p false e = omega (arith, linear)

-- x for each unit, less the payment
pub given-less : (sizes : List ℕ) (weight : List ℕ → ℤ) (i v : ℕ) (x : ℤ) (f g : List ℕ → ℤ) → given sizes weight i v (λ t. x *ℤ f t -ℤ g t) ≡ x *ℤ given sizes weight i v f -ℤ given sizes weight i v g
given-less sizes weight i v x f g =
    let won = where_type i v (λ t. weight t *ℤ f t) in
    let paid = where_type i v (λ t. weight t *ℤ g t) in
    total-same sizes (where_type i v (λ t. weight t *ℤ (x *ℤ f t -ℤ g t))) (λ t. x *ℤ won t -ℤ paid t) (λ t p. split (slice_index t i == v) (weight t) x (f t) (g t))
    ∙ total_by-sub (λ t. x *ℤ won t) paid (profiles_of sizes)
    ∙ ap (λ z. z -ℤ given sizes weight i v g) (total_by-*ℤ x won (profiles_of sizes))
  where
    split : (c : Bool) (w v x y : ℤ) → (if c then w *ℤ (v *ℤ x -ℤ y) else pos 0) ≡ v *ℤ (if c then w *ℤ x else pos 0) -ℤ (if c then w *ℤ y else pos 0)
    split true w v x y = simp ring (omega (arith, linear))
    split false w v x y = (let none : v *ℤ pos 0 ≡ pos 0 = *ℤ-zero v in omega (arith, linear, none))

-- ---- payments

total-step : (sizes : List ℕ) (z : List ℕ → ℕ → ℤ) (x : ℕ) → total_by (λ t. step_of (z t) x) (profiles_of sizes) ≡ step_of (λ v. total_by (λ t. z t v) (profiles_of sizes)) x
total-step sizes z zero = refl
total-step sizes z (suc x) = total_by-sub (λ t. z t (suc x)) (λ t. z t x) (profiles_of sizes)

-- the average of payments made unit by unit is the payment for the average amounts
pub interim-pays : (sizes : List ℕ) (weight : List ℕ → ℤ) (i : ℕ) (value : ℕ → ℤ) (f p : List ℕ → ℤ) (v : ℕ)
    → ((t : List ℕ) → IsProfile sizes t → slice_index t i ≡ 0 → p (replaced t i v) ≡ pay_by value (λ u. f (replaced t i u)) v)
    → interim sizes weight i p v ≡ pay_by value (interim sizes weight i f) v
interim-pays sizes weight i value f p v pays =
    let z = λ (t : List ℕ) (u : ℕ). where_type i 0 (λ r. weight r *ℤ f (replaced r i u)) t in
    total_given-same sizes i 0 (λ t. weight t *ℤ p (replaced t i v)) (λ t. weight t *ℤ pay_by value (λ u. f (replaced t i u)) v) (λ t q e. ap (λ y. weight t *ℤ y) (pays t q e))
    ∙ total-same sizes _ (λ t. sum_to (suc v) (λ x. value x *ℤ step_of (z t) x)) (λ t q. inside (slice_index t i == 0) (weight t) (λ u. f (replaced t i u)))
    ∙ total_by-sum_to (suc v) (λ t x. value x *ℤ step_of (z t) x) (profiles_of sizes)
    ∙ sum_to-same (suc v) _ (λ x. value x *ℤ step_of (interim sizes weight i f) x)
    (λ x b. total_by-*ℤ (value x) (λ t. step_of (z t) x) (profiles_of sizes) ∙ ap (λ y. value x *ℤ y) (total-step sizes z x))
  where
    step-times : (w : ℤ) (y : ℕ → ℤ) (x : ℕ) → w *ℤ step_of y x ≡ step_of (λ u. w *ℤ y u) x
    step-times w y zero = refl
    step-times w y (suc x) = times w (y (suc x)) (y x)
      where
        times : (w a b : ℤ) → w *ℤ (a -ℤ b) ≡ w *ℤ a -ℤ w *ℤ b
        times w a b = simp ring (omega (arith, linear))

    step-none : (x : ℕ) → step_of (λ u. pos 0) x ≡ pos 0
    step-none zero = refl
    step-none (suc x) = omega (arith, linear)

    inside : (b : Bool) (w : ℤ) (y : ℕ → ℤ) → (if b then w *ℤ pay_by value y v else pos 0) ≡ sum_to (suc v) (λ x. value x *ℤ step_of (λ u. if b then w *ℤ y u else pos 0) x)
    inside true w y =
        sym (sum_to-*ℤ (suc v) w (λ x. value x *ℤ step_of y x))
        ∙ sum_to-same (suc v) _ _ (λ x b. *ℤ_left_comm w (value x) (step_of y x) ∙ ap (λ s. value x *ℤ s) (step-times w y x))
    inside false w y = sym (sum_to-zero (suc v) _ (λ x b. ap (λ s. value x *ℤ s) (step-none x) ∙ *ℤ-zero (value x)))
