-- What the bidders of a group get and pay together, over all profiles by weight, and what all bidders contribute to an objective.
use Rattle.std.proofs.Common.{◌≡◌, ◌≢◌, ◌⊎◌, ℕ, ◌<◌, ◌==◌, ℤ, pos, ◌+ℤ◌, ◌*ℤ◌, ◌<ℤ◌, Bool, true, false, if◌then◌else◌, List, length, refl, sym, ap, ap₂, ◌∙◌, inl, inr, subst, arith, eq-eqb, ne_eqb}
use Rattle.std.specs.Prelude.{slice_index}
use Rattle.std.proofs.lemmas.Bool.{cases_eq}
use Rattle.md_math.specs.Sums.{sum_to, total_by}
use Rattle.md_math.proofs.Order.{*ℤ_cancel}
use Rattle.md_math.proofs.Ring.{linear, ring, *ℤ-zero, *ℤ_left_comm}
use Rattle.md_math.proofs.SumLaws.{sum_to-same, sum_to-*ℤ}
use Rattle.md_math.proofs.TotalLaws.{total_by-*ℤ, total_by-sum_to}
use Rattle.md_space.specs.AllProfiles.{profiles_of}
use Rattle.md_space.proofs.TypeSums.{total-same}
use Rattle.md_list.specs.Rule.{step_of, pay_by}
use Rattle.md_list_laws.proofs.Bidders.{adds, adds-interim}
use Rattle.md_list_laws.proofs.Groups.{of_group, by-groups, group-same, group-times, group-sum, group-both}
use Rattle.md_list_laws.proofs.Interim.{AreApart, given, interim, given-own, by-values}
use Rattle.md_list_laws.proofs.Scores.{score, score-by_bidders}

-- bidders in groups of which each has so many values, by weights
pub record AreGrouped (sizes : List ℕ) (weight : List ℕ → ℤ) (member : ℕ → ℕ) (weights : ℕ → ℕ → ℤ) (groups : ℕ) (count : ℕ → ℕ) : Type 0 where
  pub apart : AreApart sizes weight (λ i. weights (member i))
  pub below : (i : ℕ) → i < length sizes → member i < groups
  pub size : (i : ℕ) → i < length sizes → slice_index sizes i ≡ count (member i)
  pub positive : (k : ℕ) → k < groups → pos 0 <ℤ weights k 0

-- what the bidders of a group get together with one value, on average over the others' values, in units of the weight of the first value
abbrev pub together : List ℕ → (List ℕ → ℤ) → (ℕ → ℕ) → (ℕ → List ℕ → ℤ) → ℕ → ℕ → ℤ
together sizes weight member x k v = of_group (length sizes) member k (λ i. interim sizes weight i (x i) v)

module _ (sizes : List ℕ) (weight : List ℕ → ℤ) (member : ℕ → ℕ) (weights : ℕ → ℕ → ℤ) (groups : ℕ) (count : ℕ → ℕ) (grouped : AreGrouped sizes weight member weights groups count) where
  abbrev n : ℕ
  n = length sizes

  abbrev own : ℕ → ℕ → ℤ
  own i = weights (member i)

  abbrev all : ℕ → ℕ → (ℕ → List ℕ → ℤ) → ℤ
  all k v x = together sizes weight member x k v

  -- ---- the values with one place

  -- what a bidder gets over the profiles in which its value has the place c
  abbrev at_place : (ℕ → ℕ → ℕ) → ℕ → (ℕ → List ℕ → ℤ) → ℕ → ℤ
  at_place place c x i = total_by (λ t. weight t *ℤ ((if place (member i) (slice_index t i) == c then pos 1 else pos 0) *ℤ x i t)) (profiles_of sizes)

  place-by_bidders : (place : ℕ → ℕ → ℕ) (c : ℕ) (x : ℕ → List ℕ → ℤ)
      → total_by (λ t. weight t *ℤ sum_to n (λ i. if place (member i) (slice_index t i) == c then x i t else pos 0)) (profiles_of sizes) ≡ sum_to n (at_place place c x)
  place-by_bidders place c x =
      total-same sizes _ (λ t. sum_to n (λ i. weight t *ℤ ((if place (member i) (slice_index t i) == c then pos 1 else pos 0) *ℤ x i t)))
      (λ t q.
      sym (sum_to-*ℤ n (weight t) (λ i. if place (member i) (slice_index t i) == c then x i t else pos 0))
      ∙ sum_to-same n _ _ (λ i b. ap (λ z. weight t *ℤ z) (chosen (place (member i) (slice_index t i) == c) (x i t))))
      ∙ total_by-sum_to n (λ t i. weight t *ℤ ((if place (member i) (slice_index t i) == c then pos 1 else pos 0) *ℤ x i t)) (profiles_of sizes)
    where
      chosen : (b : Bool) (z : ℤ) → (if b then z else pos 0) ≡ (if b then pos 1 else pos 0) *ℤ z
      chosen true z = simp ring
      chosen false z = simp ring

  -- a bidder of the group whose values have the place
  place-own : (place : ℕ → ℕ → ℕ) (c u : ℕ) (x : ℕ → List ℕ → ℤ) (i : ℕ) → i < n → place (member i) u ≡ c
      → ((v : ℕ) → place (member i) v ≡ place (member i) u → interim sizes weight i (x i) v ≡ interim sizes weight i (x i) u)
      → own i 0 *ℤ at_place place c x i ≡ sum_to (count (member i)) (λ v. if place (member i) v == c then own i v else pos 0) *ℤ interim sizes weight i (x i) u
  place-own place c u x i b e same =
      let y = interim sizes weight i (x i) u in
      let mass = λ (v : ℕ). if place (member i) v == c then own i v else pos 0 in
      by-values sizes weight own grouped.apart i b (λ v. if place (member i) v == c then pos 1 else pos 0) (x i)
      ∙ sum_to-same (slice_index sizes i) _ (λ v. y *ℤ mass v) (λ v l. one v (cases_eq (place (member i) v) c))
      ∙ sum_to-*ℤ (slice_index sizes i) y mass
      ∙ ap (λ m. y *ℤ sum_to m mass) (grouped.size i b)
      ∙ turned y (sum_to (count (member i)) mass)
    where
      turned : (x y : ℤ) → x *ℤ y ≡ y *ℤ x
      turned x y = simp ring

      yes : (o y z : ℤ) → z ≡ y → o *ℤ (pos 1 *ℤ z) ≡ y *ℤ o
      yes o y z e = ap (λ z. o *ℤ (pos 1 *ℤ z)) e ∙ (let f : o *ℤ (pos 1 *ℤ y) ≡ y *ℤ o = simp ring in f)

      no : (o y z : ℤ) → o *ℤ (pos 0 *ℤ z) ≡ y *ℤ pos 0
      no o y z = simp ring

      one : (v : ℕ) → (place (member i) v ≡ c) ⊎ (place (member i) v ≢ c)
          → own i v *ℤ ((if place (member i) v == c then pos 1 else pos 0) *ℤ interim sizes weight i (x i) v) ≡ interim sizes weight i (x i) u *ℤ (if place (member i) v == c then own i v else pos 0)
      one v (inl f) = rw (eq-eqb (place (member i) v) c f) (yes (own i v) (interim sizes weight i (x i) u) (interim sizes weight i (x i) v) (same v (f ∙ sym e)))
      one v (inr f) = rw (ne_eqb (place (member i) v) c f) (no (own i v) (interim sizes weight i (x i) u) (interim sizes weight i (x i) v))

  -- one of another group
  place-other : (place : ℕ → ℕ → ℕ) (c : ℕ) (x : ℕ → List ℕ → ℤ) (i : ℕ) → ((v : ℕ) → place (member i) v ≢ c) → at_place place c x i ≡ pos 0
  place-other place c x i away =
      total-same sizes _ (λ t. pos 0 *ℤ pos 0) (λ t q. ap (λ (b : Bool). weight t *ℤ ((if b then pos 1 else pos 0) *ℤ x i t)) (ne_eqb (place (member i) (slice_index t i)) c (away (slice_index t i))) ∙ none (weight t) (x i t))
      ∙ total_by-*ℤ (pos 0) (λ t. pos 0) (profiles_of sizes)
      ∙ nothing (total_by (λ t. pos 0) (profiles_of sizes))
    where
      none : (w x : ℤ) → w *ℤ (pos 0 *ℤ x) ≡ pos 0 *ℤ pos 0
      none w x = simp ring

      nothing : (z : ℤ) → pos 0 *ℤ z ≡ pos 0
      nothing z = simp ring

  -- Over all profiles, bidders whose values have the place get together their weight times what the group gets with one of these values.
  pub place-sum : (place : ℕ → ℕ → ℕ) (c k u : ℕ) (x : ℕ → List ℕ → ℤ) → place k u ≡ c → ((i v : ℕ) → i < n → place (member i) v ≡ c → member i ≡ k)
      → ((i v : ℕ) → i < n → place (member i) v ≡ place (member i) u → interim sizes weight i (x i) v ≡ interim sizes weight i (x i) u)
      → weights k 0 *ℤ total_by (λ t. weight t *ℤ sum_to n (λ i. if place (member i) (slice_index t i) == c then x i t else pos 0)) (profiles_of sizes)
      ≡ sum_to (count k) (λ v. if place k v == c then weights k v else pos 0) *ℤ together sizes weight member x k u
  place-sum place c k u x here only same =
      let mass = sum_to (count k) (λ v. if place k v == c then weights k v else pos 0) in
      ap (λ z. weights k 0 *ℤ z) (place-by_bidders place c x)
      ∙ sym (sum_to-*ℤ n (weights k 0) (at_place place c x))
      ∙ sum_to-same n _ (λ i. if member i == k then mass *ℤ interim sizes weight i (x i) u else pos 0) (λ i b. one i b (cases_eq (member i) k))
      ∙ group-times n member k mass (λ i. interim sizes weight i (x i) u)
    where
      one : (i : ℕ) → i < n → (member i ≡ k) ⊎ (member i ≢ k)
          → weights k 0 *ℤ at_place place c x i ≡ (if member i == k then sum_to (count k) (λ v. if place k v == c then weights k v else pos 0) *ℤ interim sizes weight i (x i) u else pos 0)
      one i b (inl e) =
          subst (λ j. weights j 0 *ℤ at_place place c x i ≡ sum_to (count j) (λ v. if place j v == c then weights j v else pos 0) *ℤ interim sizes weight i (x i) u) e
          (place-own place c u x i b (ap (λ j. place j u) e ∙ here) (λ v f. same i v b f))
          ∙ sym (ap (λ (t : Bool). if t then sum_to (count k) (λ v. if place k v == c then weights k v else pos 0) *ℤ interim sizes weight i (x i) u else pos 0) (eq-eqb (member i) k e))
      one i b (inr d) =
          ap (λ z. weights k 0 *ℤ z) (place-other place c x i (λ v e. d (only i v b e)))
          ∙ *ℤ-zero (weights k 0)
          ∙ sym (ap (λ (t : Bool). if t then sum_to (count k) (λ v. if place k v == c then weights k v else pos 0) *ℤ interim sizes weight i (x i) u else pos 0) (ne_eqb (member i) k d))

  -- ---- objectives

  -- If a group gets q and pays p together with each of its values, all bidders contribute this, with the weights of the values.
  pub score-by_groups : (c : ℕ → ℕ → ℤ) (r : ℤ) (x p : ℕ → List ℕ → ℤ) (q paid : ℕ → ℕ → ℤ)
      → ((k v : ℕ) → k < groups → v < count k → weights k 0 *ℤ q k v ≡ together sizes weight member x k v)
      → ((k v : ℕ) → k < groups → v < count k → weights k 0 *ℤ paid k v ≡ together sizes weight member p k v)
      → score sizes weight member c r x p ≡ sum_to groups (λ k. sum_to (count k) (λ v. weights k v *ℤ (c k v *ℤ q k v +ℤ r *ℤ paid k v)))
  score-by_groups c r x p q paid gets pays =
      score-by_bidders sizes weight member c r x p
      ∙ by-groups n groups member (λ i. adds sizes weight i (x i) (p i) (c (member i)) r) (λ i b. grouped.below i b)
      ∙ sum_to-same groups _ _
      (λ k b.
      let first = weights k 0 in
      *ℤ_cancel first _ _ (grouped.positive k b)
      (sym (group-times n member k first (λ i. adds sizes weight i (x i) (p i) (c (member i)) r))
      ∙ group-same n member k (λ i. first *ℤ adds sizes weight i (x i) (p i) (c (member i)) r)
      (λ i. sum_to (count k) (λ v. weights k v *ℤ (c k v *ℤ interim sizes weight i (x i) v +ℤ r *ℤ interim sizes weight i (p i) v)))
      (λ i d e. subst (λ j. weights j 0 *ℤ adds sizes weight i (x i) (p i) (c (member i)) r ≡ sum_to (count j) (λ v. weights j v *ℤ (c j v *ℤ interim sizes weight i (x i) v +ℤ r *ℤ interim sizes weight i (p i) v))) e (one i d))
      ∙ group-sum n member k (count k) (λ i v. weights k v *ℤ (c k v *ℤ interim sizes weight i (x i) v +ℤ r *ℤ interim sizes weight i (p i) v))
      ∙ sum_to-same (count k) _ (λ v. first *ℤ (weights k v *ℤ (c k v *ℤ q k v +ℤ r *ℤ paid k v)))
      (λ v d.
      group-both n member k (weights k v) (c k v) r (λ i. interim sizes weight i (x i) v) (λ i. interim sizes weight i (p i) v)
      ∙ ap₂ (λ y z. weights k v *ℤ (c k v *ℤ y +ℤ r *ℤ z)) (sym (gets k v b d)) (sym (pays k v b d))
      ∙ parts first (weights k v) (c k v) r (q k v) (paid k v))
      ∙ sum_to-*ℤ (count k) first (λ v. weights k v *ℤ (c k v *ℤ q k v +ℤ r *ℤ paid k v))))
    where
      one : (i : ℕ) → i < n
          → own i 0 *ℤ adds sizes weight i (x i) (p i) (c (member i)) r ≡ sum_to (count (member i)) (λ v. own i v *ℤ (c (member i) v *ℤ interim sizes weight i (x i) v +ℤ r *ℤ interim sizes weight i (p i) v))
      one i b =
          adds-interim sizes weight own grouped.apart i b (λ v. pos 0) (x i) (p i) (c (member i)) r
          ∙ ap (λ m. sum_to m (λ v. own i v *ℤ (c (member i) v *ℤ interim sizes weight i (x i) v +ℤ r *ℤ interim sizes weight i (p i) v))) (grouped.size i b)

      parts : (f w c r q p : ℤ) → w *ℤ (c *ℤ (f *ℤ q) +ℤ r *ℤ (f *ℤ p)) ≡ f *ℤ (w *ℤ (c *ℤ q +ℤ r *ℤ p))
      parts f w c r q p = simp ring (omega (arith, linear))

  -- ---- one value

  -- over the profiles in which a bidder of the group has one value
  pub value-sum : (k v : ℕ) (x : ℕ → List ℕ → ℤ) (q : ℤ) → k < groups → v < count k → weights k 0 *ℤ q ≡ together sizes weight member x k v
      → of_group n member k (λ i. given sizes weight i v (x i)) ≡ weights k v *ℤ q
  value-sum k v x q b l gets =
      *ℤ_cancel (weights k 0) _ _ (grouped.positive k b)
      (sym (group-times n member k (weights k 0) (λ i. given sizes weight i v (x i)))
      ∙ group-same n member k _ (λ i. weights k v *ℤ interim sizes weight i (x i) v)
      (λ i d e. subst (λ j. weights j 0 *ℤ given sizes weight i v (x i) ≡ weights j v *ℤ interim sizes weight i (x i) v) e (given-own sizes weight own grouped.apart i d (x i) v (inside i d e)))
      ∙ group-times n member k (weights k v) (λ i. interim sizes weight i (x i) v)
      ∙ ap (λ z. weights k v *ℤ z) (sym gets)
      ∙ *ℤ_left_comm (weights k v) (weights k 0) q)
    where
      inside : (i : ℕ) → i < n → member i ≡ k → v < slice_index sizes i
      inside i d e = subst (λ m. v < m) (sym (grouped.size i d ∙ ap count e)) l
