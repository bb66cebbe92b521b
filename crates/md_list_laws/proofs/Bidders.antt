-- One bidder's contribution to an objective over all profiles, bounded by the levels of its values.
use Rattle.std.proofs.Common.{◌≡◌, ℕ, suc, ◌<◌, ℤ, pos, ◌+ℤ◌, ◌-ℤ◌, ◌*ℤ◌, ◌≤ℤ◌, ◌<ℤ◌, ◌==◌, Bool, true, false, if◌then◌else◌, List, length, get_or, inl, inr, refl, sym, ap, ap₂, ◌∙◌, subst, arith}
use Rattle.std.specs.Prelude.{slice_index}
use Rattle.md_math.specs.Sums.{sum_to, total_by}
use Rattle.md_math.proofs.Order.{*ℤ-le, le_from_*ℤ, le_from_lt, nonneg_from_*ℤ, *ℤ_cancel}
use Rattle.md_math.proofs.Ring.{linear, ring, *ℤ-zero, zero-*ℤ, *ℤ-+ℤ, *ℤ_left_comm}
use Rattle.md_math.proofs.SumLaws.{sum_to-same, sum_to-+ℤ}
use Rattle.md_math.proofs.TotalLaws.{total_by-+ℤ, total_by-zero}
use Rattle.md_space.specs.AllProfiles.{profiles_of}
use Rattle.md_space.specs.ByType.{where_type}
use Rattle.md_space.specs.Profiles.{IsProfile, replaced}
use Rattle.md_space.proofs.Ranks.{replaced-IsProfile}
use Rattle.md_space.proofs.TypeSums.{total-same, total_given-same}
use Rattle.md_list.specs.Gains.{between}
use Rattle.md_list.specs.Ranks.{Rank, place_of}
use Rattle.md_list.specs.Rule.{step_of, pay_by}
use Rattle.md_list_laws.proofs.Interim.{AreApart, given, interim, given-told, given-own, by-values, interim-nonneg, given-less, interim-pays}
use Rattle.md_list_laws.proofs.Levels.{TellsTruth, gain_by, excess_from, levels-bound, levels-reached}
use Rattle.md_list_laws.proofs.Tails.{IsTail, listed_excess}

-- the amount and the payment of an honest bidder at each profile: on average truth is best, and it loses nothing by taking part
pub record IsHonest (sizes : List ℕ) (weight : List ℕ → ℤ) (i : ℕ) (value : ℕ → ℤ) (x p : List ℕ → ℤ) : Type 0 where
  pub nonneg : (t : List ℕ) → IsProfile sizes t → pos 0 ≤ℤ x t
  pub takes_part : (v : ℕ) → v < slice_index sizes i → pos 0 ≤ℤ given sizes weight i v (λ t. value v *ℤ x t -ℤ p t)
  pub truthful : (v u : ℕ) → v < slice_index sizes i → u < slice_index sizes i
      → given sizes weight i v (λ t. value v *ℤ x (replaced t i u) -ℤ p (replaced t i u)) ≤ℤ given sizes weight i v (λ t. value v *ℤ x t -ℤ p t)

-- the amount and the payment of a bidder under a list: the same amount with each value of a record, none with an unlisted value,
-- and for each unit the least value with which it would still get it
pub record IsListed (sizes : List ℕ) (i : ℕ) (value : ℕ → ℤ) (places : ℕ) (place : ℕ → ℕ) (x p : List ℕ → ℤ) : Type 0 where
  pub same : (t : List ℕ) (v u : ℕ) → IsProfile sizes t → place v ≡ place u → x (replaced t i v) ≡ x (replaced t i u)
  pub none : (t : List ℕ) (v : ℕ) → IsProfile sizes t → place v ≡ places → x (replaced t i v) ≡ pos 0
  pub pays : (t : List ℕ) (v : ℕ) → IsProfile sizes t → v < slice_index sizes i → p (replaced t i v) ≡ pay_by value (λ u. x (replaced t i u)) v

pub interim-same : (sizes : List ℕ) (weight : List ℕ → ℤ) (i : ℕ) (x : List ℕ → ℤ) (v u : ℕ) → ((t : List ℕ) → IsProfile sizes t → x (replaced t i v) ≡ x (replaced t i u)) → interim sizes weight i x v ≡ interim sizes weight i x u
interim-same sizes weight i x v u h = total_given-same sizes i 0 (λ t. weight t *ℤ x (replaced t i v)) (λ t. weight t *ℤ x (replaced t i u)) (λ t p e. ap (λ z. weight t *ℤ z) (h t p))

pub interim-none : (sizes : List ℕ) (weight : List ℕ → ℤ) (i : ℕ) (x : List ℕ → ℤ) (v : ℕ) → ((t : List ℕ) → IsProfile sizes t → x (replaced t i v) ≡ pos 0) → interim sizes weight i x v ≡ pos 0
interim-none sizes weight i x v h =
    total_given-same sizes i 0 (λ t. weight t *ℤ x (replaced t i v)) (λ t. pos 0) (λ t p e. ap (λ z. weight t *ℤ z) (h t p) ∙ *ℤ-zero (weight t))
    ∙ total_by-zero (where_type i 0 (λ t. pos 0)) (profiles_of sizes) (λ k d l. either (slice_index (get_or (profiles_of sizes) k d) i == 0))
  where
    either : (b : Bool) → (if b then pos 0 else pos 0) ≡ pos 0
    either true = refl
    either false = refl

-- a bidder's contribution over all profiles, where it gets x and pays p: the designer has c of each unit, and payments count r
-- times
abbrev pub adds : List ℕ → (List ℕ → ℤ) → ℕ → (List ℕ → ℤ) → (List ℕ → ℤ) → (ℕ → ℤ) → ℤ → ℤ
adds sizes weight i x p c r = total_by (λ t. weight t *ℤ (c (slice_index t i) *ℤ x t +ℤ r *ℤ p t)) (profiles_of sizes)

-- what it gets over all profiles, weighted by the levels of its values
abbrev pub by_level : List ℕ → (List ℕ → ℤ) → ℕ → (List ℕ → ℤ) → (ℕ → ℤ) → ℤ
by_level sizes weight i x level = total_by (λ t. weight t *ℤ (level (slice_index t i) *ℤ x t)) (profiles_of sizes)

module _ (sizes : List ℕ) (weight : List ℕ → ℤ) (own : ℕ → ℕ → ℤ) (apart : AreApart sizes weight own) (i : ℕ) (inside : i < length sizes) (value : ℕ → ℤ) (x p : List ℕ → ℤ) where
  abbrev gets : ℕ → ℤ
  gets = interim sizes weight i x

  abbrev paid : ℕ → ℤ
  paid = interim sizes weight i p

  parts : (o v x y : ℤ) → o *ℤ (v *ℤ x -ℤ y) ≡ v *ℤ (o *ℤ x) -ℤ o *ℤ y
  parts o v x y = simp ring (omega (arith, linear))

  -- the bidder's utility when it reports another value, and when it reports its own
  net-told : (v u : ℕ) → v < slice_index sizes i → own i 0 *ℤ given sizes weight i v (λ t. value v *ℤ x (replaced t i u) -ℤ p (replaced t i u)) ≡ own i v *ℤ (value v *ℤ gets u -ℤ paid u)
  net-told v u b =
      ap (λ z. own i 0 *ℤ z) (given-less sizes weight i v (value v) (λ t. x (replaced t i u)) (λ t. p (replaced t i u)))
      ∙ parts (own i 0) (value v) (given sizes weight i v (λ t. x (replaced t i u))) (given sizes weight i v (λ t. p (replaced t i u)))
      ∙ ap₂ (λ y z. value v *ℤ y -ℤ z) (given-told sizes weight own apart i inside x v u b) (given-told sizes weight own apart i inside p v u b)
      ∙ sym (parts (own i v) (value v) (gets u) (paid u))

  net-own : (v : ℕ) → v < slice_index sizes i → own i 0 *ℤ given sizes weight i v (λ t. value v *ℤ x t -ℤ p t) ≡ own i v *ℤ (value v *ℤ gets v -ℤ paid v)
  net-own v b =
      ap (λ z. own i 0 *ℤ z) (given-less sizes weight i v (value v) x p)
      ∙ parts (own i 0) (value v) (given sizes weight i v x) (given sizes weight i v p)
      ∙ ap₂ (λ y z. value v *ℤ y -ℤ z) (given-own sizes weight own apart i inside x v b) (given-own sizes weight own apart i inside p v b)
      ∙ sym (parts (own i v) (value v) (gets v) (paid v))

  first-positive : pos 0 <ℤ own i 0
  first-positive = apart.positive i 0 inside (apart.some i inside)

  honest-tells : IsHonest sizes weight i value x p → TellsTruth (slice_index sizes i) value gets paid
  honest-tells honest = record {
    none = interim-nonneg sizes weight own apart i inside x 0 (λ t q e. honest.nonneg (replaced t i 0) (replaced-IsProfile sizes t i 0 q (apart.some i inside)));
    takes_part = nonneg_from_*ℤ (own i 0) _ first-positive
        (subst (λ z. pos 0 ≤ℤ z) (net-own 0 (apart.some i inside)) (scaled (given sizes weight i 0 (λ t. value 0 *ℤ x t -ℤ p t)) (honest.takes_part 0 (apart.some i inside))));
    truthful = λ v u b c. le_from_*ℤ (own i v) _ _ (apart.positive i v inside b)
        (subst (λ z. z ≤ℤ (own i v *ℤ (value v *ℤ gets v -ℤ paid v))) (net-told v u b)
        (subst (λ z. (own i 0 *ℤ given sizes weight i v (λ t. value v *ℤ x (replaced t i u) -ℤ p (replaced t i u))) ≤ℤ z) (net-own v b)
        (*ℤ-le (own i 0) _ _ (le_from_lt (pos 0) (own i 0) first-positive) (honest.truthful v u b c))));
  }
    where
      scaled : (z : ℤ) → pos 0 ≤ℤ z → pos 0 ≤ℤ (own i 0 *ℤ z)
      scaled z h = (let e : own i 0 *ℤ pos 0 ≡ pos 0 = *ℤ-zero (own i 0) in let l = *ℤ-le (own i 0) (pos 0) z (le_from_lt (pos 0) (own i 0) first-positive) h in omega (arith, linear, l, e))

  pub adds-interim : (c : ℕ → ℤ) (r : ℤ) → own i 0 *ℤ adds sizes weight i x p c r ≡ sum_to (slice_index sizes i) (λ v. own i v *ℤ (c v *ℤ gets v +ℤ r *ℤ paid v))
  adds-interim c r =
      ap (λ z. own i 0 *ℤ z)
      (total-same sizes _ (λ t. weight t *ℤ (c (slice_index t i) *ℤ x t) +ℤ weight t *ℤ (r *ℤ p t)) (λ t q. *ℤ-+ℤ (weight t) (c (slice_index t i) *ℤ x t) (r *ℤ p t))
      ∙ total_by-+ℤ (λ t. weight t *ℤ (c (slice_index t i) *ℤ x t)) (λ t. weight t *ℤ (r *ℤ p t)) (profiles_of sizes))
      ∙ *ℤ-+ℤ (own i 0) (total_by (λ t. weight t *ℤ (c (slice_index t i) *ℤ x t)) (profiles_of sizes)) (total_by (λ t. weight t *ℤ (r *ℤ p t)) (profiles_of sizes))
      ∙ ap₂ (λ y z. y +ℤ z) (by-values sizes weight own apart i inside c x) (by-values sizes weight own apart i inside (λ v. r) p)
      ∙ sym (sum_to-+ℤ (slice_index sizes i) (λ v. own i v *ℤ (c v *ℤ gets v)) (λ v. own i v *ℤ (r *ℤ paid v)))
      ∙ sum_to-same (slice_index sizes i) _ _ (λ v b. sym (*ℤ-+ℤ (own i v) (c v *ℤ gets v) (r *ℤ paid v)))

  level-interim : (level : ℕ → ℤ) → own i 0 *ℤ by_level sizes weight i x level ≡ sum_to (slice_index sizes i) (λ v. (level v *ℤ own i v) *ℤ gets v)
  level-interim level = by-values sizes weight own apart i inside level x ∙ sum_to-same (slice_index sizes i) _ _ (λ v b. turned (own i v) (level v) (gets v))
    where
      turned : (o l q : ℤ) → o *ℤ (l *ℤ q) ≡ (l *ℤ o) *ℤ q
      turned o l q = simp ring

  -- an honest bidder contributes at most its levels
  pub bidder-bound : (from c level : ℕ → ℤ) (r den : ℤ) → from (slice_index sizes i) ≡ pos 0 → ((v : ℕ) → own i v ≡ from v -ℤ from (suc v)) → pos 0 ≤ℤ r → pos 0 ≤ℤ den
      → ((v : ℕ) → suc v < slice_index sizes i → value v <ℤ value (suc v)) → IsHonest sizes weight i value x p
      → ((v : ℕ) → v < slice_index sizes i → pos 0 ≤ℤ excess_from (own i) (gain_by value (own i) from c r) level den (slice_index sizes i) v)
      → (den *ℤ adds sizes weight i x p c r) ≤ℤ by_level sizes weight i x level
  bidder-bound from c level r den ends weights r_nonneg den_nonneg up honest above =
      le_from_*ℤ (own i 0) (den *ℤ adds sizes weight i x p c r) (by_level sizes weight i x level) first-positive
      (subst (λ z. z ≤ℤ (own i 0 *ℤ by_level sizes weight i x level)) (ap (λ z. den *ℤ z) (sym (adds-interim c r)) ∙ sym (*ℤ_left_comm (own i 0) den (adds sizes weight i x p c r)))
      (subst (λ z. (den *ℤ sum_to (slice_index sizes i) (λ v. own i v *ℤ (c v *ℤ gets v +ℤ r *ℤ paid v))) ≤ℤ z) (sym (level-interim level))
      (levels-bound (slice_index sizes i) value (own i) from c level gets r den ends weights paid r_nonneg den_nonneg (λ v b. le_from_lt (pos 0) (own i v) (apart.positive i v inside b)) up (honest-tells honest) above)))

  -- a bidder under a list contributes exactly its levels
  pub bidder-reached : (from c : ℕ → ℤ) (r den : ℤ) (level : ℕ → ℤ) (ranks : List Rank) (k : ℕ) → from (slice_index sizes i) ≡ pos 0
      → ((v : ℕ) → own i v ≡ from v -ℤ from (suc v)) → IsListed sizes i value (length ranks) (place_of ranks k) x p
      → ((v : ℕ) → v < slice_index sizes i → excess_from (own i) (gain_by value (own i) from c r) (λ v. level (place_of ranks k v)) den (slice_index sizes i) v *ℤ step_of gets v ≡ pos 0)
      → den *ℤ adds sizes weight i x p c r ≡ by_level sizes weight i x (λ v. level (place_of ranks k v))
  bidder-reached from c r den level ranks k ends weights listed none =
      *ℤ_cancel (own i 0) (den *ℤ adds sizes weight i x p c r) (by_level sizes weight i x (λ v. level (place_of ranks k v))) first-positive
      (*ℤ_left_comm (own i 0) den (adds sizes weight i x p c r)
      ∙ ap (λ z. den *ℤ z) (adds-interim c r)
      ∙ levels-reached (slice_index sizes i) value (own i) from c (λ v. level (place_of ranks k v)) gets r den ends weights paid (λ v b. interim-pays sizes weight i value x p v (λ t q e. listed.pays t v q b)) none
      ∙ sym (level-interim (λ v. level (place_of ranks k v))))

  -- under a list, what the bidder gets on average rises only at values from which nothing is in excess
  pub no-excess : (weights_of gains : ℕ → ℕ → ℤ) (level : ℕ → ℤ) (den : ℤ) (ranks : List Rank) (k stop v : ℕ) → IsListed sizes i value (length ranks) (place_of ranks k) x p
      → IsTail weights_of gains level den ranks k stop v → between (listed_excess weights_of gains level den ranks k) v stop *ℤ step_of gets v ≡ pos 0
  no-excess weights_of gains level den ranks k stop v listed tail =
      let e = between (listed_excess weights_of gains level den ranks k) v stop in
      elim tail.begins [
        | inl z ↦ ap (λ y. y *ℤ step_of gets v) z ∙ zero-*ℤ (step_of gets v)
        | inr (inl (y, is, same)) ↦
            ap (λ z. e *ℤ z)
            (ap (step_of gets) is
            ∙ nothing (gets (suc y)) (gets y) (interim-same sizes weight i x (suc y) y (λ t q. listed.same t (suc y) y q (ap (place_of ranks k) (sym is) ∙ same))))
            ∙ *ℤ-zero e
        | inr (inr (is, last)) ↦
            ap (λ z. e *ℤ z) (ap (step_of gets) is ∙ interim-none sizes weight i x 0 (λ t q. listed.none t 0 q last)) ∙ *ℤ-zero e
      ]
    where
      nothing : (a b : ℤ) → a ≡ b → a -ℤ b ≡ pos 0
      nothing a b e = omega (arith, linear, e)
