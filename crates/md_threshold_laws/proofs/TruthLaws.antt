-- In the threshold rule it is best to tell the true value, whatever the others tell; no loser pays, and no winner more than its value.
use Rattle.std.proofs.Common.{◌≡◌, ℕ, zero, suc, ◌<◌, ◌≤◌, ℤ, pos, ◌-ℤ◌, ◌*ℤ◌, ◌≤ℤ◌, ◌<ℤ◌, if◌then◌else◌, List, get_or, sym, ap, ap₂, ◌∙◌, subst, arith, inl, inr}
use Rattle.std.specs.Prelude.{slice_index}
use Rattle.std.proofs.lemmas.Bool.{cases_lt}
use Rattle.std.proofs.lemmas.Int.{ints}
use Rattle.std.proofs.lemmas.List.{set-set, set-get_or, get_or-set_same}
use Rattle.md_math.specs.Lists.{number_at}
use Rattle.md_math.proofs.Order.{*ℤ-le, le_from_*ℤ, nonneg-*ℤ, nonneg_from_*ℤ, positive_pos, le_from_lt}
use Rattle.md_math.proofs.Ring.{linear, ring, *ℤ-zero}
use Rattle.md_math.proofs.SumLaws.{sum_to-same, sum_to-*ℤ}
use Rattle.md_space.specs.Profiles.{IsProfile, replaced}
use Rattle.md_space.proofs.Ranks.{replaced-IsProfile}
use Rattle.md_setting.specs.Meaning.{outcome_count, sizes_of, utility_of, outside_of}
use Rattle.md_setting.specs.Auction.{SymmetricAuction, value_count}
use Rattle.md_setting.specs.AuctionShaped.{IsAuction}
use Rattle.md_setting.specs.General.{general_of}
use Rattle.md_mech.specs.declared.mechanism.Mechanism.{Mechanism}
use Rattle.md_mech.specs.Mechanism.{chance_of}
use Rattle.md_mech.specs.Rationality.{IsExPostRational}
use Rattle.md_mech.specs.Truth.{IsDominantTruth}
use Rattle.md_mech.specs.Utility.{expected_utility}
use Rattle.md_border.proofs.ByValues.{kinds-general}
use Rattle.md_border.proofs.MechanismWorth.{chosen-turned}
use Rattle.md_winners.specs.Sets.{holds, set_at}
use Rattle.md_winners.specs.Setting.{units_of}
use Rattle.md_winners.specs.Odds.{win_in, paid_in}
use Rattle.md_winners.proofs.SettingLaws.{agent_count-units, outcome_count-units, sizes_of-units, utility_of-units, outside_of-units}
use Rattle.md_iron_values.specs.Pools.{Pools}
use Rattle.md_iron_values.specs.VirtualValues.{weight_to, virtual_to, IsPooledAuction}
use Rattle.md_iron_values.specs.Odds.{step_of, pay_by}
use Rattle.md_iron_values.proofs.AuctionLaws.{values-ascend}
use Rattle.md_iron_values.proofs.PayLaws.{pay-between, pay-bounds}
use Rattle.md_threshold_laws.specs.Rule.{draw_count, chance, chance_with, payment, IsPrice}
use Rattle.md_threshold_laws.specs.Mechanisms.{threshold_mechanism}
use Rattle.md_threshold_laws.proofs.ChanceLaws.{chance-rises}
use Rattle.md_threshold_laws.proofs.MechanismLaws.{IsReport, is-report, general-profile, wins-are, pays-are}

-- ---- what a bidder has in a mechanism of the units

-- its value as often as it wins, less what it pays
pub units-utility : (a : SymmetricAuction) (units : ℕ) (m : Mechanism) (i : ℕ) (t r : List ℕ) → i < a.bidders → slice_index t i < value_count a
    → expected_utility (units_of a units) m i t r ≡ number_at a.values (slice_index t i) *ℤ win_in a units m i r -ℤ paid_in a units m i r
units-utility a units m i t r b l =
    let s = units_of a units in
    let value = number_at a.values (slice_index t i) in
    let chances = chance_of s m r in
    ap (λ z. z -ℤ paid_in a units m i r)
    (sum_to-same (outcome_count s) (λ o. chances o *ℤ utility_of s i t o) (λ o. value *ℤ (if holds (set_at a.bidders units o) i then chances o else pos 0))
    (λ o c. ap (λ z. chances o *ℤ z) (utility_of-units a units i t o b l (subst (λ n. o < n) (outcome_count-units a units) c)) ∙ chosen-turned (holds (set_at a.bidders units o) i) (chances o) value)
    ∙ sum_to-*ℤ (outcome_count s) value (λ o. if holds (set_at a.bidders units o) i then chances o else pos 0))

-- ---- payments by other functions of values

pub pay-same : (values q r : ℕ → ℤ) (v : ℕ) → ((j : ℕ) → j ≤ v → q j ≡ r j) → pay_by values q v ≡ pay_by values r v
pay-same values q r v h = sum_to-same (suc v) _ _ (λ j b. ap (λ z. values j *ℤ z) (step j (omega (arith, b))))
  where
    step : (j : ℕ) → j ≤ v → step_of q j ≡ step_of r j
    step zero b = h 0 b
    step (suc j) b = ap₂ (λ x y. x -ℤ y) (h (suc j) b) (h j (omega (arith, b)))

-- ---- one bidder

module _ (a : SymmetricAuction) (units : ℕ) (pools : Pools) (shaped : IsAuction a) (p : IsPooledAuction a pools) (t : List ℕ) (is : IsReport a t) (i : ℕ) (b : i < a.bidders) where
  -- at how many draws it would win with each value, and what it would pay
  abbrev pub odds_with : ℕ → ℤ
  odds_with v = pos (chance_with units pools t i v)

  abbrev pub pay_with : ℕ → ℤ
  pay_with v = pay_by (number_at a.values) odds_with v

  own-below : slice_index t i < value_count a
  own-below = is.below i (omega (arith, is.long, b))

  rises : (v : ℕ) → suc v < value_count a → odds_with v ≤ℤ odds_with (suc v)
  rises v h =
      let more = chance-rises (value_count a) (weight_to a) (virtual_to a) pools p units t i v (omega (arith, is.long, shaped.few_bidders)) (omega (arith, is.long, b)) h in
      above (chance_with units pools t i v) (chance_with units pools t i (suc v)) more
    where
      above : (m n : ℕ) → m ≤ n → pos m ≤ℤ pos n
      above m n l = omega (arith, ints, l)

  -- its chance and its payment are those with its own value
  pub own-odds : pos (chance units pools t (slice_index t i)) ≡ odds_with (slice_index t i)
  own-odds = ap (λ u. pos (chance units pools u (slice_index t i))) (sym (set-get_or t i 0))

  -- it pays at least nothing, and at most its value as often as it wins
  pub payment-bounds : (pos 0 ≤ℤ payment a units pools i t) × (payment a units pools i t ≤ℤ (number_at a.values (slice_index t i) *ℤ pos (chance units pools t (slice_index t i))))
  payment-bounds =
      let bounds = pay-bounds (value_count a) (number_at a.values) odds_with (values-ascend a shaped) rises (shaped.value 0 shaped.some_value).0 (nonneg (chance_with units pools t i 0)) (slice_index t i) own-below in
      (bounds.0, subst (λ z. payment a units pools i t ≤ℤ (number_at a.values (slice_index t i) *ℤ z)) (sym own-odds) bounds.1)
    where
      nonneg : (m : ℕ) → pos 0 ≤ℤ pos m
      nonneg m = omega (arith, ints)

  -- where it never wins it pays nothing
  pub loser-pays : chance units pools t (slice_index t i) ≡ 0 → payment a units pools i t ≡ pos 0
  loser-pays none =
      let bounds = payment-bounds in
      nothing (payment a units pools i t) (number_at a.values (slice_index t i)) (chance units pools t (slice_index t i)) bounds.0 bounds.1 none
    where
      nothing : (z v : ℤ) (n : ℕ) → pos 0 ≤ℤ z → z ≤ℤ (v *ℤ pos n) → n ≡ 0 → z ≡ pos 0
      nothing z v n l h e = (let k : z ≤ℤ (v *ℤ pos 0) = subst (λ m. z ≤ℤ (v *ℤ pos m)) e h in omega (arith, linear, l, k, *ℤ-zero v))

  -- and where it wins the price is at most its value
  pub price-most : (num den : ℤ) → pos 0 <ℤ den → 0 < chance units pools t (slice_index t i) → IsPrice a units pools i t num den → (pos 0 ≤ℤ num) × (num ≤ℤ (number_at a.values (slice_index t i) *ℤ den))
  price-most num den above some is_price =
      let bounds = payment-bounds in
      let often : pos 0 <ℤ pos (chance units pools t (slice_index t i)) = positive_pos (chance units pools t (slice_index t i)) some in
      let none : pos 0 ≤ℤ (payment a units pools i t *ℤ den) = nonneg-*ℤ (payment a units pools i t) den bounds.0 (le_from_lt (pos 0) den above) in
      let most : (den *ℤ payment a units pools i t) ≤ℤ (den *ℤ (number_at a.values (slice_index t i) *ℤ pos (chance units pools t (slice_index t i)))) = *ℤ-le den _ _ (le_from_lt (pos 0) den above) bounds.1 in (
        nonneg_from_*ℤ (pos (chance units pools t (slice_index t i))) num often (subst (λ z. pos 0 ≤ℤ z) (sym is_price) none),
        le_from_*ℤ (pos (chance units pools t (slice_index t i))) num (number_at a.values (slice_index t i) *ℤ den) often
            (subst (λ z. z ≤ℤ (pos (chance units pools t (slice_index t i)) *ℤ (number_at a.values (slice_index t i) *ℤ den))) (sym is_price)
            (within (payment a units pools i t) den (number_at a.values (slice_index t i)) (pos (chance units pools t (slice_index t i))) most)),
      )
    where
      within : (z d v c : ℤ) → (d *ℤ z) ≤ℤ (d *ℤ (v *ℤ c)) → (z *ℤ d) ≤ℤ (c *ℤ (v *ℤ d))
      within z d v c h = (let left : d *ℤ z ≡ z *ℤ d = simp ring in let right : d *ℤ (v *ℤ c) ≡ c *ℤ (v *ℤ d) = simp ring in omega (arith, linear, h, left, right))

  -- ---- another value in the place of its own

  replaced-odds : (w v : ℕ) → pos (chance_with units pools (replaced t i w) i v) ≡ odds_with v
  replaced-odds w v = ap (λ u. pos (chance units pools u v)) (set-set t i w v)

  own-place : (w : ℕ) → slice_index (replaced t i w) i ≡ w
  own-place w = get_or-set_same t i w 0 (omega (arith, is.long, b))

  pub replaced-chance : (w : ℕ) → pos (chance units pools (replaced t i w) (slice_index (replaced t i w) i)) ≡ odds_with w
  replaced-chance w = ap (λ u. pos (chance units pools (replaced t i w) u)) (own-place w)

  pub replaced-pays : (w : ℕ) → payment a units pools i (replaced t i w) ≡ pay_with w
  replaced-pays w =
      ap (pay_by (number_at a.values) (λ v. pos (chance_with units pools (replaced t i w) i v))) (own-place w)
      ∙ pay-same (number_at a.values) _ odds_with w (λ v l. replaced-odds w v)

  -- no other value is better
  pub best : (v w : ℕ) → v < value_count a → w < value_count a → (number_at a.values v *ℤ odds_with w -ℤ pay_with w) ≤ℤ (number_at a.values v *ℤ odds_with v -ℤ pay_with v)
  best v w h l =
      let between = pay-between (value_count a) (number_at a.values) odds_with (values-ascend a shaped) rises in
      elim (cases_lt v w) [
        | inl m ↦ up (number_at a.values v) (odds_with v) (odds_with w) (pay_with v) (pay_with w) (between v w (omega (arith, m)) l).lower
        | inr m ↦ down (number_at a.values v) (odds_with v) (odds_with w) (pay_with v) (pay_with w) (between w v m h).upper
      ]
    where
      up : (v x0 x1 p0 p1 : ℤ) → (v *ℤ (x1 -ℤ x0)) ≤ℤ (p1 -ℤ p0) → (v *ℤ x1 -ℤ p1) ≤ℤ (v *ℤ x0 -ℤ p0)
      up v x0 x1 p0 p1 h = (let k = simp ring at h in omega (arith, linear, k))

      down : (v x0 x1 p0 p1 : ℤ) → (p0 -ℤ p1) ≤ℤ (v *ℤ (x0 -ℤ x1)) → (v *ℤ x1 -ℤ p1) ≤ℤ (v *ℤ x0 -ℤ p0)
      down v x0 x1 p0 p1 h = (let k = simp ring at h in omega (arith, linear, k))

-- ---- the mechanism

module _ (a : SymmetricAuction) (units : ℕ) (pools : Pools) (shaped : IsAuction a) (p : IsPooledAuction a pools) where
  -- what a bidder has where it tells a value
  has-with : (t : List ℕ) (i w : ℕ) → IsProfile (sizes_of (general_of a)) t → i < a.bidders → w < value_count a
      → expected_utility (units_of a units) (threshold_mechanism a units pools) i t (replaced t i w)
      ≡ number_at a.values (slice_index t i) *ℤ pos (chance_with units pools t i w) -ℤ pay_by (number_at a.values) (λ v. pos (chance_with units pools t i v)) w
  has-with t i w h b l =
      let is = is-report a t h in
      let there : IsProfile (sizes_of (general_of a)) (replaced t i w) = replaced-IsProfile _ t i w h (subst (λ k. w < k) (sym (kinds-general a i b)) l) in
      units-utility a units (threshold_mechanism a units pools) i t (replaced t i w) b (is.below i (omega (arith, is.long, b)))
      ∙ ap₂ (λ x y. number_at a.values (slice_index t i) *ℤ x -ℤ y)
      (wins-are a units pools shaped p i (replaced t i w) b there ∙ replaced-chance a units pools shaped p t is i b w)
      (pays-are a units pools shaped p i (replaced t i w) b there ∙ replaced-pays a units pools shaped p t is i b w)

  pub has-own : (t : List ℕ) (i : ℕ) → IsProfile (sizes_of (general_of a)) t → i < a.bidders
      → expected_utility (units_of a units) (threshold_mechanism a units pools) i t t
      ≡ number_at a.values (slice_index t i) *ℤ pos (chance_with units pools t i (slice_index t i)) -ℤ pay_by (number_at a.values) (λ v. pos (chance_with units pools t i v)) (slice_index t i)
  has-own t i h b =
      let is = is-report a t h in
      ap (expected_utility (units_of a units) (threshold_mechanism a units pools) i t) (sym (set-get_or t i 0))
      ∙ has-with t i (slice_index t i) h b (is.below i (omega (arith, is.long, b)))

  pub dominant-truth : IsDominantTruth (units_of a units) (threshold_mechanism a units pools)
  dominant-truth i t w h q l =
      let b : i < a.bidders = subst (λ n. i < n) (agent_count-units a units) h in
      let g : IsProfile (sizes_of (general_of a)) t = general-profile a units t q in
      let is = is-report a t g in
      let c : w < value_count a = subst (λ k. w < k) (ap (λ sizes. get_or sizes i 0) (sizes_of-units a units) ∙ kinds-general a i b) l in
      subst (λ z. z ≤ℤ expected_utility (units_of a units) (threshold_mechanism a units pools) i t t) (sym (has-with t i w g b c))
      (subst (λ z. (number_at a.values (slice_index t i) *ℤ pos (chance_with units pools t i w) -ℤ pay_by (number_at a.values) (λ v. pos (chance_with units pools t i v)) w) ≤ℤ z) (sym (has-own t i g b))
      (best a units pools shaped p t is i b (slice_index t i) w (is.below i (omega (arith, is.long, b))) c))

  pub ex-post : IsExPostRational (units_of a units) (threshold_mechanism a units pools)
  ex-post i t h q =
      let b : i < a.bidders = subst (λ n. i < n) (agent_count-units a units) h in
      let g : IsProfile (sizes_of (general_of a)) t = general-profile a units t q in
      let is = is-report a t g in
      let bounds = payment-bounds a units pools shaped p t is i b in
      let own = own-odds a units pools shaped p t is i b in
      let outside : pos draw_count *ℤ outside_of (units_of a units) i (slice_index t i) ≡ pos 0 = ap (λ z. pos draw_count *ℤ z) (outside_of-units a units i (slice_index t i) b) ∙ *ℤ-zero (pos draw_count) in
      enough _ _ (number_at a.values (slice_index t i)) (pos (chance units pools t (slice_index t i))) _ (payment a units pools i t) outside (has-own t i g b) own bounds.1
    where
      enough : (z u v x y w : ℤ) → z ≡ pos 0 → u ≡ v *ℤ y -ℤ w → x ≡ y → w ≤ℤ (v *ℤ x) → z ≤ℤ u
      enough z u v x y w e f g l = (let k : v *ℤ x ≡ v *ℤ y = ap (λ s. v *ℤ s) g in omega (arith, linear, e, f, k, l))
