-- Each bidder with a value wins and pays on average over the values of the others what the averages over the bidders say.
use Rattle.std.proofs.Common.{◌≡◌, ℕ, zero, suc, ◌-◌, ◌^◌, ◌<◌, ℤ, pos, ◌-ℤ◌, ◌*ℤ◌, Bool, true, false, ◌==◌, if◌then◌else◌, List, refl, sym, ap, ap₂, ◌∙◌, subst, arith, eq-eqb, ne_eqb}
use Rattle.std.specs.Prelude.{slice_index}
use Rattle.std.proofs.Math.IntN.{pos-*ℤ-pos}
use Rattle.std.proofs.Math.ListN.{replicate}
use Rattle.md_math.specs.Lists.{number_at, list_to}
use Rattle.md_math.specs.Sums.{total_by}
use Rattle.md_math.proofs.Builders.{get_or-list_to}
use Rattle.md_math.proofs.Ring.{linear, ring, *ℤ-zero}
use Rattle.md_math.proofs.SumLaws.{sum_to-same, sum_to-zero, sum_to-single, sum_to-constant, sum_to-*ℤ}
use Rattle.md_math.proofs.TotalLaws.{total_by-zero}
use Rattle.md_space.specs.AllProfiles.{profiles_of}
use Rattle.md_space.specs.ByType.{where_type}
use Rattle.md_space.specs.Profiles.{IsProfile, replaced}
use Rattle.md_space.proofs.TypeSums.{total_given-same, total-same}
use Rattle.md_setting.specs.Meaning.{sizes_of, weight_of}
use Rattle.md_setting.specs.Auction.{SymmetricAuction, value_count, total_weight}
use Rattle.md_setting.specs.AuctionShaped.{IsAuction}
use Rattle.md_setting.specs.General.{general_of}
use Rattle.md_setting.proofs.GeneralLaws.{sizes_of-general}
use Rattle.md_mech.specs.Utility.{weighted_given}
use Rattle.md_border.specs.Odds.{weight_given}
use Rattle.md_border.proofs.SideLaws.{profile-weight}
use Rattle.md_reduced.specs.Averages.{other_weights, mean}
use Rattle.md_reduced.proofs.MeanLaws.{others-all, times-parts}
use Rattle.md_winners.specs.Odds.{HasUnitOdds, HasUnitPays}
use Rattle.md_winners.proofs.UnitSales.{has-unit_odds, has-unit_pays}
use Rattle.md_iron_values.specs.Pools.{Pools}
use Rattle.md_iron_values.specs.Odds.{step_of, pay_by}
use Rattle.md_iron_values.specs.VirtualValues.{IsPooledAuction}
use Rattle.md_threshold_laws.specs.Rule.{draw_count, chance, chance_with, payment}
use Rattle.md_threshold_laws.specs.Mechanisms.{threshold_mechanism}
use Rattle.md_threshold_laws.proofs.Averages.{chance_at, average_odds, average_den}
use Rattle.md_threshold_laws.proofs.MechanismLaws.{is-report, wins-are, pays-are}
use Rattle.md_threshold_laws.proofs.TruthLaws.{replaced-chance, pay-same}
use Rattle.md_threshold_laws.proofs.MeanLaws.{mean-same, mean-told, mean-pay}
use Rattle.md_threshold_laws.proofs.Symmetry.{any-place, weighed_chance, symmetric-chance}

-- ---- one bidder alone

-- what it has, and nothing for all others
abbrev alone : ℕ → (ℕ → List ℕ → ℤ) → ℕ → List ℕ → ℤ
alone i f k t = if k == i then f k t else pos 0

given-none : (a : SymmetricAuction) (i v : ℕ) → weighted_given (general_of a) i v (λ t. pos 0) ≡ pos 0
given-none a i v = total-same (sizes_of (general_of a)) _ (λ t. pos 0) (λ t p. nothing (slice_index t i == v) (weight_of (general_of a) t)) ∙ total_by-zero (λ t. pos 0) (profiles_of (sizes_of (general_of a))) (λ k d l. refl)
  where
    nothing : (s : Bool) (w : ℤ) → (if s then w *ℤ pos 0 else pos 0) ≡ pos 0
    nothing true w = *ℤ-zero w
    nothing false w = refl

pub mean-alone : (a : SymmetricAuction) (f : ℕ → List ℕ → ℤ) (i v : ℕ) → i < a.bidders → mean a (alone i f) v ≡ pos (other_weights a v) *ℤ weighted_given (general_of a) i v (f i)
mean-alone a f i v b =
    let g = general_of a in
    ap (λ z. pos (other_weights a v) *ℤ z)
    (sum_to-single a.bidders i (λ k. weighted_given g k v (alone i f k)) b
    (λ k c d. ap (λ s. weighted_given g k v (λ t. if s then f k t else pos 0)) (ne_eqb k i d) ∙ given-none a k v)
    ∙ ap (λ s. weighted_given g i v (λ t. if s then f i t else pos 0)) (eq-eqb i i refl))

-- a number for one bidder in units of one over the denominator, by that of all
wins-by : (a : SymmetricAuction) (f : ℕ → List ℕ → ℤ) (i v : ℕ) (number : ℤ) → i < a.bidders → v < value_count a → pos a.bidders *ℤ mean a (alone i f) v ≡ number
    → average_den a *ℤ weighted_given (general_of a) i v (f i) ≡ pos draw_count *ℤ (pos (weight_given a v) *ℤ number)
wins-by a f i v number b l e =
    let others = total_weight a.weights ^ (a.bidders - 1) in
    ap (λ z. (z *ℤ pos draw_count) *ℤ weighted_given (general_of a) i v (f i)) (times-parts a ∙ ap (λ z. (pos a.bidders *ℤ pos others) *ℤ z) (sym (others-all a v l)))
    ∙ parts (pos a.bidders) (pos others) (pos (other_weights a v)) (pos (slice_index a.weights v)) (pos draw_count) (weighted_given (general_of a) i v (f i))
    ∙ ap₂ (λ y z. pos draw_count *ℤ (y *ℤ z)) (pos-*ℤ-pos (slice_index a.weights v) others) (ap (λ z. pos a.bidders *ℤ z) (sym (mean-alone a f i v b)) ∙ e)
  where
    parts : (n o w u d x : ℤ) → (((n *ℤ o) *ℤ (w *ℤ u)) *ℤ d) *ℤ x ≡ d *ℤ ((u *ℤ o) *ℤ (n *ℤ (w *ℤ x)))
    parts n o w u d x = simp ring

-- ---- payments by functions of values

pay-none : (values : ℕ → ℤ) (v : ℕ) → pay_by values (λ u. pos 0) v ≡ pos 0
pay-none values v = sum_to-zero (suc v) _ (λ j b. step j)
  where
    step : (j : ℕ) → values j *ℤ step_of (λ u. pos 0) j ≡ pos 0
    step zero = *ℤ-zero (values 0)
    step (suc j) = *ℤ-zero (values (suc j))

pub pay-times : (values q : ℕ → ℤ) (c : ℤ) (v : ℕ) → c *ℤ pay_by values q v ≡ pay_by values (λ u. c *ℤ q u) v
pay-times values q c v = sym (sum_to-*ℤ (suc v) c (λ j. values j *ℤ step_of q j)) ∙ sum_to-same (suc v) _ _ (λ j b. step j)
  where
    step : (j : ℕ) → c *ℤ (values j *ℤ step_of q j) ≡ values j *ℤ step_of (λ u. c *ℤ q u) j
    step zero = turned c (values 0) (q 0)
      where
        turned : (c v x : ℤ) → c *ℤ (v *ℤ x) ≡ v *ℤ (c *ℤ x)
        turned c v x = simp ring
    step (suc j) = parts c (values (suc j)) (q (suc j)) (q j)
      where
        parts : (c v x y : ℤ) → c *ℤ (v *ℤ (x -ℤ y)) ≡ v *ℤ (c *ℤ x -ℤ c *ℤ y)
        parts c v x y = simp ring (omega (arith, linear))

pay-chosen : (values q : ℕ → ℤ) (s : Bool) (v : ℕ) → (if s then pay_by values q v else pos 0) ≡ pay_by values (λ u. if s then q u else pos 0) v
pay-chosen values q true v = refl
pay-chosen values q false v = sym (pay-none values v)

-- ---- the threshold rule

module _ (a : SymmetricAuction) (units : ℕ) (pools : Pools) (shaped : IsAuction a) (p : IsPooledAuction a pools) where
  -- whichever bidder has a value, it wins as often
  pub given-chance : (i v : ℕ) → i < a.bidders → v < value_count a
      → weighted_given (general_of a) i v (chance_at units pools i) ≡ total_by (where_type 0 v (weighed_chance (slice_index a.weights) units pools v)) (profiles_of (replicate a.bidders (value_count a)))
  given-chance i v b l =
      let g = general_of a in
      let f = weighed_chance (slice_index a.weights) units pools v in
      total_given-same (sizes_of g) i v (λ t. weight_of g t *ℤ chance_at units pools i t) f
      (λ t q e. ap₂ (λ y z. y *ℤ z) (profile-weight a t (subst (λ sizes. IsProfile sizes t) (sizes_of-general a) q)) (ap (λ u. pos (chance units pools t u)) e))
      ∙ ap (λ sizes. total_by (where_type i v f) (profiles_of sizes)) (sizes_of-general a)
      ∙ any-place a.bidders (value_count a) v i f (symmetric-chance (slice_index a.weights) units pools v) l b

  -- the average over the bidders is so often that of one
  pub each-odds : (i v : ℕ) → i < a.bidders → v < value_count a → pos a.bidders *ℤ mean a (alone i (chance_at units pools)) v ≡ average_odds a units pools v
  each-odds i v b l =
      let one = total_by (where_type 0 v (weighed_chance (slice_index a.weights) units pools v)) (profiles_of (replicate a.bidders (value_count a))) in
      ap (λ z. pos a.bidders *ℤ z) (mean-alone a (chance_at units pools) i v b ∙ ap (λ z. pos (other_weights a v) *ℤ z) (given-chance i v b l))
      ∙ turned (pos a.bidders) (pos (other_weights a v)) one
      ∙ ap (λ z. pos (other_weights a v) *ℤ z) (sym (sum_to-constant a.bidders one) ∙ sum_to-same a.bidders _ _ (λ k c. sym (given-chance k v c l)))
    where
      turned : (n o x : ℤ) → n *ℤ (o *ℤ x) ≡ o *ℤ (n *ℤ x)
      turned n o x = simp ring

  alone-told : (i v w : ℕ) → v < value_count a → w < value_count a → mean a (alone i (λ k t. pos (chance_with units pools t k w))) v ≡ mean a (alone i (chance_at units pools)) w
  alone-told i v w l k =
      mean-same a _ (λ j t. alone i (chance_at units pools) j (replaced t j w)) v
      (λ j t b q e. ap (λ z. if j == i then z else pos 0) (sym (replaced-chance a units pools shaped p t (is-report a t q) j b w)))
      ∙ mean-told a (alone i (chance_at units pools)) v w shaped l k

  each-pays : (i v : ℕ) → i < a.bidders → v < value_count a → pos a.bidders *ℤ mean a (alone i (payment a units pools)) v ≡ pay_by (number_at a.values) (average_odds a units pools) v
  each-pays i v b l =
      let values = number_at a.values in
      ap (λ z. pos a.bidders *ℤ z)
      (mean-same a _ (λ k t. pay_by values (λ u. alone i (λ j s. pos (chance_with units pools s j u)) k t) v) v
      (λ k t c q e. ap (λ z. if k == i then z else pos 0) (ap (pay_by values (λ u. pos (chance_with units pools t k u))) e) ∙ pay-chosen values (λ u. pos (chance_with units pools t k u)) (k == i) v)
      ∙ mean-pay a values (λ u. alone i (λ j s. pos (chance_with units pools s j u))) v v
      ∙ pay-same values _ (λ u. mean a (alone i (chance_at units pools)) u) v (λ u h. alone-told i v u l (omega (arith, h, l))))
      ∙ pay-times values (λ u. mean a (alone i (chance_at units pools)) u) (pos a.bidders) v
      ∙ pay-same values _ (average_odds a units pools) v (λ u h. each-odds i u b (omega (arith, h, l)))

  -- the mechanism has the average odds and the payments by them
  pub has-odds : HasUnitOdds a units (threshold_mechanism a units pools) (average_den a) (list_to (value_count a) (average_odds a units pools))
  has-odds =
      has-unit_odds a units (threshold_mechanism a units pools) (average_den a) (list_to (value_count a) (average_odds a units pools))
      (record {
        wins = λ i v b l.
            ap (λ z. average_den a *ℤ z) (total_given-same (sizes_of (general_of a)) i v _ (λ t. weight_of (general_of a) t *ℤ chance_at units pools i t) (λ t q e. ap (λ z. weight_of (general_of a) t *ℤ z) (wins-are a units pools shaped p i t b q)))
            ∙ wins-by a (chance_at units pools) i v (average_odds a units pools v) b l (each-odds i v b l)
            ∙ ap (λ z. pos draw_count *ℤ (pos (weight_given a v) *ℤ z)) (sym (get_or-list_to (value_count a) (average_odds a units pools) v (pos 0) l));
      })

  pub has-pays : HasUnitPays a units (threshold_mechanism a units pools) (average_den a) (list_to (value_count a) (pay_by (number_at a.values) (average_odds a units pools)))
  has-pays =
      has-unit_pays a units (threshold_mechanism a units pools) (average_den a) (list_to (value_count a) (pay_by (number_at a.values) (average_odds a units pools)))
      (record {
        wins = λ i v b l.
            ap (λ z. average_den a *ℤ z) (total_given-same (sizes_of (general_of a)) i v _ (λ t. weight_of (general_of a) t *ℤ payment a units pools i t) (λ t q e. ap (λ z. weight_of (general_of a) t *ℤ z) (pays-are a units pools shaped p i t b q)))
            ∙ wins-by a (payment a units pools) i v (pay_by (number_at a.values) (average_odds a units pools) v) b l (each-pays i v b l)
            ∙ ap (λ z. pos draw_count *ℤ (pos (weight_given a v) *ℤ z)) (sym (get_or-list_to (value_count a) (pay_by (number_at a.values) (average_odds a units pools)) v (pos 0) l));
      })
