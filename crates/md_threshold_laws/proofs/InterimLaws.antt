-- The interim odds of the threshold rule are odds of its pools, each bidder has them, and the closed form gives them.
use Rattle.std.proofs.Common.{◌≡◌, ℕ, suc, ◌-◌, ◌*◌, ◌^◌, ◌<◌, ◌≤◌, ℤ, pos, ◌-ℤ◌, ◌*ℤ◌, ◌≤ℤ◌, ◌<ℤ◌, List, ◌∷◌, length, get_or, sym, ap, ◌∙◌, subst, arith}
use Rattle.std.specs.Prelude.{slice_index}
use Rattle.std.proofs.lemmas.Int.{ints}
use Rattle.std.proofs.lemmas.List.{length-replicate}
use Rattle.std.proofs.Math.IntN.{pos-*ℤ-pos}
use lib.IntN.{*ℤ_comm}
use Rattle.std.proofs.Math.ListN.{replicate}
use Rattle.md_math.specs.Lists.{number_at, list_to}
use Rattle.md_math.specs.Products.{product_by}
use Rattle.md_math.specs.Sums.{sum_to, total_by}
use Rattle.md_math.proofs.Builders.{get_or-list_to}
use Rattle.md_math.proofs.Order.{*ℤ-le, *ℤ_cancel, positive-*ℤ, positive_pos}
use Rattle.md_math.proofs.Ring.{ring, *ℤ_assoc, *ℤ_left_comm}
use Rattle.md_math.proofs.ProductLaws.{sum-places}
use Rattle.md_math.proofs.TotalLaws.{total_by-same, total_by-*ℤ, total_by-le}
use Rattle.md_space.specs.AllProfiles.{profiles_of}
use Rattle.md_space.specs.ByType.{where_type}
use Rattle.md_space.specs.Profiles.{IsProfile}
use Rattle.md_space.proofs.InOrder.{All-profiles_of}
use Rattle.md_space.proofs.Ranks.{length-IsProfile}
use Rattle.md_space.proofs.TypeSums.{first_only}
use Rattle.md_setting.specs.Auction.{SymmetricAuction, value_count, total_weight}
use Rattle.md_setting.specs.AuctionShaped.{IsAuction}
use Rattle.md_counts.specs.Weights.{value_lists}
use Rattle.md_counts.proofs.WeightLaws.{all-lists}
use Rattle.md_border.specs.Odds.{weight_given}
use Rattle.md_reduced.specs.Averages.{other_weights}
use Rattle.md_reduced.proofs.MeanLaws.{others-all, times-parts}
use Rattle.md_reduced.proofs.PointLaws.{others-positive}
use Rattle.md_winners.specs.Odds.{HasUnitOdds, HasUnitPays}
use Rattle.md_iron_values.specs.Odds.{pay_by}
use Rattle.md_iron_values.specs.Pools.{Pools, over_pool}
use Rattle.md_iron_values.specs.VirtualValues.{weight_to, IsPooledAuction}
use Rattle.md_iron_laws.specs.PoolOdds.{ArePoolOdds}
use Rattle.md_threshold_laws.specs.Rule.{draw_count, chance}
use Rattle.md_threshold_laws.specs.Mechanisms.{threshold_mechanism}
use Rattle.md_threshold_laws.specs.Interim.{interim_odds, interim_den}
use Rattle.md_threshold_laws.specs.ClosedOdds.{sold_from, AreClosedOdds}
use Rattle.md_threshold_laws.proofs.Profiles.{some-draws}
use Rattle.md_threshold_laws.proofs.ChanceLaws.{chance-most}
use Rattle.md_threshold_laws.proofs.TruthLaws.{pay-same}
use Rattle.md_threshold_laws.proofs.Symmetry.{weighed_chance}
use Rattle.md_threshold_laws.proofs.Averages.{chance_at, average_odds, average_den}
use Rattle.md_threshold_laws.proofs.AverageLaws.{are-pool-odds}
use Rattle.md_threshold_laws.proofs.BidderOdds.{mean-alone, given-chance, each-odds, pay-times, has-odds, has-pays}
use Rattle.md_threshold_laws.proofs.ClosedOdds.{are-closed, closed-same, scaled-odds}

-- ---- from averages to the values of the others

module _ (a : SymmetricAuction) (units : ℕ) (pools : Pools) (shaped : IsAuction a) (p : IsPooledAuction a pools) where
  -- over all profiles in which the first bidder has a value
  first-odds : (v : ℕ) → v < value_count a
      → total_by (where_type 0 v (weighed_chance (slice_index a.weights) units pools v)) (profiles_of (replicate a.bidders (value_count a))) ≡ pos (slice_index a.weights v) *ℤ interim_odds a units pools v
  first-odds v b =
      let n = a.bidders - 1 in
      let k = value_count a in
      let f = weighed_chance (slice_index a.weights) units pools v in
      let one_more : a.bidders ≡ suc (a.bidders - 1) = omega (arith, shaped.some_bidder) in
      ap (λ m. total_by (where_type 0 v f) (profiles_of (replicate m k))) one_more
      ∙ first_only k v (replicate n k) f b
      ∙ total_by-same (λ t. f (v ∷ t)) (λ t. pos (slice_index a.weights v) *ℤ (pos (product_by (slice_index a.weights) t) *ℤ pos (chance units pools (v ∷ t) v))) (value_lists n k)
      (λ j d l. one (product_by (slice_index a.weights) (get_or (value_lists n k) j d)) (chance units pools (v ∷ get_or (value_lists n k) j d) v))
      ∙ total_by-*ℤ (pos (slice_index a.weights v)) (λ t. pos (product_by (slice_index a.weights) t) *ℤ pos (chance units pools (v ∷ t) v)) (value_lists n k)
    where
      one : (w c : ℕ) → pos (slice_index a.weights v * w) *ℤ pos c ≡ pos (slice_index a.weights v) *ℤ (pos w *ℤ pos c)
      one w c = ap (λ z. z *ℤ pos c) (sym (pos-*ℤ-pos (slice_index a.weights v) w)) ∙ *ℤ_assoc (pos (slice_index a.weights v)) (pos w) (pos c)

  pub interim-average : (v : ℕ) → v < value_count a → average_den a *ℤ interim_odds a units pools v ≡ interim_den a *ℤ average_odds a units pools v
  interim-average v b =
      let some : 0 < a.bidders = omega (arith, shaped.some_bidder) in
      let own : average_odds a units pools v ≡ pos a.bidders *ℤ (pos (other_weights a v) *ℤ (pos (slice_index a.weights v) *ℤ interim_odds a units pools v)) =
      sym (each-odds a units pools shaped p 0 v some b)
      ∙ ap (λ z. pos a.bidders *ℤ z)
      (mean-alone a (chance_at units pools) 0 v some ∙ ap (λ z. pos (other_weights a v) *ℤ z) (given-chance a units pools shaped p 0 v some b ∙ first-odds v b)) in
      ap (λ z. (z *ℤ pos draw_count) *ℤ interim_odds a units pools v)
      (times-parts a ∙ ap (λ z. (pos a.bidders *ℤ pos (total_weight a.weights ^ (a.bidders - 1))) *ℤ z) (sym (others-all a v b)))
      ∙ parts (pos a.bidders) (pos (total_weight a.weights ^ (a.bidders - 1))) (pos (other_weights a v)) (pos (slice_index a.weights v)) (pos draw_count) (interim_odds a units pools v)
      ∙ ap (λ z. interim_den a *ℤ z) (sym own)
    where
      parts : (n o w u d x : ℤ) → (((n *ℤ o) *ℤ (w *ℤ u)) *ℤ d) *ℤ x ≡ (d *ℤ o) *ℤ (n *ℤ (w *ℤ (u *ℤ x)))
      parts n o w u d x = simp ring

  pub interim-positive : pos 0 <ℤ interim_den a
  interim-positive = positive-*ℤ (pos draw_count) (pos (total_weight a.weights ^ (a.bidders - 1))) (positive_pos draw_count some-draws) (positive_pos (total_weight a.weights ^ (a.bidders - 1)) (others-positive a shaped))

  pub are-interim : ArePoolOdds a units pools (interim_den a) (interim_odds a units pools)
  are-interim = scaled-odds a units pools (average_den a) (interim_den a) (average_odds a units pools) (interim_odds a units pools) interim-positive (are-pool-odds a units pools shaped p) interim-average

  -- ---- over any denominator

  module _ (den : ℤ) (q : ℕ → ℤ) (closed : AreClosedOdds a units pools den q) where
    pub closed-interim : (v : ℕ) → v < value_count a → interim_den a *ℤ q v ≡ den *ℤ interim_odds a units pools v
    closed-interim v b =
        closed-same a pools shaped p units (interim_den a) den (interim_odds a units pools) q (are-closed a pools shaped p units (interim_den a) (interim_odds a units pools) are-interim) closed v b

    closed-average : (v : ℕ) → v < value_count a → average_den a *ℤ q v ≡ den *ℤ average_odds a units pools v
    closed-average v b =
        closed-same a pools shaped p units (average_den a) den (average_odds a units pools) q
        (are-closed a pools shaped p units (average_den a) (average_odds a units pools) (are-pool-odds a units pools shaped p)) closed v b

    pub closed-odds : ArePoolOdds a units pools den q
    closed-odds = scaled-odds a units pools (average_den a) den (average_odds a units pools) q closed.positive (are-pool-odds a units pools shaped p) closed-average

    -- each bidder wins and pays so on average
    scaled : (w d e g x y z : ℤ) → pos 0 <ℤ d → d *ℤ y ≡ e *ℤ x → d *ℤ z ≡ w *ℤ (g *ℤ x) → e *ℤ z ≡ w *ℤ (g *ℤ y)
    scaled w d e g x y z above same has =
        *ℤ_cancel d (e *ℤ z) (w *ℤ (g *ℤ y)) above
        (*ℤ_left_comm d e z ∙ ap (λ u. e *ℤ u) has ∙ first e w g x ∙ ap (λ u. w *ℤ (g *ℤ u)) (sym same) ∙ second w g d y)
      where
        first : (e w g x : ℤ) → e *ℤ (w *ℤ (g *ℤ x)) ≡ w *ℤ (g *ℤ (e *ℤ x))
        first e w g x = simp ring

        second : (w g d y : ℤ) → w *ℤ (g *ℤ (d *ℤ y)) ≡ d *ℤ (w *ℤ (g *ℤ y))
        second w g d y = simp ring

    pub has-closed_odds : HasUnitOdds a units (threshold_mechanism a units pools) den (list_to (value_count a) q)
    has-closed_odds = record {
      wins = λ i v b l.
          scaled (pos draw_count) (average_den a) den (pos (weight_given a v)) (average_odds a units pools v) (number_at (list_to (value_count a) q) v) _ (are-pool-odds a units pools shaped p).positive
          (ap (λ z. average_den a *ℤ z) (get_or-list_to (value_count a) q v (pos 0) l) ∙ closed-average v l)
          ((has-odds a units pools shaped p).wins i v b l ∙ ap (λ z. pos draw_count *ℤ (pos (weight_given a v) *ℤ z)) (get_or-list_to (value_count a) (average_odds a units pools) v (pos 0) l));
    }

    pub has-closed_pays : HasUnitPays a units (threshold_mechanism a units pools) den (list_to (value_count a) (pay_by (number_at a.values) q))
    has-closed_pays =
        let values = number_at a.values in
        let own = pay_by (number_at a.values) (average_odds a units pools) in
        record {
          paid = λ i v b l.
              scaled (pos draw_count) (average_den a) den (pos (weight_given a v)) (own v) (number_at (list_to (value_count a) (pay_by values q)) v) _ (are-pool-odds a units pools shaped p).positive
              (ap (λ z. average_den a *ℤ z) (get_or-list_to (value_count a) (pay_by values q) v (pos 0) l)
              ∙ pay-times values q (average_den a) v
              ∙ pay-same values _ (λ u. den *ℤ average_odds a units pools u) v (λ u h. closed-average u (omega (arith, h, l)))
              ∙ sym (pay-times values (average_odds a units pools) den v))
              ((has-pays a units pools shaped p).paid i v b l ∙ ap (λ z. pos draw_count *ℤ (pos (weight_given a v) *ℤ z)) (get_or-list_to (value_count a) own v (pos 0) l));
        }

  pub interim-closed : AreClosedOdds a units pools (interim_den a) (interim_odds a units pools)
  interim-closed = are-closed a pools shaped p units (interim_den a) (interim_odds a units pools) are-interim

  -- of the bidders of a pool, for each of them and each unit of their weight
  pub interim-by_pool : (v : ℕ) → v < value_count a → pools.reserve ≤ v
      → (pos a.bidders *ℤ over_pool (weight_to a) pools v) *ℤ interim_odds a units pools v ≡ pos draw_count *ℤ (sold_from a units (pools.first v) -ℤ sold_from a units (pools.stop v))
  interim-by_pool v b g =
      let others = total_weight a.weights ^ (a.bidders - 1) in
      let more = sold_from a units (pools.first v) -ℤ sold_from a units (pools.stop v) in
      *ℤ_cancel (pos others) _ _ (positive_pos others (others-positive a shaped))
      (first (pos a.bidders) (pos others) (over_pool (weight_to a) pools v) (interim_odds a units pools v)
      ∙ ap (λ z. (z *ℤ over_pool (weight_to a) pools v) *ℤ interim_odds a units pools v) (pos-*ℤ-pos a.bidders others)
      ∙ interim-closed.some v b g
      ∙ second (pos draw_count) (pos others) more)
    where
      first : (n o w x : ℤ) → o *ℤ ((n *ℤ w) *ℤ x) ≡ ((n *ℤ o) *ℤ w) *ℤ x
      first n o w x = simp ring

      second : (d o s : ℤ) → (d *ℤ o) *ℤ s ≡ o *ℤ (d *ℤ s)
      second d o s = simp ring

  -- nobody wins more often than always
  pub interim-most : (v : ℕ) → interim_odds a units pools v ≤ℤ interim_den a
  interim-most v =
      let n = a.bidders - 1 in
      let k = value_count a in
      let weight = λ (t : List ℕ). pos (product_by (slice_index a.weights) t) in
      subst (λ z. interim_odds a units pools v ≤ℤ z)
      (total_by-*ℤ (pos draw_count) weight (value_lists n k)
      ∙ ap (λ z. pos draw_count *ℤ z) (all-lists n k (slice_index a.weights) (total_weight a.weights) (ap (λ m. sum_to m (λ u. pos (slice_index a.weights u))) (sym shaped.one_each) ∙ sym (sum-places a.weights))))
      (total_by-le (λ t. weight t *ℤ pos (chance units pools (v ∷ t) v)) (λ t. pos draw_count *ℤ weight t) (value_lists n k)
      (λ j d l. one (get_or (value_lists n k) j d) (All-profiles_of (replicate n k) j d l)))
    where
      least : (m : ℕ) → pos 0 ≤ℤ pos m
      least m = omega (arith, ints)

      above : (m n : ℕ) → m ≤ n → pos m ≤ℤ pos n
      above m n l = omega (arith, ints, l)

      one : (t : List ℕ) → IsProfile (replicate (a.bidders - 1) (value_count a)) t → (pos (product_by (slice_index a.weights) t) *ℤ pos (chance units pools (v ∷ t) v)) ≤ℤ (pos draw_count *ℤ pos (product_by (slice_index a.weights) t))
      one t q =
          let long : length t ≡ a.bidders - 1 = length-IsProfile _ t q ∙ length-replicate (a.bidders - 1) (value_count a) in
          let most = chance-most units pools (v ∷ t) v (few (length t) (omega (arith, long, shaped.few_bidders))) in
          subst (λ z. (pos (product_by (slice_index a.weights) t) *ℤ pos (chance units pools (v ∷ t) v)) ≤ℤ z) (*ℤ_comm (pos (product_by (slice_index a.weights) t)) (pos draw_count))
          (*ℤ-le (pos (product_by (slice_index a.weights) t)) _ _ (least (product_by (slice_index a.weights) t)) (above _ _ most))
        where
          few : (m : ℕ) → m < 12 → suc m ≤ 12
          few m l = omega (arith, l)
