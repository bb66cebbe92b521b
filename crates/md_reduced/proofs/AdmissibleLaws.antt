-- What a reduced program says of the mechanisms of a sale to the bidders of an auction: which are admissible, and where they stand
-- in it.
use Rattle.std.proofs.Common.{◌≡◌, ℕ, ◌+◌, ◌-◌, ◌*◌, ◌^◌, ◌<◌, ℤ, pos, ◌+ℤ◌, ◌-ℤ◌, ◌*ℤ◌, ◌≤ℤ◌, ◌<ℤ◌, neg_ℤ, Bool, true, false, if◌then◌else◌, List, ◌++◌, map, All, sym, ap, ap₂, ◌∙◌, subst, arith, inl, inr, ne_eqb}
use Rattle.std.proofs.lemmas.Bool.{cases_eq}
use Rattle.std.specs.Prelude.{slice_index}
use Rattle.std.proofs.lemmas.Int.{ints}
use Rattle.std.proofs.Math.IntN.{pos-*ℤ-pos}
use Rattle.std.proofs.Math.Nat.{mul-pos}
use Rattle.md_math.specs.Lists.{number_at, list_to}
use Rattle.md_math.specs.Sums.{sum_to}
use Rattle.md_math.proofs.Builders.{All-left, All-right, All-up_to_at, length-list_to, get_or-list_to}
use Rattle.md_math.proofs.Order.{le_from_lt, *ℤ-le, le_from_*ℤ, nonneg_from_*ℤ, nonneg-*ℤ, *ℤ_cancel, positive_pos, chosen-nonneg}
use Rattle.md_math.proofs.Ring.{linear, ring, *ℤ-zero, zero-*ℤ}
use Rattle.md_math.proofs.SumLaws.{sum_to-same, sum_to-*ℤ, sum_to-nonneg}
use Rattle.md_space.specs.Profiles.{IsProfile, replaced}
use Rattle.md_space.proofs.TypeSums.{total_given-same}
use Rattle.md_setting.specs.declared.kinds.Truth.{Truth as TruthKind}
use Rattle.md_setting.specs.declared.kinds.Rational.{Rational as RationalKind}
use Rattle.md_setting.specs.Meaning.{agent_count, outcome_count, sizes_of, weight_of, outside_of, marginal_of, utility_of}
use Rattle.md_setting.specs.Auction.{SymmetricAuction, value_count, total_weight}
use Rattle.md_setting.specs.AuctionShaped.{IsAuction}
use Rattle.md_setting.specs.General.{general_of}
use Rattle.md_setting.specs.Setting.{GeneralSetting}
use Rattle.md_setting.proofs.GeneralLaws.{HasValues}
use Rattle.md_mech.specs.declared.mechanism.Mechanism.{Mechanism}
use Rattle.md_mech.specs.Admissible.{IsAdmissible}
use Rattle.md_mech.specs.Mechanism.{IsMechanism, chance_of}
use Rattle.md_mech.specs.Optimal.{worth_of}
use Rattle.md_mech.specs.Rationality.{IsInterimRational, IsRationalBy}
use Rattle.md_mech.specs.Truth.{IsBayesTruth, IsTruthfulBy}
use Rattle.md_mech.specs.Utility.{expected_utility, weighted_given}
use Rattle.md_mech.proofs.RowLaws.{by_report-at}
use Rattle.md_lp.specs.Affine.{StandsAt}
use Rattle.md_lp.specs.Program.{Program}
use Rattle.md_lp.specs.Point.{Meets, cost_sum}
use Rattle.md_forms.specs.Forms.{Holds}
use Rattle.md_border.specs.Odds.{HasOdds, HasPays, WinsAs, weight_given}
use Rattle.md_border.specs.Worth.{surplus_of}
use Rattle.md_border.proofs.ByValues.{given-sub}
use Rattle.md_border.proofs.MechanismWorth.{has-values, chosen-turned, worth-by_values, others}
use Rattle.md_border.proofs.Sales.{Sale, IsSaleOf, paid_at, sale-kinds, sale-profile, sale-given, item_sale, item-sale, odds-as, pays-as}
use Rattle.md_border.proofs.Wins.{won-le}
use Rattle.md_reduced.specs.declared.condition.ReducedCondition.{ReducedCondition}
use Rattle.md_reduced.specs.declared.condition.ReducedCondition.TheVariants.{Truth, Rational, Cut}
use Rattle.md_reduced.specs.Averages.{all_weights, times_of, averages, gain_at, IsAdmissibleOnAverage}
use Rattle.md_reduced.specs.Conditions.{truths_at, truths, rationals, conditions_of}
use Rattle.md_reduced.specs.Mechanisms.{AdmitsPoints, HoldsAdmissible, scale_of}
use Rattle.md_reduced.specs.Points.{interim_in}
use Rattle.md_reduced.specs.ProgramOf.{form_of, IsReducedProgram}
use Rattle.md_reduced.specs.Sides.{pay_in, utility_in}
use Rattle.md_reduced.proofs.BuiltLaws.{meets-conditions, costs-points}
use Rattle.md_reduced.proofs.AverageRows.{averages-meet}
use Rattle.md_reduced.proofs.PointLaws.{others-positive}
use Rattle.md_reduced.proofs.MeanLaws.{nonneg_pos, times-parts, averaged-cost}
use Rattle.md_reduced.proofs.Replacing.{given-replaced}

-- ---- what a bidder has in a mechanism of a sale

module _ (a : SymmetricAuction) (sale : Sale) (is : IsSaleOf a sale) (m : Mechanism) where
  -- Where the bidders' true values are t and they report r, a bidder has its value as often as it wins, less what it pays.
  utility-at : (i : ℕ) (t r : List ℕ) → i < a.bidders → HasValues a t
      → expected_utility sale.setting m i t r ≡ number_at a.values (slice_index t i) *ℤ sale.win m i r -ℤ paid_at sale m i r
  utility-at i t r b values =
      let s = sale.setting in
      let value = number_at a.values (slice_index t i) in
      let chance = chance_of s m r in
      ap (λ z. z -ℤ paid_at sale m i r)
      (sum_to-same (outcome_count s) (λ o. chance o *ℤ utility_of s i t o) (λ o. value *ℤ (if sale.gets o i then chance o else pos 0))
      (λ o c. ap (λ z. chance o *ℤ z) (is.utility i t o b (values.value i b) c) ∙ chosen-turned (sale.gets o i) (chance o) value)
      ∙ sum_to-*ℤ (outcome_count s) value (λ o. if sale.gets o i then chance o else pos 0)
      ∙ ap (λ z. value *ℤ z) (sym (is.wins m i r b)))

  -- on average over its profiles with a value, where it reports as r says
  gains-given : (i v : ℕ) (r : List ℕ → List ℕ) → i < a.bidders
      → weighted_given sale.setting i v (λ t. expected_utility sale.setting m i t (r t)) ≡ weighted_given (general_of a) i v (λ t. gain_at a (sale.win m) (paid_at sale m) v i (r t))
  gains-given i v r b =
      let s = sale.setting in
      let g = general_of a in
      sale-given a sale is i v (λ t. expected_utility s m i t (r t))
      ∙ total_given-same (sizes_of g) i v (λ t. weight_of g t *ℤ expected_utility s m i t (r t)) (λ t. weight_of g t *ℤ gain_at a (sale.win m) (paid_at sale m) v i (r t))
      (λ t p e. ap (λ z. weight_of g t *ℤ z)
      (utility-at i t (r t) b (has-values a t p) ∙ ap (λ u. number_at a.values u *ℤ sale.win m i (r t) -ℤ paid_at sale m i (r t)) e))

  -- without taking part no bidder has anything
  nothing_outside : (i v : ℕ) → i < a.bidders → (m.den *ℤ outside_of sale.setting i v) *ℤ marginal_of sale.setting i v ≡ pos 0
  nothing_outside i v b =
      ap (λ z. (m.den *ℤ z) *ℤ marginal_of sale.setting i v) (is.outside i v b)
      ∙ ap (λ z. z *ℤ marginal_of sale.setting i v) (*ℤ-zero m.den)
      ∙ zero-*ℤ (marginal_of sale.setting i v)

  -- ---- from mechanisms to points

  win-nonneg : (i : ℕ) (t : List ℕ) → i < a.bidders → IsMechanism sale.setting m → IsProfile (sizes_of (general_of a)) t → pos 0 ≤ℤ sale.win m i t
  win-nonneg i t b mechanism p =
      let s = sale.setting in
      subst (λ z. pos 0 ≤ℤ z) (sym (is.wins m i t b))
      (sum_to-nonneg (outcome_count s) (λ o. if sale.gets o i then chance_of s m t o else pos 0)
      (λ o c. chosen-nonneg (sale.gets o i) (chance_of s m t o) (mechanism.not_negative t o (sale-profile a sale is t p) c)))

  pub sale-on_average : IsAdmissible sale.setting m → IsAdmissibleOnAverage a sale.units m.den (sale.win m) (paid_at sale m)
  sale-on_average admissible =
      let s = sale.setting in
      let g = general_of a in
      let gain = gain_at a (sale.win m) (paid_at sale m) in
      let bayes : IsBayesTruth s m = subst (λ (k : TruthKind). IsTruthfulBy k s m) is.truth admissible.truthful in
      let interim : IsInterimRational s m = subst (λ (k : RationalKind). IsRationalBy k s m) is.rational admissible.rational in
      let agent = λ (i : ℕ) (b : i < a.bidders). subst (λ n. i < n) (sym is.agents) b in
      let inside = λ (i v : ℕ) (b : i < a.bidders) (l : v < value_count a). subst (λ k. v < k) (sym (sale-kinds a sale is i b)) l in
      record {
        den_positive = admissible.mechanism.den;
        nonneg = λ i t b p. win-nonneg i t b admissible.mechanism p;
        truthful = λ i v w b l k.
            subst (λ z. z ≤ℤ weighted_given g i v (gain v i)) (gains-given i v (λ t. replaced t i w) b)
            (subst (λ z. weighted_given s i v (λ t. expected_utility s m i t (replaced t i w)) ≤ℤ z) (gains-given i v (λ t. t) b) (bayes i v w (agent i b) (inside i v b l) (inside i w b k)));
        rational = λ i v b l.
            subst (λ z. z ≤ℤ weighted_given g i v (gain v i)) (nothing_outside i v b)
            (subst (λ z. ((m.den *ℤ outside_of s i v) *ℤ marginal_of s i v) ≤ℤ z) (gains-given i v (λ t. t) b) (interim i v (agent i b) (inside i v b l)));
        inside = λ set. won-le a sale m set is admissible.mechanism;
      }

-- so often a base at each profile, and what bidders add to the objective over all profiles, are so often the base and a multiple
-- of the cost of the averages
pub costs-of_averages : (a : SymmetricAuction) (units : ℕ) (cuts : List ℕ) (p : Program) (win pay : ℕ → List ℕ → ℤ) (base whole : ℤ) → IsReducedProgram a units cuts p
    → pos (times_of a) *ℤ ((base *ℤ whole) *ℤ pos (total_weight a.weights ^ a.bidders)
    +ℤ sum_to (value_count a) (λ v. sum_to a.bidders (λ i. surplus_of a v *ℤ weighted_given (general_of a) i v (win i) +ℤ a.revenue *ℤ weighted_given (general_of a) i v (pay i))))
    ≡ (base *ℤ pos (total_weight a.weights ^ a.bidders)) *ℤ (pos (times_of a) *ℤ whole) +ℤ scale_of a p *ℤ cost_sum p (averages a win pay)
costs-of_averages a units cuts p win pay base whole is =
    let s = general_of a in
    let n = pos a.bidders in
    let all = pos (all_weights a) in
    let t = pos (times_of a) in
    let x = averages a win pay in
    let power = pos (total_weight a.weights ^ a.bidders) in
    let added = sum_to (value_count a) (λ v. sum_to a.bidders (λ i. surplus_of a v *ℤ weighted_given s i v (win i) +ℤ a.revenue *ℤ weighted_given s i v (pay i))) in
    let cost : all *ℤ added ≡ p.factor *ℤ cost_sum p x = sym (averaged-cost a win pay) ∙ costs-points a units cuts p is x in
    first t (base *ℤ whole) power added
    ∙ ap₂ (λ y z. y +ℤ z) (second t base whole power)
    (ap (λ z. z *ℤ added) (times-parts a)
    ∙ third n (others a) all added
    ∙ ap (λ z. (n *ℤ others a) *ℤ z) cost
    ∙ ap (λ z. z *ℤ (p.factor *ℤ cost_sum p x)) (pos-*ℤ-pos a.bidders (total_weight a.weights ^ (a.bidders - 1)))
    ∙ fourth (pos (a.bidders * total_weight a.weights ^ (a.bidders - 1))) p.factor (cost_sum p x))
  where
    first : (t k w g : ℤ) → t *ℤ (k *ℤ w +ℤ g) ≡ t *ℤ (k *ℤ w) +ℤ t *ℤ g
    first t k w g = simp ring

    second : (t k d w : ℤ) → t *ℤ ((k *ℤ d) *ℤ w) ≡ (k *ℤ w) *ℤ (t *ℤ d)
    second t k d w = simp ring

    third : (n b w g : ℤ) → ((n *ℤ b) *ℤ w) *ℤ g ≡ (n *ℤ b) *ℤ (w *ℤ g)
    third n b w g = simp ring

    fourth : (c f z : ℤ) → c *ℤ (f *ℤ z) ≡ (c *ℤ f) *ℤ z
    fourth c f z = simp ring

pub sale-stands : (a : SymmetricAuction) (sale : Sale) (of : IsSaleOf a sale) (cuts : List ℕ) (p : Program) → IsAuction a → IsReducedProgram a sale.units cuts p → (m : Mechanism) → IsAdmissible sale.setting m
    → StandsAt p (sale.kept *ℤ pos (total_weight a.weights ^ a.bidders)) (scale_of a p) (pos (times_of a)) m.den (averages a (sale.win m) (paid_at sale m)) (worth_of sale.setting m)
sale-stands a sale of cuts p shaped is m admissible = record {
  meets = averages-meet a sale.units cuts p m.den (sale.win m) (paid_at sale m) shaped is (sale-on_average a sale of m admissible);
  costs = ap (λ z. pos (times_of a) *ℤ z) (worth-by_values a sale m shaped of admissible.mechanism)
      ∙ costs-of_averages a sale.units cuts p (sale.win m) (paid_at sale m) sale.kept m.den is;
}

pub stands-in : (a : SymmetricAuction) (cuts : List ℕ) (p : Program) → IsAuction a → IsReducedProgram a 1 cuts p → HoldsAdmissible a p
stands-in a = sale-stands a (item_sale a) (item-sale a)

-- ---- from points to mechanisms

-- the conditions that a point keeps, one by one
pub record KeepsRows (a : SymmetricAuction) (x : ℕ → ℤ) : Type 0 where
  pub truth : (v w : ℕ) → v < value_count a → w < value_count a → utility_in a x v w ≤ℤ utility_in a x v v
  pub rational : (v : ℕ) → v < value_count a → pos 0 ≤ℤ utility_in a x v v

pub keeps-rows : (a : SymmetricAuction) (units : ℕ) (cuts : List ℕ) (p : Program) (den : ℤ) (x : ℕ → ℤ) → IsReducedProgram a units cuts p → Meets p den x → KeepsRows a x
keeps-rows a units cuts p den x is meets = record {
  truth = λ v w l k. elim (cases_eq w v) [
    | inl e ↦ same (utility_in a x v w) (utility_in a x v v) (ap (utility_in a x v) e)
    | inr d ↦
        less (utility_in a x v w) (utility_in a x v v) (den *ℤ pos 0) (*ℤ-zero den)
        (by_report-at holds kinds v (Truth v) w k (ne_eqb w v d) (All-up_to_at holds kinds v (truths_at kinds) l (All-left holds (truths kinds) (rationals kinds ++ map Cut cuts) kept)))
  ];
  rational = λ v l.
      negative (utility_in a x v v) (den *ℤ pos 0) (*ℤ-zero den)
      (subst holds (get_or-list_to kinds Rational v (Rational v) l)
      (All-left holds (rationals kinds) (map Cut cuts) (All-right holds (truths kinds) (rationals kinds ++ map Cut cuts) kept) v (Rational v) (subst (λ n. v < n) (sym (length-list_to kinds Rational)) l)));
}
  where
    kinds : ℕ
    kinds = value_count a

    holds : ReducedCondition → Type 0
    holds c = Holds den x (form_of a units c)

    kept : All holds (conditions_of kinds cuts)
    kept = (meets-conditions a units cuts p is den x meets.point).0 meets

    same : (y z : ℤ) → y ≡ z → y ≤ℤ z
    same y z e = omega (arith, linear)

    less : (y z o : ℤ) → o ≡ pos 0 → (y -ℤ z) ≤ℤ o → y ≤ℤ z
    less y z o e l = omega (arith, linear)

    negative : (y o : ℤ) → o ≡ pos 0 → neg_ℤ y ≤ℤ o → pos 0 ≤ℤ y
    negative y o e l = omega (arith, linear)

-- what a bidder with the value w would have with the value v, by the odds and payments of a point
gain-by_odds : (a : SymmetricAuction) (win pay : ℕ → List ℕ → ℤ) (whole den : ℤ) (x : ℕ → ℤ) (i v w : ℕ)
    → WinsAs a win whole den (list_to (value_count a) x) → WinsAs a pay whole den (list_to (value_count a) (pay_in a x)) → i < a.bidders → w < value_count a
    → den *ℤ weighted_given (general_of a) i w (gain_at a win pay v i) ≡ whole *ℤ (pos (weight_given a w) *ℤ utility_in a x v w)
gain-by_odds a win pay whole den x i v w odds pays b k =
    let s = general_of a in
    let c = number_at a.values v in
    let won = weighted_given s i w (win i) in
    let paid = weighted_given s i w (pay i) in
    ap (λ z. den *ℤ z) (given-sub s i w c (win i) (pay i))
    ∙ first den c won paid
    ∙ ap₂ (λ y z. c *ℤ y -ℤ z) (odds.wins i w b k) (pays.wins i w b k)
    ∙ ap₂ (λ y z. c *ℤ (whole *ℤ (pos (weight_given a w) *ℤ y)) -ℤ whole *ℤ (pos (weight_given a w) *ℤ z)) (get_or-list_to (value_count a) x w (pos 0) k) (get_or-list_to (value_count a) (pay_in a x) w (pos 0) k)
    ∙ second whole (pos (weight_given a w)) c (x w) (pay_in a x w)
  where
    first : (d c y z : ℤ) → d *ℤ (c *ℤ y -ℤ z) ≡ c *ℤ (d *ℤ y) -ℤ d *ℤ z
    first d c y z = simp ring (omega (arith, linear))

    second : (m g c y z : ℤ) → c *ℤ (m *ℤ (g *ℤ y)) -ℤ m *ℤ (g *ℤ z) ≡ m *ℤ (g *ℤ (c *ℤ y -ℤ z))
    second m g c y z = simp ring (omega (arith, linear))

-- what it has where it tells w
told-by_odds : (a : SymmetricAuction) (win pay : ℕ → List ℕ → ℤ) (whole den : ℤ) (x : ℕ → ℤ) (i v w : ℕ) → IsAuction a
    → WinsAs a win whole den (list_to (value_count a) x) → WinsAs a pay whole den (list_to (value_count a) (pay_in a x)) → i < a.bidders → v < value_count a → w < value_count a
    → den *ℤ weighted_given (general_of a) i v (λ t. gain_at a win pay v i (replaced t i w)) ≡ whole *ℤ (pos (weight_given a v) *ℤ utility_in a x v w)
told-by_odds a win pay whole den x i v w shaped odds pays b l k =
    let s = general_of a in
    let f = λ (u : ℕ). pos (slice_index a.weights u) in
    let g = gain_at a win pay v i in
    let told = weighted_given s i v (λ t. g (replaced t i w)) in
    let there = weighted_given s i w g in
    *ℤ_cancel (f w) (den *ℤ told) (whole *ℤ (pos (weight_given a v) *ℤ utility_in a x v w)) (positive_pos _ (shaped.weight w k).0)
    (first (f w) den told
    ∙ ap (λ z. den *ℤ z) (given-replaced a i v w g b l k)
    ∙ first den (f v) there
    ∙ ap (λ z. f v *ℤ z) (gain-by_odds a win pay whole den x i v w odds pays b k)
    ∙ ap (λ z. f v *ℤ (whole *ℤ (z *ℤ utility_in a x v w))) (sym (pos-*ℤ-pos (slice_index a.weights w) (total_weight a.weights ^ (a.bidders - 1))))
    ∙ second (f v) (f w) whole (others a) (utility_in a x v w)
    ∙ ap (λ z. f w *ℤ (whole *ℤ (z *ℤ utility_in a x v w))) (pos-*ℤ-pos (slice_index a.weights v) (total_weight a.weights ^ (a.bidders - 1))))
  where
    first : (x y z : ℤ) → x *ℤ (y *ℤ z) ≡ y *ℤ (x *ℤ z)
    first x y z = simp ring

    second : (x y m o u : ℤ) → x *ℤ (m *ℤ ((y *ℤ o) *ℤ u)) ≡ y *ℤ (m *ℤ ((x *ℤ o) *ℤ u))
    second x y m o u = simp ring

at_least_zero : (z : ℤ) → pos 1 ≤ℤ z → pos 0 ≤ℤ z
at_least_zero z l = omega (arith, ints)

-- Who wins and pays as a point says that keeps the conditions on truth and on taking part, gains on average nothing by telling
-- another value,
pub truthful-by_odds : (a : SymmetricAuction) (win pay : ℕ → List ℕ → ℤ) (whole den : ℤ) (x : ℕ → ℤ) (i v w : ℕ) → IsAuction a → pos 0 <ℤ den → pos 1 ≤ℤ whole → KeepsRows a x
    → WinsAs a win whole den (list_to (value_count a) x) → WinsAs a pay whole den (list_to (value_count a) (pay_in a x)) → i < a.bidders → v < value_count a → w < value_count a
    → weighted_given (general_of a) i v (λ t. gain_at a win pay v i (replaced t i w)) ≤ℤ weighted_given (general_of a) i v (gain_at a win pay v i)
truthful-by_odds a win pay whole den x i v w shaped positive some rows odds pays b l k =
    let s = general_of a in
    let g = gain_at a win pay v i in
    let f = pos (weight_given a v) in
    let less : (whole *ℤ (f *ℤ utility_in a x v w)) ≤ℤ (whole *ℤ (f *ℤ utility_in a x v v)) =
    *ℤ-le whole _ _ (at_least_zero whole some) (*ℤ-le f _ _ (nonneg_pos (weight_given a v)) (rows.truth v w l k)) in
    le_from_*ℤ den (weighted_given s i v (λ t. g (replaced t i w))) (weighted_given s i v g) positive
    (subst (λ z. z ≤ℤ (den *ℤ weighted_given s i v g)) (sym (told-by_odds a win pay whole den x i v w shaped odds pays b l k))
    (subst (λ z. (whole *ℤ (f *ℤ utility_in a x v w)) ≤ℤ z) (sym (gain-by_odds a win pay whole den x i v v odds pays b l)) less))

-- and loses on average nothing by taking part.
pub rational-by_odds : (a : SymmetricAuction) (win pay : ℕ → List ℕ → ℤ) (whole den : ℤ) (x : ℕ → ℤ) (i v : ℕ) → pos 0 <ℤ den → pos 1 ≤ℤ whole → KeepsRows a x
    → WinsAs a win whole den (list_to (value_count a) x) → WinsAs a pay whole den (list_to (value_count a) (pay_in a x)) → i < a.bidders → v < value_count a
    → pos 0 ≤ℤ weighted_given (general_of a) i v (gain_at a win pay v i)
rational-by_odds a win pay whole den x i v positive some rows odds pays b l =
    nonneg_from_*ℤ den (weighted_given (general_of a) i v (gain_at a win pay v i)) positive
    (subst (λ z. pos 0 ≤ℤ z) (sym (gain-by_odds a win pay whole den x i v v odds pays b l))
    (nonneg-*ℤ whole _ (at_least_zero whole some) (nonneg-*ℤ (pos (weight_given a v)) _ (nonneg_pos (weight_given a v)) (rows.rational v l))))

-- a mechanism whose bidders win and pay as a point says that keeps the conditions on truth and on taking part is admissible
pub sale-admits-rows : (a : SymmetricAuction) (sale : Sale) (is : IsSaleOf a sale) (m : Mechanism) (den : ℤ) (x : ℕ → ℤ) → IsAuction a → pos 0 <ℤ den → KeepsRows a x → IsMechanism sale.setting m
    → WinsAs a (sale.win m) m.den den (list_to (value_count a) x) → WinsAs a (paid_at sale m) m.den den (list_to (value_count a) (pay_in a x)) → IsAdmissible sale.setting m
sale-admits-rows a sale is m den x shaped positive rows mechanism odds pays = record {
  mechanism = mechanism;
  truthful = subst (λ (k : TruthKind). IsTruthfulBy k s m) (sym is.truth) truthful;
  rational = subst (λ (k : RationalKind). IsRationalBy k s m) (sym is.rational) rational;
  no_deficit = λ on. off_is_on is.no_deficit on;
}
  where
    s : GeneralSetting
    s = sale.setting

    off_is_on : {P : Type 0} {b : Bool} → b ≡ false → b ≡ true → P
    off_is_on e f = cc

    bidder : (i : ℕ) → i < agent_count s → i < a.bidders
    bidder i h = subst (λ n. i < n) is.agents h

    kind : (i v : ℕ) → i < a.bidders → v < slice_index (sizes_of s) i → v < value_count a
    kind i v b h = subst (λ k. v < k) (sale-kinds a sale is i b) h

    truthful : IsBayesTruth s m
    truthful i v w h l k =
        let b = bidder i h in
        let gain = gain_at a (sale.win m) (paid_at sale m) v i in
        subst (λ z. z ≤ℤ weighted_given s i v (λ t. expected_utility s m i t t)) (sym (gains-given a sale is m i v (λ t. replaced t i w) b))
        (subst (λ z. weighted_given (general_of a) i v (λ t. gain (replaced t i w)) ≤ℤ z) (sym (gains-given a sale is m i v (λ t. t) b))
        (truthful-by_odds a (sale.win m) (paid_at sale m) m.den den x i v w shaped positive mechanism.den rows odds pays b (kind i v b l) (kind i w b k)))

    rational : IsInterimRational s m
    rational i v h l =
        let b = bidder i h in
        subst (λ z. z ≤ℤ weighted_given s i v (λ t. expected_utility s m i t t)) (sym (nothing_outside a sale is m i v b))
        (subst (λ z. pos 0 ≤ℤ z) (sym (gains-given a sale is m i v (λ t. t) b))
        (rational-by_odds a (sale.win m) (paid_at sale m) m.den den x i v positive mechanism.den rows odds pays b (kind i v b l)))

pub sale-admits : (a : SymmetricAuction) (sale : Sale) (of : IsSaleOf a sale) (cuts : List ℕ) (p : Program) → IsAuction a → IsReducedProgram a sale.units cuts p → (m : Mechanism) (den : ℤ) (x : ℕ → ℤ) → Meets p den x
    → IsMechanism sale.setting m → WinsAs a (sale.win m) m.den den (interim_in a den x).odds → WinsAs a (paid_at sale m) m.den den (interim_in a den x).pays → IsAdmissible sale.setting m
sale-admits a sale of cuts p shaped is m den x meets = sale-admits-rows a sale of m den x shaped meets.point.positive (keeps-rows a sale.units cuts p den x is meets)

-- one item
pub admits-rows : (a : SymmetricAuction) (m : Mechanism) (den : ℤ) (x : ℕ → ℤ) → IsAuction a → pos 0 <ℤ den → KeepsRows a x → IsMechanism (general_of a) m
    → HasOdds a m den (list_to (value_count a) x) → HasPays a m den (list_to (value_count a) (pay_in a x)) → IsAdmissible (general_of a) m
admits-rows a m den x shaped positive rows mechanism odds pays =
    sale-admits-rows a (item_sale a) (item-sale a) m den x shaped positive rows mechanism (odds-as a m den (list_to (value_count a) x) odds) (pays-as a m den (list_to (value_count a) (pay_in a x)) pays)

pub admits : (a : SymmetricAuction) (cuts : List ℕ) (p : Program) → IsAuction a → IsReducedProgram a 1 cuts p → AdmitsPoints a p
admits a cuts p shaped is m den x meets mechanism odds pays = admits-rows a m den x shaped meets.point.positive (keeps-rows a 1 cuts p den x is meets) mechanism odds pays

-- ---- from a mechanism back to its odds and payments

given-positive : (a : SymmetricAuction) (v : ℕ) → IsAuction a → v < value_count a → 0 < weight_given a v
given-positive a v shaped l =
    mul-pos {m = slice_index a.weights v} {n = total_weight a.weights ^ (a.bidders - 1)} (shaped.weight v l).0 (others-positive a shaped)

-- where bidders gain on average nothing by telling another value, and lose nothing by taking part, the point by which they win
-- and pay keeps the conditions on truth and on taking part, as the first bidder shows
pub keeps-by_odds : (a : SymmetricAuction) (units : ℕ) (win pay : ℕ → List ℕ → ℤ) (whole den : ℤ) (x : ℕ → ℤ) → IsAuction a → pos 0 <ℤ den
    → WinsAs a win whole den (list_to (value_count a) x) → WinsAs a pay whole den (list_to (value_count a) (pay_in a x)) → IsAdmissibleOnAverage a units whole win pay → KeepsRows a x
keeps-by_odds a units win pay whole den x shaped positive odds pays averaged = record {
  truth = λ v w l k.
      let told = weighted_given s 0 v (λ t. gain_at a win pay v 0 (replaced t 0 w)) in
      let own = weighted_given s 0 v (gain_at a win pay v 0) in
      let less : (den *ℤ told) ≤ℤ (den *ℤ own) = *ℤ-le den told own (le_from_lt (pos 0) den positive) (averaged.truthful 0 v w first l k) in
      without v (utility_in a x v w) (utility_in a x v v) l
      (subst (λ z. z ≤ℤ (whole *ℤ (pos (weight_given a v) *ℤ utility_in a x v v))) (told-by_odds a win pay whole den x 0 v w shaped odds pays first l k)
      (subst (λ z. (den *ℤ told) ≤ℤ z) (gain-by_odds a win pay whole den x 0 v v odds pays first l) less));
  rational = λ v l.
      nonneg_from_*ℤ (pos (weight_given a v)) (utility_in a x v v) (positive_pos (weight_given a v) (given-positive a v shaped l))
      (nonneg_from_*ℤ whole (pos (weight_given a v) *ℤ utility_in a x v v) (above whole averaged.den_positive)
      (subst (λ z. pos 0 ≤ℤ z) (gain-by_odds a win pay whole den x 0 v v odds pays first l)
      (nonneg-*ℤ den (weighted_given s 0 v (gain_at a win pay v 0)) (le_from_lt (pos 0) den positive) (averaged.rational 0 v first l))));
}
  where
    s : GeneralSetting
    s = general_of a

    first : 0 < a.bidders
    first = shaped.some_bidder

    above : (z : ℤ) → pos 1 ≤ℤ z → pos 0 <ℤ z
    above z l = omega (arith, ints)

    without : (v : ℕ) (y z : ℤ) → v < value_count a → (whole *ℤ (pos (weight_given a v) *ℤ y)) ≤ℤ (whole *ℤ (pos (weight_given a v) *ℤ z)) → y ≤ℤ z
    without v y z l h =
        le_from_*ℤ (pos (weight_given a v)) y z (positive_pos (weight_given a v) (given-positive a v shaped l))
        (le_from_*ℤ whole (pos (weight_given a v) *ℤ y) (pos (weight_given a v) *ℤ z) (above whole averaged.den_positive) h)

-- the odds and the payments of an admissible mechanism keep them
pub rows-kept : (a : SymmetricAuction) (m : Mechanism) (den : ℤ) (x : ℕ → ℤ) → IsAuction a → pos 0 <ℤ den
    → HasOdds a m den (list_to (value_count a) x) → HasPays a m den (list_to (value_count a) (pay_in a x)) → IsAdmissible (general_of a) m → KeepsRows a x
rows-kept a m den x shaped positive odds pays admissible =
    keeps-by_odds a 1 ((item_sale a).win m) (paid_at (item_sale a) m) m.den den x shaped positive (odds-as a m den (list_to (value_count a) x) odds)
    (pays-as a m den (list_to (value_count a) (pay_in a x)) pays) (sale-on_average a (item_sale a) (item-sale a) m admissible)
