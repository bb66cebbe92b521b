-- What is expected of a mechanism of a sale is what its odds and payments say.
use Rattle.std.proofs.Common.{◌≡◌, ℕ, ◌-◌, ◌^◌, ◌<◌, ℤ, pos, ◌*ℤ◌, ◌≤ℤ◌, ◌<ℤ◌, if◌then◌else◌, List, sym, ap, ◌∙◌, arith}
use Rattle.std.specs.Prelude.{slice_index}
use Rattle.std.proofs.lemmas.Int.{ints}
use Rattle.std.proofs.Math.IntN.{pos-*ℤ-pos}
use Rattle.md_math.specs.Divisors.{IsLeastTerms}
use Rattle.md_math.specs.Lists.{number_at}
use Rattle.md_math.specs.Sums.{sum_to, total_by}
use Rattle.md_math.proofs.Order.{*ℤ_cancel}
use Rattle.md_math.proofs.Ring.{ring, *ℤ_assoc, *ℤ_left_comm, one-*ℤ}
use Rattle.md_math.proofs.SumLaws.{sum_to-same, sum_to-*ℤ, sum_to-constant}
use Rattle.md_num.specs.declared.frac.Frac.{Frac}
use Rattle.md_space.specs.AllProfiles.{profiles_of}
use Rattle.md_space.specs.Profiles.{IsProfile}
use Rattle.md_space.proofs.TypeSums.{total-same, total_given-same}
use Rattle.md_setting.specs.Auction.{SymmetricAuction, value_count, total_weight}
use Rattle.md_setting.specs.AuctionShaped.{IsAuction}
use Rattle.md_setting.specs.General.{general_of}
use Rattle.md_setting.specs.Meaning.{outcome_count, sizes_of, total_of, utility_of, weight_of}
use Rattle.md_setting.proofs.GeneralLaws.{total_of-general}
use Rattle.md_mech.specs.declared.mechanism.Mechanism.{Mechanism}
use Rattle.md_mech.specs.Mechanism.{IsMechanism, chance_of, pay_of}
use Rattle.md_mech.specs.Utility.{weighted_given}
use Rattle.md_border.specs.declared.interim.Interim.{Interim}
use Rattle.md_border.specs.Odds.{IsInterim, WinsAs, weight_given}
use Rattle.md_border.proofs.ByValues.{given-*ℤ, over_bidders}
use Rattle.md_border.proofs.MechanismWorth.{chosen-turned, has-values, others, power-of_all, value-of_wins, worth_with}
use Rattle.md_border.proofs.Sales.{Sale, IsSaleOf, paid_at, sale-total, item_sale, item-sale, odds-as, pays-as}
use Rattle.md_winners.proofs.UnitSales.{unit_sale, unit-sale, unit-odds-as, unit-pays-as}
use Rattle.md_unit_tables.proofs.FurtherUnits.{worth-of_one}
use Rattle.md_report.specs.Averages.{weighted, IsRevenue, IsWelfare}
use Rattle.md_report.specs.Ratio.{IsRatio}
use Rattle.md_report.specs.Regret.{lottery_at, payments_at, welfare_at}
use Rattle.md_answer.specs.declared.supply.Supply.{Supply}
use Rattle.md_answer.specs.declared.supply.Supply.TheVariants.{Item, Units}
use Rattle.md_answer.specs.Supplies.{units_in}
use Rattle.md_auction_report.specs.declared.auction_report.AuctionReport.{AuctionReport}
use Rattle.md_auction_report.specs.Averages.{by_weight, of_all, IsRevenue as IsToldRevenue, IsWelfare as IsToldWelfare}
use Rattle.md_auction_report.specs.Mechanisms.{TellsExpected, TellsMechanisms}
use Rattle.md_auction_report.specs.ReportOf.{IsAuctionReportOf}

-- ---- what bidders have of any functions of the bidder and of the profile, times a number of its value

abbrev pub all_at : SymmetricAuction → (ℕ → ℤ) → (ℕ → List ℕ → ℤ) → List ℕ → ℤ
all_at a c f t = sum_to a.bidders (λ i. c (slice_index t i) *ℤ f i t)

module _ (a : SymmetricAuction) (c : ℕ → ℤ) (f : ℕ → List ℕ → ℤ) where
  -- value by value
  by_values : weighted (general_of a) (all_at a c f) ≡ sum_to (value_count a) (λ v. sum_to a.bidders (λ i. c v *ℤ weighted_given (general_of a) i v (f i)))
  by_values =
      let n = a.bidders in
      let s = general_of a in
      total-same (sizes_of s) _ (λ t. sum_to n (λ i. weight_of s t *ℤ (c (slice_index t i) *ℤ f i t)))
      (λ t p. sym (sum_to-*ℤ n (weight_of s t) (λ i. c (slice_index t i) *ℤ f i t)))
      ∙ over_bidders a (λ i t. weight_of s t *ℤ (c (slice_index t i) *ℤ f i t))
      ∙ sum_to-same (value_count a) _ _
      (λ v l. sum_to-same n _ _
      (λ i b.
      total_given-same (sizes_of s) i v _ (λ t. weight_of s t *ℤ (c v *ℤ f i t)) (λ t p e. ap (λ u. weight_of s t *ℤ (c u *ℤ f i t)) e)
      ∙ given-*ℤ s i v (c v) (f i)))

  -- by what the averages are
  pub by_averages : (whole den : ℤ) (numbers : List ℤ) → WinsAs a f whole den numbers
      → den *ℤ weighted (general_of a) (all_at a c f) ≡ (whole *ℤ others a) *ℤ of_all a (λ v. c v *ℤ number_at numbers v)
  by_averages whole den numbers average =
      let n = a.bidders in
      let kinds = value_count a in
      let has = λ (i v : ℕ). weighted_given (general_of a) i v (f i) in
      let part = λ (v : ℕ). c v *ℤ number_at numbers v in
      ap (λ z. den *ℤ z) by_values
      ∙ sym (sum_to-*ℤ kinds den (λ v. sum_to n (λ i. c v *ℤ has i v)))
      ∙ sum_to-same kinds _ (λ v. ((whole *ℤ others a) *ℤ pos n) *ℤ (pos (slice_index a.weights v) *ℤ part v))
      (λ v l.
      sym (sum_to-*ℤ n den (λ i. c v *ℤ has i v))
      ∙ sum_to-same n _ (λ _. whole *ℤ (pos (weight_given a v) *ℤ part v))
      (λ i b. *ℤ_left_comm den (c v) (has i v) ∙ ap (λ z. c v *ℤ z) (average.wins i v b l) ∙ first (c v) whole (pos (weight_given a v)) (number_at numbers v))
      ∙ sum_to-constant n (whole *ℤ (pos (weight_given a v) *ℤ part v))
      ∙ ap (λ z. pos n *ℤ (whole *ℤ (z *ℤ part v))) (sym (pos-*ℤ-pos (slice_index a.weights v) (total_weight a.weights ^ (n - 1))))
      ∙ second (pos n) whole (pos (slice_index a.weights v)) (others a) (part v))
      ∙ sum_to-*ℤ kinds ((whole *ℤ others a) *ℤ pos n) (λ v. pos (slice_index a.weights v) *ℤ part v)
      ∙ *ℤ_assoc (whole *ℤ others a) (pos n) (by_weight a part)
    where
      first : (x m g q : ℤ) → x *ℤ (m *ℤ (g *ℤ q)) ≡ m *ℤ (g *ℤ (x *ℤ q))
      first x m g q = simp ring

      second : (n m f o g : ℤ) → n *ℤ (m *ℤ ((f *ℤ o) *ℤ g)) ≡ ((m *ℤ o) *ℤ n) *ℤ (f *ℤ g)
      second n m f o g = simp ring

-- ---- the mechanisms of a sale with some odds and payments

module _ (a : SymmetricAuction) (sale : Sale) (is : IsSaleOf a sale) (m : Mechanism) (interim : Interim) (shaped : IsAuction a) (positive : pos 1 ≤ℤ interim.den) where
  -- the profiles and their weights are those of one item
  weighted-sale : (f : List ℕ → ℤ) → weighted sale.setting f ≡ weighted (general_of a) f
  weighted-sale f =
      ap (λ sizes. total_by (λ t. weight_of sale.setting t *ℤ f t) (profiles_of sizes)) is.sizes
      ∙ total-same (sizes_of (general_of a)) (λ t. weight_of sale.setting t *ℤ f t) (λ t. weight_of (general_of a) t *ℤ f t) (λ t p. ap (λ w. w *ℤ f t) (is.weight t))

  -- a fraction of the odds and payments is one of the mechanism
  same-ratio : (over part : ℤ) (value : Frac) → interim.den *ℤ over ≡ (m.den *ℤ others a) *ℤ part
      → IsRatio part (pos (total_weight a.weights) *ℤ interim.den) value → IsRatio over (m.den *ℤ total_of sale.setting) value
  same-ratio over part value same ratio =
      let d = interim.den in
      record {
        is_ratio =
            *ℤ_cancel d (value.num *ℤ (m.den *ℤ total_of sale.setting)) (over *ℤ value.den) (some d positive)
            (ap (λ z. d *ℤ (value.num *ℤ (m.den *ℤ z))) (sale-total a sale is ∙ total_of-general a shaped.one_each ∙ power-of_all a shaped.some_bidder)
            ∙ first d value.num m.den (pos (total_weight a.weights)) (others a)
            ∙ ap (λ z. (m.den *ℤ others a) *ℤ z) ratio.is_ratio
            ∙ sym (*ℤ_assoc (m.den *ℤ others a) part value.den)
            ∙ ap (λ z. z *ℤ value.den) (sym same)
            ∙ *ℤ_assoc d over value.den);
        least = ratio.least;
      }
    where
      some : (z : ℤ) → pos 1 ≤ℤ z → pos 0 <ℤ z
      some z l = omega (arith, ints)

      first : (d x m f o : ℤ) → d *ℤ (x *ℤ (m *ℤ (f *ℤ o))) ≡ (m *ℤ o) *ℤ (x *ℤ (f *ℤ d))
      first d x m f o = simp ring

  paid : weighted sale.setting (payments_at sale.setting m) ≡ weighted (general_of a) (all_at a (λ _. pos 1) (paid_at sale m))
  paid =
      let s = sale.setting in
      weighted-sale (payments_at s m)
      ∙ total-same (sizes_of (general_of a)) _ _
      (λ t p.
      ap (λ z. weight_of (general_of a) t *ℤ z)
      (ap (λ n. sum_to n (λ i. pay_of s m i t)) is.agents ∙ sum_to-same a.bidders _ (λ i. pos 1 *ℤ pay_of s m i t) (λ i b. sym (one-*ℤ (pay_of s m i t)))))

  pub revenue-of : (value : Frac) → WinsAs a (paid_at sale m) m.den interim.den interim.pays → IsToldRevenue a interim value → IsRevenue sale.setting m value
  revenue-of value pays ratio =
      same-ratio (weighted sale.setting (payments_at sale.setting m)) (of_all a (number_at interim.pays)) value
      (ap (λ z. interim.den *ℤ z) paid
      ∙ by_averages a (λ _. pos 1) (paid_at sale m) m.den interim.den interim.pays pays
      ∙ ap (λ z. (m.den *ℤ others a) *ℤ (pos a.bidders *ℤ z))
      (sum_to-same (value_count a) _ (λ v. pos (slice_index a.weights v) *ℤ number_at interim.pays v)
      (λ v l. ap (λ z. pos (slice_index a.weights v) *ℤ z) (one-*ℤ (number_at interim.pays v)))))
      ratio

  -- a bidder expects its value as often as it gets a unit
  lottery-of : (t : List ℕ) (i : ℕ) → IsProfile (sizes_of (general_of a)) t → i < a.bidders
      → lottery_at sale.setting m i t ≡ number_at a.values (slice_index t i) *ℤ sale.win m i t
  lottery-of t i p b =
      let s = sale.setting in
      let value = number_at a.values (slice_index t i) in
      let chance = chance_of s m t in
      sum_to-same (outcome_count s) (λ o. chance o *ℤ utility_of s i t o) (λ o. value *ℤ (if sale.gets o i then chance o else pos 0))
      (λ o l. ap (λ z. chance o *ℤ z) (is.utility i t o b ((has-values a t p).value i b) l) ∙ chosen-turned (sale.gets o i) (chance o) value)
      ∙ sum_to-*ℤ (outcome_count s) value (λ o. if sale.gets o i then chance o else pos 0)
      ∙ ap (λ z. value *ℤ z) (sym (is.wins m i t b))

  won : weighted sale.setting (welfare_at sale.setting m) ≡ weighted (general_of a) (all_at a (number_at a.values) (sale.win m))
  won =
      let s = sale.setting in
      weighted-sale (welfare_at s m)
      ∙ total-same (sizes_of (general_of a)) _ _
      (λ t p.
      ap (λ z. weight_of (general_of a) t *ℤ z)
      (ap (λ n. sum_to n (λ i. lottery_at s m i t)) is.agents
      ∙ sum_to-same a.bidders _ (λ i. number_at a.values (slice_index t i) *ℤ sale.win m i t) (λ i b. lottery-of t i p b)))

  pub welfare-of : (value : Frac) → WinsAs a (sale.win m) m.den interim.den interim.odds → IsToldWelfare a interim value → IsWelfare sale.setting m value
  welfare-of value odds ratio =
      same-ratio (weighted sale.setting (welfare_at sale.setting m)) (of_all a (λ v. number_at a.values v *ℤ number_at interim.odds v)) value
      (ap (λ z. interim.den *ℤ z) won ∙ by_averages a (number_at a.values) (sale.win m) m.den interim.den interim.odds odds)
      ratio

  -- what is told of the odds and payments is so of the mechanism
  sale-told : (report : AuctionReport) → IsMechanism sale.setting m → WinsAs a (sale.win m) m.den interim.den interim.odds → WinsAs a (paid_at sale m) m.den interim.den interim.pays
      → report.value.num *ℤ (pos (total_weight a.weights) *ℤ interim.den) ≡ worth_with a sale.kept interim *ℤ report.value.den → IsLeastTerms report.value.num report.value.den
      → IsToldRevenue a interim report.revenue → IsToldWelfare a interim report.welfare → TellsExpected sale.setting m report
  sale-told report mechanism odds pays worth least revenue welfare = record {
    value = record { is_value = value-of_wins a sale m interim shaped is mechanism odds pays report.value positive worth; least = least };
    revenue = revenue-of report.revenue pays revenue;
    welfare = welfare-of report.welfare odds welfare;
  }

-- a report on the odds and payments tells what one on the mechanism would tell
pub mechanisms-told : (supply : Supply) (a : SymmetricAuction) (interim : Interim) (cuts : List ℕ) (report : AuctionReport) → IsAuction a → IsInterim a interim
    → IsAuctionReportOf a (units_in supply) interim cuts report → TellsMechanisms supply a interim report
mechanisms-told Item a interim cuts report shaped fits is m mechanism odds pays =
    sale-told a (item_sale a) (item-sale a) m interim shaped fits.den_positive report mechanism
    (odds-as a m interim.den interim.odds odds) (pays-as a m interim.den interim.pays pays)
    (worth-of_one a interim report.value is.value.has_worth) is.value.least is.revenue is.welfare
mechanisms-told (Units units) a interim cuts report shaped fits is m mechanism odds pays =
    sale-told a (unit_sale a units) (unit-sale a units) m interim shaped fits.den_positive report mechanism
    (unit-odds-as a units m interim.den interim.odds odds) (unit-pays-as a units m interim.den interim.pays pays)
    is.value.has_worth is.value.least is.revenue is.welfare
