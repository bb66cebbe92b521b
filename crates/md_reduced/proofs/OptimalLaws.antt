-- A mechanism with the odds and payments of a greatest point of a reduced program is optimal over all mechanisms of the sale.
use Rattle.std.proofs.Common.{◌≡◌, ℕ, ◌*◌, ◌-◌, ◌<◌, ◌^◌, ℤ, pos, ◌+ℤ◌, ◌*ℤ◌, ◌≤ℤ◌, ◌<ℤ◌, List, sym, ap, ap₂, ◌∙◌, subst, arith, mul-pos}
use Rattle.std.specs.Prelude.{slice_index}
use Rattle.std.proofs.lemmas.Int.{ints}
use Rattle.std.proofs.Math.IntN.{pos-*ℤ-pos}
use Rattle.md_math.proofs.Builders.{get_or-list_to}
use Rattle.md_math.proofs.Order.{*ℤ-le, le_from_*ℤ, positive-*ℤ, positive_pos}
use Rattle.md_math.proofs.Ring.{ring}
use Rattle.md_math.proofs.SumLaws.{sum_to-same}
use Rattle.md_lp.specs.Program.{Program}
use Rattle.md_lp.specs.Point.{cost_sum}
use Rattle.md_lp.proofs.Dividing.{IsDivisorFor-positive}
use Rattle.md_cert.specs.Claims.{IsOptimalPoint}
use Rattle.md_cert.proofs.AffineLaws.{best-affine}
use Rattle.md_setting.specs.Auction.{SymmetricAuction, value_count, total_weight}
use Rattle.md_setting.specs.AuctionShaped.{IsAuction}
use Rattle.md_mech.specs.declared.mechanism.Mechanism.{Mechanism}
use Rattle.md_mech.specs.Admissible.{IsAdmissible}
use Rattle.md_mech.specs.Mechanism.{IsMechanism}
use Rattle.md_mech.specs.Optimal.{IsOptimal, worth_of}
use Rattle.md_border.specs.Odds.{WinsAs}
use Rattle.md_border.specs.Worth.{gains_of, surplus_of}
use Rattle.md_border.proofs.MechanismWorth.{others, power-of_all, worth_with, worth-of_wins}
use Rattle.md_border.proofs.Sales.{Sale, IsSaleOf, paid_at, item_sale, item-sale, odds-as, pays-as}
use Rattle.md_forms.specs.Forms.{unit}
use Rattle.md_reduced.specs.Averages.{averages, times_of}
use Rattle.md_reduced.specs.Mechanisms.{MakesOptimal, scale_of}
use Rattle.md_reduced.specs.Points.{interim_in}
use Rattle.md_reduced.specs.ProgramOf.{IsReducedProgram, column_count}
use Rattle.md_reduced.specs.Sides.{cost_of, pay_in}
use Rattle.md_reduced.proofs.AdmissibleLaws.{sale-admits, sale-stands}
use Rattle.md_reduced.proofs.AverageRows.{times-positive}
use Rattle.md_reduced.proofs.BuiltLaws.{costs-points}
use Rattle.md_reduced.proofs.PointLaws.{others-positive}

-- what a bidder gains at the odds and payments of a point is the cost of the point
gains-at : (a : SymmetricAuction) (den : ℤ) (x : ℕ → ℤ) → gains_of a (interim_in a den x) ≡ cost_of a x
gains-at a den x =
    sum_to-same (value_count a) _ _
    (λ v b. ap₂ (λ q z. pos (slice_index a.weights v) *ℤ (surplus_of a v *ℤ q +ℤ a.revenue *ℤ z))
    (get_or-list_to (value_count a) x v (pos 0) b) (get_or-list_to (value_count a) (pay_in a x) v (pos 0) b))

module _ (a : SymmetricAuction) (sale : Sale) (of : IsSaleOf a sale) (shaped : IsAuction a) (cuts : List ℕ) (p : Program) (is : IsReducedProgram a sale.units cuts p) (den : ℤ) (x : ℕ → ℤ) where
  abbrev power : ℤ
  power = pos (total_weight a.weights ^ a.bidders)

  abbrev worth : ℤ
  worth = worth_with a sale.kept (interim_in a den x)

  -- the worth of the odds and payments of a point is an affine function of the point's cost
  worth-at : others a *ℤ worth ≡ (sale.kept *ℤ power) *ℤ den +ℤ scale_of a p *ℤ cost_sum p x
  worth-at =
      ap (λ g. others a *ℤ (sale.kept *ℤ (pos (total_weight a.weights) *ℤ den) +ℤ pos a.bidders *ℤ g)) (gains-at a den x ∙ costs-points a sale.units cuts p is x)
      ∙ parts (others a) sale.kept (pos (total_weight a.weights)) den (pos a.bidders) p.factor (cost_sum p x)
      ∙ ap₂ (λ w s. (sale.kept *ℤ w) *ℤ den +ℤ (s *ℤ p.factor) *ℤ cost_sum p x) (sym (power-of_all a shaped.some_bidder)) (pos-*ℤ-pos a.bidders (total_weight a.weights ^ (a.bidders - 1)))
    where
      parts : (o k f d n r c : ℤ) → o *ℤ (k *ℤ (f *ℤ d) +ℤ n *ℤ (r *ℤ c)) ≡ (k *ℤ (f *ℤ o)) *ℤ d +ℤ ((n *ℤ o) *ℤ r) *ℤ c
      parts o k f d n r c = simp ring

  scale_up : pos 0 <ℤ scale_of a p
  scale_up =
      let some : 0 < a.bidders = omega (arith, shaped.some_bidder) in
      positive-*ℤ (pos (a.bidders * total_weight a.weights ^ (a.bidders - 1))) p.factor
      (positive_pos (a.bidders * total_weight a.weights ^ (a.bidders - 1)) (mul-pos some (others-positive a shaped)))
      (IsDivisorFor-positive (column_count a) (λ k. cost_of a (unit k)) p.factor is.has_cost.factor)

  module _ (greatest : IsOptimalPoint p den x) (m : Mechanism) (mechanism : IsMechanism sale.setting m)
      (odds : WinsAs a (sale.win m) m.den den (interim_in a den x).odds) (pays : WinsAs a (paid_at sale m) m.den den (interim_in a den x).pays) where
    no_better : (other : Mechanism) → IsAdmissible sale.setting other → (worth_of sale.setting other *ℤ m.den) ≤ℤ (worth_of sale.setting m *ℤ other.den)
    no_better other admissible =
        let s = sale.setting in
        let less : (worth_of s other *ℤ den) ≤ℤ ((others a *ℤ worth) *ℤ other.den) =
        best-affine p den x greatest (sale.kept *ℤ power) (scale_of a p) (pos (times_of a)) (others a *ℤ worth) scale_up (positive_pos (times_of a) (times-positive a shaped)) worth-at other.den
        (averages a (sale.win other) (paid_at sale other)) (worth_of s other) (sale-stands a sale of cuts p shaped is other admissible) in
        let own : den *ℤ worth_of s m ≡ (m.den *ℤ others a) *ℤ worth = worth-of_wins a sale m (interim_in a den x) shaped of mechanism odds pays in
        le_from_*ℤ den (worth_of s other *ℤ m.den) (worth_of s m *ℤ other.den) greatest.meets.point.positive
        (subst (λ z. (den *ℤ (worth_of s other *ℤ m.den)) ≤ℤ z) (second m.den (others a) worth other.den ∙ ap (λ z. z *ℤ other.den) (sym own) ∙ third den (worth_of s m) other.den)
        (subst (λ z. z ≤ℤ (m.den *ℤ ((others a *ℤ worth) *ℤ other.den))) (first m.den (worth_of s other) den)
        (*ℤ-le m.den (worth_of s other *ℤ den) ((others a *ℤ worth) *ℤ other.den) (some m.den mechanism.den) less)))
      where
        some : (z : ℤ) → pos 1 ≤ℤ z → pos 0 ≤ℤ z
        some z l = omega (arith, ints, l)

        first : (e w d : ℤ) → e *ℤ (w *ℤ d) ≡ d *ℤ (w *ℤ e)
        first e w d = simp ring

        second : (e o w d : ℤ) → e *ℤ ((o *ℤ w) *ℤ d) ≡ ((e *ℤ o) *ℤ w) *ℤ d
        second e o w d = simp ring

        third : (d w e : ℤ) → (d *ℤ w) *ℤ e ≡ d *ℤ (w *ℤ e)
        third d w e = simp ring

    pub sale-optimal : IsOptimal sale.setting m
    sale-optimal = record { admissible = sale-admits a sale of cuts p shaped is m den x greatest.meets mechanism odds pays; best = no_better }

-- one item
pub makes-optimal : (a : SymmetricAuction) (cuts : List ℕ) (p : Program) → IsAuction a → IsReducedProgram a 1 cuts p → MakesOptimal a p
makes-optimal a cuts p shaped is m den x greatest mechanism odds pays =
    sale-optimal a (item_sale a) (item-sale a) shaped cuts p is den x greatest m mechanism (odds-as a m den (interim_in a den x).odds odds) (pays-as a m den (interim_in a den x).pays pays)
