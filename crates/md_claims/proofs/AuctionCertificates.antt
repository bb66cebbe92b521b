-- What is certified of a point of an auction's reduced program is certified of the point of its odds and payments.
use Rattle.std.proofs.Common.{◌≡◌, ℕ, ◌+◌, ◌*◌, ◌<◌, ℤ, pos, ◌+ℤ◌, ◌-ℤ◌, ◌*ℤ◌, ◌≤ℤ◌, neg_ℤ, if◌then◌else◌, List, All, get_or, sym, ap, ap₂, ◌∙◌, subst, arith}
use Rattle.std.specs.Prelude.{slice_index}
use Rattle.std.proofs.lemmas.List.Elements.{All-get_or}
use Rattle.md_math.specs.Lists.{number_at}
use Rattle.md_math.specs.Sets.{member}
use Rattle.md_math.proofs.Builders.{get_or-list_to}
use Rattle.md_math.proofs.Order.{*ℤ_cancel}
use Rattle.md_math.proofs.SumLaws.{sum_to-same}
use Rattle.md_lp.specs.Program.{Program}
use Rattle.md_lp.specs.Point.{IsPoint, Meets, cost_sum}
use Rattle.md_lp.proofs.Dividing.{IsDivisorFor-positive}
use Rattle.md_cert.specs.Certified.{Certified, IsOptimalCertified}
use Rattle.md_cert.specs.declared.bound.Bound.{Bound}
use Rattle.md_cert.specs.declared.certificate.Certificate.TheVariants.{Optimal}
use Rattle.md_setting.specs.Auction.{SymmetricAuction, value_count}
use Rattle.md_border.specs.Odds.{IsInterim, weight_given}
use Rattle.md_border.specs.Worth.{surplus_of}
use Rattle.md_reduced.specs.Conditions.{conditions_of}
use Rattle.md_reduced.specs.Points.{interim_in}
use Rattle.md_reduced.specs.ProgramOf.{IsReducedProgram}
use Rattle.md_reduced.specs.Sides.{cost_of, demands_of, left_side, pay_in, right_side, utility_in}
use Rattle.md_reduced.proofs.AverageRows.{all-conditions}
use Rattle.md_reduced.proofs.BuiltLaws.{costs-points, meets-conditions}
use Rattle.md_claims.specs.AuctionCertificates.{auction_certificate, point_of}
use Rattle.md_claims.proofs.AuctionPoints.{odds-at, pay-at, point-length, point-nonneg}

-- the same odds, and the same payments
record IsSameInterim (a : SymmetricAuction) (x y : ℕ → ℤ) : Type 0 where
  pub odds : (v : ℕ) → v < value_count a → x v ≡ y v
  pub pay : (v : ℕ) → v < value_count a → pay_in a x v ≡ pay_in a y v

-- ---- rows and costs look at nothing else

module _ (a : SymmetricAuction) (x y : ℕ → ℤ) (same : IsSameInterim a x y) where
  utility-same : (v w : ℕ) → w < value_count a → utility_in a x v w ≡ utility_in a y v w
  utility-same v w b = ap₂ (λ q p. number_at a.values v *ℤ q -ℤ p) (same.odds w b) (same.pay w b)

  demands-same : (set : ℕ) → demands_of a x set ≡ demands_of a y set
  demands-same set =
      sum_to-same (value_count a) (λ v. if member set v then pos (a.bidders * weight_given a v) *ℤ x v else pos 0) (λ v. if member set v then pos (a.bidders * weight_given a v) *ℤ y v else pos 0)
      (λ v b. ap (λ z. if member set v then pos (a.bidders * weight_given a v) *ℤ z else pos 0) (same.odds v b))

  sides-same : (cuts : List ℕ) → All (λ c. left_side a c x ≡ left_side a c y) (conditions_of (value_count a) cuts)
  sides-same cuts =
      all-conditions (λ c. left_side a c x ≡ left_side a c y) (value_count a) cuts
      (λ v w l k. ap₂ (λ t u. t -ℤ u) (utility-same v w k) (utility-same v v l))
      (λ v l. ap neg_ℤ (utility-same v v l))
      demands-same

  cost-same : cost_of a x ≡ cost_of a y
  cost-same =
      sum_to-same (value_count a) (λ v. pos (slice_index a.weights v) *ℤ (surplus_of a v *ℤ x v +ℤ a.revenue *ℤ pay_in a x v))
      (λ v. pos (slice_index a.weights v) *ℤ (surplus_of a v *ℤ y v +ℤ a.revenue *ℤ pay_in a y v))
      (λ v b. ap₂ (λ q p. pos (slice_index a.weights v) *ℤ (surplus_of a v *ℤ q +ℤ a.revenue *ℤ p)) (same.odds v b) (same.pay v b))

  module _ (units : ℕ) (cuts : List ℕ) (p : Program) (is : IsReducedProgram a units cuts p) where
    -- a point with the odds and payments of one that meets the program meets it
    meets-same : (den : ℤ) → Meets p den x → IsPoint p den y → Meets p den y
    meets-same den meets point =
        (meets-conditions a units cuts p is den y point).1
        (λ k c b.
        let condition = get_or (conditions_of (value_count a) cuts) k c in
        subst (λ z. z ≤ℤ (den *ℤ right_side a units condition)) (sides-same cuts k c b) ((meets-conditions a units cuts p is den x meets.point).0 meets k c b))

    -- and costs the same
    cost_sum-same : cost_sum p x ≡ cost_sum p y
    cost_sum-same =
        *ℤ_cancel p.factor (cost_sum p x) (cost_sum p y) (IsDivisorFor-positive _ _ p.factor is.has_cost.factor)
        (sym (costs-points a units cuts p is x) ∙ cost-same ∙ costs-points a units cuts p is y)

    -- so that what is certified of the one point is certified of the other
    certified-same : (den over : ℤ) (main face : ℕ → ℤ) → IsPoint p den y → IsOptimalCertified p den x over main face → IsOptimalCertified p den y over main face
    certified-same den over main face point c = record {
      meets = meets-same den c.meets point;
      positive = c.positive;
      pairs = c.pairs;
      columns = c.columns;
      face_right = c.face_right;
      main_right = c.main_right ∙ ap (λ z. over *ℤ z) cost_sum-same;
    }

-- ---- the point of the odds and payments of a point

module _ (a : SymmetricAuction) (den : ℤ) (xs : List ℤ) (fits : IsInterim a (interim_in a den (number_at xs))) where
  same-there : IsSameInterim a (number_at xs) (number_at (point_of (interim_in a den (number_at xs))))
  same-there =
      let interim = interim_in a den (number_at xs) in
      record {
        odds = λ v b. sym (odds-at a interim v fits b ∙ get_or-list_to (value_count a) (number_at xs) v (pos 0) b);
        pay = λ v b. sym (pay-at a interim v fits b ∙ get_or-list_to (value_count a) (pay_in a (number_at xs)) v (pos 0) b);
      }

  -- it is certified by the same bound
  pub certified-at_interim : (units : ℕ) (cuts : List ℕ) (p : Program) (bound : Bound) → IsReducedProgram a units cuts p → Certified p (Optimal den xs bound) → Certified p (auction_certificate (interim_in a den (number_at xs)) bound)
  certified-at_interim units cuts p bound is c =
      let interim = interim_in a den (number_at xs) in
      certified-same a (number_at xs) (number_at (point_of interim)) same-there units cuts p is den bound.den (number_at bound.main) (number_at bound.face)
      (record { positive = c.meets.point.positive; nonneg = λ j b. All-get_or (λ z. pos 0 ≤ℤ z) (point_of interim) j (pos 0) (omega (arith, b, is.columns, point-length a interim fits)) (point-nonneg a interim fits) })
      c
