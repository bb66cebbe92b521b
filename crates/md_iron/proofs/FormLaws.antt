-- What a closed form says, for any number of units: what it has, that its multipliers are a certificate, and that it is best.
use Rattle.std.proofs.Common.{◌≡◌, ℕ, ◌-◌, ◌^◌, ◌<◌, ℤ, pos, ◌*ℤ◌, ◌≤ℤ◌, List, ◌++◌, length, map, sym, ap, ap₂, subst, ◌∙◌, arith}
use Rattle.std.proofs.lemmas.List.{length-map}
use Rattle.md_math.specs.Lists.{number_at}
use Rattle.md_math.specs.Sizes.{IsWithin}
use Rattle.md_math.proofs.Builders.{length-list_to, get_or-list_to}
use Rattle.md_math.proofs.SizeLaws.{IsWithin-zero}
use Rattle.md_setting.specs.Auction.{SymmetricAuction, value_count}
use Rattle.md_setting.specs.AuctionShaped.{IsAuction}
use Rattle.md_mech.specs.declared.mechanism.Mechanism.{Mechanism}
use Rattle.md_mech.specs.Mechanism.{IsMechanism}
use Rattle.md_mech.specs.Optimal.{IsOptimal}
use Rattle.md_border.specs.declared.interim.Interim.{Interim}
use Rattle.md_border.specs.Odds.{IsInterim}
use Rattle.md_lp.specs.Cuts.{AreCuts}
use Rattle.md_lp.specs.Program.{Program, row_count}
use Rattle.md_winners.specs.Odds.{HasUnitOdds, HasUnitPays, MeetsUnitBorder}
use Rattle.md_winners.specs.Setting.{units_of}
use Rattle.md_cert.specs.declared.bound.Bound.{Bound}
use Rattle.md_cert.specs.declared.certificate.Certificate.TheVariants.{Optimal}
use Rattle.md_cert.specs.Certified.{Certified}
use Rattle.md_reduced.specs.Averages.{plus_part, minus_part}
use Rattle.md_reduced.specs.Conditions.{conditions_of}
use Rattle.md_reduced.specs.ProgramOf.{IsReducedProgram}
use Rattle.md_parts.specs.Fitting.{IsBoundOver}
use Rattle.md_claims.specs.AuctionCertificates.{auction_certificate, point_of}
use Rattle.md_iron_values.specs.Pools.{Pools}
use Rattle.md_iron_values.specs.Odds.{pay_by}
use Rattle.md_iron_values.specs.Cuts.{cuts_of}
use Rattle.md_iron_laws.specs.Closed.{closed_point}
use Rattle.md_iron_laws.specs.Rows.{rows_of}
use Rattle.md_iron_laws.proofs.Lists.{closed-certified}
use Rattle.md_iron_laws.proofs.Printed.{pays-bounds, printed-point}
use Rattle.md_iron_pools.proofs.CutLists.{AreCuts-cuts_of}
use Rattle.md_iron_pools.proofs.InterimLaws.{closed-fits}
use Rattle.md_threshold_laws.proofs.ClosedInterims.{are-odds, odds-listed, interim-border, interim-optimal}
use Rattle.md_iron.specs.ClosedForms.{IsClosedForm, PaysWithinValue}
use Rattle.md_iron.specs.ShortBounds.{IsBoundIn}
use Rattle.md_iron.proofs.BoundLaws.{rows-count}
use Rattle.md_iron.proofs.ConditionRows.{condition_in, conditions-rows}

-- the multipliers are as many as there are rows, and small
bound-over : (a : SymmetricAuction) (units : ℕ) (pools : Pools) (p : Program) (bound : Bound) (rows : ℕ) → IsBoundIn a units pools p bound → row_count p ≡ rows → IsBoundOver rows bound
bound-over a units pools p bound rows is count = record {
  den = record { positive = is.short.multipliers.positive; size = is.den_short };
  main = record {
    one_each = is.one_each ∙ count;
    sizes = record { at = λ k b. is.short.short k (omega (arith, b, is.one_each)) };
  };
  face = record {
    one_each = ap length is.face_is ∙ length-list_to (row_count p) (λ _. pos 0) ∙ count;
    sizes = record {
      at = λ k b.
          let inside : k < row_count p = omega (arith, b, ap length is.face_is, length-list_to (row_count p) (λ (i : ℕ). pos 0)) in
          subst (IsWithin (2 ^ 62 - 1)) (sym (ap (λ xs. number_at xs k) is.face_is ∙ get_or-list_to (row_count p) (λ _. pos 0) k (pos 0) inside)) (IsWithin-zero (2 ^ 62 - 1));
    };
  };
}

module _ (a : SymmetricAuction) (units : ℕ) (interim : Interim) (cuts : List ℕ) (bound : Bound) (shaped : IsAuction a) (h : IsClosedForm a units interim cuts bound) where
  abbrev q : ℕ → ℤ
  q = number_at interim.odds

  -- ---- what it has

  pub form-fits : IsInterim a interim
  form-fits = closed-fits a units h.pools interim shaped h.by_rule.pooled h.interim_is

  -- no set of values asks for more units than there are
  pub form-border : MeetsUnitBorder a units interim
  form-border = interim-border a units h.pools shaped h.by_rule.pooled interim h.interim_is

  -- each value pays from nothing to what a unit is worth to it
  pub form-pays : PaysWithinValue a interim
  form-pays =
      let bounds = pays-bounds a units h.pools interim.den (number_at interim.odds) shaped (are-odds a units h.pools shaped h.by_rule.pooled interim h.interim_is) in
      record {
        nonneg = λ v b. subst (λ z. pos 0 ≤ℤ z) (sym (paid v b)) (bounds v b).0;
        at_most = λ v b. subst (λ z. z ≤ℤ (number_at a.values v *ℤ number_at interim.odds v)) (sym (paid v b)) (bounds v b).1;
      }
    where
      paid : (v : ℕ) → v < value_count a → number_at interim.pays v ≡ pay_by (number_at a.values) (number_at interim.odds) v
      paid v b = ap (λ xs. number_at xs v) h.interim_is.pays_are ∙ get_or-list_to (value_count a) (pay_by (number_at a.values) (number_at interim.odds)) v (pos 0) b

  pub form-cuts : AreCuts (value_count a) cuts
  form-cuts = subst (AreCuts (value_count a)) (sym h.cuts_are) (AreCuts-cuts_of (value_count a) h.pools)

  pub form-bound : IsBoundOver (length (conditions_of (value_count a) cuts)) bound
  form-bound = bound-over a units h.pools h.bound_is.program bound (length (conditions_of (value_count a) cuts)) (h.bound_is.holds h.bound_is.program h.bound_is.is_program) count
    where
      count : row_count h.bound_is.program ≡ length (conditions_of (value_count a) cuts)
      count =
          rows-count a units h.pools h.bound_is.program h.bound_is.is_program
          ∙ sym (length-map (rows_of (value_count a) h.pools) (condition_in (value_count a)))
          ∙ ap length (sym (ap (conditions_of (value_count a)) h.cuts_are ∙ conditions-rows (value_count a) h.pools))

  -- ---- what it shows

  point-is : point_of interim ≡ closed_point a q
  point-is =
      ap₂ (λ odds pays. odds ++ (map plus_part pays ++ map minus_part pays)) (sym (odds-listed a units h.pools shaped h.by_rule.pooled interim h.interim_is)) h.interim_is.pays_are
      ∙ printed-point a units h.pools interim.den (number_at interim.odds) shaped (are-odds a units h.pools shaped h.by_rule.pooled interim h.interim_is)

  -- the multipliers with its point are a certificate
  pub form-certified : 0 < units → (p : Program) → IsReducedProgram a units cuts p → Certified p (auction_certificate interim bound)
  form-certified some p program =
      let is_program : IsReducedProgram a units (cuts_of (value_count a) h.pools) p = subst (λ xs. IsReducedProgram a units xs p) h.cuts_are program in
      let is = h.bound_is.holds p is_program in
      subst (λ point. Certified p (Optimal interim.den point bound)) (sym point-is)
      (closed-certified a units h.pools p interim.den (number_at interim.odds) is.divisor bound shaped some h.by_rule.pooled (are-odds a units h.pools shaped h.by_rule.pooled interim h.interim_is) is_program is.short.multipliers
      (λ r b. ap (λ xs. number_at xs r) is.face_is ∙ get_or-list_to (row_count p) (λ _. pos 0) r (pos 0) b))

  -- each mechanism with its odds and payments is best
  pub form-optimal : (m : Mechanism) → IsMechanism (units_of a units) m → HasUnitOdds a units m interim.den interim.odds → HasUnitPays a units m interim.den interim.pays → IsOptimal (units_of a units) m
  form-optimal = interim-optimal a units h.pools shaped h.by_rule.pooled interim h.interim_is
