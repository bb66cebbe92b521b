-- An auction has one closed form, or none since its multipliers are too long.
use Rattle.std.proofs.Common.{◌≡◌, ℕ, ◌<◌, ℤ, pos, ◌*ℤ◌, ◌<ℤ◌, List, sym, ap, ap₂, subst, ◌∙◌, arith}
use Rattle.md_math.specs.Divisors.{IsLeastTerms}
use Rattle.md_math.specs.Lists.{number_at}
use Rattle.md_math.proofs.Fractions.{same_from_IsLeastTerms}
use Rattle.md_math.proofs.Order.{*ℤ_cancel, positive-*ℤ, positive_pos}
use Rattle.md_math.proofs.Ring.{ring}
use Rattle.md_num.specs.declared.frac.Frac.{Frac}
use Rattle.md_setting.specs.Auction.{SymmetricAuction, value_count, total_weight}
use Rattle.md_setting.specs.AuctionShaped.{IsAuction}
use Rattle.md_border.specs.declared.interim.Interim.{Interim}
use Rattle.md_border.specs.Worth.{worth_of}
use Rattle.md_border.proofs.DemandLaws.{total-positive}
use Rattle.md_expost.specs.declared.masses.Masses.{Masses}
use Rattle.md_cert.specs.declared.bound.Bound.{Bound}
use Rattle.md_reduced.specs.ProgramOf.{IsReducedProgram}
use Rattle.md_iron_values.specs.Pools.{Pools}
use Rattle.md_iron_values.specs.VirtualValues.{weight_to, virtual_to}
use Rattle.md_iron_pools.specs.ByRule.{IsAuctionByRule, AreSamePools}
use Rattle.md_iron_pools.proofs.RuleLaws.{one-by_rule}
use Rattle.md_threshold_laws.proofs.ClosedInterims.{interim-only}
use Rattle.md_unit_tables.specs.Worth.{unit_worth_of}
use Rattle.md_units.specs.declared.units_answer.UnitsAnswer.{UnitsAnswer}
use Rattle.md_iron.specs.ClosedForms.{HasLongMultipliers, IsClosedForm, IsClosedItem, IsClosedUnits, IsOneItem, IsOneUnits}
use Rattle.md_iron.specs.ShortBounds.{HasNoShortBound, IsClosedBound}
use Rattle.md_iron.proofs.OneBound.{one-bound}
use Rattle.md_iron.proofs.SamePools.{same-closed, same-cuts, same-multipliers}

-- ---- the value

cross : (n w p q r s : ℤ) → pos 0 <ℤ n → p *ℤ n ≡ w *ℤ q → r *ℤ n ≡ w *ℤ s → p *ℤ s ≡ r *ℤ q
cross n w p q r s above e f =
    let left : n *ℤ (p *ℤ s) ≡ (p *ℤ n) *ℤ s = simp ring in
    let middle : (w *ℤ q) *ℤ s ≡ (w *ℤ s) *ℤ q = simp ring in
    let right : (r *ℤ n) *ℤ q ≡ n *ℤ (r *ℤ q) = simp ring in
    *ℤ_cancel n (p *ℤ s) (r *ℤ q) above (left ∙ ap (λ z. z *ℤ s) e ∙ middle ∙ ap (λ z. z *ℤ q) (sym f) ∙ right)

-- two fractions in least terms that a number over a whole is
same-value : (a : SymmetricAuction) (interim : Interim) (worth : ℤ) (v w : Frac) → IsAuction a → pos 0 <ℤ interim.den → v.num *ℤ (pos (total_weight a.weights) *ℤ interim.den) ≡ worth *ℤ v.den
    → w.num *ℤ (pos (total_weight a.weights) *ℤ interim.den) ≡ worth *ℤ w.den → IsLeastTerms v.num v.den → IsLeastTerms w.num w.den → v ≡ w
same-value a interim worth v w shaped above h k least other =
    let whole : pos 0 <ℤ (pos (total_weight a.weights) *ℤ interim.den) = positive-*ℤ _ _ (positive_pos _ (total-positive a shaped)) above in
    let same = same_from_IsLeastTerms v.num v.den w.num w.den least other (cross _ worth v.num v.den w.num w.den whole h k) in
    ap₂ (λ x y. record { num = x; den = y }) same.0 same.1

-- ---- the multipliers

-- what is short for the pools is not too long for the same pools
not-long : (a : SymmetricAuction) (units : ℕ) (one other : Pools) (bound : Bound) → AreSamePools (value_count a) one other → IsClosedBound a units one bound → HasNoShortBound a units other → ⊥
not-long a units one other bound same short long =
    let p = short.program in
    let is = short.holds p short.is_program in
    (long.holds p (subst (λ xs. IsReducedProgram a units xs p) (same-cuts (value_count a) one other same) short.is_program)).short_over is.divisor bound.den (number_at bound.main) is.den_short
    (record { multipliers = same-multipliers a units one other p is.divisor bound.den (number_at bound.main) same is.short.multipliers; short = is.short.short })

-- ---- one form

by-rule : (a : SymmetricAuction) (one other : Pools) → IsAuctionByRule a one → IsAuctionByRule a other → AreSamePools (value_count a) one other
by-rule a one other h k = one-by_rule (value_count a) (weight_to a) (virtual_to a) one other h k

module _ (a : SymmetricAuction) (units : ℕ) (shaped : IsAuction a) (some : 0 < units) (interim : Interim) (cuts : List ℕ) (bound : Bound) (h : IsClosedForm a units interim cuts bound) where
  form-only : (interim' : Interim) (cuts' : List ℕ) (bound' : Bound) → IsClosedForm a units interim' cuts' bound' → (interim' ≡ interim) × (cuts' ≡ cuts) × (bound' ≡ bound)
  form-only interim' cuts' bound' k =
      let same : AreSamePools (value_count a) k.pools h.pools = by-rule a k.pools h.pools k.by_rule h.by_rule in (
        interim-only a units h.pools shaped h.by_rule.pooled interim' interim (same-closed a units k.pools h.pools interim' same k.interim_is) h.interim_is,
        k.cuts_are ∙ same-cuts (value_count a) k.pools h.pools same ∙ sym h.cuts_are,
        one-bound a units k.pools h.pools bound' bound shaped some k.by_rule.pooled same k.bound_is h.bound_is,
      )

  form-short : ¬ HasLongMultipliers a units
  form-short long = not-long a units h.pools long.pools bound (by-rule a h.pools long.pools h.by_rule long.by_rule) h.bound_is long.long

-- an answer about one item
pub one-item : (a : SymmetricAuction) (value : Frac) (interim : Interim) (masses : Masses) (cuts : List ℕ) (bound : Bound) → IsAuction a → IsClosedItem a value interim masses cuts bound → IsOneItem a value interim cuts bound
one-item a value interim masses cuts bound shaped h = record {
  only = λ value' interim' masses' cuts' bound' k.
      let (odds, same, multipliers) = form-only a 1 shaped (omega arith) interim cuts bound h.form interim' cuts' bound' k.form in (
        same-value a interim (worth_of a interim) value' value shaped h.form.interim_is.odds.positive
            (subst (λ i. value'.num *ℤ (pos (total_weight a.weights) *ℤ i.den) ≡ worth_of a i *ℤ value'.den) odds k.value_is.has_worth) h.value_is.has_worth k.value_is.least h.value_is.least,
        odds,
        same,
        multipliers,
      );
  short = form-short a 1 shaped (omega arith) interim cuts bound h.form;
}

-- an answer about several units
pub one-units : (a : SymmetricAuction) (units : ℕ) (answer : UnitsAnswer) → IsAuction a → 0 < units → IsClosedUnits a units answer → IsOneUnits a units answer
one-units a units answer shaped some h = record {
  only = λ other k.
      let (odds, same, multipliers) = form-only a units shaped some answer.interim answer.cuts answer.bound h.form other.interim other.cuts other.bound k.form in (
        same-value a answer.interim (unit_worth_of a units answer.interim) other.value answer.value shaped h.form.interim_is.odds.positive
            (subst (λ i. other.value.num *ℤ (pos (total_weight a.weights) *ℤ i.den) ≡ unit_worth_of a units i *ℤ other.value.den) odds k.value_is) h.value_is k.least h.least,
        odds,
        same,
        multipliers,
      );
  short = form-short a units shaped some answer.interim answer.cuts answer.bound h.form;
}
