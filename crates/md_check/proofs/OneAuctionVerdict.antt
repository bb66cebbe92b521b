-- An answer about an auction, or about several units, has one verdict.
use Rattle.std.proofs.Common.{◌≡◌, ℕ, ℤ, pos, ◌*ℤ◌, ◌≤ℤ◌, ◌<ℤ◌, List, ap, arith}
use Rattle.std.proofs.lemmas.Int.{ints}
use Rattle.md_math.specs.Lists.{number_at}
use Rattle.md_math.proofs.FirstFailures.{HoldsBelow-no_failure}
use Rattle.md_math.proofs.Order.{positive-*ℤ, positive_pos}
use Rattle.md_num.specs.declared.frac.Frac.{Frac}
use Rattle.md_setting.specs.Auction.{SymmetricAuction, value_count, total_weight}
use Rattle.md_setting.specs.AuctionShaped.{IsAuction}
use Rattle.md_lp.specs.Program.{row_count, right_at}
use Rattle.md_lp.specs.Point.{Meets, MeetsRow, row_sum}
use Rattle.md_border.specs.declared.interim.Interim.{Interim}
use Rattle.md_border.specs.Odds.{IsInterim, demand_of}
use Rattle.md_unit_tables.specs.Worth.{IsUnitWorthOf, unit_worth_of}
use Rattle.md_border.proofs.DemandLaws.{total-positive}
use Rattle.md_expost.specs.declared.masses.Masses.{Masses}
use Rattle.md_expost.specs.Masses.{mass_of}
use Rattle.md_cert.specs.declared.bound.Bound.{Bound}
use Rattle.md_cert.specs.Fault.{BreaksRow}
use Rattle.md_reduced.specs.ProgramOf.{IsReducedProgram}
use Rattle.md_claims.specs.AuctionCertificates.{auction_certificate, point_of}
use Rattle.md_question.proofs.OneFraction.{one_fraction}
use Rattle.md_question_check.specs.declared.verdict.Reject.TheVariants.{Value, Masses as OtherMass, Reduced}
use Rattle.md_question_check.specs.declared.verdict.Verdict.{Verdict}
use Rattle.md_question_check.specs.declared.verdict.Verdict.TheVariants.{Rejected}
use Rattle.md_check.specs.AuctionVerdicts.{HasMass, AddUp, MeetsCuts, BreaksCuts, IsOtherMass, IsAuctionOptimalVerdict}
use Rattle.md_question_check.proofs.OneVerdict.{one-place, both-of, one-judged}

-- ---- the conditions by themselves

module _ (a : SymmetricAuction) (interim : Interim) (masses : Masses) where
  mass-one : (j k : ℕ) (f g x y : ℤ) → IsOtherMass a interim masses j f x → IsOtherMass a interim masses k g y → OtherMass j f x ≡ OtherMass k g y
  mass-one j k f g x y h t =
      one-place (value_count a) (HasMass a interim masses) (mass_of a masses) (demand_of a interim) OtherMass j k f g x y h.first t.first h.sum_is t.sum_is h.demand_is t.demand_is

  mass-none : (k : ℕ) (f x : ℤ) → IsOtherMass a interim masses k f x → AddUp a interim masses → ⊥
  mass-none k f x h all = HoldsBelow-no_failure (HasMass a interim masses) (value_count a) k all h.first

module _ (a : SymmetricAuction) (units : ℕ) (interim : Interim) (cuts : List ℕ) where
  row-one : (j k : ℕ) (f g x y : ℤ) → BreaksCuts a units interim cuts j f x → BreaksCuts a units interim cuts k g y → Reduced j f x ≡ Reduced k g y
  row-one j k f g x y h t =
      let z = number_at (point_of interim) in
      both-of (IsReducedProgram a units cuts) (λ p. BreaksRow p interim.den z j f x) (λ p. BreaksRow p interim.den z k g y) (Reduced j f x ≡ Reduced k g y) h t
      (λ p b c.
      one-place (row_count p) (MeetsRow p interim.den z) (row_sum p z) (λ r. interim.den *ℤ right_at p r) Reduced j k f g x y b.first c.first b.left_is c.left_is b.right_is c.right_is)

  row-none : (k : ℕ) (f x : ℤ) → BreaksCuts a units interim cuts k f x → MeetsCuts a units interim cuts → ⊥
  row-none k f x h all =
      let z = number_at (point_of interim) in
      both-of (IsReducedProgram a units cuts) (λ p. BreaksRow p interim.den z k f x) (λ p. Meets p interim.den z) ⊥ h all
      (λ p b m. HoldsBelow-no_failure (MeetsRow p interim.den z) (row_count p) k m.rows b.first)

above : (z : ℤ) → pos 1 ≤ℤ z → pos 0 <ℤ z
above z l = omega (arith, ints)

one-worth : (a : SymmetricAuction) (units : ℕ) (interim : Interim) (f g : Frac) → IsAuction a → IsInterim a interim → IsUnitWorthOf a units interim f → IsUnitWorthOf a units interim g → f ≡ g
one-worth a units interim f g shaped fits h t =
    let weight = total_weight a.weights in
    one_fraction (unit_worth_of a units interim) (pos weight *ℤ interim.den) f g
    (positive-*ℤ (pos weight) interim.den (positive_pos weight (total-positive a shaped)) (above interim.den fits.den_positive))
    (record { same = h.has_worth; least = h.least }) (record { same = t.has_worth; least = t.least })

-- ---- in their order

module _ (a : SymmetricAuction) (units : ℕ) (value : Frac) (interim : Interim) (masses : Masses) (cuts : List ℕ) (bound : Bound) (shaped : IsAuction a) (fits : IsInterim a interim) (over : pos 0 <ℤ bound.den) where
  pub one-optimal : (v w : Verdict) → IsAuctionOptimalVerdict a units value interim masses cuts bound v → IsAuctionOptimalVerdict a units value interim masses cuts bound w → v ≡ w
  one-optimal (Rejected (OtherMass j f x)) (Rejected (OtherMass k g y)) h t = ap Rejected (mass-one a interim masses j k f g x y h t)
  one-optimal (Rejected (OtherMass j f x)) (Rejected (Reduced k g y)) h t = absurd (mass-none a interim masses j f x h t.0)
  one-optimal (Rejected (OtherMass j f x)) (Rejected (Value other)) h t = absurd (mass-none a interim masses j f x h t.0)
  one-optimal (Rejected (OtherMass j f x)) w h t = absurd (mass-none a interim masses j f x h t.0.add_up)
  one-optimal (Rejected (Reduced j f x)) (Rejected (OtherMass k g y)) h t = absurd (mass-none a interim masses k g y t h.0)
  one-optimal (Rejected (Reduced j f x)) (Rejected (Reduced k g y)) h t = ap Rejected (row-one a units interim cuts j k f g x y h.1 t.1)
  one-optimal (Rejected (Reduced j f x)) (Rejected (Value other)) h t = absurd (row-none a units interim cuts j f x h.1 t.1)
  one-optimal (Rejected (Reduced j f x)) w h t = absurd (row-none a units interim cuts j f x h.1 t.0.meets)
  one-optimal (Rejected (Value right)) (Rejected (OtherMass k g y)) h t = absurd (mass-none a interim masses k g y t h.0)
  one-optimal (Rejected (Value right)) (Rejected (Reduced k g y)) h t = absurd (row-none a units interim cuts k g y t.1 h.1)
  one-optimal (Rejected (Value right)) (Rejected (Value other)) h t = ap (λ z. Rejected (Value z)) (one-worth a units interim right other shaped fits h.2.right t.2.right)
  one-optimal (Rejected (Value right)) w h t = absurd (h.2.other t.0.worth)
  one-optimal v (Rejected (OtherMass k g y)) h t = absurd (mass-none a interim masses k g y t h.0.add_up)
  one-optimal v (Rejected (Reduced k g y)) h t = absurd (row-none a units interim cuts k g y t.1 h.0.meets)
  one-optimal v (Rejected (Value other)) h t = absurd (t.2.other h.0.worth)
  one-optimal v w h t = one-judged (IsReducedProgram a units cuts) (auction_certificate interim bound) v w (above interim.den fits.den_positive, over) h.1 t.1
