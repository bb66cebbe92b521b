-- Where revenue counts, the lowest value that takes part is multiplied by at least the denominator.
use Rattle.std.proofs.Common.{◌≡◌, ℕ, ◌+◌, ◌-◌, ◌*◌, ◌^◌, ◌<◌, ◌≤◌, ℤ, pos, ◌+ℤ◌, ◌-ℤ◌, ◌*ℤ◌, ◌≤ℤ◌, ◌<ℤ◌, List, ◌++◌, length, get_or, Some, nat_lt, if◌then◌else◌, sym, ap, subst, ◌∙◌, arith, lt-ltb, le-ltb, length-append}
use Rattle.std.specs.Prelude.{slice_get, slice_index}
use Rattle.std.proofs.lemmas.Int.{ints}
use Rattle.std.proofs.lemmas.List.{get_or-append-add, get_or_append_left}
use Rattle.std.proofs.lemmas.Option.{slice_get-get_or}
use lib.IntN.{*ℤ_comm}
use Rattle.md_math.specs.Lists.{list_to, up_to}
use Rattle.md_math.specs.Sizes.{IsWithin}
use Rattle.md_math.specs.Sums.{sum_to}
use Rattle.md_math.proofs.Builders.{length-list_to, get_or-list_to}
use Rattle.md_math.proofs.Division.{Divides-from_product, le_from_Divides}
use Rattle.md_math.proofs.Order.{*ℤ-le, le_from_*ℤ, le_from_lt, positive-*ℤ, positive_pos}
use Rattle.md_math.proofs.ProductLaws.{sum-places}
use Rattle.md_math.proofs.Ring.{linear, ring}
use Rattle.md_math.proofs.SumLaws.{sum_to-same, sum_to-*ℤ}
use Rattle.md_setting.specs.Auction.{SymmetricAuction, value_count, total_weight}
use Rattle.md_setting.specs.AuctionShaped.{IsAuction}
use Rattle.md_mech.specs.Rows.{by_report}
use Rattle.md_border.proofs.DemandLaws.{total-positive}
use Rattle.md_border.specs.Worth.{surplus_of}
use Rattle.md_lp.specs.Program.{Program, row_count}
use Rattle.md_lp.specs.Point.{cost_sum}
use Rattle.md_reduced.specs.ProgramOf.{IsReducedProgram}
use Rattle.md_reduced.specs.Sides.{cost_of, pay_in}
use Rattle.md_reduced.proofs.BuiltLaws.{costs-points}
use Rattle.md_iron_values.specs.Pools.{Pools}
use Rattle.md_iron_values.specs.Cuts.{cuts_of}
use Rattle.md_iron_laws.specs.Rows.{ProgramRow, truth_row, rational_row, cut_rows, rows_of}
use Rattle.md_iron_laws.proofs.Certificates.{factor-positive}
use Rattle.md_iron_laws.proofs.Divisors.{row-below}
use Rattle.md_iron.specs.ShortBounds.{AreShortMultipliers}

-- ---- the row of the lowest value

abbrev truths : ℕ → List ProgramRow
truths kinds = up_to kinds (λ v. by_report kinds v (truth_row v))

-- behind the rows on truth
lowest-row : (kinds : ℕ) (pools : Pools) → 0 < kinds → slice_get (rows_of kinds pools) (length (truths kinds)) ≡ Some (rational_row 0)
lowest-row kinds pools some =
    let front = truths kinds in
    let middle = list_to kinds rational_row in
    let back = cut_rows kinds pools in
    let d = rational_row 0 in
    let n = length front in
    let long : length (list_to kinds rational_row) ≡ kinds = length-list_to kinds rational_row in
    let inside : length (truths kinds) < length (rows_of kinds pools) =
    omega (arith, length-append front (middle ++ back), length-append middle back, long, some) in
    slice_get-get_or (rows_of kinds pools) n d inside
    ∙ ap Some
    (ap (λ i. get_or (rows_of kinds pools) i d) (let e : length front ≡ length front + 0 = omega arith in e)
    ∙ get_or-append-add front (middle ++ back) 0 d
    ∙ get_or_append_left middle back d 0 (omega (arith, long, some))
    ∙ get_or-list_to kinds rational_row 0 d some)

-- ---- the factor of the cost

module _ (a : SymmetricAuction) (shaped : IsAuction a) where
  -- each value pays one, and none has a unit
  abbrev all_pay : ℕ → ℤ
  all_pay j = if nat_lt j (value_count a) then pos 0 else (if nat_lt j (2 * value_count a) then pos 1 else pos 0)

  pays-one : (v : ℕ) → v < value_count a → surplus_of a v *ℤ all_pay v +ℤ a.revenue *ℤ pay_in a all_pay v ≡ a.revenue
  pays-one v b =
      rw (
        lt-ltb v (value_count a) b,
        le-ltb (value_count a + v) (value_count a) (omega arith),
        lt-ltb (value_count a + v) (2 * value_count a) (omega (arith, b)),
        le-ltb (2 * value_count a + v) (value_count a) (omega arith),
        le-ltb (2 * value_count a + v) (2 * value_count a) (omega arith),
      )
      (left (surplus_of a v) a.revenue)
    where
      left : (s r : ℤ) → s *ℤ pos 0 +ℤ r *ℤ (pos 1 -ℤ pos 0) ≡ r
      left s r = simp ring (omega (arith, linear))

  all-pay : cost_of a all_pay ≡ a.revenue *ℤ pos (total_weight a.weights)
  all-pay =
      sum_to-same (value_count a) _ (λ v. a.revenue *ℤ pos (slice_index a.weights v)) (λ v b. ap (λ z. pos (slice_index a.weights v) *ℤ z) (pays-one v b) ∙ *ℤ_comm (pos (slice_index a.weights v)) a.revenue)
      ∙ sum_to-*ℤ (value_count a) a.revenue (λ v. pos (slice_index a.weights v))
      ∙ ap (λ z. a.revenue *ℤ z) (ap (λ n. sum_to n (λ v. pos (slice_index a.weights v))) (sym shaped.one_each) ∙ sym (sum-places a.weights))

  factor-most : (units : ℕ) (cuts : List ℕ) (p : Program) → pos 0 <ℤ a.revenue → IsReducedProgram a units cuts p → p.factor ≤ℤ (a.revenue *ℤ pos (total_weight a.weights))
  factor-most units cuts p above is =
      le_from_Divides p.factor (a.revenue *ℤ pos (total_weight a.weights)) (positive-*ℤ a.revenue (pos (total_weight a.weights)) above (positive_pos _ (total-positive a shaped)))
      (Divides-from_product p.factor (cost_sum p all_pay) _ (sym all-pay ∙ costs-points a units cuts p is all_pay))

-- ---- the denominator

pub over-short : (a : SymmetricAuction) (units : ℕ) (pools : Pools) (p : Program) (divisor : ℕ → ℤ) (over : ℤ) (main : ℕ → ℤ) → IsAuction a → pos 0 <ℤ a.revenue → IsReducedProgram a units (cuts_of (value_count a) pools) p
    → row_count p ≡ length (rows_of (value_count a) pools) → AreShortMultipliers a units pools p divisor over main → IsWithin (2 ^ 62 - 1) over
over-short a units pools p divisor over main shaped above is count h =
    let r = length (truths (value_count a)) in
    let lowest = lowest-row (value_count a) pools shaped.some_value in
    let all = a.revenue *ℤ pos (total_weight a.weights) in
    let ratio : main (length (truths (value_count a))) *ℤ p.factor ≡ over *ℤ (a.revenue *ℤ pos (total_weight a.weights)) = h.multipliers.at r (rational_row 0) lowest in
    let most = *ℤ-le over p.factor all (le_from_lt (pos 0) over h.multipliers.positive) (factor-most a shaped units (cuts_of (value_count a) pools) p above is) in
    let less : over ≤ℤ main (length (truths (value_count a))) =
    le_from_*ℤ p.factor over (main r) (factor-positive a units pools p is)
    (subst (λ z. z ≤ℤ (p.factor *ℤ main r)) (*ℤ_comm over p.factor) (subst (λ z. (over *ℤ p.factor) ≤ℤ z) (sym ratio ∙ *ℤ_comm (main r) p.factor) most)) in
    small over (main r) h.multipliers.positive less (h.short r (omega (arith, count, row-below (rows_of (value_count a) pools) r (rational_row 0) lowest)))
  where
    small : (x y : ℤ) → pos 0 <ℤ x → x ≤ℤ y → IsWithin (2 ^ 62 - 1) y → IsWithin (2 ^ 62 - 1) x
    small x y above less within = record { within = omega (arith, ints, above, less, within.within) }
