-- The reduced programs of an auction, for any number of units, are what a cut run goes over.
use Rattle.std.proofs.Common.{◌≡◌, ℕ, ◌*◌, ◌<◌, false, ℤ, pos, ◌-ℤ◌, ◌*ℤ◌, ◌≤ℤ◌, ◌<ℤ◌, if◌then◌else◌, List, length, refl, sym, ap, ◌∙◌, subst, arith}
use Rattle.std.specs.Prelude.{slice_index}
use Rattle.std.proofs.lemmas.Int.{ints}
use Rattle.std.proofs.lemmas.Nat.Bits.{bit_at-zero}
use Rattle.md_math.specs.Lists.{number_at}
use Rattle.md_math.specs.Sets.{member}
use Rattle.md_math.proofs.Builders.{All-right, get_or-list_to}
use Rattle.md_math.proofs.Order.{nonneg-*ℤ}
use Rattle.md_math.proofs.SumLaws.{sum_to-same, sum_to-zero}
use Rattle.md_lp.specs.Program.{Program}
use Rattle.md_lp.specs.Point.{Meets}
use Rattle.md_lp.proofs.WorstLaws.{worst-same, none_over-same}
use Rattle.md_setting.specs.Auction.{SymmetricAuction, value_count}
use Rattle.md_setting.specs.AuctionShaped.{IsAuction}
use Rattle.md_border.specs.declared.interim.Interim.{Interim}
use Rattle.md_border.specs.Odds.{demands_in, excess_of, unit_excess_of, weight_given}
use Rattle.md_border.specs.Sides.{right_by_counts}
use Rattle.md_border.proofs.SideLaws.{right_of-counts}
use Rattle.md_expost.specs.WorstSets.{IsWorstSet, MeetsBorder}
use Rattle.md_forms.specs.Forms.{Holds}
use Rattle.md_forms.proofs.OneProgram.{same_program}
use Rattle.md_reduced.specs.Conditions.{conditions_of, rationals, truths}
use Rattle.md_reduced.specs.Points.{interim_in, MeetsReduced}
use Rattle.md_reduced.specs.ProgramOf.{IsReducedProgram, column_count, form_of, forms_of}
use Rattle.md_reduced.specs.Sides.{cost_of, demands_of}
use Rattle.md_reduced.proofs.BoundLaws.{bounded, right-nonneg, zero-meets}
use Rattle.md_reduced.proofs.BuiltLaws.{all-of, meets-conditions}
use Rattle.md_cuts.specs.AuctionCuts.{auction_cutting, unit_cutting}
use Rattle.md_cut_runs.specs.Cutting.{IsCutPoint, IsCutting, IsShownOf}
use Rattle.md_cut_runs.specs.Worst.{IsWorst, NoneOver}
use Rattle.md_cut_runs.proofs.OneProgram.{shown-of}

-- ---- one program

pub one-program : (a : SymmetricAuction) (units : ℕ) (cuts : List ℕ) (p q : Program) → IsReducedProgram a units cuts p → IsReducedProgram a units cuts q → IsShownOf p q
one-program a units cuts p q h k =
    shown-of p q (same_program (column_count a) (forms_of a units (conditions_of (value_count a) cuts)) (cost_of a) p q h k)

-- ---- excesses

-- the demands at the odds of a point
pub demands-at : (a : SymmetricAuction) (den : ℤ) (x : ℕ → ℤ) (set : ℕ) → demands_in a (interim_in a den x) set ≡ demands_of a x set
demands-at a den x set =
    sum_to-same (value_count a) _ _
    (λ v b. ap (λ z. if member set v then pos (a.bidders * weight_given a v) *ℤ z else pos 0) (get_or-list_to (value_count a) x v (pos 0) b))

-- a set whose demands keep to its right side is not over
not-over : (a : SymmetricAuction) (units : ℕ) (den : ℤ) (x : ℕ → ℤ) (set : ℕ) → demands_of a x set ≤ℤ (den *ℤ right_by_counts a units set) → unit_excess_of a units (interim_in a den x) set ≤ℤ pos 0
not-over a units den x set h =
    subst (λ z. z ≤ℤ pos 0) (sym (ap (λ d. d -ℤ den *ℤ right_by_counts a units set) (demands-at a den x set))) (less (demands_of a x set) (den *ℤ right_by_counts a units set) h)
  where
    less : (d r : ℤ) → d ≤ℤ r → (d -ℤ r) ≤ℤ pos 0
    less d r l = omega (arith, ints, l)

-- a cut of a program is kept at its points
pub cut-met : (a : SymmetricAuction) (units : ℕ) (cuts : List ℕ) (p : Program) (den : ℤ) (x : ℕ → ℤ) (k : ℕ) → IsReducedProgram a units cuts p → Meets p den x → k < length cuts
    → demands_of a x (slice_index cuts k) ≤ℤ (den *ℤ right_by_counts a units (slice_index cuts k))
cut-met a units cuts p den x k is meets b =
    let kinds = value_count a in
    let kept = (meets-conditions a units cuts p is den x meets.point).0 meets in
    let rest = All-right (λ c. Holds den x (form_of a units c)) (rationals kinds) _ (All-right (λ c. Holds den x (form_of a units c)) (truths kinds) _ kept) in
    all-of (λ c. Holds den x (form_of a units c)) _ cuts rest k 0 b

-- the empty set is always kept
member-empty : (v : ℕ) → member 0 v ≡ false
unfolding member
member-empty v = rw (bit_at-zero v) refl

demands-empty : (a : SymmetricAuction) (x : ℕ → ℤ) → demands_of a x 0 ≡ pos 0
demands-empty a x = sum_to-zero (value_count a) (λ v. if member 0 v then pos (a.bidders * weight_given a v) *ℤ x v else pos 0) (λ v b. rw (member-empty v) refl)

pub empty-met : (a : SymmetricAuction) (units : ℕ) (den : ℤ) (x : ℕ → ℤ) → pos 0 <ℤ den → demands_of a x 0 ≤ℤ (den *ℤ right_by_counts a units 0)
empty-met a units den x positive =
    subst (λ z. z ≤ℤ (den *ℤ right_by_counts a units 0)) (sym (demands-empty a x)) (nonneg-*ℤ den (right_by_counts a units 0) (some den positive) (right-nonneg a units 0))
  where
    some : (d : ℤ) → pos 0 <ℤ d → pos 0 ≤ℤ d
    some d l = omega (arith, ints, l)

-- ---- the cutting

pub IsCutting-units : (a : SymmetricAuction) (units : ℕ) → IsAuction a → IsCutting (unit_cutting a units)
IsCutting-units a units shaped = record {
  few = shaped.few_values;
  one = one-program a units;
  kept = λ cuts p den x k is meets b. not-over a units den x (slice_index cuts k) (cut-met a units cuts p den x k is meets b);
  empty = λ cuts p den x is meets. not-over a units den x 0 (empty-met a units den x meets.point.positive);
  has_point = λ cuts p is none. none.none (pos 1) (λ _. pos 0) (zero-meets a units cuts p is);
  bounded = λ cuts p den x ray singles is. bounded a units cuts p shaped is singles den x ray;
}

-- ---- points

pub meets-reduced : (a : SymmetricAuction) (units : ℕ) (den : ℤ) (point : List ℤ) → IsCutPoint (unit_cutting a units) den point → MeetsReduced a den (number_at point)
meets-reduced a units den point h = record { units = units; cuts = h.cuts; program = h.program; is_program = h.is_program; singles = h.singles; meets = h.meets }

pub point-length : (a : SymmetricAuction) (units : ℕ) (den : ℤ) (point : List ℤ) → IsCutPoint (unit_cutting a units) den point → length point ≡ column_count a
point-length a units den point h = h.point_fits.one_each ∙ h.is_program.columns

-- ---- one item

excess-same : (a : SymmetricAuction) (interim : Interim) (set : ℕ) → excess_of a interim set ≡ unit_excess_of a 1 interim set
excess-same a interim set = ap (λ r. demands_in a interim set -ℤ interim.den *ℤ r) (right_of-counts a set)

pub worst-of : (a : SymmetricAuction) (den : ℤ) (x : ℕ → ℤ) (set : ℕ) → IsWorstSet a (interim_in a den x) set → IsWorst (auction_cutting a) den x set
worst-of a den x set = worst-same (value_count a) (value_count a) (excess_of a (interim_in a den x)) (unit_excess_of a 1 (interim_in a den x)) set refl (excess-same a (interim_in a den x))

pub none-over : (a : SymmetricAuction) (den : ℤ) (x : ℕ → ℤ) → MeetsBorder a (interim_in a den x) → NoneOver (auction_cutting a) den x
none-over a den x = none_over-same (value_count a) (value_count a) (excess_of a (interim_in a den x)) (unit_excess_of a 1 (interim_in a den x)) refl (excess-same a (interim_in a den x))
