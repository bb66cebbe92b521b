-- The averages of what bidders win and pay meet the reduced program.
use Rattle.std.proofs.Common.{◌≡◌, ℕ, ◌<◌, ℤ, pos, ◌-ℤ◌, ◌*ℤ◌, ◌≤ℤ◌, ◌<ℤ◌, neg_ℤ, List, ◌++◌, map, get_or, All, arith, mul-pos}
use Rattle.std.proofs.lemmas.Int.{ints}
use Rattle.std.proofs.lemmas.List.Elements.{All-append, All-map}
use Rattle.md_math.proofs.Builders.{All-list_to, All-up_to}
use Rattle.md_math.proofs.Order.{positive-*ℤ, positive_pos}
use Rattle.md_math.proofs.Ring.{linear, *ℤ-zero}
use Rattle.md_setting.specs.Auction.{SymmetricAuction, value_count}
use Rattle.md_setting.specs.AuctionShaped.{IsAuction}
use Rattle.md_mech.proofs.RowLaws.{all-by_report}
use Rattle.md_lp.specs.Program.{Program}
use Rattle.md_lp.specs.Point.{IsPoint, Meets}
use Rattle.md_forms.specs.Forms.{Holds}
use Rattle.md_reduced.specs.declared.condition.ReducedCondition.{ReducedCondition}
use Rattle.md_reduced.specs.declared.condition.ReducedCondition.TheVariants.{Truth, Rational, Cut}
use Rattle.md_reduced.specs.Averages.{times_of, averages, gain_at, mean, IsAdmissibleOnAverage}
use Rattle.md_reduced.specs.Conditions.{truths_at, truths, rationals, conditions_of}
use Rattle.md_reduced.specs.ProgramOf.{form_of, IsReducedProgram}
use Rattle.md_reduced.specs.Sides.{utility_in}
use Rattle.md_reduced.proofs.BuiltLaws.{meets-conditions}
use Rattle.md_reduced.proofs.MeanLaws.{all-positive, averaged-truth, averaged-rational, averages-utility, averages-nonneg, averaged-cut}
use Rattle.md_reduced.proofs.PointLaws.{others-positive}

-- what holds of each condition, holds of all
pub all-conditions : (P : ReducedCondition → Type 0) (kinds : ℕ) (cuts : List ℕ) → ((v w : ℕ) → v < kinds → w < kinds → P (Truth v w)) → ((v : ℕ) → v < kinds → P (Rational v)) → ((set : ℕ) → P (Cut set)) → All P (conditions_of kinds cuts)
all-conditions P kinds cuts truth rational cut =
    All-append P (truths kinds) (rationals kinds ++ map Cut cuts)
    (All-up_to P kinds (truths_at kinds) (λ v b. all-by_report P kinds v (Truth v) (λ w c. truth v w b c)))
    (All-append P (rationals kinds) (map Cut cuts) (All-list_to P kinds Rational rational) (All-map P Cut cuts (λ k d b. cut (get_or cuts k d))))

pub times-positive : (a : SymmetricAuction) → IsAuction a → 0 < times_of a
times-positive a h = mul-pos (mul-pos (let some : 0 < a.bidders = omega (arith, h.some_bidder) in some) (others-positive a h)) (all-positive a h)

pub averages-meet : (a : SymmetricAuction) (units : ℕ) (cuts : List ℕ) (p : Program) (den : ℤ) (win pay : ℕ → List ℕ → ℤ) → IsAuction a → IsReducedProgram a units cuts p → IsAdmissibleOnAverage a units den win pay
    → Meets p (pos (times_of a) *ℤ den) (averages a win pay)
averages-meet a units cuts p den win pay shaped is average =
    (meets-conditions a units cuts p is whole x point).1
    (all-conditions (λ c. Holds whole x (form_of a units c)) (value_count a) cuts
    (λ v w l k. less (utility_in a x v w) (utility_in a x v v) (mean a (gain_at a win pay v) w) (mean a (gain_at a win pay v) v) (whole *ℤ pos 0)
    (averages-utility a win pay v w k) (averages-utility a win pay v v l) (averaged-truth a units den win pay v w shaped average l k) (*ℤ-zero whole))
    (λ v l. negative (utility_in a x v v) (mean a (gain_at a win pay v) v) (whole *ℤ pos 0) (averages-utility a win pay v v l) (averaged-rational a units den win pay v average l) (*ℤ-zero whole))
    (λ set. averaged-cut a units den win pay set average))
  where
    whole : ℤ
    whole = pos (times_of a) *ℤ den

    x : ℕ → ℤ
    x = averages a win pay

    above : (z : ℤ) → pos 1 ≤ℤ z → pos 0 <ℤ z
    above z l = omega (arith, ints)

    point : IsPoint p whole x
    point = record {
      positive = positive-*ℤ (pos (times_of a)) den (positive_pos (times_of a) (times-positive a shaped)) (above den average.den_positive);
      nonneg = λ j b. averages-nonneg a units den win pay j average;
    }

    less : (y z m n o : ℤ) → y ≡ m → z ≡ n → m ≤ℤ n → o ≡ pos 0 → (y -ℤ z) ≤ℤ o
    less y z m n o e f l g = omega (arith, linear)

    negative : (y m o : ℤ) → y ≡ m → pos 0 ≤ℤ m → o ≡ pos 0 → neg_ℤ y ≤ℤ o
    negative y m o e l g = omega (arith, linear)
