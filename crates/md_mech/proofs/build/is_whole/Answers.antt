use Rattle.std.proofs.Common.{◌≡◌, ℕ, ◌+◌, ◌*◌, ◌≤ℤ◌, ◌<ℤ◌, to_z, ap, ◌∙◌, refl, arith}
use Rattle.std.specs.Prelude.{◌-ℤ◌}
use Rattle.std.proofs.lemmas.Int.{to_z-of_z}
use mir.Syntax.{w128}
use Rattle.md_math.specs.Lists.{number_at}
use Rattle.md_math.specs.Sums.{sum_to}
use Rattle.md_math.proofs.Bits.{read_result}
use Rattle.md_mech.proofs.WholeLaws.{not_both, taken, spills, none_left, all_taken, stays_nonneg, not_less}
use Rattle.md_mech.proofs.build.is_whole.Goals as goal

pub returns-then-is_below : goal.returns-then-is_below
returns-then-is_below c =
    let f = λ (o : ℕ). number_at c.args.chances.now (c.args.rank * c.args.outcomes + o) in
    let den = to_z-of_z w128 c.args.den c.ranges.den in
    let left : to_z w128 c.loop-outcome.left-bits ≡ c.args.den -ℤ sum_to c.loop-outcome.outcome f = c.loop-outcome.invariant.0 ∙ ap (λ d. d -ℤ sum_to c.loop-outcome.outcome f) den in
    let less : to_z w128 c.loop-outcome.left-bits <ℤ c.get-chance.result = rw (read_result c.get-chance.result c.get-chance.type_inv) at (c.if-is_below.ensures.0 refl) in (
      λ h. not_both h,
      λ e. absurd (spills c.args.den _ c.get-chance.result c.args.outcomes c.loop-outcome.outcome f c.loop-outcome-test.true
          (λ j l. c.requires.nonneg.holds (c.args.rank * c.args.outcomes + j) (omega (arith, c.requires.inside))) left c.get-chance.ensures less e),
    )

pub loop-outcome-preserved : goal.loop-outcome-preserved
loop-outcome-preserved c =
    let f = λ (o : ℕ). number_at c.args.chances.now (c.args.rank * c.args.outcomes + o) in
    let den = to_z-of_z w128 c.args.den c.ranges.den in
    let chance = read_result c.get-chance.result c.get-chance.type_inv in
    let left : to_z w128 c.loop-outcome.left-bits ≡ c.args.den -ℤ sum_to c.loop-outcome.outcome f = c.loop-outcome.invariant.0 ∙ ap (λ d. d -ℤ sum_to c.loop-outcome.outcome f) den in
    let value : c.difference-left.result ≡ to_z w128 c.loop-outcome.left-bits -ℤ c.get-chance.result = rw chance at c.difference-left.ensures in
    let least : c.get-chance.result ≤ℤ to_z w128 c.loop-outcome.left-bits =
    not_less (to_z w128 c.loop-outcome.left-bits) c.get-chance.result (λ h. not_both (c.if-is_below.ensures.1 (rw chance h))) in
    rw (read_result c.difference-left.result c.difference-left.type_inv, den, value) (
      taken c.args.den _ c.get-chance.result c.loop-outcome.outcome f left c.get-chance.ensures,
      stays_nonneg _ c.get-chance.result least,
    )

pub returns : goal.returns
returns c =
    let f = λ (o : ℕ). number_at c.args.chances.now (c.args.rank * c.args.outcomes + o) in
    let den = to_z-of_z w128 c.args.den c.ranges.den in
    let end : c.loop-outcome.outcome ≡ c.args.outcomes = omega (arith, c.loop-outcome-test.false, c.loop-outcome.auto.outcome-end) in
    let left : to_z w128 c.loop-outcome.left-bits ≡ c.args.den -ℤ sum_to c.args.outcomes f =
    c.loop-outcome.invariant.0 ∙ ap (λ d. d -ℤ sum_to c.loop-outcome.outcome f) den ∙ ap (λ n. c.args.den -ℤ sum_to n f) end in (
      λ h. none_left c.args.den _ (sum_to c.args.outcomes f) left (c.is_zero.ensures.0 h),
      λ e. c.is_zero.ensures.1 (all_taken c.args.den _ (sum_to c.args.outcomes f) left e),
    )
