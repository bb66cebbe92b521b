use Rattle.std.proofs.Common.{◌≡◌, ℕ, ◌+◌, ◌*◌, ◌≤ℤ◌, ◌<ℤ◌, to_z, ap, ◌∙◌, refl, arith}
use Rattle.std.specs.Prelude.{◌-ℤ◌}
use Rattle.std.proofs.lemmas.Int.{to_z-of_z}
use mir.Syntax.{w128}
use Rattle.md_math.specs.Lists.{number_at}
use Rattle.md_math.specs.Sums.{sum_to}
use Rattle.md_math.proofs.Bits.{read_result}
use Rattle.md_mech.proofs.WholeLaws.{not_both, taken, stays_nonneg, not_less}
use Rattle.md_expost.proofs.KeptLaws.{spills_over}
use Rattle.md_expost.proofs.build.is_kept.Goals as goal

pub returns-then-is_below : goal.returns-then-is_below
returns-then-is_below c =
    let f = λ (v : ℕ). number_at c.args.rows.now (c.args.rank * c.args.kinds + v) in
    let whole = to_z-of_z w128 c.args.whole c.ranges.whole in
    let left : to_z w128 c.loop-kind.left-bits ≡ c.args.whole -ℤ sum_to c.loop-kind.kind f = c.loop-kind.invariant.0 ∙ ap (λ d. d -ℤ sum_to c.loop-kind.kind f) whole in
    let less : to_z w128 c.loop-kind.left-bits <ℤ c.get-mass.result = rw (read_result c.get-mass.result c.get-mass.type_inv) at (c.if-is_below.ensures.0 refl) in (
      λ h. not_both h,
      λ e. absurd (spills_over c.args.whole _ c.get-mass.result c.args.kinds c.loop-kind.kind f c.loop-kind-test.true
          (λ j l. c.requires.nonneg.holds (c.args.rank * c.args.kinds + j) (omega (arith, c.requires.inside))) left c.get-mass.ensures less e),
    )

pub loop-kind-preserved : goal.loop-kind-preserved
loop-kind-preserved c =
    let f = λ (v : ℕ). number_at c.args.rows.now (c.args.rank * c.args.kinds + v) in
    let whole = to_z-of_z w128 c.args.whole c.ranges.whole in
    let mass = read_result c.get-mass.result c.get-mass.type_inv in
    let left : to_z w128 c.loop-kind.left-bits ≡ c.args.whole -ℤ sum_to c.loop-kind.kind f = c.loop-kind.invariant.0 ∙ ap (λ d. d -ℤ sum_to c.loop-kind.kind f) whole in
    let value : c.difference-left.result ≡ to_z w128 c.loop-kind.left-bits -ℤ c.get-mass.result = rw mass at c.difference-left.ensures in
    let least : c.get-mass.result ≤ℤ to_z w128 c.loop-kind.left-bits =
    not_less (to_z w128 c.loop-kind.left-bits) c.get-mass.result (λ h. not_both (c.if-is_below.ensures.1 (rw mass h))) in
    rw (read_result c.difference-left.result c.difference-left.type_inv, whole, value) (
      taken c.args.whole _ c.get-mass.result c.loop-kind.kind f left c.get-mass.ensures,
      stays_nonneg _ c.get-mass.result least,
    )
