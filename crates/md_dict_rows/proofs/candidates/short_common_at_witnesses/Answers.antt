use Rattle.std.proofs.Common.{refl}
use Rattle.md_dict_rows.proofs.CommonDivisors.{IsAttempt-mixed}
use Rattle.md_dict_rows.proofs.candidates.short_common_at_witnesses.Goals.{then-place-own, else-place-own}
use Rattle.md_dict_rows.proofs.candidates.short_common_at_witnesses.Goals as goal

pub loop-place-init : goal.loop-place-init
loop-place-init c = (
  rw c.short-divider.ensures.value c.requires.attempt,
  rw (c.short-divider.ensures.value, c.short-divider.ensures.low) refl,
)

pub loop-place-preserved : goal.loop-place-preserved
loop-place-preserved c =
    elim c.if-place-own.branch [
      | then-place-own w ↦
          rw w.divider-is (
            IsAttempt-mixed c.args.combination.now c.args.own.now c.args.taken.now c.loop-place.divider.value w.short_common-divider.result.value w.short_size.result _ c.requires.rows c.loop-place.invariant.0 w.if-place-own.true w.short_size.ensures w.short_common-divider.ensures.divisor,
            w.short_common-divider.ensures.low,
          )
      | else-place-own w ↦ rw w.divider-is c.loop-place.invariant
    ]
