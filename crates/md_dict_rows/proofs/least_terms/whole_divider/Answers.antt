use Rattle.std.proofs.Common.{refl, arith}
use Rattle.std.proofs.lemmas.Int.{ints, to_z_pos}
use mir.Syntax.{w128}
use Rattle.md_dict_rows.specs.Combination.{combined}
use Rattle.md_dict_rows.proofs.Reducing.{DividesCombination-one, IsCommonDivisor-more}
use Rattle.md_dict_rows.proofs.least_terms.whole_divider.Goals as goal

pub overflow_cast-candidate : goal.overflow_cast-candidate
overflow_cast-candidate c =
    let first = c.candidate.ensures c.args.own.now c.args.taken.now c.requires.combination c.requires.rows in
    omega (arith, ints, first.size)

pub loop-place-init : goal.loop-place-init
loop-place-init c =
    let first = c.candidate.ensures c.args.own.now c.args.taken.now c.requires.combination c.requires.rows in
    let read = to_z_pos w128 c.candidate.result (omega (arith, ints, first.size)) in (
      rw (c.new-divider.ensures, read) first,
      record { at = λ s b. absurd (omega (arith, b)) },
    )

pub returns-then-is_one-clause-divides : goal.returns-then-is_one-clause-divides
returns-then-is_one-clause-divides c = DividesCombination-one c.args.combination.now c.args.own.now c.args.taken.now c.loop-place.divider.value (c.if-is_one.ensures.0 refl)

pub loop-place-preserved : goal.loop-place-preserved
loop-place-preserved c = (
  c.common_at-divider.ensures.attempt,
  IsCommonDivisor-more c.loop-place.place (combined c.args.combination.now c.args.own.now c.args.taken.now) c.loop-place.divider.value c.common_at-divider.result.value c.loop-place.invariant.1 c.common_at-divider.ensures.divisor,
)
