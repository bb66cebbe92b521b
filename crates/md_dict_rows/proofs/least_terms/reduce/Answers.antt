use Rattle.std.proofs.Common.{subst, arith}
use Rattle.md_dict_rows.specs.Reduce.{IsObstacle, IsOver, IsUndivided, KeepsSizes}
use Rattle.md_dict_division.proofs.Reading.{read_wide}
use Rattle.md_dict_rows.proofs.Reducing.{IsAttempt-next, IsTooWideRow-over, KeepsSizes-after, smaller_attempt}
use Rattle.md_dict_rows.proofs.least_terms.reduce.Goals as goal
use Rattle.md_dict_rows.proofs.least_terms.reduce.Goals.{After-common-divider}

-- the number that the divisor does not divide
found : (c : After-common-divider) → IsUndivided c.args.combination.now c.args.own.now c.args.taken.now c.loop-size.divider.value c.in-Err-Undivided.place c.in-Err-Undivided.number
found c =
    subst (λ v. IsUndivided c.args.combination.now c.args.own.now c.args.taken.now v.value c.in-Err-Undivided.place c.in-Err-Undivided.number) c.new-attempt.ensures.divider (subst (IsObstacle c.args.combination.now c.args.own.now c.args.taken.now c.new-attempt.result.limit c.new-attempt.result.divider.value) c.in-Err-Undivided.field-0-is c.in-Err-Undivided.ensures.obstacle)

pub loop-size-smaller : goal.loop-size-smaller
loop-size-smaller c =
    let u = found c in
    smaller_attempt c.args.combination.now c.args.own.now c.args.taken.now c.loop-size.divider.value c.common-divider.result.value c.in-Err-Undivided.place c.in-Err-Undivided.number c.loop-size.invariant.0.positive u
    (rw (read_wide c.in-Err-Undivided.number u.size) at c.common-divider.ensures.divisor)

pub loop-size-preserved : goal.loop-size-preserved
loop-size-preserved c =
    let u = found c in (
      IsAttempt-next c.args.combination.now c.args.own.now c.args.taken.now c.loop-size.divider.value c.common-divider.result.value c.in-Err-Undivided.place c.in-Err-Undivided.number c.loop-size.invariant.0 u
          (rw (read_wide c.in-Err-Undivided.number u.size) at c.common-divider.ensures.divisor)
          c.common-divider.ensures.size,
      KeepsSizes-after c.args.limit _ c.loop-size.fresh c.write.new.fresh c.loop-size.invariant.1 (subst (λ n. KeepsSizes n c.loop-size.fresh c.write.new.fresh) c.new-attempt.ensures.limit c.write.ensures.sizes),
    )

pub returns-in-Err-TooWide-clause-wide : goal.returns-in-Err-TooWide-clause-wide
returns-in-Err-TooWide-clause-wide c =
    let over : IsOver c.args.combination.now c.args.own.now c.args.taken.now c.new-attempt.result.limit c.loop-size.divider.value = subst (λ v. IsOver c.args.combination.now c.args.own.now c.args.taken.now c.new-attempt.result.limit v.value) c.new-attempt.ensures.divider (subst (IsObstacle c.args.combination.now c.args.own.now c.args.taken.now c.new-attempt.result.limit c.new-attempt.result.divider.value) c.in-Err-TooWide.field-0-is c.in-Err-TooWide.ensures.obstacle) in
    IsTooWideRow-over c.args.combination.now c.args.own.now c.args.taken.now c.args.limit c.loop-size.divider.value c.loop-size.invariant.0 (subst (λ n. IsOver c.args.combination.now c.args.own.now c.args.taken.now n c.loop-size.divider.value) c.new-attempt.ensures.limit over)

pub write-requires-clause-reach : goal.write-requires-clause-reach
write-requires-clause-reach c =
    rw (c.new-attempt.ensures.reach, c.new-attempt.ensures.limit) (c.of-reach.ensures c.args.own.now c.args.taken.now c.requires.own_size c.requires.taken_size)

pub returns-in-Err-TooWide-clause-fresh : goal.returns-in-Err-TooWide-clause-fresh
returns-in-Err-TooWide-clause-fresh c =
    let sizes = subst (λ n. KeepsSizes n c.loop-size.fresh c.write.new.fresh) c.new-attempt.ensures.limit c.write.ensures.sizes in
    (KeepsSizes-after c.args.limit _ c.loop-size.fresh c.write.new.fresh c.loop-size.invariant.1 sizes).within c.args.limit (omega arith) c.requires.fresh

pub first_divider-divider-requires-clause-short : goal.first_divider-divider-requires-clause-short
first_divider-divider-requires-clause-short c = (c.of-reach.ensures c.args.own.now c.args.taken.now c.requires.own_size c.requires.taken_size).short
