use Rattle.md_math.proofs.Bits.{read_result}
use Rattle.md_dict_rows.proofs.Reducing.{IsAttempt-common}
use Rattle.md_dict_rows.proofs.candidates.common_at.Goals as goal

pub returns-clause-attempt : goal.returns-clause-attempt
returns-clause-attempt c =
    IsAttempt-common c.args.combination.now c.args.own.now c.args.taken.now c.args.divider.now.value c.common.result.value c.args.place c.requires.attempt c.requires.place (rw (read_result c.number.result c.number.type_inv, c.number.ensures.value) at c.common.ensures.divisor) c.common.ensures.size

pub returns-clause-divisor : goal.returns-clause-divisor
returns-clause-divisor c = rw (read_result c.number.result c.number.type_inv, c.number.ensures.value) at c.common.ensures.divisor
