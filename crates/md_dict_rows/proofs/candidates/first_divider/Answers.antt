use Rattle.std.proofs.Common.{arith}
use Rattle.std.proofs.lemmas.Int.{ints, to_z_pos}
use mir.Syntax.{w128}
use Rattle.md_dict_rows.proofs.candidates.first_divider.Goals as goal

pub short_common_at_witnesses-requires-clause-attempt : goal.short_common_at_witnesses-requires-clause-attempt
short_common_at_witnesses-requires-clause-attempt c = c.candidate-candidate.ensures c.args.own.now c.args.taken.now c.requires.combination c.requires.rows

pub overflow_cast-candidate-else-bound-lt-LEAST_LONG : goal.overflow_cast-candidate-else-bound-lt-LEAST_LONG
overflow_cast-candidate-else-bound-lt-LEAST_LONG c =
    let first = c.candidate-candidate.ensures c.args.own.now c.args.taken.now c.requires.combination c.requires.rows in
    omega (arith, ints, first.size)

pub common_at_witnesses-requires-clause-attempt : goal.common_at_witnesses-requires-clause-attempt
common_at_witnesses-requires-clause-attempt c =
    let first = c.candidate-candidate.ensures c.args.own.now c.args.taken.now c.requires.combination c.requires.rows in
    rw (to_z_pos w128 c.candidate-candidate.result (omega (arith, ints, first.size))) first
