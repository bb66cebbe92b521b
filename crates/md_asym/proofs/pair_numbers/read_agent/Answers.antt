use Rattle.std.proofs.Common.{◌+◌, arith}
use Rattle.std.proofs.lemmas.Result.{err_from_is_err_and}
use Rattle.md_parts.specs.Ranges.{ranged_field}
use Rattle.md_parts.proofs.RecordSteps.{taken-length}
use Rattle.md_asym.proofs.ReadingSteps.{agent-missing, agent-name_fails, agent-numbers_fail, agent-read}
use Rattle.md_asym.proofs.pair_numbers.read_agent.Goals as goal

pub returns-in_err-fields : goal.returns-in_err-fields
returns-in_err-fields c =
    let p = err_from_is_err_and c.from_residual.result c.from_residual.ensures.1 in
    rw (p.1, p.2) (λ ne. agent-missing c.args.word.now c.args.setting.now (ranged_field 62 c.args.range) c.args.agent c.types_of-types.result c.types_of-types.ensures.count c.args.reader.now _ (c.in_err-fields.ensures ne))

pub returns-in_err-word : goal.returns-in_err-word
returns-in_err-word c =
    let p = err_from_is_err_and c.from_residual-in_err-word.result c.from_residual-in_err-word.ensures.1 in
    rw (p.1, p.2) (λ _. agent-name_fails c.args.word.now c.args.setting.now (ranged_field 62 c.args.range) c.args.agent c.types_of-types.result c.types_of-types.ensures.count c.args.reader.now c.next.new.self c.in_ok-fields.fields c.agent_name.result.now _ c.agent_name.ensures c.in_ok-fields.ensures c.in_err-word.ensures)

pub returns-in_err-numbers : goal.returns-in_err-numbers
returns-in_err-numbers c =
    let p = err_from_is_err_and c.from_residual-in_err-numbers.result c.from_residual-in_err-numbers.ensures.1 in
    rw (p.1, p.2) (λ ne. agent-numbers_fail c.args.word.now c.args.setting.now (ranged_field 62 c.args.range) c.args.agent c.types_of-types.result c.types_of-types.ensures.count c.args.reader.now c.next.new.self c.in_ok-fields.fields c.word.new.self c.agent_name.result.now _ c.agent_name.ensures c.in_ok-fields.ensures c.in_ok-word.ensures (c.in_err-numbers.ensures ne))

pub numbers-requires-clause-some : goal.numbers-requires-clause-some
numbers-requires-clause-some c =
    let long = taken-length c.args.word.now (1 + c.types_of-types.result) c.args.reader.now c.next.new.self c.in_ok-fields.fields c.in_ok-fields.ensures in
    let left = c.in_ok-word.ensures.left in
    omega (arith, long, left)

pub returns : goal.returns
returns c =
    let (numbers, reads, items, adds) = c.in_ok-numbers.ensures in (
      numbers,
      agent-read c.args.word.now c.args.setting.now (ranged_field 62 c.args.range) c.args.agent c.types_of-types.result c.types_of-types.ensures.count c.args.reader.now c.next.new.self c.in_ok-fields.fields c.word.new.self c.numbers.new.self c.agent_name.result.now numbers c.agent_name.ensures c.in_ok-fields.ensures c.in_ok-word.ensures reads,
      items,
    )
