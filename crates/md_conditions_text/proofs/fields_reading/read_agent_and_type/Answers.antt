use Rattle.std.proofs.lemmas.Result.{err_from_is_err_and}
use Rattle.md_conditions_text.proofs.FieldLaws.{agent-fails, type-fails, type-read}
use Rattle.md_conditions_text.proofs.fields_reading.read_agent_and_type.Goals as goal

pub returns-in_err-agent-clause-read : goal.returns-in_err-agent-clause-read
returns-in_err-agent-clause-read c =
    let p = err_from_is_err_and c.from_residual.result c.from_residual.ensures.1 in
    rw (p.1, p.2) (λ ne. agent-fails c.args.setting.now c.args.fields.now _ (c.in_err-agent.ensures.read ne))

pub returns-in_err-kind-clause-read : goal.returns-in_err-kind-clause-read
returns-in_err-kind-clause-read c =
    let p = err_from_is_err_and c.from_residual-in_err-kind.result c.from_residual-in_err-kind.ensures.1 in
    rw (p.1, p.2) (λ ne. type-fails c.args.setting.now c.args.fields.now c.read_agent.new.fields c.in_ok-agent.agent _ c.in_ok-agent.ensures.read (c.in_err-kind.ensures.read ne))

pub returns-clause-read : goal.returns-clause-read
returns-clause-read c = type-read c.args.setting.now c.args.fields.now c.read_agent.new.fields c.read_type.new.fields c.in_ok-agent.agent c.in_ok-kind.kind c.in_ok-agent.ensures.read c.in_ok-kind.ensures.read
