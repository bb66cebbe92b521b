use Rattle.md_require_text.proofs.required_reading.read_finding.Goals as goal

pub returns-in-1-clause-known : goal.returns-in-1-clause-known
returns-in-1-clause-known c = c.read_infeasible.ensures.known c.args.setting.now

pub returns-in_default-clause-known : goal.returns-in_default-clause-known
returns-in_default-clause-known c = c.read_unbounded.ensures.known c.args.rows
