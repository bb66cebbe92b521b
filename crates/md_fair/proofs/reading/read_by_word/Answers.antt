use Rattle.md_fair.proofs.reading.read_by_word.Goals as goal

pub returns-in_default-clause-known : goal.returns-in_default-clause-known
returns-in_default-clause-known c = c.read_too_wide.ensures.known c.args.setting.now
