use Rattle.md_answer.proofs.reading.read_by_kind.Goals as goal

pub returns-in-TooWide-clause-known : goal.returns-in-TooWide-clause-known
returns-in-TooWide-clause-known c = c.read_too_wide.ensures.known c.args.setting.now
