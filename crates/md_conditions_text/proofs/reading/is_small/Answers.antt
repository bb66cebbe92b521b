use Rattle.std.proofs.Common.{sym, ◌∙◌}
use Rattle.md_conditions_text.proofs.NarrowLaws.{condition-known}
use Rattle.md_conditions_text.proofs.reading.is_small.Goals as goal

pub returns-then-has_narrow_rows-clause-fits : goal.returns-then-has_narrow_rows-clause-fits
returns-then-has_narrow_rows-clause-fits c = condition-known c.args.setting.now c.args.condition c.requires (sym c.has_narrow_rows.ensures ∙ c.if-has_narrow_rows.true)
