use Rattle.md_setting.specs.Setting.{written}
use Rattle.md_setting.proofs.Accepted.{listed, small}
use Rattle.md_setting.proofs.check.check_totals.Goals as goal

pub total_in-requires-clause-listed : goal.total_in-requires-clause-listed
total_in-requires-clause-listed c = listed (written c.args.raw.now) c.requires.lists.first.sizes c.requires.lists.shape

pub total_in-requires-clause-small : goal.total_in-requires-clause-small
total_in-requires-clause-small c = small (written c.args.raw.now) c.requires.lists.lists

pub rows_in-requires-clause-outcomes : goal.rows_in-requires-clause-outcomes
rows_in-requires-clause-outcomes c = (listed (written c.args.raw.now) c.requires.lists.first.sizes c.requires.lists.shape).few_outcomes
