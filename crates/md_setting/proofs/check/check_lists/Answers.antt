use Rattle.std.proofs.Common.{sym}
use Rattle.md_setting.specs.Setting.{written}
use Rattle.md_setting.proofs.Accepted.{listed, small}
use Rattle.md_setting.proofs.check.check_lists.Goals as goal

pub has_small_values-requires-clause-listed : goal.has_small_values-requires-clause-listed
has_small_values-requires-clause-listed c = listed (written c.args.raw.now) c.requires.first.sizes (sym c.if-not-has_good_shape.ensures)

pub has_small_values-requires-clause-small : goal.has_small_values-requires-clause-small
has_small_values-requires-clause-small c = small (written c.args.raw.now) (sym c.if-not-has_small_lists.ensures)

pub has_all_weights-requires-clause-listed : goal.has_all_weights-requires-clause-listed
has_all_weights-requires-clause-listed c = listed (written c.args.raw.now) c.requires.first.sizes (sym c.if-not-has_good_shape.ensures)

pub has_all_weights-requires-clause-small : goal.has_all_weights-requires-clause-small
has_all_weights-requires-clause-small c = small (written c.args.raw.now) (sym c.if-not-has_small_lists.ensures)
