use Rattle.md_dict_division.proofs.Reading.{read_short}
use Rattle.md_dict_rows.proofs.candidates.common_den.Goals as goal

pub returns : goal.returns
returns c = rw (c.unsigned_abs.ensures.value, c.unsigned_abs-2.ensures.value, read_short c.args.combination.now.den c.requires.den, read_short c.args.combination.now.pivot_den c.requires.pivot_den) at c.binary_gcd.ensures
