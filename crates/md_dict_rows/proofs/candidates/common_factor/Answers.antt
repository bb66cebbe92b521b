use Rattle.md_dict_division.proofs.Reading.{read_short}
use Rattle.md_dict_rows.proofs.candidates.common_factor.Goals as goal

pub returns : goal.returns
returns c = rw (c.unsigned_abs.ensures.value, c.unsigned_abs-2.ensures.value, read_short c.args.combination.now.multiplier c.requires.multiplier, read_short c.args.combination.now.factor c.requires.factor) at c.binary_gcd.ensures
