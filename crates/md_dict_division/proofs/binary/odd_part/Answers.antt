use Rattle.md_dict_division.proofs.OddParts.{HasOddQuotient-self}
use Rattle.md_dict_division.proofs.binary.odd_part.Goals as goal

pub returns-clause-odd : goal.returns-clause-odd
returns-clause-odd c = (HasOddQuotient-self c.args.x c.requires c.ranges.x.fits).odd

pub returns-clause-value : goal.returns-clause-value
returns-clause-value c = (HasOddQuotient-self c.args.x c.requires c.ranges.x.fits).value
