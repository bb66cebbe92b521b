use mir.Syntax.{w64}
use Rattle.std.specs.Int.{abs_diff, trailing_zeros}
use Rattle.md_dict_division.proofs.OddParts.{HasOddQuotient, HasOddQuotient-gap}
use Rattle.md_dict_division.proofs.binary.odd_gap.Goals as goal
use Rattle.md_dict_division.proofs.binary.odd_gap.Goals.{After-abs_diff}

parts : (c : After-abs_diff) → HasOddQuotient (abs_diff c.args.a c.args.b) (trailing_zeros w64 c.args.difference)
parts c = HasOddQuotient-gap c.args.a c.args.b c.args.difference c.ranges.a.fits c.ranges.b.fits c.requires.difference c.requires.some c.ranges.difference.fits

pub returns-clause-odd : goal.returns-clause-odd
returns-clause-odd c = rw c.abs_diff.ensures ((parts c).odd)

pub returns-clause-value : goal.returns-clause-value
returns-clause-value c = rw c.abs_diff.ensures ((parts c).value)
