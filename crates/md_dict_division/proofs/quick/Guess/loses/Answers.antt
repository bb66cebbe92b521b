use Rattle.std.proofs.lemmas.Bool.{ltb-false}
use Rattle.md_dict_division.proofs.Guessing.{EndsInZeros-from_trailing}
use Rattle.md_dict_division.proofs.quick.Guess.loses.Goals as goal

pub returns : goal.returns
returns c = λ f. EndsInZeros-from_trailing c.args.self.now.shift c.args.bits c.ranges.bits.fits (ltb-false _ _ f)
