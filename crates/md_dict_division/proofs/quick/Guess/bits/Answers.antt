use Rattle.std.proofs.Common.{◌*◌, ◌%◌, ◌^◌, of_z, ap, ◌∙◌}
use Rattle.std.proofs.lemmas.Int.{to_z-of_z}
use mir.Syntax.{w64}
use Rattle.md_dict_division.proofs.quick.Guess.bits.Goals as goal

pub returns : goal.returns
returns c = ap (λ n. n * c.args.self.now.inverse % 2 ^ 64) (c.cast_unsigned.ensures ∙ ap (of_z w64) (to_z-of_z w64 c.args.x c.ranges.x))
