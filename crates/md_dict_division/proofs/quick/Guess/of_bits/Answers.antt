use Rattle.std.proofs.Common.{◌^◌}
use Rattle.std.proofs.lemmas.Int.{to_z-of_z}
use Rattle.std.proofs.Math.Nat.{mod-eq_of_lt}
use mir.Syntax.{w64}
use Rattle.md_dict_division.proofs.Guessing.{read_shifted, shifted_back}
use Rattle.md_dict_division.proofs.quick.Guess.of_bits.Goals as goal

pub returns : goal.returns
returns c = λ l h.
    rw (to_z-of_z w64 c.cast_signed.result (record { sfits = c.cast_signed.type_inv }), c.cast_signed.ensures, mod-eq_of_lt l, read_shifted (2 ^ c.args.self.now.shift) c.args.bits c.ranges.bits.fits)
    (shifted_back c.args.self.now.shift c.args.bits l c.ranges.bits.fits h)
