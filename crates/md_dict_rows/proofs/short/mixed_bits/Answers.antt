use Rattle.std.proofs.Common.{◌+◌, ◌-◌, ◌*◌, ◌%◌, ◌^◌, to_z, of_z, ap, ap₂, ◌∙◌}
use Rattle.std.proofs.lemmas.Int.{to_z-of_z}
use mir.Syntax.{w64}
use Rattle.md_dict_division.proofs.Guessing.{mixed_is}
use Rattle.md_dict_rows.proofs.short.mixed_bits.Goals as goal

pub returns : goal.returns
returns c =
    ap₂ (λ x y. to_z w64 ((c.args.multiplier * x % 2 ^ 64 + (2 ^ 64 - c.args.factor * y % 2 ^ 64)) % 2 ^ 64))
    (c.cast_unsigned.ensures ∙ ap (of_z w64) (to_z-of_z w64 c.args.own c.ranges.own))
    (c.cast_unsigned-2.ensures ∙ ap (of_z w64) (to_z-of_z w64 c.args.taken c.ranges.taken))
    ∙ mixed_is c.args.multiplier c.args.factor c.args.own c.args.taken c.ranges.multiplier.fits c.ranges.factor.fits c.ranges.own c.ranges.taken
