use Rattle.std.proofs.Common.{◌^◌, pos, ◌<ℤ◌, int_div, arith}
use Rattle.std.proofs.lemmas.Int.{ints, to_z-of_z, quot_fits}
use mir.Syntax.{w64}
use Rattle.md_math.specs.Sizes.{IsWithin}
use Rattle.md_math.proofs.Division.{Divides-int_div}
use Rattle.md_dict_division.proofs.Reading.{read_short}
use Rattle.md_dict_rows.proofs.combination.share.Goals as goal

pub returns-clause-value : goal.returns-clause-value
returns-clause-value c =
    let positive : pos 0 <ℤ pos c.args.divisor = omega (arith, ints, c.requires.positive) in
    let fits = quot_fits w64 c.args.x (pos c.args.divisor) c.ranges.x positive in
    let small : IsWithin (2 ^ 62) (pos c.args.divisor) = record { within = c.requires.divisor_size } in
    rw (read_short (pos c.args.divisor) small, read_short c.args.x c.requires.size, to_z-of_z w64 (int_div c.args.x (pos c.args.divisor)) fits)
    (Divides-int_div (pos c.args.divisor) c.args.x c.requires.exact)
