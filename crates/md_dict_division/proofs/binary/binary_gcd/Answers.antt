use Rattle.std.proofs.Common.{◌≡◌, ◌*◌, ◌^◌, ◌%◌, ◌<◌, min, arith}
use Rattle.std.specs.Int.{IsGcd, trailing_zeros}
use mir.Syntax.{w64}
use Rattle.std.proofs.Math.Nat.{mod-eq_of_lt}
use Rattle.md_math.proofs.Gcds.{size_of_gcd}
use Rattle.md_dict_division.proofs.OddParts.{IsGcd-shared}
use Rattle.md_dict_division.proofs.binary.binary_gcd.Goals as goal
use Rattle.md_dict_division.proofs.binary.binary_gcd.Goals.{After-common_twos}

-- the gcd of the odd parts, with the factors of 2 that both numbers have
common : (c : After-common_twos) → IsGcd c.args.a c.args.b (2 ^ min (trailing_zeros w64 c.args.a) (trailing_zeros w64 c.args.b) * c.gcd_of_odd.result)
common c = rw (c.odd_part.ensures.value, c.odd_part-2.ensures.value) at (IsGcd-shared (trailing_zeros w64 c.args.a) (trailing_zeros w64 c.args.b) c.odd_part.result c.odd_part-2.result c.gcd_of_odd.result c.odd_part.ensures.odd c.odd_part-2.ensures.odd c.gcd_of_odd.ensures)

pub returns : goal.returns
returns c =
    let twos = min (trailing_zeros w64 c.args.a) (trailing_zeros w64 c.args.b) in
    let small : 2 ^ twos * c.gcd_of_odd.result < 2 ^ 64 = size_of_gcd c.args.a c.args.b (2 ^ twos * c.gcd_of_odd.result) (2 ^ 64) c.ranges.a.fits c.ranges.b.fits (common c) in
    let whole : c.gcd_of_odd.result * 2 ^ c.common_twos.result % 2 ^ 64 ≡ 2 ^ twos * c.gcd_of_odd.result = rw c.common_twos.ensures (omega (arith, small, mod-eq_of_lt small)) in
    rw whole (common c)
