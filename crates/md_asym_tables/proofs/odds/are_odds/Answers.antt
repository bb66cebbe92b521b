use Rattle.std.proofs.Common.{◌≡◌, ◌<◌, length, arith, refl}
use Rattle.std.proofs.lemmas.Int.{to_z-of_z}
use mir.Syntax.{w128}
use Rattle.md_asym_sale.specs.Values.{pairs_of}
use Rattle.md_asym_tables.proofs.odds.are_odds.Goals as goal

pub returns : goal.returns
returns c =
    let read = to_z-of_z w128 c.args.den c.ranges.den in
    let range = rw read at (c.if-not-is_denominator.ensures.0 refl) in
    let tells = rw read at c.are_within.ensures in
    let one : length c.args.odds.now ≡ pairs_of c.args.setting.now = omega (arith, c.if-len-pair_count.false, c.len.ensures, c.pair_count.ensures.value) in (
      λ t. record { den_positive = range.0; den_size = range.1; one_each = one; each = λ p b. (tells.0 t).each p (omega (arith, b, one)) },
      λ h. tells.1 (record { each = λ p b. h.each p (omega (arith, b, one)) }),
    )
