use Rattle.std.proofs.Common.{◌≡◌, ◌^◌, ◌*◌, ◌<◌, ◌*ℤ◌, ◌+ℤ◌, pos, to_z, of_z, lit<, lit≤, refl, arith}
use mir.Syntax.{w64, w128}
use Rattle.md_math.specs.Sizes.{IsWithin}
use Rattle.md_math.proofs.SizeLaws.{IsWithin-*ℤ}
use Rattle.md_math.proofs.Bits.{read_within, read_short_within}
use Rattle.md_lp.proofs.Packing.{IsPacked, packed-back, shown-packed}
use Rattle.md_lp.proofs.stored_term.stored_term.Goals as goal

pub returns : goal.returns
returns c =
    let column = c.args.column in
    let value = c.args.value in
    let small : IsWithin (2 ^ 44) value = c.requires.value in
    let wide : to_z w128 (of_z w128 value) ≡ value = read_within (2 ^ 44) value small (lit< tt) in
    let short : to_z w64 (of_z w64 value) ≡ value = read_short_within (2 ^ 44) value small (lit< tt) in
    let product : IsWithin (2 ^ 44 * 65536) (value *ℤ pos 65536) = IsWithin-*ℤ (2 ^ 44) 65536 value (pos 65536) small (record { within = lit≤ tt }) in
    let shifted : to_z w64 (of_z w64 (value *ℤ pos 65536)) ≡ value *ℤ pos 65536 = read_short_within (2 ^ 44 * 65536) (value *ℤ pos 65536) product (lit< tt) in
    let below : column < 65536 = c.requires.column in
    let added : to_z w64 (of_z w64 (pos column)) ≡ pos column = read_short_within 65536 (pos column) (record { within = omega arith }) (lit< tt) in
    let packed : IsPacked column value (value *ℤ pos 65536 +ℤ pos column) = record { is = refl; below = below; small = small } in
    let bits = rw (wide, short, shifted, c.from.ensures, added, packed-back column value (value *ℤ pos 65536 +ℤ pos column) packed) at c.cast_unsigned.ensures in
    shown-packed c.cast_unsigned.result column value (value *ℤ pos 65536 +ℤ pos column) packed bits
