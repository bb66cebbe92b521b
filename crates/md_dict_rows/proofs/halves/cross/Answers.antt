use Rattle.std.proofs.Common.{◌≡◌, ◌-◌, ◌*◌, ◌≤◌, ◌^◌, ◌-ℤ◌, ◌*ℤ◌, to_z, of_z, unsigned_abs, ◌∙◌, subst, mul-le-mul, arith}
use Rattle.std.proofs.lemmas.Int.{fits_signed_from_abs, int_wrap_fits, to_z-of_z}
use mir.Syntax.{w64}
use Rattle.md_dict_rows.proofs.HalfSizes.{IsShort-from_within, IsWithin-short, read_short_number}
use Rattle.md_dict_rows.proofs.Reducing.{short_mix}
use Rattle.md_dict_rows.proofs.halves.cross.Goals as goal

pub returns : goal.returns
returns c =
    let a : to_z w64 (of_z w64 c.low.result) ≡ c.args.a = rw (read_short_number c.low.result c.low.ensures.short) ((rw (to_z-of_z w64 c.args.a c.ranges.a) at c.low.ensures.same) (IsShort-from_within c.args.a c.requires.a)) in
    let b : to_z w64 (of_z w64 c.low-2.result) ≡ c.low-2.result = read_short_number c.low-2.result c.low-2.ensures.short in
    let f : to_z w64 (of_z w64 c.low-3.result) ≡ c.args.c = rw (read_short_number c.low-3.result c.low-3.ensures.short) ((rw (to_z-of_z w64 c.args.c c.ranges.c) at c.low-3.ensures.same) (IsShort-from_within c.args.c c.requires.c)) in
    let d : to_z w64 (of_z w64 c.low-4.result) ≡ c.args.d = rw (read_short_number c.low-4.result c.low-4.ensures.short) ((rw (to_z-of_z w64 c.args.d c.ranges.d) at c.low-4.ensures.same) (IsShort-from_within c.args.d c.requires.d)) in
    let first : unsigned_abs c.args.a * unsigned_abs c.low-2.result ≤ (2 ^ 31 - 1) * 2 ^ 31 = mul-le-mul c.requires.a.within (IsWithin-short c.low-2.result c.low-2.ensures.short).within in
    let second : unsigned_abs c.args.c * unsigned_abs c.args.d ≤ (2 ^ 31 - 1) * (2 ^ 31 - 1) = mul-le-mul c.requires.c.within c.requires.d.within in
    let small = short_mix c.args.a c.low-2.result c.args.c c.args.d (omega (arith, first, second)) in
    let bits = rw (c.cast_unsigned.ensures, c.cast_unsigned-2.ensures, a, b, f, d, to_z-of_z w64 c.args.a c.ranges.a, to_z-of_z w64 c.args.c c.ranges.c) at c.mixed_bits.ensures in
    let made = c.cast_signed.ensures ∙ bits ∙ int_wrap_fits w64 (c.args.a *ℤ c.low-2.result -ℤ c.args.c *ℤ c.args.d) (fits_signed_from_abs w64 (c.args.a *ℤ c.low-2.result -ℤ c.args.c *ℤ c.args.d) small) in
    let same = rw (to_z-of_z w64 c.args.b c.ranges.b) at c.low-2.ensures.same in
    λ short. rw (to_z-of_z w64 c.cast_signed.result (record { sfits = c.cast_signed.type_inv })) (subst (λ z. c.cast_signed.result ≡ c.args.a *ℤ z -ℤ c.args.c *ℤ c.args.d) (same short) made)
