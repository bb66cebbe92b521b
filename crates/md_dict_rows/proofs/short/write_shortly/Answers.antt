use Rattle.std.proofs.Common.{◌≡◌, ◌-ℤ◌, ◌*ℤ◌, ◌*◌, ◌<◌, ◌≤◌, ◌^◌, FitsSigned, length, unsigned_abs, refl, ap, sym, subst, ◌∙◌, arith, length-set, mul-le-mul_right}
use Rattle.std.proofs.lemmas.Int.{fits_signed_from_abs, to_z-of_z}
use mir.Syntax.{w64}
use Rattle.md_math.specs.Lists.{number_at}
use Rattle.md_math.specs.Sizes.{IsWithin}
use Rattle.md_math.proofs.SizeLaws.{AllWithin-number_at}
use Rattle.md_dict_rows.specs.Reduce.{AreDivided}
use Rattle.md_dict_division.proofs.Guessing.{guessed_right, guess_of_mix}
use Rattle.md_dict_division.proofs.Reading.{read_short}
use Rattle.md_dict_rows.proofs.Reducing.{AreDivided-short, IsGreatestSize-more, combined_beside, short_mix}
use Rattle.md_dict_rows.proofs.short.write_shortly.Goals as goal

pub loop-place-preserved : goal.loop-place-preserved
loop-place-preserved c =
    let own : IsWithin (2 ^ 62) (number_at c.args.own.now c.loop-place.place) = AllWithin-number_at (2 ^ 62) c.args.own.now c.loop-place.place c.requires.combination.own_size in
    let taken : IsWithin (2 ^ 62) (number_at c.args.taken.now c.loop-place.place) = AllWithin-number_at (2 ^ 62) c.args.taken.now c.loop-place.place c.requires.combination.taken_size in
    let inside : c.loop-place.place < length c.loop-place.fresh = omega (arith, c.loop-place-test.true, c.loop-place.invariant.2) in
    let x = number_at c.args.own.now c.loop-place.place in
    let y = number_at c.args.taken.now c.loop-place.place in
    let number = c.args.combination.now.multiplier *ℤ x -ℤ c.args.combination.now.factor *ℤ y in
    let first = rw (read_short c.args.combination.now.multiplier c.requires.combination.multiplier_size) at c.bits-multiplier.ensures in
    let second = rw (read_short c.args.combination.now.factor c.requires.combination.factor_size) at c.bits-factor.ensures in
    let mixed = rw (read_short x own, read_short y taken) at c.mixed_bits-bits.ensures in
    let made = guess_of_mix c.args.quick.now.guess.inverse c.bits-multiplier.result c.bits-factor.result c.mixed_bits-bits.result c.args.combination.now.multiplier x c.args.combination.now.factor y c.requires.combination.multiplier_size c.requires.combination.factor_size first second mixed in
    let fits : FitsSigned w64 number = fits_signed_from_abs w64 number (short_mix c.args.combination.now.multiplier x c.args.combination.now.factor y (c.requires.short.at c.loop-place.place (omega (arith, inside, c.loop-place.invariant.2, c.requires.length)))) in
    let q = to_z-of_z w64 c.of_bits-quotient.result (record { sfits = c.of_bits-quotient.type_inv }) in
    let size : unsigned_abs c.of_bits-quotient.result ≡ c.unsigned_abs.result = sym (c.unsigned_abs.ensures.value ∙ ap unsigned_abs q) in
    let inverse = c.requires.inverse in
    let value = c.requires.size.within in
    rw q (
      AreDivided-short c.args.combination.now c.args.own.now c.args.taken.now c.args.quick.now.value c.loop-place.fresh c.loop-place.place c.args.quick.now.guess.shift c.loop-place.lost c.mixed_bits-bits.result c.loop-place.greatest c.unsigned_abs.result c.max-greatest.result c.of_bits-quotient.result inside size (sym c.max-greatest.ensures) c.loop-place.invariant.0
          (λ zeros l o. guessed_right inverse.odd c.args.quick.now.guess.inverse c.mixed_bits-bits.result c.args.quick.now.guess.shift c.args.quick.now.value number c.of_bits-quotient.result inverse.value inverse.one made (c.of_bits-quotient.ensures inverse.shift_in zeros) (omega (arith, value)) fits l ∙ sym (combined_beside c.args.combination.now c.args.own.now c.args.taken.now c.loop-place.place o)),
      IsGreatestSize-more c.loop-place.place c.loop-place.fresh c.of_bits-quotient.result c.loop-place.greatest c.unsigned_abs.result c.max-greatest.result inside size (sym c.max-greatest.ensures) c.loop-place.invariant.1,
      length-set c.loop-place.fresh c.loop-place.place c.of_bits-quotient.result ∙ c.loop-place.invariant.2,
    )

pub returns-clause-divided : goal.returns-clause-divided
returns-clause-divided c =
    let less : c.loop-place.greatest * unsigned_abs c.args.quick.now.value ≤ c.short_most.result * unsigned_abs c.args.quick.now.value = mul-le-mul_right (unsigned_abs c.args.quick.now.value) c.if-greatest-short_most.false in
    let done : c.loop-place.place ≡ length c.args.own.now = omega (arith, c.loop-place.invariant.2, c.requires.length, c.loop-place-test.false) in
    subst (AreDivided c.args.combination.now c.args.own.now c.args.taken.now c.args.quick.now.value c.loop-place.fresh) done (c.loop-place.invariant.0 (c.if-loses.ensures refl) (omega (arith, less, c.short_most.ensures.product)))
