use Rattle.std.proofs.Common.{◌≡◌, ℕ, zero, suc, ℤ, pos, ◌+ℤ◌, to_z, of_z, refl, ap, ◌-◌, ◌<◌, ◌^◌, List, length, replicate, lit<, unsigned_abs, sym, ◌∙◌, arith}
use Rattle.std.proofs.lemmas.Int.{ints, to_z-of_z}
use mir.Syntax.{w32, w64}
use Rattle.md_math.specs.Lists.{number_at}
use Rattle.md_math.specs.Sizes.{IsWithin}
use Rattle.md_math.proofs.SizeLaws.{AllWithin-number_at}
use Rattle.md_math.proofs.Bits.{read_short_within}
use Rattle.md_dict_rows.proofs.HalfSizes.{IsShort-from_within, IsWithin-short, read_half}
use Rattle.md_dict_rows.proofs.Reducing.{AreDivided-tested, IsGreatestSize-more, KeepsSizes-more, combined_beside}
use Rattle.md_dict_rows.proofs.halves.write_by_halves.Goals as goal

-- a row of zeros has 0 at each place
number_at-zeros : (n k : ℕ) → number_at (replicate n (pos 0)) k ≡ pos 0
number_at-zeros zero k = refl
number_at-zeros (suc n) zero = refl
number_at-zeros (suc n) (suc k) = number_at-zeros n k

-- a number to which a zero of the row is added
with_zero : (z : ℤ) (zeros : List ℤ) (n k : ℕ) → IsWithin (2 ^ 31 - 1) z → zeros ≡ replicate n (pos 0) → to_z w64 (of_z w64 (to_z w64 (of_z w64 z) +ℤ to_z w64 (of_z w64 (number_at zeros k)))) ≡ z
with_zero z zeros n k h e =
    let read = read_short_within (2 ^ 31 - 1) z h (lit< tt) in
    let same : z +ℤ pos 0 ≡ z = omega (arith, ints) in
    rw (e, number_at-zeros n k, read) (ap (λ y. to_z w64 (of_z w64 y)) same ∙ read)

pub cross-number-requires-clause-a : goal.cross-number-requires-clause-a
cross-number-requires-clause-a c = rw (with_zero c.args.combination.now.multiplier c.args.zeros.now (length c.args.own.now) c.loop-place.place c.requires.multiplier c.requires.zeros) c.requires.multiplier

pub cross-number-requires-clause-c : goal.cross-number-requires-clause-c
cross-number-requires-clause-c c = rw (with_zero c.args.combination.now.factor c.args.zeros.now (length c.args.own.now) c.loop-place.place c.requires.factor c.requires.zeros) c.requires.factor

pub gap-wrong-requires-clause-divisor : goal.gap-wrong-requires-clause-divisor
gap-wrong-requires-clause-divisor c = rw (with_zero c.args.quick.now.value c.args.zeros.now (length c.args.own.now) c.loop-place.place c.requires.value c.requires.zeros) c.requires.value

pub loop-place-preserved : goal.loop-place-preserved
loop-place-preserved c =
    let inside : c.loop-place.place < length c.loop-place.fresh = omega (arith, c.loop-place.invariant.1.length_is) in
    let size = IsWithin-short c.guess-quotient.result c.guess-quotient.ensures in
    let q = read_short_within (2 ^ 31) c.guess-quotient.result size (lit< tt) in
    let own : IsWithin (2 ^ 31 - 1) (number_at c.args.own.now c.loop-place.place) = AllWithin-number_at (2 ^ 31 - 1) c.args.own.now c.loop-place.place c.requires.own in
    let a = read_short_within (2 ^ 31 - 1) (number_at c.args.own.now c.loop-place.place) own (lit< tt) in
    let b = read_short_within (2 ^ 31 - 1) (number_at c.args.taken.now c.loop-place.place) (AllWithin-number_at (2 ^ 31 - 1) c.args.taken.now c.loop-place.place c.requires.taken) (lit< tt) in
    let number = to_z-of_z w64 c.cross-number.result (record { sfits = c.cross-number.type_inv }) in
    let gap = rw (with_zero c.args.quick.now.value c.args.zeros.now (length c.args.own.now) c.loop-place.place c.requires.value c.requires.zeros, q, number) at c.gap-wrong.ensures in
    let cross = rw (with_zero c.args.combination.now.multiplier c.args.zeros.now (length c.args.own.now) c.loop-place.place c.requires.multiplier c.requires.zeros, with_zero c.args.combination.now.factor c.args.zeros.now (length c.args.own.now) c.loop-place.place c.requires.factor c.requires.zeros, a, b) at c.cross-number.ensures in
    let half : unsigned_abs c.guess-quotient.result ≡ c.unsigned_abs.result = sym (c.unsigned_abs.ensures.value ∙ ap unsigned_abs (ap (λ z. to_z w32 (of_z w32 z)) q ∙ read_half c.guess-quotient.result c.guess-quotient.ensures)) in
    rw q (
      AreDivided-tested c.args.combination.now c.args.own.now c.args.taken.now c.args.quick.now.value c.loop-place.fresh c.loop-place.place c.loop-place.wrong c.gap-wrong.result c.guess-quotient.result inside c.loop-place.invariant.0 (λ t o. gap t ∙ cross (IsShort-from_within (number_at c.args.own.now c.loop-place.place) own) ∙ sym (combined_beside c.args.combination.now c.args.own.now c.args.taken.now c.loop-place.place o)),
      KeepsSizes-more (2 ^ 31) _ c.loop-place.fresh c.loop-place.place c.guess-quotient.result c.loop-place.invariant.1 size,
      IsGreatestSize-more c.loop-place.place c.loop-place.fresh c.guess-quotient.result c.loop-place.greatest c.unsigned_abs.result c.max-greatest.result inside half (sym c.max-greatest.ensures) c.loop-place.invariant.2,
    )
