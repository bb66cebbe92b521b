use Rattle.std.proofs.Common.{◌≡◌, ◌-ℤ◌, ◌*ℤ◌, ◌<◌, ◌^◌, length, ◌∙◌, sym, arith}
use Rattle.md_math.specs.Lists.{number_at}
use Rattle.md_math.specs.Sizes.{IsWithin}
use Rattle.md_math.proofs.SizeLaws.{AllWithin-number_at, IsWithin-wider}
use Rattle.md_math.proofs.Bits.{read_result}
use Rattle.md_dict_division.proofs.Reading.{read_short}
use Rattle.md_dict_rows.proofs.Reducing.{AreDivided-more, KeepsSizes-more, combined_beside}
use Rattle.md_dict_rows.proofs.least_terms.write_quickly.Goals as goal

pub loop-place-preserved : goal.loop-place-preserved
loop-place-preserved c =
    let own : IsWithin (2 ^ 62) (number_at c.args.own.now c.loop-place.place) = AllWithin-number_at (2 ^ 62) c.args.own.now c.loop-place.place c.requires.combination.own_size in
    let taken : IsWithin (2 ^ 62) (number_at c.args.taken.now c.loop-place.place) = AllWithin-number_at (2 ^ 62) c.args.taken.now c.loop-place.place c.requires.combination.taken_size in
    let inside : c.loop-place.place < length c.loop-place.fresh = omega (arith, c.loop-place.invariant.2.length_is) in
    let number : c.mixed-number.result ≡ c.args.combination.now.multiplier *ℤ number_at c.args.own.now c.loop-place.place -ℤ c.args.combination.now.factor *ℤ number_at c.args.taken.now c.loop-place.place =
    rw (read_short (number_at c.args.own.now c.loop-place.place) own, read_short (number_at c.args.taken.now c.loop-place.place) taken) at c.mixed-number.ensures.value in
    let told = rw (read_result c.mixed-number.result c.mixed-number.type_inv, number) at c.in-Some.ensures in
    let most : IsWithin c.args.quick.now.guess.most c.in-Some.quotient = record { within = told.1 } in
    rw (read_short c.in-Some.quotient (IsWithin-wider c.args.quick.now.guess.most (2 ^ 62) c.in-Some.quotient c.requires.most most)) (
      omega (arith, c.loop-place.invariant.0),
      AreDivided-more c.args.combination.now c.args.own.now c.args.taken.now c.args.quick.now.value c.loop-place.fresh c.loop-place.place c.in-Some.quotient c.loop-place.invariant.1 inside (λ o. told.0 ∙ sym (combined_beside c.args.combination.now c.args.own.now c.args.taken.now c.loop-place.place o)),
      KeepsSizes-more c.args.quick.now.guess.most _ c.loop-place.fresh c.loop-place.place c.in-Some.quotient c.loop-place.invariant.2 most,
    )
