use Rattle.std.proofs.Common.{◌≡◌, ◌+◌, ◌^◌, sym, refl, subst, arith}
use Rattle.md_math.specs.Lists.{number_at}
use Rattle.md_math.specs.Sizes.{IsWithin}
use Rattle.md_math.proofs.SizeLaws.{IsWithin-wider}
use Rattle.md_dict_division.proofs.Reading.{read_short}
use Rattle.md_dict.proofs.FaceRow.{AreLess-more, difference_small, difference_fits}
use Rattle.md_dict.proofs.first.subtract_row.Goals as goal

pub loop-place-init : goal.loop-place-init
loop-place-init c = record { same = refl; less = λ s a b. absurd (omega arith); rest = λ s a. refl }

pub overflow_sub-sums : goal.overflow_sub-sums
overflow_sub-sums c =
    let place = c.loop-place.place in
    let before : number_at c.loop-place.sums place ≡ number_at c.args.sums.now place = c.loop-place.invariant.rest place (omega arith) in
    let sum : IsWithin (2 ^ 60) (number_at c.loop-place.sums place) = subst (IsWithin (2 ^ 60)) (sym before) (c.requires.room.at place c.loop-place-test.true) in
    let number : IsWithin (2 ^ 44) (number_at c.args.kept.now (c.args.start + place)) = c.requires.numbers place c.loop-place-test.true in
    rw (read_short (number_at c.loop-place.sums place) (IsWithin-wider (2 ^ 60) (2 ^ 62) _ (omega arith) sum), read_short (number_at c.args.kept.now (c.args.start + place)) (IsWithin-wider (2 ^ 44) (2 ^ 62) _ (omega arith) number))
    (difference_fits _ _ sum number)

pub loop-place-preserved : goal.loop-place-preserved
loop-place-preserved c =
    let place = c.loop-place.place in
    let before : number_at c.loop-place.sums place ≡ number_at c.args.sums.now place = c.loop-place.invariant.rest place (omega arith) in
    let sum : IsWithin (2 ^ 60) (number_at c.loop-place.sums place) = subst (IsWithin (2 ^ 60)) (sym before) (c.requires.room.at place c.loop-place-test.true) in
    let number : IsWithin (2 ^ 44) (number_at c.args.kept.now (c.args.start + place)) = c.requires.numbers place c.loop-place-test.true in
    rw (read_short (number_at c.loop-place.sums place) (IsWithin-wider (2 ^ 60) (2 ^ 62) _ (omega arith) sum), read_short (number_at c.args.kept.now (c.args.start + place)) (IsWithin-wider (2 ^ 44) (2 ^ 62) _ (omega arith) number), read_short _ (difference_small _ _ sum number))
    (AreLess-more c.args.kept.now c.args.start place c.args.sums.now c.loop-place.sums _ c.loop-place.invariant c.loop-place-test.true refl)
