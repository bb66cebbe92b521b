use Rattle.std.proofs.Common.{◌≡◌, ◌-ℤ◌, ◌*ℤ◌, ◌<◌, ◌^◌, unsigned_abs, ap, ◌∙◌, arith}
use Rattle.md_math.specs.Lists.{number_at}
use Rattle.md_math.specs.Sizes.{IsWithin}
use Rattle.md_math.proofs.SizeLaws.{AllWithin-number_at}
use Rattle.md_math.proofs.Bits.{read_result}
use Rattle.md_dict_division.proofs.Reading.{read_short}
use Rattle.md_dict_rows.proofs.Reducing.{short_mix}
use Rattle.md_dict_rows.proofs.candidates.short_size.Goals as goal
use Rattle.md_dict_rows.proofs.candidates.short_size.Goals.{After-unsigned_abs}

-- the size of the number, and how small it is
record IsSize (c : After-unsigned_abs) : Type 0 where
  is : c.unsigned_abs.result ≡ unsigned_abs (c.args.combination.now.multiplier *ℤ number_at c.args.own.now c.args.place -ℤ c.args.combination.now.factor *ℤ number_at c.args.taken.now c.args.place)
  small : c.unsigned_abs.result < 2 ^ 63

size_of : (c : After-unsigned_abs) → IsSize c
size_of c =
    let own : IsWithin (2 ^ 62) (number_at c.args.own.now c.args.place) = AllWithin-number_at (2 ^ 62) c.args.own.now c.args.place c.requires.combination.own_size in
    let taken : IsWithin (2 ^ 62) (number_at c.args.taken.now c.args.place) = AllWithin-number_at (2 ^ 62) c.args.taken.now c.args.place c.requires.combination.taken_size in
    let made = rw (read_short (number_at c.args.own.now c.args.place) own, read_short (number_at c.args.taken.now c.args.place) taken) at c.mixed.ensures.value in
    let same = c.unsigned_abs.ensures.value ∙ ap unsigned_abs (read_result c.mixed.result c.mixed.type_inv ∙ made) in
    let small = short_mix c.args.combination.now.multiplier (number_at c.args.own.now c.args.place) c.args.combination.now.factor (number_at c.args.taken.now c.args.place) (c.requires.short.at c.args.place c.requires.place) in
    record { is = same; small = omega (arith, same, small) }

pub overflow_cast-result : goal.overflow_cast-result
overflow_cast-result c = let small = (size_of c).small in omega (arith, small)

pub returns : goal.returns
returns c = (size_of c).is
