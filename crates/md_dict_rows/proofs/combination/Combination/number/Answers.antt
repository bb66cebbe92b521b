use Rattle.std.proofs.Common.{◌^◌, sym, ◌∙◌, refl}
use Rattle.md_math.specs.Lists.{number_at}
use Rattle.md_math.specs.Sizes.{IsWithin}
use Rattle.md_math.proofs.SizeLaws.{AllWithin-number_at}
use Rattle.md_math.proofs.Bits.{read_result}
use Rattle.md_dict_division.proofs.Reading.{read_short}
use Rattle.md_dict_rows.proofs.Reducing.{combined_beside, combined_here}
use Rattle.md_dict_rows.proofs.combination.Combination.number.Goals as goal

pub returns-then-place-self-clause-value : goal.returns-then-place-self-clause-value
returns-then-place-self-clause-value c =
    let made = rw (read_short c.args.self.now.leaving c.requires.combination.leaving_size, read_short c.args.self.now.pivot_den c.requires.combination.pivot_den_size) at c.mixed.ensures.value in
    rw (read_result c.mixed.result c.mixed.type_inv, c.if-place-self.true) (made ∙ sym (combined_here c.args.self.now c.args.own.now c.args.taken.now c.args.self.now.place refl))

pub returns-else-place-self-clause-value : goal.returns-else-place-self-clause-value
returns-else-place-self-clause-value c =
    let own : IsWithin (2 ^ 62) (number_at c.args.own.now c.args.place) = AllWithin-number_at (2 ^ 62) c.args.own.now c.args.place c.requires.combination.own_size in
    let taken : IsWithin (2 ^ 62) (number_at c.args.taken.now c.args.place) = AllWithin-number_at (2 ^ 62) c.args.taken.now c.args.place c.requires.combination.taken_size in
    let made = rw (read_short (number_at c.args.own.now c.args.place) own, read_short (number_at c.args.taken.now c.args.place) taken) at c.mixed-else-place-self.ensures.value in
    rw (read_result c.mixed-else-place-self.result c.mixed-else-place-self.type_inv) (made ∙ sym (combined_beside c.args.self.now c.args.own.now c.args.taken.now c.args.place c.if-place-self.false))
