use Rattle.std.proofs.Common.{◌≡◌, ◌^◌, pos, length, unsigned_abs, to_z, of_z, ap, sym, ◌∙◌}
use mir.Syntax.{w64}
use Rattle.md_math.specs.Lists.{number_at}
use Rattle.md_math.proofs.SizeLaws.{AllWithin-number_at}
use Rattle.md_dict_division.proofs.Reading.{read_short}
use Rattle.md_dict_rows.proofs.Reducing.{IsGreatestSize-instead}
use Rattle.md_dict_rows.proofs.sizes.write_at.Goals as goal

pub returns-clause-greatest : goal.returns-clause-greatest
returns-clause-greatest c =
    let number : to_z w64 (of_z w64 c.args.number) ≡ c.args.number = read_short c.args.number c.requires.number in
    let zero : number_at c.args.numbers.now c.args.place ≡ pos 0 = sym (read_short (number_at c.args.numbers.now c.args.place) (AllWithin-number_at (2 ^ 62) c.args.numbers.now c.args.place c.requires.numbers)) ∙ ap (to_z w64) c.if-before-ne0.false in
    let size : unsigned_abs c.args.number ≡ c.unsigned_abs.result = sym (c.unsigned_abs.ensures.value ∙ ap unsigned_abs number) in
    rw number (IsGreatestSize-instead (length c.args.numbers.now) c.args.place c.args.numbers.now c.args.number c.args.greatest c.unsigned_abs.result c.max.result c.requires.place c.requires.place zero size (sym c.max.ensures) c.requires.greatest)
