use Rattle.std.proofs.Common.{◌≡◌, ◌*ℤ◌, ◌^◌, ℤ, pos, lit<, refl, ◌∙◌, arith}
use Rattle.std.proofs.lemmas.Int.{ints}
use mir.Syntax.{w64}
use Rattle.md_math.proofs.SizeLaws.{fits_from_IsWithin}
use Rattle.md_math.proofs.Bits.{read_result}
use Rattle.md_dict_division.proofs.Reading.{read_short}
use Rattle.md_dict.proofs.OldRows.{leaving_value, read_den, read_factor}
use Rattle.md_dict.proofs.RowSteps.{pivot_row_in}
use Rattle.md_dict.proofs.old_rows.combination.Goals as goal

pub overflow_cast-result : goal.overflow_cast-result
overflow_cast-result c =
    let (rows, h) = c.requires.old in
    let leaving = leaving_value c.args.step.now rows c.args.row _ c.from.result c.basic_number-leaving.result (read_den c.args.step.now rows c.args.old.now c.args.row h) c.from.ensures c.basic_number-leaving.ensures.value c.basic_number-leaving.ensures.size in
    rw (read_result c.basic_number-leaving.result c.basic_number-leaving.type_inv) (fits_from_IsWithin w64 (2 ^ 62) c.basic_number-leaving.result leaving.size (lit< tt))

pub returns : goal.returns
returns c = λ rows h.
    let den = read_den c.args.step.now rows c.args.old.now c.args.row h in
    let pivot_den = read_den c.args.step.now rows c.args.old.now c.args.step.now.row h in
    let multiplier = read_factor c.args.step.now rows c.args.old.now c.args.step.now.row h (pivot_row_in c.args.step.now rows h.step_is) in
    let factor = read_factor c.args.step.now rows c.args.old.now c.args.row h c.requires.row in
    let leaving = leaving_value c.args.step.now rows c.args.row _ c.from.result c.basic_number-leaving.result den c.from.ensures c.basic_number-leaving.ensures.value c.basic_number-leaving.ensures.size in
    rw (multiplier.short, factor.short, den.short, pivot_den.short, read_result c.basic_number-leaving.result c.basic_number-leaving.type_inv, read_short c.basic_number-leaving.result leaving.size) (record {
      other = c.requires.other;
      place = refl;
      common = pos 1;
      positive = omega (arith, ints);
      multiplier = one_times _ ∙ multiplier.value;
      factor = one_times _ ∙ factor.value;
      den = den.value;
      pivot_den = pivot_den.value;
      leaving = leaving.value;
    })
  where
    one_times : (x : ℤ) → pos 1 *ℤ x ≡ x
    one_times x = omega (arith, ints)
