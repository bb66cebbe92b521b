use Rattle.std.proofs.Common.{◌≡◌, ◌*ℤ◌, ◌^◌, pos, length, refl, arith}
use Rattle.std.proofs.lemmas.Int.{ints, to_z_pos}
use mir.Syntax.{w64}
use Rattle.md_math.specs.Sizes.{IsWithin}
use Rattle.md_math.proofs.SizeLaws.{IsWithin-wider}
use Rattle.md_math.proofs.Bits.{read_result}
use Rattle.md_dict_rows.specs.Combination.{combined_den}
use Rattle.md_dict_division.proofs.Reading.{read_short, read_wide}
use Rattle.md_dict_rows.proofs.Quotients.{above_from_not, quotient_small}
use Rattle.md_dict_rows.proofs.Reducing.{IsReducedTo-divided, IsRowSize-greatest, IsTooWideRow-den, IsWithin-greatest}
use Rattle.md_dict_rows.proofs.least_terms.least_row.Goals as goal

pub quotient-den-requires-clause-exact : goal.quotient-den-requires-clause-exact
quotient-den-requires-clause-exact c = rw (read_result c.whole_den.result c.whole_den.type_inv, c.whole_den.ensures.value) c.requires.attempt.of_den

pub returns-then-not-is_within-clause-wide : goal.returns-then-not-is_within-clause-wide
returns-then-not-is_within-clause-wide c =
    let value : c.args.divider.now.value *ℤ c.quotient-den.result ≡ combined_den c.args.combination.now = rw (read_result c.whole_den.result c.whole_den.type_inv, c.whole_den.ensures.value) at c.quotient-den.ensures in
    let size = quotient_small c.args.divider.now.value c.quotient-den.result _ c.requires.attempt.positive value (rw c.whole_den.ensures.value at c.whole_den.ensures.size) in
    let outside : IsWithin c.args.limit c.quotient-den.result → ⊥ = (λ w. let clash = (rw (c.from.ensures, read_wide c.quotient-den.result size) at c.if-not-is_within.ensures.1) w in cc) in
    IsTooWideRow-den c.args.combination.now c.args.own.now c.args.taken.now c.args.limit c.args.divider.now.value c.quotient-den.result c.requires.attempt value (above_from_not c.args.limit c.quotient-den.result outside)

pub returns-clause-row : goal.returns-clause-row
returns-clause-row c =
    let value : c.args.divider.now.value *ℤ c.quotient-den.result ≡ combined_den c.args.combination.now = rw (read_result c.whole_den.result c.whole_den.type_inv, c.whole_den.ensures.value) at c.quotient-den.ensures in
    let size = quotient_small c.args.divider.now.value c.quotient-den.result _ c.requires.attempt.positive value (rw c.whole_den.ensures.value at c.whole_den.ensures.size) in
    let within : IsWithin c.args.limit c.quotient-den.result = rw (c.from.ensures, read_wide c.quotient-den.result size) at c.if-not-is_within.ensures.0 refl in
    let short : IsWithin (2 ^ 62) c.quotient-den.result = IsWithin-wider c.args.limit (2 ^ 62) c.quotient-den.result c.requires.limit within in
    let most = (IsWithin-greatest (length c.args.own.now) c.args.limit c.args.fresh.now c.args.size c.requires.fresh c.requires.size).within in
    rw (read_wide c.quotient-den.result size, read_short c.quotient-den.result short, to_z_pos w64 c.args.size (omega (arith, ints, most, c.requires.limit)))
    (IsReducedTo-divided c.args.combination.now c.args.own.now c.args.taken.now c.args.divider.now.value (record { den = c.quotient-den.result; size = pos c.args.size }) c.args.fresh.now c.requires.combination c.requires.attempt c.requires.divided value short
    (IsRowSize-greatest (length c.args.own.now) c.args.limit c.args.fresh.now c.args.size c.requires.fresh c.requires.limit c.requires.size))
