use Rattle.std.proofs.Common.{◌≡◌, ◌*ℤ◌, ◌^◌, refl}
use Rattle.md_math.specs.Sizes.{IsWithin}
use Rattle.md_math.proofs.SizeLaws.{IsWithin-wider}
use Rattle.md_math.proofs.Bits.{read_result}
use Rattle.md_dict_rows.specs.Combination.{combined}
use Rattle.md_dict_division.proofs.Reading.{read_short, read_wide}
use Rattle.md_dict_rows.proofs.Quotients.{above_from_not, above_quotient, quotient_small}
use Rattle.md_dict_rows.proofs.least_terms.quotient_at.Goals as goal

pub returns-then-not-is_within-clause-obstacle : goal.returns-then-not-is_within-clause-obstacle
returns-then-not-is_within-clause-obstacle c =
    let value : c.args.attempt.now.divider.value *ℤ c.in-Some-exact.quotient ≡ combined c.args.combination.now c.args.own.now c.args.taken.now c.args.place =
    rw (read_result c.number-number.result c.number-number.type_inv, c.number-number.ensures.value) at c.in-Some-exact.ensures in
    let size = quotient_small c.args.attempt.now.divider.value c.in-Some-exact.quotient _ c.requires.attempt.positive value (rw c.number-number.ensures.value at c.number-number.ensures.size) in
    let outside : IsWithin c.args.attempt.now.limit c.in-Some-exact.quotient → ⊥ = (λ w. let clash = (rw (c.from.ensures, read_wide c.in-Some-exact.quotient size) at c.if-not-is_within.ensures.1) w in cc) in
    record {
      place = c.args.place;
      place_in = c.requires.place;
      above = above_quotient c.args.attempt.now.limit c.args.attempt.now.divider.value c.in-Some-exact.quotient _ c.requires.attempt.positive value (above_from_not c.args.attempt.now.limit c.in-Some-exact.quotient outside);
    }

pub returns-clause-number : goal.returns-clause-number
returns-clause-number c =
    let value : c.args.attempt.now.divider.value *ℤ c.in-Some-exact.quotient ≡ combined c.args.combination.now c.args.own.now c.args.taken.now c.args.place =
    rw (read_result c.number-number.result c.number-number.type_inv, c.number-number.ensures.value) at c.in-Some-exact.ensures in
    let size = quotient_small c.args.attempt.now.divider.value c.in-Some-exact.quotient _ c.requires.attempt.positive value (rw c.number-number.ensures.value at c.number-number.ensures.size) in
    let within : IsWithin c.args.attempt.now.limit c.in-Some-exact.quotient = rw (c.from.ensures, read_wide c.in-Some-exact.quotient size) at c.if-not-is_within.ensures.0 refl in
    rw (read_wide c.in-Some-exact.quotient size, read_short c.in-Some-exact.quotient (IsWithin-wider c.args.attempt.now.limit (2 ^ 62) c.in-Some-exact.quotient c.requires.attempt.limit_size within)) (value, within)
