use Rattle.std.proofs.Common.{◌+◌, arith}
use Rattle.std.proofs.lemmas.Int.Digits.{digits_value_more}
use Rattle.std.proofs.lemmas.Str.Parse.{digits_value-take-le}
use Rattle.md_num.proofs.Decimals.{value_of_digit}
use Rattle.md_num.proofs.whole.read_size.Goals as goal

pub returns-then-size-most : goal.returns-then-size-most
returns-then-size-most c = λ h.
    omega (
      arith,
      digits_value_more 10 c.args.digits.now c.loop-digit.digit-index c.loop-digit-test.true,
      digits_value-take-le 10 c.args.digits.now (c.loop-digit.digit-index + 1) (omega arith),
    )

pub returns-then-size-limit : goal.returns-then-size-limit
returns-then-size-limit c = λ h.
    omega (
      arith,
      digits_value_more 10 c.args.digits.now c.loop-digit.digit-index c.loop-digit-test.true,
      value_of_digit c.args.digits.now c.loop-digit.digit-index c.requires.digits c.loop-digit-test.true,
      digits_value-take-le 10 c.args.digits.now (c.loop-digit.digit-index + 1) (omega arith),
    )

pub loop-digit-preserved : goal.loop-digit-preserved
loop-digit-preserved c =
    let more = digits_value_more 10 c.args.digits.now c.loop-digit.digit-index c.loop-digit-test.true in
    let value = value_of_digit c.args.digits.now c.loop-digit.digit-index c.requires.digits c.loop-digit-test.true in
    (omega arith, omega arith)
