use Rattle.std.proofs.Common.{◌*ℤ◌, ◌∙◌, sym}
use mathlib.Core.Bool.{false≢true}
use Rattle.md_setting.specs.Meaning.{total_of}
use Rattle.md_claims.proofs.ValueLaws.{same_value, same_least}
use Rattle.md_asym.specs.Gains.{worth_by}
use Rattle.md_asym.specs.SaleVerdicts.{HasWorth}
use Rattle.md_asym.proofs.GainLaws.{den-read}
use Rattle.md_asym.proofs.SaleClaims.{whole-positive}
use Rattle.md_asym.proofs.checking.other_worth.Goals as goal

pub sale_worth-right-requires-clause-fits : goal.sale_worth-right-requires-clause-fits
sale_worth-right-requires-clause-fits c =
    let interim = (c.args.answer.now).interim in
    rw (den-read c.args.setting.now interim.den interim.odds interim.pays c.requires.answer.odds) c.requires.answer.odds

pub returns-then-is_same_number : goal.returns-then-is_same_number
returns-then-is_same_number c =
    let s = c.args.setting.now in
    let answer = c.args.answer.now in
    let interim = answer.interim in
    let right = c.sale_worth-right.result in
    let worth = rw (den-read s interim.den interim.odds interim.pays c.requires.answer.odds) at c.sale_worth-right.ensures.value in
    same_value right.num right.den answer.value.num answer.value.den (worth_by s interim.den interim.odds interim.pays) (interim.den *ℤ total_of s) c.sale_worth-right.ensures.least.positive worth
    (c.is_same_number.ensures.0 c.if-is_same_number.true)

pub returns-else-is_same_number : goal.returns-else-is_same_number
returns-else-is_same_number c =
    let s = c.args.setting.now in
    let answer = c.args.answer.now in
    let interim = answer.interim in
    let right = c.sale_worth-right.result in
    let worth = rw (den-read s interim.den interim.odds interim.pays c.requires.answer.odds) at c.sale_worth-right.ensures.value in
    record {
      other = λ (same : HasWorth s answer answer.value).
          false≢true
          (sym c.if-is_same_number.false
          ∙ c.is_same_number.ensures.1
          (same_least right.num right.den answer.value.num answer.value.den (worth_by s interim.den interim.odds interim.pays) (interim.den *ℤ total_of s)
          (whole-positive s answer c.requires.sale c.total-shaped.ensures.shaped c.requires.answer) worth same));
      right = record { has_worth = worth; least = c.sale_worth-right.ensures.least };
    }
