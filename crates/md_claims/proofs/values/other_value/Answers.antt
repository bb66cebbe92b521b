use Rattle.std.proofs.Common.{pos, ◌<ℤ◌, ◌*ℤ◌, ◌∙◌, sym, subst, arith}
use mathlib.Core.Bool.{false≢true}
use Rattle.std.proofs.lemmas.Int.{ints}
use Rattle.md_math.proofs.Order.{positive-*ℤ}
use Rattle.md_setting.specs.Meaning.{total_of}
use Rattle.md_mech.specs.Optimal.{worth_of}
use Rattle.md_mech.specs.Value.{HasValue}
use Rattle.md_claims.proofs.ValueLaws.{same_value, same_least}
use Rattle.md_claims.proofs.values.other_value.Goals as goal

pub returns-then-is_same_number-clause-value : goal.returns-then-is_same_number-clause-value
returns-then-is_same_number-clause-value c =
    let s = c.args.setting.now in
    let m = c.args.mechanism.now in
    let right = c.worth-right.result in
    let printed = c.args.printed.now in
    same_value right.num right.den printed.num printed.den (worth_of s m) (m.den *ℤ total_of s) c.worth-right.ensures.value.least.positive c.worth-right.ensures.value.is_value
    (c.is_same_number.ensures.0 c.if-is_same_number.true)

pub returns-else-is_same_number-clause-value : goal.returns-else-is_same_number-clause-value
returns-else-is_same_number-clause-value c =
    let s = c.args.setting.now in
    let m = c.args.mechanism.now in
    let right = c.worth-right.result in
    let printed = c.args.printed.now in
    let den : pos 0 <ℤ m.den = (let one = c.requires.accepted.mechanism.den in omega (arith, ints, one)) in
    let total : pos 0 <ℤ total_of s = subst (λ z. pos 0 <ℤ z) c.total-weight.ensures.value c.total-weight.ensures.positive in
    let whole : pos 0 <ℤ (m.den *ℤ total_of s) = positive-*ℤ m.den (total_of s) den total in
    record {
      other = λ (same : HasValue s m printed).
          false≢true (sym c.if-is_same_number.false ∙ c.is_same_number.ensures.1 (same_least right.num right.den printed.num printed.den (worth_of s m) (m.den *ℤ total_of s) whole c.worth-right.ensures.value.is_value same));
      right = c.worth-right.ensures.value;
    }
