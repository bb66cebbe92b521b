use Rattle.std.proofs.Common.{pos, ◌<ℤ◌, ap, sym, ◌∙◌, subst, arith}
use mathlib.Core.Bool.{false≢true}
use Rattle.std.proofs.lemmas.Int.{ints}
use Rattle.md_math.proofs.Order.{positive-*ℤ}
use Rattle.md_setting.specs.Meaning.{total_of}
use Rattle.md_cert.proofs.Fractions.{numbers-same, same-numbers}
use Rattle.md_fair.specs.Least.{IsLeastValueOf}
use Rattle.md_fair.proofs.LeastLaws.{one-value}
use Rattle.md_fair.proofs.question.other_least.Goals as goal

pub returns-then-eq : goal.returns-then-eq
returns-then-eq c =
    let right = c.least-right.result in
    let same = same-numbers right c.args.printed.now (sym c.eq.ensures ∙ c.if-eq.true) in
    subst (λ n. IsLeastValueOf c.args.setting.now c.args.mechanism.now (record { num = n; den = c.args.printed.now.den })) same.0
    (subst (λ d. IsLeastValueOf c.args.setting.now c.args.mechanism.now (record { num = right.num; den = d })) same.1 c.least-right.ensures.value)

pub returns-else-eq : goal.returns-else-eq
returns-else-eq c =
    let s = c.args.setting.now in
    let m = c.args.mechanism.now in
    let right = c.least-right.result in
    let printed = c.args.printed.now in
    let den : pos 0 <ℤ m.den = (let one = c.requires.mechanism.den in omega (arith, ints, one)) in
    let total : pos 0 <ℤ total_of s = subst (λ z. pos 0 <ℤ z) c.total-weight.ensures.value c.total-weight.ensures.positive in
    record {
      other = λ (is : IsLeastValueOf s m printed).
          let same = one-value s m right printed (positive-*ℤ m.den (total_of s) den total) c.least-right.ensures.value is in
          false≢true (sym c.if-eq.false ∙ c.eq.ensures ∙ numbers-same right printed (ap (λ v. v.num) same, ap (λ v. v.den) same));
      right = c.least-right.ensures.value;
    }
