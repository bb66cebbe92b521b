use Rattle.std.proofs.Common.{arith, rules}
use Rattle.std.proofs.lemmas.Bool.Decides.{nat_tests}
use Rattle.md_num.proofs.Comparison.{turned, no_remainder, no_other_remainder, other_whole_parts}
use Rattle.md_num.proofs.frac.are_in_order.Goals as goal

pub returns-then-rest-eq0 : goal.returns-then-rest-eq0
returns-then-rest-eq0 c =
    (λ _. no_remainder _ _ _ _ _ _ _ _ c.loop-a.invariant c.loop-a-test.true c.if-rest-eq0.true, λ _. search rules)

pub returns-then-other_rest-eq0 : goal.returns-then-other_rest-eq0
returns-then-other_rest-eq0 c =
    (λ h. search rules, λ h. absurd (no_other_remainder _ _ _ _ _ _ _ _ c.loop-a.invariant c.loop-a-test.true (omega arith) c.if-other_rest-eq0.true h))

pub loop-a-preserved : goal.loop-a-preserved
loop-a-preserved c = turned _ _ _ _ _ _ _ _ c.loop-a.invariant c.loop-a-test.true (omega arith) (omega arith)

pub returns : goal.returns
returns c =
    let law = other_whole_parts _ _ _ _ _ _ _ _ c.loop-a.invariant c.loop-a-test.false in
    (λ h. law.0 (grind (arith, nat_tests)), λ h. let l = law.1 h in grind (arith, nat_tests))
