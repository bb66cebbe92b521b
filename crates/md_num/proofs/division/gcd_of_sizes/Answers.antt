use Rattle.std.proofs.lemmas.Nat.Gcd.{IsGcd-from_mod, IsGcd-from_zero}
use Rattle.md_num.proofs.division.gcd_of_sizes.Goals as goal

pub loop-b-preserved : goal.loop-b-preserved
loop-b-preserved c = λ g h. c.loop-b.invariant g (IsGcd-from_mod c.loop-b.a c.loop-b.b g h)

pub returns-then-b-eq0 : goal.returns-then-b-eq0
returns-then-b-eq0 c = c.loop-b.invariant c.loop-b.a (IsGcd-from_zero c.loop-b.a c.loop-b.b c.if-b-eq0.true)

pub returns : goal.returns
returns c = rw c.from-2.ensures (c.loop-b.invariant c.gcd_of_small.result (IsGcd-from_mod c.loop-b.a c.loop-b.b c.gcd_of_small.result c.gcd_of_small.ensures))
