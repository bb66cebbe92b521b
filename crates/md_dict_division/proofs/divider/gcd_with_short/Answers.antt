use Rattle.std.proofs.lemmas.Nat.Gcd.{IsGcd-from_mod}
use Rattle.md_dict_division.proofs.divider.gcd_with_short.Goals as goal

pub returns-then-size-from : goal.returns-then-size-from
returns-then-size-from c = rw c.from-then-size-from.ensures c.binary_gcd.ensures

pub returns : goal.returns
returns c = rw c.from-3.ensures (IsGcd-from_mod c.args.size c.args.short c.binary_gcd-2.result (rw c.from-2.ensures at c.binary_gcd-2.ensures))
