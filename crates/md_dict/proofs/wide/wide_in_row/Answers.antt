use Rattle.std.proofs.Common.{refl, arith}
use Rattle.std.proofs.lemmas.Bool.{false≢true}
use Rattle.md_math.proofs.FirstFailures.{HoldsBelow-more, HoldsBelow-fewer}
use Rattle.md_math.proofs.Bits.{read_result}
use Rattle.md_dict.proofs.wide.wide_in_row.Goals as goal

pub loop-column-preserved : goal.loop-column-preserved
loop-column-preserved c =
    HoldsBelow-more _ _ c.loop-column.invariant (rw (read_result c.new_entry.result c.new_entry.type_inv, c.new_entry.ensures) at (c.if-not-is_within.ensures.0 refl))

pub returns-then-not-is_within : goal.returns-then-not-is_within
returns-then-not-is_within c = record {
  below = c.loop-column-test.true;
  fails = λ h. false≢true ((rw (read_result c.new_entry.result c.new_entry.type_inv, c.new_entry.ensures) at c.if-not-is_within.ensures.1) h);
  before = c.loop-column.invariant;
}

pub returns : goal.returns
returns c = HoldsBelow-fewer _ _ _ (omega arith) c.loop-column.invariant
