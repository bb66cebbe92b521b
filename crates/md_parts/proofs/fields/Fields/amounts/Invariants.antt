use Rattle.std.proofs.Common.{◌≤◌, ◌+◌, length, take}
use Rattle.md_parts.proofs.AmountSteps.{AreAmounts}
use Rattle.md_parts.proofs.fields.Fields.amounts.Given as goal

abbrev pub invariant-loop-most : goal.invariant-loop-most
invariant-loop-most l =
    record {
      room : length l.mosts ≤ l.most-index + length l.self.texts;
      read : AreAmounts (take l.most-index l.mosts) l.limit l.fn.self l.self l.fn.to l.to l.sum;
    }
