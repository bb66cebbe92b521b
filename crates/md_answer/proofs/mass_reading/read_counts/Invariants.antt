use Rattle.std.proofs.Common.{◌≤◌, ◌+◌, length}
use Rattle.md_setting.specs.Auction.{value_count}
use Rattle.md_answer.proofs.MassSteps.{AreCountsTo}
use Rattle.md_answer.proofs.mass_reading.read_counts.Given as goal

abbrev pub invariant-loop-kind : goal.invariant-loop-kind
invariant-loop-kind l =
    record {
      room : value_count l.auction ≤ l.kind + length l.fields.texts;
      read : AreCountsTo l.auction l.rank l.kind l.fn.fields l.fields;
    }
