use Rattle.std.proofs.Common.{inl, inr, refl}
use Rattle.md_cli_tell.proofs.report.own_told.Goals as goal
use Rattle.md_cli_tell.proofs.report.own_told.Goals.{in-Table+in_ok-interim_text-in-Table, in-Violated+in_ok-violated_text-in-Violated}

pub returns-clause-reporting : goal.returns-clause-reporting
returns-clause-reporting c = elim c.match-branch-2.branch [
  | in-Table+in_ok-interim_text-in-Table w ↦
      rw w.result-is
      (inl (record {
        masses = w.in-Table.field-0;
        table = rw w.in-Table.is at c.in_ok-realise.ensures.table;
        odds = rw w.in-Table.is at c.in_ok-realise.ensures.odds;
        status = refl;
        text = rw w.new.ensures at w.in_ok-interim_text-in-Table.ensures;
      }))
  | in-Violated+in_ok-violated_text-in-Violated w ↦
      rw w.result-is
      (inr (record {
        set = w.in-Violated.set;
        worst = rw w.in-Violated.is at c.in_ok-realise.ensures.violated;
        none = rw w.in-Violated.is at c.in_ok-realise.ensures.necessary;
        status = refl;
        text = w.in_ok-violated_text-in-Violated.ensures;
      }))
]
