use Rattle.std.proofs.Common.{arith}
use Rattle.md_ports.proofs.FirstNamed.{absent_counted, absent_others, absent_rises}
use Rattle.md_ports.proofs.mem_shelf.MemShelf.fault.Goals as goal

pub returns-then-not-raise-clause-faulted : goal.returns-then-not-raise-clause-faulted
returns-then-not-raise-clause-faulted c =
    let h = c.if-not-raise.ensures in
    record {
      counted = λ n s. rw (h.1, c.saturating_add-self.ensures) (absent_counted c.args.self.now.absent c.args.self.now.files.items c.args.name.now n h.0 s);
      others = λ n s. rw (h.1, c.saturating_add-self.ensures) (absent_others c.args.self.now.absent c.args.self.now.files.items c.args.name.now n h.0 s);
    }

pub returns-then-not-raise-clause-never_falls : goal.returns-then-not-raise-clause-never_falls
returns-then-not-raise-clause-never_falls c =
    let h = c.if-not-raise.ensures in
    λ n. rw h.1 (absent_rises c.args.self.now.absent c.saturating_add-self.result c.args.self.now.files.items n (omega arith))
