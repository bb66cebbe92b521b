use Rattle.std.proofs.Common.{◌∙◌, refl, inl}
use Rattle.csv.specs.Records.{fields_of}
use Rattle.md_records.proofs.Reading.{took-first, took-none}
use Rattle.md_records.proofs.records.Records.next.Goals as goal

pub invariant_of-self : goal.invariant_of-self
invariant_of-self c = λ going.
    let h = c.self.invariant going in
    let read = rw c.in-Ok-true.field-0-test at (c.in-Ok-true.ensures.reads h.trim_none h.ready) in
    let t = took-first c.self.inside.reader c.read_byte_record.new.self (fields_of c.read_byte_record.new.row) h read in
    record {
      trim_none = read.3 ∙ h.trim_none;
      config = read.2 ∙ h.config;
      flexible = c.in-Ok-true.ensures.flexible ∙ h.flexible;
      ready = inl (c.in-Ok-true.ensures.ready h.trim_none);
      between = t.between;
      bytes = t.bytes;
      known = t.known;
    }

pub returns-in-Ok-true-clause-taken : goal.returns-in-Ok-true-clause-taken
returns-in-Ok-true-clause-taken c =
    let h = c.self.invariant c.if-self.false in
    let read = rw c.in-Ok-true.field-0-test at (c.in-Ok-true.ensures.reads h.trim_none h.ready) in
    let t = took-first c.self.inside.reader c.read_byte_record.new.self (fields_of c.read_byte_record.new.row) h read in
    rw (← c.self.view_is, c.if-self.false) t.first

pub returns-in-Ok-false-clause-taken : goal.returns-in-Ok-false-clause-taken
returns-in-Ok-false-clause-taken c =
    let h = c.self.invariant c.if-self.false in
    let read = rw c.in-Ok-false.field-0-test at (c.in-Ok-false.ensures.reads h.trim_none h.ready) in
    (rw (← c.self.view_is, c.if-self.false) (took-none c.self.inside.reader c.read_byte_record.new.self (fields_of c.read_byte_record.new.row) h read), refl)
