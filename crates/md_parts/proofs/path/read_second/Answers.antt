use Rattle.std.proofs.Common.{◌≡◌, [], codes, Ok, refl}
use Rattle.md_parts.specs.Reading.{read_record}
use Rattle.md_parts.proofs.FieldSteps.{reads-none}
use Rattle.md_parts.proofs.RecordSteps.{record-read}
use Rattle.md_parts.proofs.path.read_second.Goals as goal

pub returns-in_ok-second-in-Two-clause-read : goal.returns-in_ok-second-in-Two-clause-read
returns-in_ok-second-in-Two-clause-read c =
    let left = c.in_ok-next-in-Two.field-0 in
    let again : read_record (codes "again") [] c.args.reader.now ≡ Ok ([], c.next.new.self) = record-read (codes "again") [] 0 c.args.reader.now c.next.new.self left left [] refl c.in_ok-next-in-Two.ensures (reads-none left) in
    rw (c.in-Two.is, again, c.in_ok-second-in-Two.ensures.read) refl
