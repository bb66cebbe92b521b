use Rattle.std.proofs.Common.{◌≡◌, Some, false, take}
use Rattle.csv.specs.Writing.{writer_setup, fields_written, has_written, text_written}
use Rattle.md_records.specs.Written.{text_of_records}
use Rattle.md_records.proofs.RecordTexts.{any_length}
use Rattle.md_records.proofs.writing.write_records.Given as goal

abbrev pub invariant-loop-row : goal.invariant-loop-row
invariant-loop-row l =
    (writer_setup l.writer ≡ any_length) × (fields_written l.writer ≡ 0) × (has_written l.writer ≡ false)
    × (text_written (λ v. Some v.items) l.writer ≡ Some (text_of_records (take l.row-index l.rows)))
