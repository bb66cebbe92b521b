use Rattle.std.proofs.Common.{◌≡◌, ◌≢◌, ◌∙◌}
use Rattle.csv.specs.declared.writer.QuoteStyle.TheVariants as style
use Rattle.csv.specs.Records.{fields_of}
use Rattle.md_records.specs.Written.{text_of_records}
use Rattle.md_records.proofs.RecordTexts.{records_of-text, written-more, written-all}
use Rattle.md_records.proofs.writing.write_records.Goals as goal

pub loop-row-preserved : goal.loop-row-preserved
loop-row-preserved c =
    let h = c.loop-row.invariant in
    let plain : c.loop-row.writer.cfg.style ≢ style.NonNumeric = rw h.0 (λ e. cc e) in
    let bytes = c.in-Ok.ensures.bytes h.1 h.2 plain in (
      c.in-Ok.ensures.setup ∙ h.0,
      c.in-Ok.ensures.ended,
      c.in-Ok.ensures.clean,
      written-more _ _ c.args.rows.now c.loop-row.row-index c.row-item.result (fields_of c.row.inside.fields) _ c.loop-row-test.true c.row-item.is c.row.view_is h.0 h.3 bytes,
    )

pub returns-in-Ok-into_inner-clause-reads_back : goal.returns-in-Ok-into_inner-clause-reads_back
returns-in-Ok-into_inner-clause-reads_back c = λ writable.
    let so_far = c.loop-row.invariant.3 in
    let whole : c.in-Ok-into_inner.text.items ≡ text_of_records c.args.rows.now = written-all _ _ c.args.rows.now c.loop-row.row-index c.loop-row-test.false c.in-Ok-into_inner.ensures.ok so_far in
    rw whole (records_of-text _ writable)
