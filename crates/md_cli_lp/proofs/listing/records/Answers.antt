use Rattle.std.proofs.Common.{◌≡◌, ◌<◌, ◌∷◌, [], ◌++◌, length, take, Some, sym, ap, ◌∙◌, arith}
use Rattle.std.specs.Prelude.{slice_get, option_map}
use Rattle.std.proofs.lemmas.List.{length-map}
use Rattle.std.proofs.lemmas.Option.{slice_get-map, slice_get-get_or}
use Rattle.md_cli_lp.specs.ProgramTexts.{program_record, cost_record, row_record, row_records, texts_of}
use Rattle.md_cli_lp.proofs.RowRecords.{row_records-more}
use Rattle.md_cli_lp.proofs.listing.records.Goals as goal

pub loop-row-preserved : goal.loop-row-preserved
loop-row-preserved c =
    let p = c.args.lp.now in
    let names = texts_of c.args.names.now in
    let text = c.index-names-row.result in
    let one_each : length names ≡ length c.args.names.now = length-map c.args.names.now (λ text. text.items) in
    let inside : c.loop-row.row < length names = omega (arith, one_each) in
    let here : slice_get names c.loop-row.row ≡ Some text.items =
    slice_get-map (λ text. text.items) c.args.names.now c.loop-row.row
    ∙ ap (option_map (λ text. text.items)) (slice_get-get_or c.args.names.now c.loop-row.row text (omega (arith, one_each, inside)) ∙ ap Some (sym c.index-names-row.is)) in
    let record_is : c.in_ok-row_record.field-0 ≡ row_record p c.loop-row.row text.items = rw c.deref.ensures.value at c.in_ok-row_record.ensures in
    c.in_ok-push-3.ensures.items
    ∙ ap (λ xs. xs ++ c.in_ok-row_record.field-0 ∷ []) c.loop-row.invariant
    ∙ ap (λ x. program_record p ∷ cost_record p ∷ (row_records p 0 (take c.loop-row.row names) ++ x ∷ [])) record_is
    ∙ ap (λ xs. program_record p ∷ cost_record p ∷ xs) (sym (row_records-more p names c.loop-row.row text.items inside here))
