use Rattle.std.proofs.Common.{◌∷◌, [], ◌++◌, sym, ap, ◌∙◌, arith}
use Rattle.std.proofs.lemmas.List.{map-append}
use Rattle.md_mech.specs.Rows.{conditions_of}
use Rattle.md_mech.specs.RowName.{name_of}
use Rattle.md_cli_lp.specs.ProgramTexts.{texts_of}
use Rattle.md_cli_lp.proofs.RowRecords.{names-more}
use Rattle.md_cli_lp.proofs.listing.names.Goals as goal

pub loop-row-preserved : goal.loop-row-preserved
loop-row-preserved c =
    let s = c.args.setting.now in
    let name = c.in_ok-row_name.field-0 in
    ap texts_of c.in_ok-push.ensures.items
    ∙ map-append (λ text. text.items) c.loop-row.names.items (name ∷ [])
    ∙ ap (λ xs. xs ++ name.items ∷ []) c.loop-row.invariant
    ∙ sym (names-more (name_of s) (conditions_of s) c.loop-row.row name.items (omega (arith, c.requires)) c.in_ok-row_name.ensures)
