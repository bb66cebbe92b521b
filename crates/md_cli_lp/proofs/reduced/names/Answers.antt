use Rattle.std.proofs.Common.{◌∷◌, [], ◌++◌, sym, ap, ◌∙◌, arith}
use Rattle.std.proofs.lemmas.List.{map-append}
use Rattle.md_setting.specs.Auction.{value_count}
use Rattle.md_reduced.specs.Conditions.{conditions_of}
use Rattle.md_reduced.specs.Names.{name_of}
use Rattle.md_cli_lp.specs.ProgramTexts.{texts_of}
use Rattle.md_cli_lp.proofs.RowRecords.{names-more}
use Rattle.md_cli_lp.proofs.reduced.names.Goals as goal

pub loop-row-preserved : goal.loop-row-preserved
loop-row-preserved c =
    let a = c.args.auction.now in
    let conditions = conditions_of (value_count a) c.args.cuts.now in
    let name = c.in_ok-row_name.field-0 in
    ap texts_of c.in_ok-push.ensures.items
    ∙ map-append (λ text. text.items) c.loop-row.names.items (name ∷ [])
    ∙ ap (λ xs. xs ++ name.items ∷ []) c.loop-row.invariant
    ∙ sym (names-more (name_of a) conditions c.loop-row.row name.items (omega (arith, c.requires.rows)) c.in_ok-row_name.ensures)
