use Rattle.std.proofs.Common.{◌<◌, ◌++◌, length, get_or, take, None, ap, ◌∙◌, sym, arith, append_assoc}
use Rattle.std.proofs.lemmas.List.{take_more}
use Rattle.md_report.specs.Records.{told_records, worst_records}
use Rattle.md_report.proofs.RecordLaws.{worst_records-more}
use Rattle.md_report.proofs.worst_records.push_worst.Goals as goal

pub loop-worst-preserved : goal.loop-worst-preserved
loop-worst-preserved c =
    let s = c.args.setting.now in
    let told = c.args.told.now in
    let k = c.loop-worst.worst-index in
    let inside : k < length told = omega (arith, c.loop-worst-test.true) in
    let here = get_or told k None in
    c.in_ok-push_told.ensures
    ∙ ap (λ xs. xs ++ told_records s here) c.loop-worst.invariant
    ∙ append_assoc c.args.rows.now.items (worst_records s (take k told)) (told_records s here)
    ∙ ap (λ xs. c.args.rows.now.items ++ xs) (sym (worst_records-more s (take k told) here) ∙ ap (worst_records s) (sym (take_more told k None inside)))
