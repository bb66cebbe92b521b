use Rattle.std.proofs.Common.{◌≡◌, length, ap, sym, ◌∙◌, arith, Ok}
use Rattle.std.proofs.lemmas.Result.{err_from_is_err_and}
use Rattle.md_require.specs.RequireQuestion.{require_rows}
use Rattle.md_require_text.specs.Told.{shadow_count}
use Rattle.md_require_text.proofs.AnswerLaws.{behind-read, finding-fails, shadows-fail}
use Rattle.md_require_text.proofs.required_reading.read_behind.Goals as goal

pub returns-in_err-finding-clause-read : goal.returns-in_err-finding-clause-read
returns-in_err-finding-clause-read c =
    let p = err_from_is_err_and c.from_residual.result c.from_residual.ensures.1 in
    let s = c.args.setting.now in
    let cs = c.args.conditions.items in
    let summed : c.rows_of-rows.result ≡ require_rows s cs = c.rows_of-rows.ensures.count ∙ ap (require_rows s) c.deref.ensures.value in
    rw (p.1, p.2) (λ ne. finding-fails s cs c.args.reader.now c.rows_of-rows.result c.args.word summed _ (c.in_err-finding.ensures.read ne))

pub returns-in_err-shadows-clause-read : goal.returns-in_err-shadows-clause-read
returns-in_err-shadows-clause-read c =
    let p = err_from_is_err_and c.from_residual-in_err-shadows.result c.from_residual-in_err-shadows.ensures.1 in
    let s = c.args.setting.now in
    let cs = c.args.conditions.items in
    let f = c.in_ok-finding.finding in
    let summed : c.rows_of-rows.result ≡ require_rows s cs = c.rows_of-rows.ensures.count ∙ ap (require_rows s) c.deref.ensures.value in
    let long : c.len.result ≡ length cs = omega (arith, c.len.ensures) in
    let counted : c.shadow_count-count.result ≡ shadow_count f (length cs) = c.shadow_count-count.ensures ∙ ap (shadow_count f) long in
    rw (p.1, p.2)
    (λ ne. shadows-fail s cs c.args.reader.now c.rows_of-rows.result c.args.word summed c.read_finding.new.reader c.shadow_count-count.result f c.in_ok-finding.ensures.read counted _ (c.in_err-shadows.ensures.read ne))

pub returns-in_err-read_last-clause-read : goal.returns-in_err-read_last-clause-read
returns-in_err-read_last-clause-read c =
    let p = err_from_is_err_and c.from_residual-in_err-read_last.result c.from_residual-in_err-read_last.ensures.1 in
    let s = c.args.setting.now in
    let cs = c.args.conditions.items in
    let f = c.in_ok-finding.finding in
    let summed : c.rows_of-rows.result ≡ require_rows s cs = c.rows_of-rows.ensures.count ∙ ap (require_rows s) c.deref.ensures.value in
    let long : c.len.result ≡ length cs = omega (arith, c.len.ensures) in
    let counted : c.shadow_count-count.result ≡ shadow_count f (length cs) = c.shadow_count-count.ensures ∙ ap (shadow_count f) long in
    rw (p.1, p.2)
    (λ ne. behind-read s cs c.args.reader.now c.rows_of-rows.result c.args.word summed c.read_finding.new.reader c.shadow_count-count.result f c.in_ok-finding.ensures.read counted c.read_shadows.new.reader c.in_ok-shadows.shadows.items _
    c.in_ok-shadows.ensures.read (c.in_err-read_last.ensures ne))

pub returns-clause-read : goal.returns-clause-read
returns-clause-read c =
    let s = c.args.setting.now in
    let cs = c.args.conditions.items in
    let f = c.in_ok-finding.finding in
    let summed : c.rows_of-rows.result ≡ require_rows s cs = c.rows_of-rows.ensures.count ∙ ap (require_rows s) c.deref.ensures.value in
    let long : c.len.result ≡ length cs = omega (arith, c.len.ensures) in
    let counted : c.shadow_count-count.result ≡ shadow_count f (length cs) = c.shadow_count-count.ensures ∙ ap (shadow_count f) long in
    behind-read s cs c.args.reader.now c.rows_of-rows.result c.args.word summed c.read_finding.new.reader c.shadow_count-count.result f c.in_ok-finding.ensures.read counted c.read_shadows.new.reader c.in_ok-shadows.shadows.items _
    c.in_ok-shadows.ensures.read c.in_ok-read_last.ensures
    ∙ ap (λ answer. Ok (answer, c.read_last.new.reader)) (sym c.new-answer.ensures)
