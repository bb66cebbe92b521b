use Rattle.std.proofs.Common.{◌≡◌, Err, ap, refl, ◌∙◌}
use Rattle.std.proofs.lemmas.Result.{err_from_is_err_and}
use Rattle.md_cli_driver.proofs.Works.{both-worked, err_same, read-not_refused, second-refused}
use Rattle.md_cli_driver.specs.declared.refusal.Refusal.TheVariants as refusal
use Rattle.md_cli_driver.proofs.two_files.on_served.Goals as goal

pub returns-in_err-second : goal.returns-in_err-second
returns-in_err-second g c = λ setting content faults read same still.
    let e = c.in_err-second.field-0.0 in
    let p = err_from_is_err_and c.from_residual.result c.from_residual.ensures.1 in
    rw (p.1, p.2)
    (second-refused g.C.TwoFiles.is_served (g.C.TwoFiles.reading c.args.command.now) (g.C.TwoFiles.says c.args.command.now) g.C.TwoFiles.own setting c.args.name.now content
    c.args.file.now read faults (g.F.Shelf.faults c.args.shelf.now) (g.F.Shelf.faults c.second_of.new.shelf) still
    e (λ all told. c.in_err-second.ensures.told all (same ∙ told)) c.in_err-second.ensures.errors
    (λ failed. c.in_err-second.ensures.fault (ap Err failed))
    (λ n fine. c.in_err-second.ensures.quiet n (λ failed. fine (err_same (Err e) e refusal.ReadFault refl failed))))

pub returns : goal.returns
returns g c = λ setting content faults read same still.
    both-worked g.C.TwoFiles.is_served (g.C.TwoFiles.reading c.args.command.now) (g.C.TwoFiles.says c.args.command.now) g.C.TwoFiles.own setting c.args.name.now content
    c.args.file.now read faults (g.F.Shelf.faults c.args.shelf.now) (g.F.Shelf.faults c.second_of.new.shelf) still
    c.in_ok-second.second (λ all told. c.in_ok-second.ensures.told all (same ∙ told))
    (λ n. c.in_ok-second.ensures.quiet n (read-not_refused c.in_ok-second.second refusal.ReadFault))
    c.answer.result c.answer.ensures
