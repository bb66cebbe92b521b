use Rattle.std.proofs.Common.{◌≡◌, true, sym, ◌∙◌, arith}
use Rattle.md_cli_driver.proofs.Works.{on-no_fault, on-status, one-worked, setting-served, read-not_refused}
use Rattle.md_cli_driver.specs.declared.refusal.Refusal.TheVariants as refusal
use Rattle.md_cli_driver.proofs.one_file.of_one.Goals as goal

pub returns : goal.returns
returns g c = λ second.
    let serves = g.C.OneFile.is_served in
    let says = g.C.OneFile.says c.args.command.now in
    let content = g.F.Shelf.content c.args.shelf.now in
    let served : serves c.in_ok-file.file ≡ true = sym c.serves.ensures ∙ c.if-not-serves.false in
    record {
      outcome = one-worked serves says g.C.OneFile.own c.args.setting.now content c.in_ok-file.file c.answer.result
          (λ bytes told. setting-served serves c.in_ok-file.file bytes (c.in_ok-file.ensures.told bytes told) served) c.answer.ensures;
      fault = λ failed. absurd (on-no_fault 65 (says c.in_ok-file.file) g.C.OneFile.own c.answer.result (omega arith) c.answer.ensures failed);
      quiet = λ n _. c.in_ok-file.ensures.quiet n (read-not_refused c.in_ok-file.file refusal.ReadFault);
      status = on-status 65 (says c.in_ok-file.file) g.C.OneFile.own c.answer.result c.answer.ensures;
    }
