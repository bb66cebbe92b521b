use Rattle.std.proofs.Common.{ap, subst, ◌∙◌}
use Rattle.md_tree.specs.Verdicts.{IsVerdict}
use Rattle.md_tree.specs.declared.verdict.DetVerdict.TheVariants.{Rejected}
use Rattle.md_cli_judge.proofs.DetermRows.{told-in}
use Rattle.md_cli_judge.proofs.determ_check.checked.Goals as goal

pub rejected_record-requires : goal.rejected_record-requires
rejected_record-requires c broken same =
    let h = c.in_ok-verdict.ensures in
    told-in c.args.setting.now h.answer broken (subst (IsVerdict c.args.setting.now h.answer) (c.in-Rejected.is ∙ ap Rejected same) h.is_verdict)
