use Rattle.std.proofs.Common.{refl, inr}
use Rattle.md_cli_judge.proofs.AuditedRows.{broken-said}
use Rattle.md_cli_judge.proofs.audit.verdict.Goals as goal

pub returns-in_ok-row_record-in-Some-clause-verdict : goal.returns-in_ok-row_record-in-Some-clause-verdict
returns-in_ok-row_record-in-Some-clause-verdict c =
    inr (broken-said c.args.setting.now c.args.proposal.now c.in-Some.broken c.in_ok-row_record-in-Some.field-0.items
    (rw c.mechanism.ensures at c.in-Some.ensures.broken) c.in_ok-row_record-in-Some.ensures _ refl refl)
