use Rattle.std.proofs.Common.{subst}
use Rattle.md_cli_judge.specs.Verdicts.{IsBrokenRow}
use Rattle.md_cli_judge.proofs.VerdictRows.{broken-general}
use Rattle.md_cli_judge.proofs.verdict_text.rejected_record.Goals as goal

pub general-requires : goal.general-requires
general-requires c = broken-general c.args.file.now c.in-Audit.broken (c.requires c.in-Audit.broken c.in-Audit.is)

pub broken_record-requires : goal.broken_record-requires
broken_record-requires c = subst (λ f. IsBrokenRow f c.in-Audit.broken) c.general.ensures (c.requires c.in-Audit.broken c.in-Audit.is)
