use Rattle.md_mech.specs.Rows.{conditions_of}
use Rattle.md_mech.proofs.AuditLaws.{AreKeptBefore}
use Rattle.md_mech.proofs.auditing.audit.Given as goal

abbrev pub invariant-loop-row : goal.invariant-loop-row
invariant-loop-row l = AreKeptBefore l.setting l.mechanism (conditions_of l.setting) l.row
