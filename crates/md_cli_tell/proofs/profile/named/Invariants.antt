use Rattle.std.proofs.Common.{map}
use Rattle.md_cli_tell.proofs.Profiles.{AreNamedBelow}
use Rattle.md_cli_tell.proofs.profile.named.Given as goal

abbrev pub invariant-loop-agent : goal.invariant-loop-agent
invariant-loop-agent l = AreNamedBelow l.file (map (λ part. part.now) l.parts) l.agent l.reports.items
