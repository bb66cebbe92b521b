use Rattle.std.proofs.Common.{◌≡◌, length}
use Rattle.md_trials_programs.proofs.program_tests.zeros.Given as goal

abbrev pub invariant-loop-place : goal.invariant-loop-place
invariant-loop-place l = length l.list ≡ l.place
