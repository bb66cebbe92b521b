use Rattle.std.proofs.Common.{◌≡◌, replicate, pos}
use Rattle.md_answer.proofs.odds_file.zeros.Given as goal

abbrev pub invariant-loop-place : goal.invariant-loop-place
invariant-loop-place l = l.zeros ≡ replicate l.place (pos 0)
