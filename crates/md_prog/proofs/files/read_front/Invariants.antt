use Rattle.std.proofs.Common.{◌≤◌, ◌+◌, vec_len}
use Rattle.md_prog.proofs.files.read_front.Given as goal

abbrev pub invariant-loop : goal.invariant-loop
invariant-loop g l = vec_len l.bytes ≤ l.max + 1
