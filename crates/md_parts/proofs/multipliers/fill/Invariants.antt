use Rattle.std.proofs.Common.{◌≡◌, ◌++◌, ◌-◌, length, replicate, pos}
use Rattle.md_parts.proofs.multipliers.fill.Given as goal

abbrev pub invariant-loop-place : goal.invariant-loop-place
invariant-loop-place l = l.numbers ≡ l.fn.numbers ++ replicate (l.place - length l.fn.numbers) (pos 0)
