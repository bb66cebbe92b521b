use Rattle.std.proofs.Common.{◌≡◌, ◌++◌, ◌-◌, length, replicate, None}
use Rattle.md_require_text.proofs.required_reading.fill.Given as goal

abbrev pub invariant-loop-index : goal.invariant-loop-index
invariant-loop-index l = l.shadows.items ≡ l.fn.shadows.items ++ replicate (l.index - length l.fn.shadows.items) None
