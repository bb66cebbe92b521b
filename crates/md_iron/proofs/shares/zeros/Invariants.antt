use Rattle.std.proofs.Common.{◌≡◌, pos}
use Rattle.md_math.specs.Lists.{list_to}
use Rattle.md_iron.proofs.shares.zeros.Given as goal

abbrev pub invariant-loop-place : goal.invariant-loop-place
invariant-loop-place l = l.zeros ≡ list_to l._place (λ _. pos 0)
