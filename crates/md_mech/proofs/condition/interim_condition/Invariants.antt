use Rattle.std.proofs.Common.{◌≡◌, ◌+◌, length, ◌∷◌, []}
use Rattle.md_math.specs.Lists.{up_to}
use Rattle.md_mech.specs.Rows.{by_type, interim_row}
use Rattle.md_mech.proofs.condition.interim_condition.Given as goal

abbrev pub invariant-loop-agent : goal.invariant-loop-agent
invariant-loop-agent l = l.row ≡ length (up_to l.agent (λ i. by_type l.setting i (λ a. interim_row i a ∷ []))) + l.rest
