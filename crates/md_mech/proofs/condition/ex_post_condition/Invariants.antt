use Rattle.std.proofs.Common.{◌≡◌, ◌+◌, length, ◌∷◌, []}
use Rattle.md_math.specs.Lists.{up_to}
use Rattle.md_mech.specs.Rows.{by_profile, ex_post_row}
use Rattle.md_mech.proofs.condition.ex_post_condition.Given as goal

abbrev pub invariant-loop-agent : goal.invariant-loop-agent
invariant-loop-agent l = l.row ≡ length (up_to l.agent (λ i. by_profile l.setting (λ t. ex_post_row i t ∷ []))) + l.rest
