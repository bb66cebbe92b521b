use Rattle.std.proofs.Common.{◌≡◌}
use Rattle.md_math.specs.Lists.{list_to, up_to, number_at}
use Rattle.md_space.specs.Profiles.{profile_at}
use Rattle.md_setting.specs.Meaning.{agent_count, sizes_of}
use Rattle.md_rows.specs.Columns.{payment_in}
use Rattle.md_rows.proofs.mechanisms.payments_of.Given as goal

abbrev pub invariant-loop-rank : goal.invariant-loop-rank
invariant-loop-rank l = l.pays ≡ up_to l.rank (λ r. list_to (agent_count l.setting) (λ i. payment_in l.setting (number_at l.point) i (profile_at (sizes_of l.setting) r)))
