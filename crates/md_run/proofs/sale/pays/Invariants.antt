use Rattle.std.proofs.Common.{◌≡◌}
use Rattle.std.specs.Prelude.{slice_index}
use Rattle.md_math.specs.Lists.{list_to, number_at}
use Rattle.md_setting.specs.Meaning.{sizes_of}
use Rattle.md_asym_sale.specs.Pairs.{pair_number}
use Rattle.md_run.proofs.sale.pays.Given as goal

abbrev pub invariant-loop-agent : goal.invariant-loop-agent
invariant-loop-agent l = l.pays ≡ list_to l.agent (λ i. number_at l.interim.pays (pair_number (sizes_of l.setting) i (slice_index l.profile i)))
