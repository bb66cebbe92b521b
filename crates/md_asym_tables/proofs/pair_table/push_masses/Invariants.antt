use Rattle.std.proofs.Common.{◌≡◌, ◌+◌, ◌*◌, ◌++◌, slice_index}
use Rattle.md_math.specs.Lists.{list_to, number_at}
use Rattle.md_space.specs.Profiles.{profile_at}
use Rattle.md_setting.specs.Meaning.{sizes_of}
use Rattle.md_asym_sale.specs.Pairs.{pair_number}
use Rattle.md_asym_sale.specs.Values.{pairs_of}
use Rattle.md_asym_tables.proofs.pair_table.push_masses.Given as goal

abbrev pub invariant-loop-agent : goal.invariant-loop-agent
invariant-loop-agent l =
    l.table ≡ l.fn.table ++ list_to l.agent (λ i. number_at l.amounts (l.rank * pairs_of l.setting + pair_number (sizes_of l.setting) i (slice_index (profile_at (sizes_of l.setting) l.rank) i)))
