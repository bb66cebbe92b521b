use Rattle.std.proofs.Common.{◌≡◌, false, slice_index}
use Rattle.md_math.specs.Sets.{member}
use Rattle.md_space.specs.Profiles.{profile_at}
use Rattle.md_setting.specs.Meaning.{sizes_of}
use Rattle.md_flow.specs.Over.{any_below}
use Rattle.md_asym_sale.specs.Pairs.{pair_number}
use Rattle.md_asym_sale.proofs.sides.has_some.Given as goal

abbrev pub invariant-loop-agent : goal.invariant-loop-agent
invariant-loop-agent l = any_below l.agent (λ i. member l.set (pair_number (sizes_of l.setting) i (slice_index (profile_at (sizes_of l.setting) l.rank) i))) ≡ false
