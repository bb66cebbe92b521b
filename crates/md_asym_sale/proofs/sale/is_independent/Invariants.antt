use Rattle.std.proofs.Common.{ℕ, ◌<◌}
use Rattle.md_space.specs.Profiles.{profile_at}
use Rattle.md_setting.specs.Meaning.{sizes_of}
use Rattle.md_asym_sale.specs.Sale.{IsIndependentAt}
use Rattle.md_asym_sale.proofs.sale.is_independent.Given as goal

abbrev pub invariant-loop-rank : goal.invariant-loop-rank
invariant-loop-rank l = (k : ℕ) → k < l.rank → IsIndependentAt l.setting (profile_at (sizes_of l.setting) k)
