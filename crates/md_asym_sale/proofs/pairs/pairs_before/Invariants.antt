use Rattle.std.proofs.Common.{◌≡◌, ◌*◌, ◌≤◌}
use Rattle.md_setting.specs.Meaning.{sizes_of}
use Rattle.md_asym_sale.specs.Pairs.{pairs_before}
use Rattle.md_asym_sale.proofs.pairs.pairs_before.Given as goal

abbrev pub invariant-loop-before : goal.invariant-loop-before
invariant-loop-before l = (l.pairs ≡ pairs_before (sizes_of l.setting) l.before) × (l.pairs ≤ l.before * 16)
