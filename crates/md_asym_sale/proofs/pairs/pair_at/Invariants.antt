use Rattle.std.proofs.Common.{◌≡◌, ◌+◌}
use Rattle.md_setting.specs.Meaning.{sizes_of}
use Rattle.md_asym_sale.specs.Pairs.{pairs_before}
use Rattle.md_asym_sale.proofs.pairs.pair_at.Given as goal

abbrev pub invariant-loop-agent : goal.invariant-loop-agent
invariant-loop-agent l = l.number ≡ pairs_before (sizes_of l.setting) l.agent + l.rest
