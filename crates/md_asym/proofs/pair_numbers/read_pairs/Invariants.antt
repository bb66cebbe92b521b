use Rattle.std.proofs.Common.{◌≡◌, Ok}
use Rattle.md_parts.specs.Ranges.{ranged_field}
use Rattle.md_asym.specs.SaleReading.{agent_numbers, each_of}
use Rattle.md_asym.proofs.pair_numbers.read_pairs.Given as goal

abbrev pub invariant-loop-agent : goal.invariant-loop-agent
invariant-loop-agent l = each_of l.agent (agent_numbers l.word l.setting (ranged_field 62 l.range)) l.fn.reader ≡ Ok (l.numbers, l.reader)
