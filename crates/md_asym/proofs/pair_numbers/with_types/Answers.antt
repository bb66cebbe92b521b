use Rattle.std.proofs.Common.{rules}
use Rattle.md_math.specs.Lists.{number_at}
use Rattle.md_num.specs.WholeText.{text_of}
use Rattle.md_setting.specs.Meaning.{sizes_of}
use Rattle.md_parts.proofs.MadeRows.{listed-more}
use Rattle.md_asym_sale.specs.Pairs.{pair_number}
use Rattle.md_asym.proofs.pair_numbers.with_types.Goals as goal

pub loop-kind-preserved : goal.loop-kind-preserved
loop-kind-preserved c =
    listed-more (λ a. text_of (number_at c.args.numbers.now (pair_number (sizes_of c.args.setting.now) c.args.agent a))) c.args.row c.loop-kind.filled c.in_ok-filled.filled c.loop-kind.kind c.loop-kind.invariant (search rules)
