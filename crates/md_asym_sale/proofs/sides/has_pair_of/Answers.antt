use Rattle.std.proofs.Common.{ap, ◌∙◌}
use Rattle.md_math.specs.Sets.{member}
use Rattle.md_setting.specs.Meaning.{sizes_of}
use Rattle.md_asym_sale.specs.Pairs.{pair_number}
use Rattle.md_asym_sale.proofs.sides.has_pair_of.Goals as goal

pub returns : goal.returns
returns c = c.has_pair.ensures ∙ ap (member c.args.set) (c.pair_number.ensures.value ∙ ap (pair_number (sizes_of c.args.setting.now) c.args.agent) c.type_at-kind.ensures.value)
