use Rattle.std.proofs.Common.{◌-ℤ◌, ap, ◌∙◌}
use Rattle.md_math.proofs.Readings.{read, read_of}
use Rattle.md_iron_values.specs.VirtualValues.{virtual_to}
use Rattle.md_iron_pools.proofs.Searches.{least_to-lowest}
use Rattle.md_iron_pools.proofs.gaps.gap_above_least.Goals as goal

pub returns-clause-height : goal.returns-clause-height
returns-clause-height c =
    let a = c.args.auction.now in
    read _ _ (read_of _ _ c.virtual_between.type_inv c.virtual_between.ensures.value)
    ∙ ap (λ z. virtual_to a c.args.kind -ℤ z) (least_to-lowest (virtual_to a) c.args.kind c.lowest_place.result c.lowest_place.ensures.inside c.lowest_place.ensures.least)
