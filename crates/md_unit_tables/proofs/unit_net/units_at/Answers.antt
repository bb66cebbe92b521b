use Rattle.std.proofs.Common.{◌≡◌}
use Rattle.std.proofs.lemmas.Int.{to_z-of_z}
use mir.Syntax.{w128}
use Rattle.md_math.proofs.Bits.{read_result}
use Rattle.md_expost.specs.Masses.{cap_at}
use Rattle.md_unit_tables.proofs.NetLaws.{units-fit}
use Rattle.md_unit_tables.proofs.unit_net.units_at.Goals as goal

cap_is : (c : goal.After-cap) → c.cap.result ≡ cap_at c.args.auction.now c.args.den c.args.rank
cap_is c = rw (to_z-of_z w128 c.args.den c.ranges.den) at c.cap.ensures.value

pub product-requires : goal.product-requires
product-requires c =
    rw (read_result c.from.result c.from.type_inv)
    (rw (read_result c.cap.result c.cap.type_inv)
    (units-fit c.args.auction.now c.args.den c.from.result c.cap.result c.args.rank c.args.units c.cap.ensures.shaped c.requires.den_small.0 c.requires.den_small.1 c.requires.rank_in c.requires.units c.from.ensures (cap_is c)))
