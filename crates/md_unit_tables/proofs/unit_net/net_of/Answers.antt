use Rattle.std.proofs.Common.{ap, lit<}
use Rattle.md_math.proofs.Bits.{read_within}
use Rattle.md_mech.specs.Accepted.{number_limit}
use Rattle.md_border.proofs.DemandLaws.{den-within}
use Rattle.md_flow.specs.declared.rooms.Rooms.TheVariants.{Listed}
use Rattle.md_unit_tables.specs.UnitNets.{IsUnitNetOf}
use Rattle.md_unit_tables.proofs.NetLaws.{net-fits}
use Rattle.md_unit_tables.proofs.unit_net.net_of.Goals as goal

net : (c : goal.In_ok-rooms) → IsUnitNetOf c.args.auction.now c.args.units c.args.interim.now (record { caps = c.in_ok-caps.caps; wants = c.in_ok-demands.demands; rooms = Listed c.in_ok-rooms.rooms })
net c = record {
  numbers = record {
    caps = rw (read_within number_limit c.args.interim.now.den (den-within c.args.auction.now c.args.interim.now c.requires.fits) (lit< tt)) at c.in_ok-caps.ensures;
    wants = c.in_ok-demands.ensures.value;
  };
  rooms = ap Listed (rw (read_within number_limit c.args.interim.now.den (den-within c.args.auction.now c.args.interim.now c.requires.fits) (lit< tt)) at c.in_ok-rooms.ensures);
}

pub with_rooms-requires : goal.with_rooms-requires
with_rooms-requires c = net-fits c.args.auction.now c.args.units c.args.interim.now _ c.in_ok-demands.ensures.shaped c.requires.fits c.requires.units (net c)
