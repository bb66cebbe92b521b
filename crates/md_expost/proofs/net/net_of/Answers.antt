use Rattle.std.proofs.Common.{◌≡◌, ◌<◌, pos, if◌then◌else◌, length, sym, ap, ◌∙◌, arith, lit<}
use Rattle.md_math.specs.Lists.{list_to, number_at}
use Rattle.md_math.proofs.Bits.{read_within}
use Rattle.md_math.proofs.Builders.{length-list_to}
use Rattle.md_setting.specs.Auction.{value_count}
use Rattle.md_mech.specs.Accepted.{number_limit}
use Rattle.md_border.proofs.DemandLaws.{den-within}
use Rattle.md_border.specs.Odds.{demand_of}
use Rattle.md_flow.proofs.Touching.{room-touched}
use Rattle.md_expost.specs.Masses.{rank_count, cap_at}
use Rattle.md_expost.proofs.NetLaws.{IsFit, caps-fit, demands-fit}
use Rattle.md_expost.proofs.net.net_of.Goals as goal

caps_are : (c : goal.In_ok-touches) → c.in_ok-caps.caps ≡ list_to (rank_count c.args.auction.now) (cap_at c.args.auction.now c.args.interim.now.den)
caps_are c =
    rw (read_within number_limit c.args.interim.now.den (den-within c.args.auction.now c.args.interim.now c.requires.fits) (lit< tt)) at c.in_ok-caps.ensures

caps : (c : goal.In_ok-touches) → IsFit 20000 c.in_ok-caps.caps
caps c = caps-fit c.args.auction.now c.args.interim.now.den c.in_ok-caps.caps c.in_ok-demands.ensures.shaped c.requires.fits.den_positive c.requires.fits.den_size (caps_are c)

demands : (c : goal.In_ok-touches) → IsFit 12 c.in_ok-demands.demands
demands c = demands-fit c.args.auction.now c.args.interim.now c.in_ok-demands.demands c.in_ok-demands.ensures.shaped c.requires.fits c.in_ok-demands.ensures.value

nodes : (c : goal.In_ok-touches) → length c.in_ok-touches.touches ≡ length c.in_ok-caps.caps
nodes c = c.in_ok-touches.ensures.count ∙ sym (ap length (caps_are c) ∙ length-list_to (rank_count c.args.auction.now) (cap_at c.args.auction.now c.args.interim.now.den))

kinds : (c : goal.In_ok-touches) → length c.in_ok-demands.demands ≡ value_count c.args.auction.now
kinds c = ap length c.in_ok-demands.ensures.value ∙ length-list_to (value_count c.args.auction.now) (demand_of c.args.auction.now c.args.interim.now)

pub new-requires-clause-one_set : goal.new-requires-clause-one_set
new-requires-clause-one_set c = nodes c

pub new-requires-clause-few_nodes : goal.new-requires-clause-few_nodes
new-requires-clause-few_nodes c = omega (arith, (caps c).few)

pub new-requires-clause-few_demands : goal.new-requires-clause-few_demands
new-requires-clause-few_demands c = (demands c).few

pub new-requires-clause-caps : goal.new-requires-clause-caps
new-requires-clause-caps c = (caps c).nonneg

pub new-requires-clause-demands : goal.new-requires-clause-demands
new-requires-clause-demands c = (demands c).nonneg

pub new-requires-clause-cap_size : goal.new-requires-clause-cap_size
new-requires-clause-cap_size c = (caps c).size

pub new-requires-clause-demand_size : goal.new-requires-clause-demand_size
new-requires-clause-demand_size c = (demands c).size

pub returns : goal.returns
returns c =
    rw c.new.ensures.net
    (record {
      numbers = record { caps = caps_are c.before; wants = c.in_ok-demands.ensures.value };
      nonneg = (caps c.before).nonneg;
      rooms = λ u v b l.
          room-touched c.in_ok-caps.caps c.in_ok-demands.demands c.in_ok-touches.touches u v
          ∙ ap (λ t. if t then number_at c.in_ok-caps.caps u else pos 0) (c.in_ok-touches.ensures.members u v (omega (arith, nodes c.before, b)) (omega (arith, kinds c.before, l)));
    })
