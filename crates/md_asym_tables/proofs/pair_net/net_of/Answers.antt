use Rattle.std.proofs.Common.{◌≡◌, ◌<◌, pos, ◌≤ℤ◌, if◌then◌else◌, length, sym, ap, ◌∙◌, arith, lit<}
use Rattle.md_math.specs.Lists.{list_to, number_at}
use Rattle.md_math.specs.Sizes.{IsWithin}
use Rattle.md_math.proofs.Bits.{read_within}
use Rattle.md_math.proofs.Builders.{length-list_to}
use Rattle.md_space.specs.Profiles.{profile_count}
use Rattle.md_setting.specs.Meaning.{sizes_of}
use Rattle.md_mech.specs.Accepted.{number_limit}
use Rattle.md_flow.proofs.Touching.{room-touched}
use Rattle.md_asym_tables.specs.PairNets.{cap_at}
use Rattle.md_asym_sale.specs.Sides.{demand_at}
use Rattle.md_asym_sale.specs.Values.{pairs_of}
use Rattle.md_asym_tables.proofs.NetLaws.{IsFit, den-within, caps-fit, demands-fit}
use Rattle.md_asym_tables.proofs.pair_net.net_of.Goals as goal

caps_are : (c : goal.In_ok-touches) → c.in_ok-caps.caps ≡ list_to (profile_count (sizes_of c.args.setting.now)) (cap_at c.args.setting.now c.args.den)
caps_are c = rw (read_within number_limit c.args.den (den-within c.args.setting.now c.args.den c.args.odds.now c.requires.odds) (lit< tt)) at c.in_ok-caps.ensures.value

caps : (c : goal.In_ok-touches) → IsFit 1024 c.in_ok-caps.caps
caps c = caps-fit c.args.setting.now c.args.den c.in_ok-caps.caps c.in_ok-caps.ensures.shaped c.requires.odds.den_positive c.requires.odds.den_size (caps_are c)

demands : (c : goal.In_ok-touches) → IsFit 12 c.in_ok-demands.demands
demands c = demands-fit c.args.setting.now c.args.den c.args.odds.now c.in_ok-demands.demands c.in_ok-caps.ensures.shaped c.requires.odds c.requires.sale.few_types c.in_ok-demands.ensures

nodes : (c : goal.In_ok-touches) → length c.in_ok-touches.touches ≡ length c.in_ok-caps.caps
nodes c = c.in_ok-touches.ensures.count ∙ sym (ap length (caps_are c) ∙ length-list_to (profile_count (sizes_of c.args.setting.now)) (cap_at c.args.setting.now c.args.den))

pairs : (c : goal.In_ok-touches) → length c.in_ok-demands.demands ≡ pairs_of c.args.setting.now
pairs c = ap length c.in_ok-demands.ensures ∙ length-list_to (pairs_of c.args.setting.now) (demand_at c.args.setting.now (number_at c.args.odds.now))

pub new-requires-clause-one_set : goal.new-requires-clause-one_set
new-requires-clause-one_set c = nodes c

pub new-requires-clause-few_nodes : goal.new-requires-clause-few_nodes
new-requires-clause-few_nodes c = omega (arith, (caps c).few)

pub new-requires-clause-few_demands : goal.new-requires-clause-few_demands
new-requires-clause-few_demands c = (demands c).few

pub new-requires-clause-caps : goal.new-requires-clause-caps
new-requires-clause-caps c = (caps c).nonneg

pub new-requires-clause-demands : goal.new-requires-clause-demands
new-requires-clause-demands c = (demands c).nonneg

pub new-requires-clause-cap_size : goal.new-requires-clause-cap_size
new-requires-clause-cap_size c = (caps c).size

pub new-requires-clause-demand_size : goal.new-requires-clause-demand_size
new-requires-clause-demand_size c = (demands c).size

pub returns-clause-net : goal.returns-clause-net
returns-clause-net c =
    rw c.new.ensures.net
    (record {
      caps = caps_are c.before;
      wants = c.in_ok-demands.ensures;
      nonneg = (caps c.before).nonneg;
      rooms = λ u p b l.
          room-touched c.in_ok-caps.caps c.in_ok-demands.demands c.in_ok-touches.touches u p
          ∙ ap (λ t. if t then number_at c.in_ok-caps.caps u else pos 0) (c.in_ok-touches.ensures.members u p (omega (arith, nodes c.before, b)) (omega (arith, pairs c.before, l)));
    })
