use Rattle.std.proofs.Common.{◌≡◌, ◌*ℤ◌, ◌-ℤ◌, refl, sym, ap₂, ◌∙◌, to_z, of_z, arith, lit<}
use mir.Syntax.{w128}
use Rattle.md_math.proofs.Bits.{read_result, read_within}
use Rattle.md_iron_values.specs.Pools.{over_pool}
use Rattle.md_iron_values.specs.VirtualValues.{weight_to}
use Rattle.md_threshold_laws.specs.ClosedOdds.{sold_from}
use Rattle.md_iron_pools.specs.Pooling.{pools_of}
use Rattle.md_iron_pools.proofs.InterimLaws.{pool-divides}
use Rattle.md_iron_pools.proofs.odds.odds_of.Goals as goal

-- the weight and what is sold, read back
weight : (c : goal.After-struct_told-1) → to_z w128 (of_z w128 c.chord_of.result.weight) ≡ over_pool (weight_to c.args.auction.now) (pools_of c.args.pools.now) c.args.kind
weight c = read_within 1000000 c.chord_of.result.weight c.chord_of.ensures.weight_size (lit< tt) ∙ c.chord_of.ensures.weight

sold : (c : goal.After-struct_told-1)
    → to_z w128 (of_z w128 c.sold_to-sold.result) ≡ sold_from c.args.auction.now c.args.units ((pools_of c.args.pools.now).first c.args.kind) -ℤ sold_from c.args.auction.now c.args.units ((pools_of c.args.pools.now).stop c.args.kind)
sold c = read_result c.sold_to-sold.result c.sold_to-sold.type_inv ∙ c.sold_to-sold.ensures

pub exact_quotient-requires-clause-exact : goal.exact_quotient-requires-clause-exact
exact_quotient-requires-clause-exact c =
    rw (weight c, sold c) (pool-divides c.args.auction.now c.args.units (pools_of c.args.pools.now) c.args.kind c.kinds-shaped.ensures.shaped c.requires.pooling.pooled c.requires.kind)

pub returns-then-kind-pools : goal.returns-then-kind-pools
returns-then-kind-pools c = record { none = λ l. refl; some = λ g. absurd (omega (arith, g, c.if-kind-pools.true)) }

pub returns : goal.returns
returns c = record {
  none = λ l. absurd (omega (arith, l, c.if-kind-pools.false));
  some = λ g.
      ap₂ (λ x y. x *ℤ y) (sym (weight c.before)) (read_result c.exact_quotient.result c.exact_quotient.type_inv)
      ∙ c.exact_quotient.ensures.value
      ∙ sold c.before;
}
