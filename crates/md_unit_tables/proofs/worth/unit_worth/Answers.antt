use Rattle.std.proofs.Common.{◌^◌, ◌<◌, pos, ◌*ℤ◌, to_z, of_z, subst, arith, lit<}
use mir.Syntax.{w128}
use Rattle.std.specs.Prelude.{unsigned_abs}
use Rattle.md_math.specs.Sizes.{IsWithin}
use Rattle.md_math.proofs.Bits.{read_within}
use Rattle.md_math.proofs.Readings.{read_of, read_small, add_product_fits}
use Rattle.md_setting.specs.Auction.{total_weight}
use Rattle.md_border.specs.Worth.{gains_of}
use Rattle.md_unit_tables.proofs.FurtherUnits.{num-read, num-small, with-further}
use Rattle.md_unit_tables.proofs.worth.unit_worth.Goals as goal

pub add_product-num-requires : goal.add_product-num-requires
add_product-num-requires c =
    add_product_fits _ _ _ _ _ _ (2 ^ 114) 12000000 (2 ^ 82)
    (read_small (2 ^ 114) c.auction_worth-one.result.num c.auction_worth-one.ensures.num_size (lit< tt))
    (read_of _ _ c.further.type_inv c.further.ensures.value)
    (read_small (2 ^ 82) c.auction_worth-one.result.den c.auction_worth-one.ensures.den_size (lit< tt))
    c.auction_worth-one.ensures.num_size
    (subst (IsWithin 12000000) c.further.ensures.value c.further.ensures.size)
    c.auction_worth-one.ensures.den_size (lit< tt)

pub reduced-requires-clause-num_size : goal.reduced-requires-clause-num_size
reduced-requires-clause-num_size c =
    let one = c.auction_worth-one in
    rw (num-read _ _ _ _ _ c.add_product-num.type_inv c.further.type_inv c.further.ensures.value one.ensures.num_size one.ensures.den_size c.add_product-num.ensures.value)
    (num-small one.result.num _ one.result.den one.ensures.num_size (subst (IsWithin 12000000) c.further.ensures.value c.further.ensures.size) one.ensures.den_size)

pub returns-clause-value : goal.returns-clause-value
returns-clause-value c =
    let a = c.args.auction.now in
    let one = c.auction_worth-one in
    with-further a.keep (pos (total_weight a.weights) *ℤ c.args.interim.now.den) (pos a.bidders *ℤ gains_of a c.args.interim.now) c.reduced.result.num c.reduced.result.den one.result.num one.result.den c.args.units
    c.requires.units.some one.ensures.least.positive one.ensures.value
    (rw (
      read_within (2 ^ 82) one.result.den one.ensures.den_size (lit< tt),
      num-read _ _ _ _ _ c.add_product-num.type_inv c.further.type_inv c.further.ensures.value one.ensures.num_size one.ensures.den_size c.add_product-num.ensures.value,
    ) at c.reduced.ensures.value)

num-below : (c : goal.After-reduced) → unsigned_abs (to_z w128 (of_z w128 c.add_product-num.result)) < 2 ^ 126
num-below c =
    let one = c.auction_worth-one in
    rw (num-read _ _ _ _ _ c.add_product-num.type_inv c.further.type_inv c.further.ensures.value one.ensures.num_size one.ensures.den_size c.add_product-num.ensures.value)
    (num-small one.result.num _ one.result.den one.ensures.num_size (subst (IsWithin 12000000) c.further.ensures.value c.further.ensures.size) one.ensures.den_size)

pub returns-clause-num_size : goal.returns-clause-num_size
returns-clause-num_size c = record { within = omega (arith, num-below c, c.reduced.ensures.num_size) }

pub returns-clause-den_size : goal.returns-clause-den_size
returns-clause-den_size c =
    let one = c.auction_worth-one in
    let size = rw (read_within (2 ^ 82) one.result.den one.ensures.den_size (lit< tt)) at c.reduced.ensures.den_size in
    record { within = omega (arith, one.ensures.den_size.within, size) }
