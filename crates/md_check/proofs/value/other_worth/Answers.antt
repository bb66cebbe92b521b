use Rattle.std.proofs.Common.{pos, ◌<ℤ◌, ◌*ℤ◌, ◌∙◌, sym, arith}
use mathlib.Core.Bool.{false≢true}
use Rattle.std.proofs.lemmas.Int.{ints}
use Rattle.md_math.proofs.Bits.{read_short_result}
use Rattle.md_math.proofs.Order.{positive-*ℤ, positive_pos}
use Rattle.md_setting.specs.Auction.{total_weight}
use Rattle.md_unit_tables.specs.Worth.{HasUnitWorth, unit_worth_of}
use Rattle.md_border.proofs.DemandLaws.{total-positive}
use Rattle.md_claims.proofs.ValueLaws.{same_value, same_least, never_below}
use Rattle.md_check.proofs.value.other_worth.Goals as goal

pub prove-unreachable-requires : goal.prove-unreachable-requires
prove-unreachable-requires c =
    let a = c.args.auction.now in
    let total = read_short_result c.total-weight.result c.total-weight.type_inv ∙ c.total-weight.ensures.value in
    never_below (total_weight a.weights) (total-positive a c.total-weight.ensures.shaped) (rw total at c.if-prove.true)

pub returns-then-is_same_number : goal.returns-then-is_same_number
returns-then-is_same_number c =
    let a = c.args.auction.now in
    let interim = c.args.interim.now in
    let right = c.unit_worth-found.result in
    let printed = c.args.printed.now in
    same_value right.num right.den printed.num printed.den (unit_worth_of a c.args.units interim) (pos (total_weight a.weights) *ℤ interim.den) c.unit_worth-found.ensures.least.positive c.unit_worth-found.ensures.value
    (c.is_same_number.ensures.0 c.if-is_same_number.true)

pub returns-else-is_same_number : goal.returns-else-is_same_number
returns-else-is_same_number c =
    let a = c.args.auction.now in
    let interim = c.args.interim.now in
    let right = c.unit_worth-found.result in
    let printed = c.args.printed.now in
    let whole : pos 0 <ℤ (pos (total_weight a.weights) *ℤ interim.den) =
    positive-*ℤ (pos (total_weight a.weights)) interim.den (positive_pos (total_weight a.weights) (total-positive a c.total-weight.ensures.shaped)) (let one = c.requires.interim.den_positive in omega (arith, ints, one)) in
    record {
      other = λ (same : HasUnitWorth a c.args.units interim printed).
          false≢true
          (sym c.if-is_same_number.false
          ∙ c.is_same_number.ensures.1 (same_least right.num right.den printed.num printed.den (unit_worth_of a c.args.units interim) (pos (total_weight a.weights) *ℤ interim.den) whole c.unit_worth-found.ensures.value same));
      right = record { has_worth = c.unit_worth-found.ensures.value; least = c.unit_worth-found.ensures.least };
    }
