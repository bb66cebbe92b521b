use Rattle.std.proofs.Common.{◌≡◌, ◌-◌, List, length, subst, arith}
use Rattle.md_list.specs.ByRule.{growth, IsReserve, IsPoolEnd}
use Rattle.md_list_gains.specs.declared.sums.Sums.{Sums}
use Rattle.md_list_gains.specs.Places.{weight_to, gain_to, benefit_to}
use Rattle.md_list_find.proofs.Found.{listed-group, listed-pool}
use Rattle.md_list_find.proofs.find.put_group.Goals as goal

pub loop-first-init : goal.loop-first-init
loop-first-init c =
    let places : List Sums = c.in_ok-places.places.items in
    let reserve : IsReserve (length places - 1) (gain_to places) (benefit_to places) c.reserve-first.result =
    subst (λ ps. IsReserve (length ps - 1) (gain_to ps) (benefit_to ps) c.reserve-first.result) c.deref.ensures.value c.reserve-first.ensures in
    record {
      listed = listed-group c.args.auction.now c.args.group places c.in_ok-places.ensures.sums c.reserve-first.result c.args.pools.now.items c.requires.listed reserve;
      inside = omega (arith, reserve.inside, c.in_ok-places.ensures.sums.long);
    }

pub loop-first-preserved : goal.loop-first-preserved
loop-first-preserved c =
    let places : List Sums = c.in_ok-places.places.items in
    let first = c.loop-first.first in
    let stop = c.pool_end-stop.result in
    let same = c.deref-in-loop-first-2.ensures.value in
    let end : IsPoolEnd (length places - 1) (weight_to places) (gain_to places) first stop =
    subst (λ ps. IsPoolEnd (length ps - 1) (weight_to ps) (gain_to ps) first stop) c.deref-in-loop-first.ensures.value c.pool_end-stop.ensures in
    record {
      listed =
          listed-pool c.args.auction.now c.args.group places c.in_ok-places.ensures.sums c.groups-shaped.ensures.shaped.ordered c.requires.group first stop c.in_ok-put.ensures.0 c.between.result c.loop-first.pools.items c.put.new.pools.items
          c.loop-first.invariant.listed end
          (subst (λ ps. c.between.result.weight ≡ growth (weight_to ps) first stop) same c.between.ensures.weight)
          (subst (λ ps. c.between.result.gain ≡ growth (gain_to ps) first stop) same c.between.ensures.gain)
          (subst (λ ps. c.between.result.benefit ≡ growth (benefit_to ps) first stop) same c.between.ensures.benefit)
          c.between.ensures.size c.in_ok-put.ensures.1 c.in_ok-put.ensures.2;
      inside = omega (arith, end.inside, c.in_ok-places.ensures.sums.long);
    }
