use Rattle.std.proofs.Common.{◌≡◌, ◌+◌, ◌-◌, length, ap, ◌∙◌, arith, length-append}
use Rattle.std.specs.Prelude.{replicate}
use Rattle.std.proofs.lemmas.List.{length-replicate}
use Rattle.md_setting.specs.Auction.{value_count}
use Rattle.md_iron_values.specs.VirtualValues.{weight_to, virtual_to}
use Rattle.md_iron_pools.specs.declared.pools.Pool.{Pool}
use Rattle.md_iron_pools.specs.Pooling.{lone_pool}
use Rattle.md_math.proofs.Builders.{length-list_to}
use Rattle.md_iron_pools.proofs.Bounds.{weights-rise}
use Rattle.md_iron_pools.proofs.Lists.{firsts, stops, lone_pools-alone, IsExtended-replicate}
use Rattle.md_iron_pools.proofs.PooledTo.{IsReserve, IsExtended, IsPooledTo-start, IsPooledTo-more}
use Rattle.md_iron_pools.proofs.RuleLaws.{IsSoonestTo-start, IsSoonestTo-more, IsPooledByRule-end, one-by_rule}
use Rattle.md_iron_pools.proofs.pooling.pool.Goals as goal

pub loop-first-init : goal.loop-first-init
loop-first-init c =
    let a = c.args.auction.now in
    let z = c.lowest_place-reserve.result in
    let xs = c.in_ok-by_kind.by_kind.items in
    record {
      sold = omega arith;
      inside = omega (arith, c.lowest_place-reserve.ensures.inside, c.kinds.ensures.count);
      one_each = ap length c.in_ok-by_kind.ensures ∙ length-list_to z lone_pool;
      pooled = IsPooledTo-start (value_count a) (weight_to a) (virtual_to a) z (firsts xs) (stops xs) (lone_pools-alone xs z c.in_ok-by_kind.ensures);
      soonest = IsSoonestTo-start (weight_to a) (virtual_to a) z (firsts xs) (stops xs);
    }

pub loop-first-preserved : goal.loop-first-preserved
loop-first-preserved c =
    let a = c.args.auction.now in
    let z = c.lowest_place-reserve.result in
    let n = c.loop-first.first in
    let e = c.lowest_stop-stop.result in
    let xs = c.loop-first.by_kind.items in
    let ys = c.push_pool.new.pools.items in
    let stop = c.lowest_stop-stop.ensures in
    let reserve : IsReserve (value_count a) (virtual_to a) z =
    record {
      inside = omega (arith, c.lowest_place-reserve.ensures.inside, c.kinds.ensures.count);
      least = λ x b. c.lowest_place-reserve.ensures.least x (omega (arith, b, c.kinds.ensures.count));
      last = λ x l b. c.lowest_place-reserve.ensures.last x l (omega (arith, b, c.kinds.ensures.count));
    } in
    let pool : Pool = record { first = n; stop = e } in
    let extended : IsExtended n e (firsts xs) (stops xs) (firsts ys) (stops ys) = IsExtended-replicate xs ys n e c.loop-first.invariant.one_each c.in_ok-push_pool.ensures in
    record {
      sold = omega (arith, c.loop-first.invariant.sold, stop.behind);
      inside = stop.inside;
      one_each =
          let told : length ys ≡ length xs + length (replicate (e - n) pool) = ap length c.in_ok-push_pool.ensures ∙ length-append xs (replicate (e - n) pool) in
          omega (arith, told, length-replicate (e - n) pool, c.loop-first.invariant.one_each, stop.behind);
      pooled =
          IsPooledTo-more (value_count a) (weight_to a) (virtual_to a) z n e (firsts xs) (stops xs) (firsts ys) (stops ys) (weights-rise a c.kinds.ensures.shaped) reserve c.loop-first.invariant.sold
          c.loop-first.invariant.pooled (record { behind = stop.behind; inside = stop.inside; low = stop.low }) extended;
      soonest = IsSoonestTo-more (weight_to a) (virtual_to a) z n e (firsts xs) (stops xs) (firsts ys) (stops ys) c.loop-first.invariant.soonest stop.soonest extended;
    }

pub returns-clause-named : goal.returns-clause-named
returns-clause-named c =
    let a = c.args.auction.now in
    let xs = c.loop-first.by_kind.items in
    let whole : c.loop-first.first ≡ value_count a = omega (arith, c.loop-first-test.false, c.loop-first.invariant.inside, c.kinds-in-loop-first.ensures.count) in
    IsPooledByRule-end (value_count a) (weight_to a) (virtual_to a) c.loop-first.first (record { reserve = c.lowest_place-reserve.result; first = firsts xs; stop = stops xs }) whole
    (record {
      inside = omega (arith, c.lowest_place-reserve.ensures.inside, c.kinds.ensures.count);
      least = λ x b. c.lowest_place-reserve.ensures.least x (omega (arith, b, c.kinds.ensures.count));
      last = λ x l b. c.lowest_place-reserve.ensures.last x l (omega (arith, b, c.kinds.ensures.count));
    })
    c.loop-first.invariant.pooled c.loop-first.invariant.soonest

pub returns-clause-pooled : goal.returns-clause-pooled
returns-clause-pooled c =
    let whole : c.loop-first.first ≡ value_count c.args.auction.now = omega (arith, c.loop-first-test.false, c.loop-first.invariant.inside, c.kinds-in-loop-first.ensures.count) in
    record {
      one_each = c.loop-first.invariant.one_each ∙ whole;
      pooled = (returns-clause-named c).pooled;
    }

pub returns-clause-only : goal.returns-clause-only
returns-clause-only c =
    let a = c.args.auction.now in
    let xs = c.loop-first.by_kind.items in
    λ others h. one-by_rule (value_count a) (weight_to a) (virtual_to a) (record { reserve = c.lowest_place-reserve.result; first = firsts xs; stop = stops xs }) others (returns-clause-named c) h
