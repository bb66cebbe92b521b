use Rattle.std.proofs.Common.{◌≡◌, ap, arith}
use Rattle.std.proofs.lemmas.List.{get_or_read}
use Rattle.md_iron_pools.specs.Pooling.{pools_of}
use Rattle.md_iron_pools.specs.declared.pools.Pool.{Pool}
use Rattle.md_cli_sell.proofs.threshold_text.last_of.Goals as goal

-- where the pool of the value ends
stop : (c : goal.After-index) → c.index.result.now.stop ≡ (pools_of c.args.pools.now).stop c.args.kind
stop c =
    ap (λ (p : Pool). p.stop)
    (get_or_read c.args.pools.now.by_kind.items c.args.kind c.index.result.now (omega (arith, c.requires.kind, c.requires.pooling.one_each)) c.index.ensures (record { first = 0; stop = 0 }))

pub overflow_sub-result : goal.overflow_sub-result
overflow_sub-result c = (let place = c.requires.pooling.pooled.place c.args.kind c.requires.kind in omega (arith, place.1, stop c))

pub returns-clause-range : goal.returns-clause-range
returns-clause-range c = (let place = c.requires.pooling.pooled.place c.args.kind c.requires.kind in omega (arith, place.1, place.2, stop c))
