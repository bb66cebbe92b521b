use Rattle.std.proofs.Common.{◌≡◌, ◌+◌, ◌*◌, ◌^◌, sym, arith, ap}
use Rattle.std.proofs.lemmas.Grind.{pow_more}
use Rattle.md_setting.proofs.CountLaws.{power_large}
use Rattle.md_setting.proofs.counts.is_power_small.Goals as goal

pub returns-then-power-gt-MAX_PROFILE_WEIGHT : goal.returns-then-power-gt-MAX_PROFILE_WEIGHT
returns-then-power-gt-MAX_PROFILE_WEIGHT c =
    let more : c.args.total ^ (c.loop.counter + 1) ≡ c.args.total ^ c.loop.counter * c.args.total = pow_more c.args.total c.loop.counter in
    let so_far : c.loop.power * c.args.total ≡ c.args.total ^ c.loop.counter * c.args.total = ap (λ n. n * c.args.total) c.loop.invariant.0 in
    sym (power_large c.args.total (c.loop.counter + 1) c.args.bidders 1000000000000 c.requires.some_weight (omega arith) (omega (arith, more, so_far)))
