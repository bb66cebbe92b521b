use Rattle.std.proofs.Common.{◌≡◌, ◌+◌, pos, ap, ◌∙◌, arith}
use Rattle.md_math.specs.Lists.{list_to}
use Rattle.md_gen.specs.GeneratedAuction.{value_at, values_of}
use Rattle.md_gen.proofs.auction.values.Goals as goal

pub returns : goal.returns
unfolding values_of
returns c =
    let end : c.loop-kind.kind + 1 ≡ 6 = omega (arith, c.loop-kind-test.false, c.loop-kind.auto.kind-end) in
    c.loop-kind.invariant.2 ∙ ap (λ n. list_to n (λ k. pos (value_at c.args.number k))) end
