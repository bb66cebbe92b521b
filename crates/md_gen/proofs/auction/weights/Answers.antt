use Rattle.std.proofs.Common.{◌≡◌, pos, ap, ◌∙◌, arith}
use Rattle.md_math.specs.Lists.{list_to}
use Rattle.md_gen.specs.GeneratedAuction.{weight_at, weights_of}
use Rattle.md_gen.proofs.auction.weights.Goals as goal

pub returns : goal.returns
unfolding weights_of
returns c =
    let end : c.loop-kind.kind ≡ 6 = omega (arith, c.loop-kind-test.false, c.loop-kind.auto.kind-end) in
    c.loop-kind.invariant ∙ ap (λ n. list_to n (λ k. pos (weight_at c.args.number k))) end
