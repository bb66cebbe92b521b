use Rattle.std.proofs.Common.{◌≡◌, [], ◌∷◌, if◌then◌else◌, sym, ap, ◌∙◌, subst, arith}
use Rattle.md_lp.specs.Cuts.{AreCuts}
use Rattle.md_setting.specs.Auction.{value_count}
use Rattle.md_math.specs.Lists.{up_to}
use Rattle.md_iron_values.specs.Cuts.{begins, set_from}
use Rattle.md_iron_pools.specs.Pooling.{pools_of}
use Rattle.md_iron_pools.proofs.CutLists.{AreCuts-cuts_of}
use Rattle.md_iron_pools.proofs.cut_sets.cuts.Goals as goal

pub returns-clause-cuts : goal.returns-clause-cuts
returns-clause-cuts c =
    let whole : c.loop-kind.kind ≡ value_count c.args.auction.now = omega (arith, c.loop-kind-test.false, c.loop-kind.auto.kind-end, c.kinds-kind-end.ensures.count) in
    subst (AreCuts (value_count c.args.auction.now))
    (sym (c.loop-kind.invariant ∙ ap (λ n. up_to n (λ s. if begins (pools_of c.args.pools.now) s then set_from (value_count c.args.auction.now) s ∷ [] else [])) whole))
    (AreCuts-cuts_of (value_count c.args.auction.now) (pools_of c.args.pools.now))
