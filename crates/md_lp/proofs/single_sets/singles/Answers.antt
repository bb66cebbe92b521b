use Rattle.std.proofs.Common.{◌≡◌, sym, ap, ◌∙◌, subst, arith}
use Rattle.md_lp.specs.Cuts.{AreCuts, singles_of}
use Rattle.md_lp.proofs.SingleCuts.{AreCuts-singles}
use Rattle.md_lp.proofs.single_sets.singles.Goals as goal

pub returns-clause-cuts : goal.returns-clause-cuts
returns-clause-cuts c =
    let whole : c.loop-kind.kind ≡ c.args.kinds = omega (arith, c.loop-kind-test.false, c.loop-kind.auto.kind-end) in
    subst (AreCuts c.args.kinds) (sym (c.loop-kind.invariant ∙ ap singles_of whole)) (AreCuts-singles c.args.kinds)
