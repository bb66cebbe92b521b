use Rattle.std.proofs.Common.{arith, ap, ◌∙◌, ◌<◌, get_or, length}
use Rattle.std.proofs.lemmas.List.{get_or_default}
use Rattle.md_space.specs.Strides.{strides_of}
use Rattle.md_space.proofs.Ranks.{length-strides_of}
use Rattle.md_space.proofs.Walks.{stride-pos}
use Rattle.md_space.proofs.space.Space.stride.Goals as goal

pub returns-clause-value : goal.returns-clause-value
returns-clause-value c =
    let below : c.args.agent < length (strides_of c.args.self.now) = omega (arith, length-strides_of c.args.self.now) in
    c.index.ensures
    ∙ ap (λ xs. get_or xs c.args.agent c.index.result.now) (c.self.invariant.apart ∙ ap strides_of c.self.view_is)
    ∙ get_or_default (strides_of c.args.self.now) c.args.agent c.index.result.now 0 below

pub returns-clause-some : goal.returns-clause-some
returns-clause-some c =
    rw (returns-clause-value c, ← c.self.view_is)
    (stride-pos _ _ c.self.invariant.space.some_type (rw c.self.view_is c.requires))
