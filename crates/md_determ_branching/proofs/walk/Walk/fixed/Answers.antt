use Rattle.std.proofs.Common.{ap, subst}
use Rattle.md_determ_branching.specs.Fixed.{AreOutcomes}
use Rattle.md_determ_branching.proofs.Trails.{AreOutcomes-trail}
use Rattle.md_determ_branching.proofs.walk.Walk.fixed.Goals as goal

pub returns-clause-outcomes : goal.returns-clause-outcomes
returns-clause-outcomes c =
    subst (λ n. AreOutcomes n c.self.inside.fixed) (ap (λ t. t.outcomes) c.self.view_is)
    (AreOutcomes-trail c.self.inside.outcomes c.self.inside.fixed c.self.inside.path.items c.self.inside.depth c.self.invariant.trail)
