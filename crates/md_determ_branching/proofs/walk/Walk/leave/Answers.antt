use Rattle.std.proofs.Common.{ap, rules, arith}
use Rattle.md_determ_branching.proofs.Measure.{left-after_leave}
use Rattle.md_determ_branching.proofs.Trails.{free_count-trail}
use Rattle.md_determ_branching.proofs.walk.Walk.leave.Goals as goal

pub go_on-self-inside-requires-clause-room : goal.go_on-self-inside-requires-clause-room
go_on-self-inside-requires-clause-room c =
    omega (arith, c.self.invariant.room, free_count-trail c.self.inside.outcomes c.self.inside.fixed c.self.inside.path.items c.self.inside.depth c.self.invariant.trail)

pub returns-clause-opens : goal.returns-clause-opens
returns-clause-opens c = search rules

pub returns-clause-left : goal.returns-clause-left
returns-clause-left c = left-after_leave _ _ c.args.self.now (ap (λ t. t.outcomes) c.self.view_is) (returns-clause-opens c) c.requires
