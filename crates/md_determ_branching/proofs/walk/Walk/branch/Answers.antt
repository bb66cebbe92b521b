use Rattle.std.proofs.Common.{ap, arith}
use Rattle.md_determ_branching.proofs.Measure.{left-after_branch}
use Rattle.md_determ_branching.proofs.Trails.{IsBranching-kept}
use Rattle.md_determ_branching.proofs.walk.Walk.branch.Goals as goal

pub index_mut-requires : goal.index_mut-requires
index_mut-requires c =
    let b = IsBranching-kept c.self.inside.over c.self.inside.outcomes c.self.inside.fixed c.self.inside.path.items c.self.inside.depth c.args.rank c.args.self.now (ap (λ t. t.outcomes) c.self.view_is) (ap (λ t. t.opens) c.self.view_is) c.self.invariant c.requires in
    omega (arith, b.room)

pub overflow_add-self : goal.overflow_add-self
overflow_add-self c =
    let b = IsBranching-kept c.self.inside.over c.self.inside.outcomes c.self.inside.fixed c.self.inside.path.items c.self.inside.depth c.args.rank c.args.self.now (ap (λ t. t.outcomes) c.self.view_is) (ap (λ t. t.opens) c.self.view_is) c.self.invariant c.requires in
    record { fits = omega (arith, b.room) }

pub invariant_of-self : goal.invariant_of-self
invariant_of-self c =
    let b = IsBranching-kept c.self.inside.over c.self.inside.outcomes c.self.inside.fixed c.self.inside.path.items c.self.inside.depth c.args.rank c.args.self.now (ap (λ t. t.outcomes) c.self.view_is) (ap (λ t. t.opens) c.self.view_is) c.self.invariant c.requires in
    rw c.fix.ensures b.kept

pub returns-clause-opens : goal.returns-clause-opens
returns-clause-opens c =
    let b = IsBranching-kept c.self.inside.over c.self.inside.outcomes c.self.inside.fixed c.self.inside.path.items c.self.inside.depth c.args.rank c.args.self.now (ap (λ t. t.outcomes) c.self.view_is) (ap (λ t. t.opens) c.self.view_is) c.self.invariant c.requires in
    rw (c.fix.ensures, b.running) b.opens

pub returns-clause-left : goal.returns-clause-left
returns-clause-left c = left-after_branch _ _ c.args.self.now c.args.rank (ap (λ t. t.outcomes) c.self.view_is) (returns-clause-opens c) c.requires
