use Rattle.std.proofs.Common.{◌∙◌, ap}
use Rattle.std.proofs.lemmas.Result.{err_from_is_err_and}
use Rattle.md_space.specs.Profiles.{profile_count}
use Rattle.md_tree.proofs.Shorter.{node-fewer}
use Rattle.md_tree.proofs.TreesRead.{read-start, read-more, read-fails}
use Rattle.md_tree.proofs.tree_reading.read_tree.Goals as goal

pub loop-alloc-init : goal.loop-alloc-init
loop-alloc-init c =
    rw c.new-tree.ensures (read-start c.args.setting.now c.args.reader.now c.outcomes.result c.profiles.result c.in_ok-walk.walk c.outcomes.ensures.count (c.profiles.ensures.count ∙ ap profile_count c.space.ensures.sizes) c.in_ok-walk.ensures)

pub returns-in_err-node-clause-read : goal.returns-in_err-node-clause-read
returns-in_err-node-clause-read c =
    let p = err_from_is_err_and c.from_residual-in_err-node.result c.from_residual-in_err-node.ensures.1 in
    rw (p.1, p.2) (λ ne. read-fails c.args.setting.now c.args.reader.now c.loop-alloc.reader c.loop-alloc.walk c.fixed.result.now c.loop-alloc.tree _ c.loop-alloc.invariant c.fixed.ensures.opens (c.in_err-node.ensures.read ne))

pub loop-alloc-smaller : goal.loop-alloc-smaller
loop-alloc-smaller c = node-fewer c.args.setting.now c.fixed.result.now c.loop-alloc.reader c.read_node.new.reader c.in_ok-node.node c.in_ok-node.ensures.read

pub loop-alloc-preserved : goal.loop-alloc-preserved
loop-alloc-preserved c =
    rw c.in_ok-push.ensures.ok
    (read-more c.args.setting.now c.args.reader.now c.loop-alloc.reader c.read_node.new.reader c.loop-alloc.walk c.step.new.walk c.fixed.result.now c.loop-alloc.tree c.in_ok-node.node c.loop-alloc.invariant c.fixed.ensures.opens
    c.fixed.ensures.current c.in_ok-node.ensures.read c.in_ok-node.ensures.known c.step.ensures.outcomes c.step.ensures.ranks c.step.ensures.opens)
