use Rattle.md_tree.proofs.TreesPushed.{pushed-open, pushed-node, pushed-stands, pushed-more}
use Rattle.md_tree.proofs.tree_writing.push_tree.Goals as goal

pub fixed-requires : goal.fixed-requires
fixed-requires c = pushed-open c.args.setting.now c.args.to.now.items c.loop-place.to.items c.loop-place.walk c.args.tree.now c.loop-place.place c.get-node.result.now c.loop-place.invariant c.get-node.ensures

pub push_node-requires-clause-node : goal.push_node-requires-clause-node
push_node-requires-clause-node c =
    pushed-node c.args.setting.now c.args.to.now.items c.loop-place.to.items c.loop-place.walk c.fixed.result.now c.args.tree.now c.loop-place.place c.get-node.result.now c.loop-place.invariant c.fixed.ensures.opens c.get-node.ensures

pub step-requires-clause-stands : goal.step-requires-clause-stands
step-requires-clause-stands c =
    pushed-stands c.args.setting.now c.args.to.now.items c.loop-place.to.items c.loop-place.walk c.fixed.result.now c.args.tree.now c.loop-place.place c.get-node.result.now c.loop-place.invariant c.fixed.ensures.opens c.fixed.ensures.current c.get-node.ensures

pub loop-place-preserved : goal.loop-place-preserved
loop-place-preserved c =
    pushed-more c.args.setting.now c.args.to.now.items c.loop-place.to.items c.push_node.new.to.items c.loop-place.walk c.step.new.walk c.fixed.result.now c.args.tree.now c.loop-place.place c.get-node.result.now c.loop-place.invariant c.fixed.ensures.opens
    c.fixed.ensures.current c.get-node.ensures c.in_ok-push_node.ensures c.step.ensures.outcomes c.step.ensures.ranks c.step.ensures.opens
