use Rattle.std.proofs.Common.{length}
use Rattle.std.specs.Prelude.{option_map}
use Rattle.md_tree.proofs.TreesJudged.{AreJudged}
use Rattle.md_tree.proofs.tree_judging.judge_tree.Given as goal

abbrev pub invariant-loop-alloc : goal.invariant-loop-alloc
invariant-loop-alloc l = AreJudged l.setting (option_map (λ m. m.now) l.best) l.fn.known l.fn.reader l.reader l.walk l.number l.verdict

abbrev pub decreases-loop-alloc : goal.decreases-loop-alloc
decreases-loop-alloc l = length l.reader.left
