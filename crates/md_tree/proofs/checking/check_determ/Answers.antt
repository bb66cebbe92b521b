use Rattle.std.proofs.Common.{None}
use Rattle.md_tree.specs.declared.answer.DetAnswer.TheVariants.{Optimal, Infeasible, Unbounded}
use Rattle.md_tree.proofs.AnswerLaws.{claims-of, only-of}
use Rattle.md_tree.proofs.OneVerdict.{one-tree, one-unbounded}
use Rattle.md_tree.proofs.checking.check_determ.Goals as goal

pub returns-in-Optimal-clause-claim : goal.returns-in-Optimal-clause-claim
returns-in-Optimal-clause-claim c =
    claims-of c.args.setting.now c.args.answer.now (Optimal c.in-Optimal.value c.in-Optimal.mechanism c.in-Optimal.tree) c.check_optimal.result c.in-Optimal.is c.requires.answer c.check_optimal.ensures.verdict

pub returns-in-Infeasible-clause-only : goal.returns-in-Infeasible-clause-only
returns-in-Infeasible-clause-only c =
    only-of c.args.setting.now c.args.answer.now (Infeasible c.in-Infeasible.tree) c.check_tree.result c.in-Infeasible.is (one-tree c.args.setting.now None c.in-Infeasible.tree) c.check_tree.ensures

pub returns-in-Infeasible-clause-claim : goal.returns-in-Infeasible-clause-claim
returns-in-Infeasible-clause-claim c =
    claims-of c.args.setting.now c.args.answer.now (Infeasible c.in-Infeasible.tree) c.check_tree.result c.in-Infeasible.is c.requires.answer c.check_tree.ensures

pub returns-in-Unbounded-clause-only : goal.returns-in-Unbounded-clause-only
returns-in-Unbounded-clause-only c =
    only-of c.args.setting.now c.args.answer.now (Unbounded c.in-Unbounded.mechanism c.in-Unbounded.ray) c.check_unbounded.result c.in-Unbounded.is
    (one-unbounded c.args.setting.now c.in-Unbounded.mechanism c.in-Unbounded.ray) c.check_unbounded.ensures

pub returns-in-Unbounded-clause-claim : goal.returns-in-Unbounded-clause-claim
returns-in-Unbounded-clause-claim c =
    claims-of c.args.setting.now c.args.answer.now (Unbounded c.in-Unbounded.mechanism c.in-Unbounded.ray) c.check_unbounded.result c.in-Unbounded.is c.requires.answer c.check_unbounded.ensures
