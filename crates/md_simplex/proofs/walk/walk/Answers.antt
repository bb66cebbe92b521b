use Rattle.std.proofs.Common.{◌<◌, List, sym, subst}
use Rattle.std.proofs.lemmas.Result.{err_from_is_err_and}
use Rattle.md_lp.specs.declared.pivot.Pivot.{Pivot}
use Rattle.md_dict.specs.Condensed.{IsShapedDictionary, entry_at}
use Rattle.md_dict.proofs.Values.{IsNarrow-shaped}
use Rattle.md_simplex.specs.declared.step.Step.TheVariants as steps
use Rattle.md_simplex.specs.Rules.{IsNext}
use Rattle.md_simplex.specs.Runs.{IsFirstWideIn}
use Rattle.md_simplex.specs.Walk.{IsReached}
use Rattle.md_simplex.proofs.WalkLaws.{IsReached-first, IsReached-more, left_over, left_over-less, wide_next}
use Rattle.md_simplex.proofs.walk.walk.Goals as goal

pub loop-step-init : goal.loop-step-init
loop-step-init c = record {
  reached =
      subst (λ (path : List Pivot). IsReached c.args.order c.args.lp.now c.args.width path c.in_ok-dict.dict) (sym c.new-path.ensures)
      (IsReached-first c.args.order c.args.lp.now c.args.width c.in_ok-dict.dict c.in_ok-dict.ensures.ok
      (IsNarrow-shaped c.in_ok-dict.dict (subst IsShapedDictionary c.dict.view_is c.dict.invariant.0)));
  next = c.next-step.ensures.next;
}

pub returns-in-Err-clause-left : goal.returns-in-Err-clause-left
returns-in-Err-clause-left c =
    let next : IsNext c.args.order c.loop-step.dict.rows c.loop-step.dict.columns (entry_at c.loop-step.dict) (steps.Pivot c.in-Pivot.pivot) =
    subst (IsNext c.args.order c.loop-step.dict.rows c.loop-step.dict.columns (entry_at c.loop-step.dict)) c.in-Pivot.is c.loop-step.invariant.next in
    subst (λ (path : List Pivot). IsFirstWideIn c.args.order c.args.lp.now c.args.width path c.in-Err.refusal.entry) (sym c.in_ok-push.ensures.ok)
    (wide_next c.args.order c.args.lp.now c.args.width c.loop-step.path c.loop-step.dict c.in-Pivot.pivot c.in-Err.refusal.entry c.loop-step.invariant.reached next
    (c.in-Err.ensures.too_wide c.args.lp.now c.loop-step.invariant.reached.holds))

pub loop-step-smaller : goal.loop-step-smaller
loop-step-smaller c =
    let next : IsNext c.args.order c.loop-step.dict.rows c.loop-step.dict.columns (entry_at c.loop-step.dict) (steps.Pivot c.in-Pivot.pivot) =
    subst (IsNext c.args.order c.loop-step.dict.rows c.loop-step.dict.columns (entry_at c.loop-step.dict)) c.in-Pivot.is c.loop-step.invariant.next in
    subst (λ (path : List Pivot). left_over c.args.lp.now path < left_over c.args.lp.now c.loop-step.path) (sym c.in_ok-push.ensures.ok)
    (left_over-less c.args.order c.args.lp.now c.args.width c.loop-step.path c.loop-step.dict c.in-Pivot.pivot c.loop-step.invariant.reached next)

pub loop-step-preserved : goal.loop-step-preserved
loop-step-preserved c =
    let next : IsNext c.args.order c.loop-step.dict.rows c.loop-step.dict.columns (entry_at c.loop-step.dict) (steps.Pivot c.in-Pivot.pivot) =
    subst (IsNext c.args.order c.loop-step.dict.rows c.loop-step.dict.columns (entry_at c.loop-step.dict)) c.in-Pivot.is c.loop-step.invariant.next in
    record {
      reached =
          subst (λ (path : List Pivot). IsReached c.args.order c.args.lp.now c.args.width path c.pivot.new.self) (sym c.in_ok-push.ensures.ok)
          (IsReached-more c.args.order c.args.lp.now c.args.width c.loop-step.path c.loop-step.dict c.pivot.new.self c.in-Pivot.pivot c.loop-step.invariant.reached next
          (c.in_default-pivot.ensures.dictionary c.args.lp.now c.loop-step.invariant.reached.holds) c.in_default-pivot.ensures.basis c.in_default-pivot.ensures.narrow);
      next = c.next-step-in-Pivot.ensures.next;
    }

pub returns-in_err-dict-clause-left : goal.returns-in_err-dict-clause-left
returns-in_err-dict-clause-left c = (let p = err_from_is_err_and c.from_residual.result c.from_residual.ensures.1 in rw (p.1, p.2) (c.in_err-dict.ensures.left c.args.order))
