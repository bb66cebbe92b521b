use mathlib.Core.Bool.{true≢false}
use Rattle.std.proofs.Common.{◌∙◌, sym, ap, Option, option_map}
use Rattle.std.proofs.lemmas.Result.{err_from_is_err_and}
use Rattle.md_space.specs.Profiles.{profile_count}
use Rattle.md_determ_branching.specs.Tour.{current_of}
use Rattle.md_determ_branching.proofs.Measure.{opens-first}
use Rattle.md_mech.specs.declared.mechanism.Mechanism.{Mechanism}
use Rattle.md_tree.proofs.TreesRead.{read-fails}
use Rattle.md_tree.proofs.TreesJudged.{start-judged, next-fewer, more-judged}
use Rattle.md_tree.proofs.tree_judging.judge_tree.Goals as goal

pub loop-alloc-init : goal.loop-alloc-init
loop-alloc-init c =
    let best : Option Mechanism = option_map (λ m. m.now) c.args.best in
    start-judged c.args.setting.now best c.args.known c.args.reader.now c.outcomes.result c.profiles.result c.in_ok-walk.walk c.outcomes.ensures.count (c.profiles.ensures.count ∙ ap profile_count c.space.ensures.sizes) c.in_ok-walk.ensures

pub returns-in_err-verdict : goal.returns-in_err-verdict
returns-in_err-verdict c =
    let h = c.loop-alloc.invariant in
    let p = err_from_is_err_and c.from_residual-in_err-verdict.result c.from_residual-in_err-verdict.ensures.1 in
    rw (p.1, p.2) (λ ne. read-fails c.args.setting.now c.args.reader.now c.loop-alloc.reader c.loop-alloc.walk (current_of c.loop-alloc.walk) h.nodes _ h.read (opens-first c.loop-alloc.walk (λ over. true≢false (sym (c.loop-alloc-test.ensures.1 over)))) (c.in_err-verdict.ensures ne))

pub loop-alloc-smaller : goal.loop-alloc-smaller
loop-alloc-smaller c =
    let best : Option Mechanism = option_map (λ m. m.now) c.args.best in
    next-fewer c.args.setting.now best c.args.known c.args.reader.now c.loop-alloc.reader c.judge_next.new.reader c.loop-alloc.walk c.judge_next.new.walk c.loop-alloc.number c.loop-alloc.verdict c.in_ok-verdict.verdict
    c.loop-alloc.invariant (λ over. true≢false (sym (c.loop-alloc-test.ensures.1 over))) c.in_ok-verdict.ensures

pub loop-alloc-preserved : goal.loop-alloc-preserved
loop-alloc-preserved c =
    let best : Option Mechanism = option_map (λ m. m.now) c.args.best in
    more-judged c.args.setting.now best c.args.known c.args.reader.now c.loop-alloc.reader c.judge_next.new.reader c.loop-alloc.walk c.judge_next.new.walk c.loop-alloc.number c.loop-alloc.verdict c.in_ok-verdict.verdict
    c.loop-alloc.invariant (λ over. true≢false (sym (c.loop-alloc-test.ensures.1 over))) c.in_ok-verdict.ensures
