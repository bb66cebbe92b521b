use Rattle.std.proofs.Common.{◌≡◌, ◌∙◌, true, sym, codes}
use Rattle.std.proofs.lemmas.Result.{err_from_is_err_and}
use Rattle.md_parts.specs.Repeated.{comes_next}
use Rattle.md_parts.proofs.CutSteps.{so_far_cut-more, so_far_cut-fails}
use Rattle.md_parts.proofs.cuts.read_cuts.Goals as goal

pub returns-in_err-set-clause-read : goal.returns-in_err-set-clause-read
returns-in_err-set-clause-read c =
    let p = err_from_is_err_and c.from_residual.result c.from_residual.ensures.1 in
    let comes : comes_next (codes "cut") c.loop-reader.reader.left ≡ true = sym c.comes_next.ensures ∙ c.loop-reader-test.true in
    rw (p.1, p.2) (λ ne. so_far_cut-fails c.args.kinds c.args.reader.now c.loop-reader.reader c.loop-reader.sets c.as_slice.result.now _ c.as_slice.ensures c.loop-reader.invariant comes (c.in_err-set.ensures.read ne))

pub loop-reader-preserved : goal.loop-reader-preserved
loop-reader-preserved c =
    let comes : comes_next (codes "cut") c.loop-reader.reader.left ≡ true = sym c.comes_next.ensures ∙ c.loop-reader-test.true in
    rw c.in_ok-push.ensures.ok (so_far_cut-more c.args.kinds c.args.reader.now c.loop-reader.reader c.read_cut.new.reader c.loop-reader.sets c.as_slice.result.now c.in_ok-set.set c.as_slice.ensures c.loop-reader.invariant comes c.in_ok-set.ensures.read c.in_ok-set.ensures.free)
