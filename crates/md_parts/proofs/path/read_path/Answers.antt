use Rattle.std.proofs.Common.{◌≡◌, ◌∙◌, true, false, sym, codes}
use Rattle.md_parts.specs.Repeated.{comes_next}
use Rattle.md_parts.proofs.PartsRead.{path-known}
use Rattle.md_parts.proofs.PathSteps.{walked-none, walked-more, walked-all}
use Rattle.md_parts.proofs.path.read_path.Goals as goal

pub loop-reader-init : goal.loop-reader-init
loop-reader-init c = rw c.new-path.ensures (walked-none c.args.reader.now)

pub loop-reader-preserved : goal.loop-reader-preserved
loop-reader-preserved c =
    let comes : comes_next (codes "pivot") c.loop-reader.reader.left ≡ true = sym c.comes_next.ensures ∙ c.loop-reader-test.true in
    rw c.in_ok-push.ensures.ok (walked-more c.args.reader.now c.loop-reader.reader c.read_pivot.new.reader c.loop-reader.path c.in_ok-pivot.pivot c.loop-reader.invariant comes c.in_ok-pivot.ensures)

pub returns-clause-places : goal.returns-clause-places
returns-clause-places c =
    let ends : comes_next (codes "pivot") c.loop-reader.reader.left ≡ false = sym c.comes_next.ensures ∙ c.loop-reader-test.false in
    path-known c.args.reader.now c.loop-reader.reader c.loop-reader.path (walked-all c.args.reader.now c.loop-reader.reader c.loop-reader.path c.loop-reader.invariant ends)
