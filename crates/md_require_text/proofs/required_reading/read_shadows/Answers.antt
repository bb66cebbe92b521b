use Rattle.std.proofs.Common.{◌≡◌, true, false, length, codes, sym, ◌∙◌, arith}
use Rattle.std.proofs.lemmas.Result.{err_from_is_err_and}
use Rattle.md_parts.specs.Repeated.{comes_next}
use Rattle.md_require_text.proofs.ShadowLaws.{shadows-fail, shadows-read, so_far-next}
use Rattle.md_require_text.proofs.required_reading.read_shadows.Goals as goal

pub returns-in_err-found-clause-read : goal.returns-in_err-found-clause-read
returns-in_err-found-clause-read c =
    let p = err_from_is_err_and c.from_residual.result c.from_residual.ensures.1 in
    let comes : comes_next (codes "shadow") c.loop-reader.reader.left ≡ true = sym c.comes_next.ensures ∙ c.loop-reader-test.true in
    let long : c.len.result ≡ length c.loop-reader.shadows.items = omega (arith, c.len.ensures) in
    rw (p.1, p.2) (λ ne. shadows-fail c.args.count c.len.result c.args.reader.now c.loop-reader.reader c.loop-reader.shadows.items _ c.loop-reader.invariant comes long (c.in_err-found.ensures.read ne))

pub loop-reader-preserved : goal.loop-reader-preserved
loop-reader-preserved c =
    let comes : comes_next (codes "shadow") c.loop-reader.reader.left ≡ true = sym c.comes_next.ensures ∙ c.loop-reader-test.true in
    let long : c.len.result ≡ length c.loop-reader.shadows.items = omega (arith, c.len.ensures) in
    let found = c.in_ok-found.found in
    let place = c.in_ok-found.ensures.index in
    so_far-next c.args.count c.len.result c.args.reader.now c.loop-reader.reader c.read_shadow.new.reader c.loop-reader.shadows.items c.put_at.new.shadows.items found.index found.shadow c.loop-reader.invariant comes long
    c.in_ok-found.ensures.read place.0 place.1 c.in_ok-found.ensures.fraction c.in_ok-put_at.ensures

pub returns-clause-read : goal.returns-clause-read
returns-clause-read c =
    let ends : comes_next (codes "shadow") c.loop-reader.reader.left ≡ false = sym c.comes_next.ensures ∙ c.loop-reader-test.false in
    shadows-read c.args.count c.args.reader.now c.loop-reader.reader c.loop-reader.shadows.items c.fill.new.shadows.items c.loop-reader.invariant ends c.in_ok-fill.ensures
