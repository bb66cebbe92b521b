use Rattle.std.proofs.Common.{◌≡◌, ◌∙◌, true, sym, ap, codes}
use Rattle.std.proofs.lemmas.Result.{err_from_is_err_and}
use Rattle.md_space.specs.Profiles.{profile_count}
use Rattle.md_parts.specs.Repeated.{comes_next}
use Rattle.md_tree.proofs.FixedRead.{fixed-more, fixed-fails}
use Rattle.md_tree.proofs.fixed_pairs.read_fixed.Goals as goal

pub returns-in_err-pair-clause-read : goal.returns-in_err-pair-clause-read
returns-in_err-pair-clause-read c =
    let p = err_from_is_err_and c.from_residual.result c.from_residual.ensures.1 in
    let comes : comes_next (codes "fix") c.loop-reader.reader.left ≡ true = sym c.comes_next.ensures ∙ c.loop-reader-test.true in
    rw (p.1, p.2) (λ ne. fixed-fails c.args.setting.now c.profiles-profiles.result c.outcomes-outcomes.result c.args.reader.now c.loop-reader.reader c.loop-reader.least c.loop-reader.pairs _ (c.profiles-profiles.ensures.count ∙ ap profile_count c.space.ensures.sizes) c.outcomes-outcomes.ensures.count
    c.loop-reader.invariant comes (c.in_err-pair.ensures.read ne))

pub loop-reader-preserved : goal.loop-reader-preserved
loop-reader-preserved c =
    let comes : comes_next (codes "fix") c.loop-reader.reader.left ≡ true = sym c.comes_next.ensures ∙ c.loop-reader-test.true in
    rw c.in_ok-push.ensures.ok
    (fixed-more c.args.setting.now c.profiles-profiles.result c.outcomes-outcomes.result c.args.reader.now c.loop-reader.reader c.read_pair.new.reader c.loop-reader.least c.loop-reader.pairs c.in_ok-pair.pair (c.profiles-profiles.ensures.count ∙ ap profile_count c.space.ensures.sizes) c.outcomes-outcomes.ensures.count
    c.loop-reader.invariant comes c.in_ok-pair.ensures.read c.in_ok-pair.ensures.rank c.in_ok-pair.ensures.outcome)
