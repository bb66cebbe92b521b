use Rattle.std.proofs.Common.{◌≡◌, ap, subst, arith}
use Rattle.md_space.specs.Profiles.{profile_count}
use Rattle.md_setting.specs.Meaning.{sizes_of}
use Rattle.md_report.specs.Deficits.{IsLeastPaid}
use Rattle.md_report.proofs.DeficitLaws.{least-first, least-more}
use Rattle.md_report.proofs.ToldLaws.{profiles-some}
use Rattle.md_report.proofs.least_paid.least_rank.Goals as goal

pub loop-rank-init : goal.loop-rank-init
loop-rank-init c = least-first c.args.setting.now c.args.mechanism.now

pub loop-rank-preserved : goal.loop-rank-preserved
loop-rank-preserved c = least-more c.args.setting.now c.args.mechanism.now c.loop-rank.rank c.loop-rank.least c.lesser-least.result c.loop-rank.invariant c.lesser-least.ensures

pub returns : goal.returns
returns c =
    let s = c.args.setting.now in
    let some = profiles-some s c.space.ensures.shaped in
    let count = c.profiles-rank-end.ensures.count in
    let sizes = ap profile_count c.space.ensures.sizes in
    let most = c.loop-rank.auto.rank-end (omega (arith, some, count, sizes)) in
    let end : c.loop-rank.rank ≡ profile_count (sizes_of s) = omega (arith, c.loop-rank-test.false, most, count, sizes) in
    subst (λ n. IsLeastPaid s c.args.mechanism.now n c.loop-rank.least) end c.loop-rank.invariant
