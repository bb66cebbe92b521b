use Rattle.std.proofs.Common.{◌≡◌, ap, ◌∙◌, arith}
use Rattle.md_space.specs.Profiles.{profile_count, profile_at}
use Rattle.md_setting.specs.Meaning.{sizes_of}
use Rattle.md_parts.specs.Rows.{profile_row}
use Rattle.md_parts.proofs.MadeRows.{listed-more, profiles-all}
use Rattle.md_parts.proofs.profiles.push_profiles.Goals as goal

pub loop-rank-preserved : goal.loop-rank-preserved
loop-rank-preserved c =
    listed-more (λ r. profile_row c.args.word.now c.args.setting.now c.args.numbers.now c.args.count (profile_at (sizes_of c.args.setting.now) r)) c.args.to.now.items c.loop-rank.to.items c.push_profile.new.to.items c.loop-rank.rank c.loop-rank.invariant c.in_ok-push_profile.ensures

pub returns : goal.returns
returns c =
    let count : c.profiles-rank-end.result ≡ profile_count (sizes_of c.args.setting.now) = c.profiles-rank-end.ensures.count ∙ ap profile_count c.space.ensures.sizes in
    profiles-all c.args.word.now c.args.setting.now c.args.numbers.now c.args.count c.loop-rank.rank c.args.to.now.items c.loop-rank.to.items (omega arith) c.loop-rank.invariant
