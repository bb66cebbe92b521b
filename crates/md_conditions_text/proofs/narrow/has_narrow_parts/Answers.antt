use Rattle.std.proofs.Common.{◌<◌, ◌&&◌, ℕ, ap, sym, ◌∙◌, arith}
use Rattle.std.proofs.lemmas.Int.{to_z-of_z}
use mir.Syntax.{w128}
use Rattle.md_space.specs.Profiles.{profile_count}
use Rattle.md_setting.specs.Meaning.{sizes_of}
use Rattle.md_setting.proofs.TestLaws.{all_below-fails}
use Rattle.md_require.specs.Named.{named}
use Rattle.md_conditions_text.specs.Narrow.{has_narrow_chances, has_narrow_pays}
use Rattle.md_conditions_text.proofs.narrow.has_narrow_parts.Goals as goal

pub returns-then-not-are_narrow_at : goal.returns-then-not-are_narrow_at
returns-then-not-are_narrow_at c =
    let s = c.args.setting.now in
    let amount = named s c.args.amount in
    let below : c.loop-rank.rank < profile_count (sizes_of s) = omega (arith, c.loop-rank-test.true, c.profiles-rank-end.ensures.count, ap profile_count c.space.ensures.sizes) in
    let tested = rw (to_z-of_z w128 c.args.den c.ranges.den) at c.are_narrow_at.ensures in
    sym (all_below-fails (profile_count (sizes_of s)) c.loop-rank.rank (λ (r : ℕ). has_narrow_chances s c.args.den amount r && has_narrow_pays s c.args.den amount r) below (sym tested ∙ c.if-not-are_narrow_at.true))
