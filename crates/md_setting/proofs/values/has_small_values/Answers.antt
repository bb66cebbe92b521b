use Rattle.std.proofs.Common.{◌≡◌, ◌<◌, true, sym, ◌∙◌, ap, subst, arith}
use Rattle.md_space.specs.Profiles.{profile_count, profile_at}
use Rattle.md_setting.specs.Setting.{written}
use Rattle.md_setting.specs.Meaning.{sizes_of, outcome_count, value_of}
use Rattle.md_setting.specs.Refusals.{all_below, is_small}
use Rattle.md_setting.proofs.TestLaws.{all_below-fails}
use Rattle.md_setting.proofs.ValueLaws.{small_values-by_rank}
use Rattle.md_setting.proofs.values.has_small_values.Goals as goal

pub returns-then-not-are_small_values : goal.returns-then-not-are_small_values
returns-then-not-are_small_values c =
    let s = written c.args.raw.now in
    let below : c.loop-rank.rank < profile_count (sizes_of s) =
    omega (arith, c.loop-rank-test.true, c.profiles-rank-end.ensures.count, ap profile_count c.requires.sizes) in
    sym (small_values-by_rank s
    ∙ all_below-fails _ c.loop-rank.rank (λ r. all_below (outcome_count s) (λ o. is_small 10000000 (value_of s (profile_at (sizes_of s) r) o))) below
    (sym c.are_small_values.ensures ∙ c.if-not-are_small_values.true))

pub returns : goal.returns
returns c =
    let s = written c.args.raw.now in
    let end : c.loop-rank.rank ≡ profile_count (sizes_of s) = omega (arith, c.profiles-rank-end.ensures.count, ap profile_count c.requires.sizes) in
    sym (small_values-by_rank s
    ∙ subst (λ n. all_below n (λ r. all_below (outcome_count s) (λ o. is_small 10000000 (value_of s (profile_at (sizes_of s) r) o))) ≡ true) end c.loop-rank.invariant)
