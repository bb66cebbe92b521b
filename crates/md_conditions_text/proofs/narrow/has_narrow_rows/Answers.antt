use Rattle.std.proofs.Common.{◌≡◌, ◌<◌, true, ap, sym, subst, ◌∙◌, arith}
use Rattle.std.specs.List.{list_all}
use Rattle.md_math.specs.Lists.{up_to}
use Rattle.md_space.specs.Profiles.{profile_count}
use Rattle.md_space.proofs.Walks.{profile_count-pos}
use Rattle.md_setting.specs.Meaning.{sizes_of}
use Rattle.md_require.specs.Named.{amounts_at}
use Rattle.md_conditions_text.specs.Narrow.{has_narrow_row}
use Rattle.md_conditions_text.proofs.NarrowLaws.{ranks-fail, rows-by_rank}
use Rattle.md_conditions_text.proofs.narrow.has_narrow_rows.Goals as goal

pub returns-then-not-has_narrow_rows_at : goal.returns-then-not-has_narrow_rows_at
returns-then-not-has_narrow_rows_at c =
    let s = c.args.setting.now in
    let condition = c.args.condition.now in
    let below : c.loop-rank.rank < profile_count (sizes_of s) = omega (arith, c.loop-rank-test.true, c.profiles-rank-end.ensures.count, ap profile_count c.space.ensures.sizes) in
    sym (rows-by_rank s condition (omega (arith, below))
    ∙ ranks-fail (has_narrow_row s condition) c.loop-rank.rank (profile_count (sizes_of s)) (amounts_at s condition.measured) below (sym c.has_narrow_rows_at.ensures ∙ c.if-not-has_narrow_rows_at.true))

pub returns : goal.returns
returns c =
    let s = c.args.setting.now in
    let condition = c.args.condition.now in
    let end : c.loop-rank.rank ≡ profile_count (sizes_of s) = omega (arith, c.profiles-rank-end.ensures.count, ap profile_count c.space.ensures.sizes) in
    sym (rows-by_rank s condition (profile_count-pos (sizes_of s) c.space.ensures.shaped.listed.space.some_type)
    ∙ subst (λ n. list_all (has_narrow_row s condition) (up_to n (amounts_at s condition.measured)) ≡ true) end c.loop-rank.invariant)
