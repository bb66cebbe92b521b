use Rattle.std.proofs.Common.{◌≡◌, length, ap, sym, ◌∙◌, arith}
use Rattle.md_math.specs.Lists.{up_to}
use Rattle.md_space.specs.Profiles.{profile_count}
use Rattle.md_space.proofs.Walks.{profile_count-pos}
use Rattle.md_setting.specs.Meaning.{sizes_of}
use Rattle.md_require.specs.Named.{amounts_at}
use Rattle.md_conditions_text.proofs.NarrowLaws.{count-by_rank}
use Rattle.md_conditions_text.proofs.narrow.row_count.Goals as goal

pub returns-clause-count : goal.returns-clause-count
returns-clause-count c =
    let s = c.args.setting.now in
    let end : c.loop-rank.rank ≡ profile_count (sizes_of s) = omega (arith, c.profiles-rank-end.ensures.count, ap profile_count c.space.ensures.sizes) in
    c.loop-rank.invariant.count ∙ ap (λ n. length (up_to n (amounts_at s c.args.measured))) end
    ∙ sym (count-by_rank s c.args.measured (profile_count-pos (sizes_of s) c.space.ensures.shaped.listed.space.some_type))
