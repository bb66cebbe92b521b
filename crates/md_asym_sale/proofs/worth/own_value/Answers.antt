use Rattle.std.proofs.Common.{◌≡◌, ap, ap₂, sym, ◌∙◌}
use Rattle.md_math.proofs.Bits.{read_result}
use Rattle.md_space.specs.Profiles.{profile_at, replaced}
use Rattle.md_space.proofs.Walks.{profile_count-pos}
use Rattle.md_setting.specs.Meaning.{sizes_of, utility_of}
use Rattle.md_asym_sale.proofs.worth.own_value.Goals as goal

pub replace-rank-requires-clause-rank_in : goal.replace-rank-requires-clause-rank_in
replace-rank-requires-clause-rank_in c = rw c.space.ensures.sizes (profile_count-pos (sizes_of c.args.setting.now) c.space.ensures.shaped.listed.space.some_type)

pub returns-clause-value : goal.returns-clause-value
returns-clause-value c =
    let s = c.args.setting.now in
    let i = c.args.agent in
    let told : profile_at (sizes_of s) c.replace-rank.result ≡ replaced (profile_at (sizes_of s) 0) i c.args.kind =
    ap (λ sizes. profile_at sizes c.replace-rank.result) (sym c.space.ensures.sizes)
    ∙ c.replace-rank.ensures.profile
    ∙ ap (λ sizes. replaced (profile_at sizes 0) i c.args.kind) c.space.ensures.sizes in
    read_result c.utility.result c.utility.type_inv ∙ c.utility.ensures.value ∙ ap₂ (λ t o. utility_of s i t o) told c.outcome_of.ensures
