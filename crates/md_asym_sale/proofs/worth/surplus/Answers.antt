use Rattle.std.proofs.Common.{◌≡◌, ◌-ℤ◌, ap, ap₂, sym, ◌∙◌, subst}
use Rattle.md_math.specs.Sizes.{IsWithin}
use Rattle.md_math.proofs.Bits.{read_result}
use Rattle.md_space.specs.Profiles.{profile_at, replaced}
use Rattle.md_space.proofs.Walks.{profile_count-pos}
use Rattle.md_setting.specs.Meaning.{sizes_of, value_of}
use Rattle.md_asym_sale.specs.Values.{surplus_of}
use Rattle.md_asym_sale.proofs.SaleLaws.{surplus-is, surplus-within}
use Rattle.md_asym_sale.proofs.worth.surplus.Goals as goal

pub replace-rank-requires-clause-rank_in : goal.replace-rank-requires-clause-rank_in
replace-rank-requires-clause-rank_in c = rw c.space.ensures.sizes (profile_count-pos (sizes_of c.args.setting.now) c.space.ensures.shaped.listed.space.some_type)

value : (c : goal.After-difference) → c.difference.result ≡ surplus_of c.args.setting.now c.args.agent c.args.kind
value c =
    let s = c.args.setting.now in
    let i = c.args.agent in
    let told : profile_at (sizes_of s) c.replace-rank.result ≡ replaced (profile_at (sizes_of s) 0) i c.args.kind =
    ap (λ sizes. profile_at sizes c.replace-rank.result) (sym c.space.ensures.sizes)
    ∙ c.replace-rank.ensures.profile
    ∙ ap (λ sizes. replaced (profile_at sizes 0) i c.args.kind) c.space.ensures.sizes in
    (rw (read_result c.value-sold.result c.value-sold.type_inv, read_result c.value.result c.value.type_inv) at c.difference.ensures)
    ∙ ap₂ (λ y z. y -ℤ z) (c.value-sold.ensures.value ∙ ap₂ (λ t o. value_of s t o) told c.outcome_of.ensures) (c.value.ensures.value ∙ ap (λ t. value_of s t 0) told)
    ∙ surplus-is s i c.args.kind c.requires.sale c.space.ensures.shaped c.requires.agent_in c.requires.kind_in

pub returns-clause-value : goal.returns-clause-value
returns-clause-value c = read_result c.difference.result c.difference.type_inv ∙ value c

pub returns-clause-size : goal.returns-clause-size
returns-clause-size c =
    rw (read_result c.difference.result c.difference.type_inv)
    (subst (IsWithin 11000000) (sym (value c)) (surplus-within c.args.setting.now c.args.agent c.args.kind c.requires.sale c.space.ensures.shaped c.requires.agent_in c.requires.kind_in))
