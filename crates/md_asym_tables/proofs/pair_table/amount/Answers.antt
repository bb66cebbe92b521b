use Rattle.std.proofs.Common.{◌≡◌, ◌+◌, ◌*◌, ap, ap₂, ◌∙◌, arith}
use Rattle.std.specs.Prelude.{slice_index}
use Rattle.md_math.specs.Lists.{number_at}
use Rattle.md_math.proofs.Bits.{read_result}
use Rattle.md_space.specs.Profiles.{profile_count, profile_at}
use Rattle.md_setting.specs.Meaning.{sizes_of}
use Rattle.md_asym_sale.specs.Pairs.{pair_number}
use Rattle.md_asym_sale.specs.Values.{pairs_of}
use Rattle.md_asym_tables.proofs.FlowLaws.{place-below}
use Rattle.md_asym_tables.proofs.pair_table.amount.Goals as goal

pub get-requires : goal.get-requires
get-requires c =
    let s = c.args.setting.now in
    rw (c.pair_count.ensures.value) (
    omega (arith, c.requires.one_each, place-below c.args.rank (profile_count (sizes_of s)) c.pair_number.result (pairs_of s) c.requires.rank_in c.pair_number.ensures.below)
    )

pub returns : goal.returns
returns c =
    let s = c.args.setting.now in
    read_result c.get.result c.get.type_inv
    ∙ c.get.ensures
    ∙ ap₂ (λ k p. number_at c.args.amounts.now (c.args.rank * k + p)) c.pair_count.ensures.value
    (c.pair_number.ensures.value ∙ ap (pair_number (sizes_of s) c.args.agent) c.type_at-kind.ensures.value)
