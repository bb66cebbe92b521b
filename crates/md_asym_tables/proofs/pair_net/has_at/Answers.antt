use Rattle.std.proofs.Common.{◌≡◌, ◌==◌, ap, ap₂, ◌∙◌}
use Rattle.std.specs.Prelude.{slice_index}
use Rattle.md_space.specs.Profiles.{profile_at}
use Rattle.md_setting.specs.Meaning.{sizes_of}
use Rattle.md_asym_tables.proofs.pair_net.has_at.Goals as goal

pub returns : goal.returns
returns c =
    let s = c.args.setting.now in
    c.is_type.ensures
    ∙ ap (λ a. a == c.pair_at-pair.result.kind) c.type_at.ensures.value
    ∙ ap₂ (λ i a. slice_index (profile_at (sizes_of s) c.args.rank) i == a) c.pair_at-pair.ensures.agent c.pair_at-pair.ensures.kind
