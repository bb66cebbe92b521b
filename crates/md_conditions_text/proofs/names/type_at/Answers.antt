use Rattle.std.proofs.Common.{◌≡◌, ap, ◌∙◌}
use Rattle.std.specs.Prelude.{slice_index}
use Rattle.md_space.specs.Profiles.{profile_at}
use Rattle.md_setting.specs.Meaning.{sizes_of}
use Rattle.md_conditions_text.proofs.Joined.{name-there}
use Rattle.md_conditions_text.proofs.names.type_at.Goals as goal

pub returns : goal.returns
returns c =
    let s = c.args.setting.now in
    let report : c.report.result ≡ slice_index (profile_at (sizes_of s) c.args.rank) c.args.agent =
    c.report.ensures.value ∙ ap (λ sizes. slice_index (profile_at sizes c.args.rank) c.args.agent) c.space.ensures.sizes in
    c.type_name.ensures ∙ name-there s c.args.rank c.args.agent c.report.result c.requires.rank_in c.requires.agent_in report
