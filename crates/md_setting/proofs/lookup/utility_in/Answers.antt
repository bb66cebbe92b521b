use Rattle.std.proofs.Common.{◌∙◌, ap, sym, pos, FitsSigned, get_or, rules, slice_index}
use Rattle.std.proofs.lemmas.Int.{to_z-of_z}
use mir.Syntax.{w64}
use Rattle.md_math.specs.Lists.{number_at}
use Rattle.md_space.specs.Profiles.{profile_at}
use Rattle.md_space.proofs.Ranks.{rank_of-profile_at}
use Rattle.md_setting.specs.Setting.{written}
use Rattle.md_setting.specs.Meaning.{agent_at, sizes_of, utilities_by}
use Rattle.md_setting.proofs.lookup.utility_in.Goals as goal

pub returns : goal.returns
returns c =
    let s = written c.args.raw.now in
    let t = profile_at (sizes_of s) c.args.rank in
    let fits : FitsSigned w64 (get_or c.utilities_in.result.now c.args.outcome (pos 0)) = search rules in
    to_z-of_z w64 _ fits
    ∙ ap (λ row. number_at row c.args.outcome) c.utilities_in.ensures.value
    ∙ ap (λ r. number_at (utilities_by (agent_at s c.args.agent).at (agent_at s c.args.agent).utility r (slice_index t c.args.agent)) c.args.outcome) (sym (rank_of-profile_at (sizes_of s) c.args.rank c.requires.rank_in))
