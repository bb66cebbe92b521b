use Rattle.std.proofs.Common.{◌≡◌, ◌∙◌, lit<}
use Rattle.md_math.proofs.Bits.{read_result, read_within}
use Rattle.md_space.specs.Profiles.{profile_at}
use Rattle.md_setting.specs.Meaning.{sizes_of}
use Rattle.md_mech.specs.Accepted.{number_limit}
use Rattle.md_mech.specs.Mechanism.{chance_of}
use Rattle.md_mech.proofs.UtilityLaws.{chance-at_rank}
use Rattle.md_determ_node.proofs.lottery.is_sure.Goals as goal

pub returns : goal.returns
returns c =
    let s = c.args.setting.now in
    let m = c.args.mechanism.now in
    let value : c.get.result ≡ chance_of s m (profile_at (sizes_of s) c.args.rank) c.args.outcome =
    (rw c.outcomes.ensures.count at c.get.ensures) ∙ chance-at_rank s m c.args.rank c.args.outcome c.requires.rank_in in
    rw (read_within number_limit m.den c.requires.accepted.den_size (lit< tt), read_result c.get.result c.get.type_inv, value) at c.is_all_or_none.ensures
