use Rattle.std.proofs.Common.{sym}
use Rattle.md_math.proofs.Order.{le_from_same}
use Rattle.md_space.specs.Profiles.{profile_at}
use Rattle.md_space.proofs.Ranks.{profile_at-IsProfile}
use Rattle.md_setting.specs.Meaning.{sizes_of}
use Rattle.md_mech.specs.Rows.{profile_row, left_of}
use Rattle.md_mech.proofs.auditing.broken_at.Goals as goal

pub returns-in-Profile : goal.returns-in-Profile
returns-in-Profile c =
    let s = c.args.setting.now in
    let m = c.args.mechanism.now in
    let rank = c.in-Profile.rank in
    let t = profile_at (sizes_of s) rank in
    let inside = rw c.in-Profile.is at c.requires.inside in
    rw c.in-Profile.is (le_from_same m.den (left_of s m (profile_row t)) (sym (c.requires.accepted.mechanism.whole t (profile_at-IsProfile (sizes_of s) rank inside))))
