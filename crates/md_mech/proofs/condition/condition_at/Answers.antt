use Rattle.std.proofs.Common.{◌≡◌, ◌<◌, ◌+◌, ◌∷◌, [], ℕ, length, refl, arith}
use Rattle.md_space.specs.Profiles.{profile_count, profile_at}
use Rattle.md_setting.specs.Meaning.{sizes_of}
use Rattle.md_mech.specs.declared.condition.Condition.TheVariants.{Profile}
use Rattle.md_mech.specs.Rows.{profile_row, by_profile}
use Rattle.md_mech.proofs.ConditionLaws.{at_single, at_right}
use Rattle.md_mech.proofs.CountLaws.{singles}
use Rattle.md_mech.proofs.condition.condition_at.Goals as goal
use Rattle.md_mech.specs.Rows.{demand_rows, truth_rows, rational_rows, deficit_rows}
use Rattle.std.proofs.Common.{length-append, ◌++◌}

pub returns-in-Err-deficit_condition : goal.returns-in-Err-deficit_condition
returns-in-Err-deficit_condition c =
    let s = c.args.setting.now in
    let truth = truth_rows s.truth s in
    let rational = rational_rows s.rational s in
    let deficit = deficit_rows s.no_deficit s in
    let rank = c.in-Err-deficit_condition.rank in
    let behind : c.args.row ≡ length (demand_rows s) + rank =
    omega (arith, c.in-Err.ensures, c.in-Err-rational_condition.ensures, c.in-Err-deficit_condition.ensures, length-append (truth ++ rational) deficit, length-append truth rational) in
    let f = λ (r : ℕ). profile_row (profile_at (sizes_of s) r) in
    let inside : rank < profile_count (sizes_of s) =
    omega (arith, c.requires, behind, length-append (demand_rows s) (by_profile s (λ t. profile_row t ∷ [])), singles (profile_count (sizes_of s)) f) in
    at_right s (demand_rows s) (by_profile s (λ t. profile_row t ∷ [])) c.args.row rank (Profile rank) behind
    (at_single s (profile_count (sizes_of s)) rank f (Profile rank) inside refl inside)
