use Rattle.std.proofs.Common.{◌≡◌, ◌<◌, ◌+◌, length, ap, sym, ◌∙◌, refl, subst, arith}
use Rattle.md_space.specs.Profiles.{profile_count, profile_at}
use Rattle.md_setting.specs.Meaning.{sizes_of}
use Rattle.md_mech.specs.declared.condition.Condition.TheVariants.{Deficit}
use Rattle.md_mech.specs.Rows.{deficit_row}
use Rattle.md_mech.proofs.ConditionLaws.{at_single}
use Rattle.md_mech.proofs.CountLaws.{singles}
use Rattle.md_mech.proofs.condition.deficit_condition.Goals as goal
use Rattle.std.proofs.Common.{true, ◌-◌}
use Rattle.md_mech.specs.Rows.{deficit_rows}
use Rattle.md_mech.specs.Conditions.{IsAt}

pub returns-then-row-profiles : goal.returns-then-row-profiles
returns-then-row-profiles c =
    let s = c.args.setting.now in
    let on : s.no_deficit ≡ true = sym c.no_deficit.ensures ∙ c.if-no_deficit.true in
    let inside : c.args.row < profile_count (sizes_of s) = omega (arith, c.if-row-profiles.true, c.profiles-profiles.ensures.count, ap profile_count c.space.ensures.sizes) in
    subst (λ b. IsAt s (deficit_rows b s) c.args.row (Deficit c.args.row)) (sym on)
    (at_single s (profile_count (sizes_of s)) c.args.row (λ r. deficit_row (profile_at (sizes_of s) r)) (Deficit c.args.row) inside refl inside)

pub returns-else-row-profiles : goal.returns-else-row-profiles
returns-else-row-profiles c =
    let s = c.args.setting.now in
    let on : s.no_deficit ≡ true = sym c.no_deficit.ensures ∙ c.if-no_deficit.true in
    subst (λ b. c.args.row ≡ length (deficit_rows b s) + (c.args.row - c.profiles-profiles.result)) (sym on)
    (rw (singles (profile_count (sizes_of s)) (λ r. deficit_row (profile_at (sizes_of s) r)))
    (omega (arith, c.if-row-profiles.false, c.profiles-profiles.ensures.count, ap profile_count c.space.ensures.sizes)))
