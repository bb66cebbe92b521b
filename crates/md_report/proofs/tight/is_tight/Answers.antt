use Rattle.std.proofs.Common.{◌≡◌, ◌-ℤ◌, Some, ◌∙◌, sym}
use Rattle.std.specs.Prelude.{slice_get}
use Rattle.md_mech.specs.Conditions.{named}
use Rattle.md_mech.specs.Rows.{demand_rows, left_of, right_of}
use Rattle.md_report.specs.Shortfalls.{missed, scale_of}
use Rattle.md_report.proofs.BlockLaws.{demand-at}
use Rattle.md_report.proofs.MissedLaws.{tight-missed}
use Rattle.md_report.proofs.RatioLaws.{is_zero}
use Rattle.md_report.proofs.TightLaws.{tests_zero}
use Rattle.md_report.proofs.ToldLaws.{both}
use Rattle.md_report.proofs.tight.is_tight.Goals as goal

pub returns : goal.returns
returns c =
    let s = c.args.setting.now in
    let m = c.args.mechanism.now in
    let condition = named s c.condition_at.result in
    let here : slice_get (demand_rows s) c.args.row ≡ Some condition = sym (demand-at s c.args.row c.requires.inside) ∙ c.condition_at.ensures.row in
    rw here
    (tests_zero c.is_zero.result (left_of s m condition -ℤ right_of s m condition)
    (both c.is_zero.ensures
    (both (is_zero (missed s m condition) (scale_of s m condition) c.shortfall-missed.result c.shortfall-missed.ensures.scale c.shortfall-missed.ensures.value)
    (tight-missed s m condition c.args.row here))))
