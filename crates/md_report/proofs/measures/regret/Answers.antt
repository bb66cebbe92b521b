use Rattle.std.proofs.Common.{◌≡◌, ◌+◌, ◌^◌, ◌-ℤ◌, ◌∙◌, ap, ap₂, sym, lit<}
use Rattle.md_math.proofs.Bits.{read_result, read_within}
use Rattle.md_math.proofs.SizeLaws.{IsWithin-sub}
use Rattle.md_space.specs.Profiles.{profile_at, replaced}
use Rattle.md_setting.specs.Meaning.{sizes_of}
use Rattle.md_mech.specs.Utility.{expected_utility}
use Rattle.md_report.proofs.measures.regret.Goals as goal

pub returns-clause-value : goal.returns-clause-value
returns-clause-value c =
    let s = c.args.setting.now in
    let t = profile_at (sizes_of s) c.args.rank in
    let lie : profile_at (sizes_of s) c.replace-told.result ≡ replaced t c.args.agent c.args.report =
    ap (λ sizes. profile_at sizes c.replace-told.result) (sym c.space.ensures.sizes) ∙ c.replace-told.ensures.profile
    ∙ ap (λ sizes. replaced (profile_at sizes c.args.rank) c.args.agent c.args.report) c.space.ensures.sizes in
    rw (read_result c.utility-by_report.result c.utility-by_report.type_inv, read_result c.utility-by_truth.result c.utility-by_truth.type_inv)
    (read_within (2 ^ 90 + 2 ^ 90) (c.utility-by_report.result -ℤ c.utility-by_truth.result)
    (IsWithin-sub (2 ^ 90) (2 ^ 90) c.utility-by_report.result c.utility-by_truth.result c.utility-by_report.ensures.size c.utility-by_truth.ensures.size) (lit< tt)
    ∙ ap₂ (λ x y. x -ℤ y) (c.utility-by_report.ensures.value ∙ ap (expected_utility s c.args.mechanism.now c.args.agent t) lie) c.utility-by_truth.ensures.value)
