use Rattle.std.proofs.Common.{◌≡◌, ◌+◌, ◌^◌, ◌-ℤ◌, ◌*ℤ◌, ◌∙◌, slice_index, ap, ap₂, lit<}
use Rattle.md_math.proofs.Bits.{read_result, read_within}
use Rattle.md_math.proofs.SizeLaws.{IsWithin-sub}
use Rattle.md_space.specs.Profiles.{profile_at}
use Rattle.md_setting.specs.Meaning.{sizes_of, outside_of}
use Rattle.md_report.proofs.measures.missing.Goals as goal

pub returns-clause-value : goal.returns-clause-value
returns-clause-value c =
    let s = c.args.setting.now in
    let t = profile_at (sizes_of s) c.args.rank in
    let kind : c.report-kind.result ≡ slice_index t c.args.agent = c.report-kind.ensures.value ∙ ap (λ sizes. slice_index (profile_at sizes c.args.rank) c.args.agent) c.space.ensures.sizes in
    rw (read_result c.outside-outside.result c.outside-outside.type_inv, read_result c.utility-inside.result c.utility-inside.type_inv)
    (read_within (2 ^ 82 + 2 ^ 90) (c.outside-outside.result -ℤ c.utility-inside.result)
    (IsWithin-sub (2 ^ 82) (2 ^ 90) c.outside-outside.result c.utility-inside.result c.outside-outside.ensures.size c.utility-inside.ensures.size) (lit< tt)
    ∙ ap₂ (λ x y. x -ℤ y) (c.outside-outside.ensures.value ∙ ap (λ a. c.args.mechanism.now.den *ℤ outside_of s c.args.agent a) kind) c.utility-inside.ensures.value)
