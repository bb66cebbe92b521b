use Rattle.std.proofs.Common.{◌≡◌, ◌*◌, ◌-◌, ◌/◌, ◌%◌, ◌<◌, length, slice_index, ap, ap₂, subst, ◌∙◌, refl, arith}
use Rattle.std.proofs.lemmas.Nat.{div_below, mod_below}
use Rattle.md_space.specs.Profiles.{profile_count, profile_at}
use Rattle.md_space.proofs.Ranks.{profile_at-IsProfile, report-below}
use Rattle.md_setting.specs.Meaning.{sizes_of}
use Rattle.md_mech.specs.declared.condition.Condition.TheVariants.{Dominant}
use Rattle.md_mech.specs.Conditions.{IsFalseReport}
use Rattle.md_mech.specs.Rows.{dominant_row, dominant_rows_at}
use Rattle.md_mech.proofs.CountLaws.{agents-length, dominant-each, dominant-length}
use Rattle.md_mech.proofs.ConditionLaws.{some-factor, at_false, at_equal_block, false-below, false-apart}
use Rattle.md_mech.proofs.condition.dominant_of.Goals as goal

pub returns-then-row-rows : goal.returns-then-row-rows
returns-then-row-rows c =
    let s = c.args.setting.now in
    let i = c.args.agent in
    let agent : i < length (sizes_of s) = omega (arith, c.requires, agents-length s) in
    let types : c.from-reports.result ≡ slice_index (sizes_of s) i = c.from-reports.ensures ∙ c.types.ensures.count ∙ ap (λ sizes. slice_index sizes i) c.space.ensures.sizes in
    let profiles : c.profiles.result ≡ profile_count (sizes_of s) = c.profiles.ensures.count ∙ ap profile_count c.space-2.ensures.sizes in
    let rows : c.profiles.result * (c.from-reports.result - 1) ≡ profile_count (sizes_of s) * (slice_index (sizes_of s) i - 1) = ap₂ (λ p n. p * (n - 1)) profiles types in
    omega (arith, dominant-length s i agent, rows, c.if-row-rows.true)

pub returns : goal.returns
returns c =
    let s = c.args.setting.now in
    let i = c.args.agent in
    let w = c.from-reports.result - 1 in
    let r = c.args.row / w in
    let t = profile_at (sizes_of s) r in
    let n = slice_index (sizes_of s) i in
    let b = c.false_report-report.result in
    let agent : i < length (sizes_of s) = omega (arith, c.requires, agents-length s) in
    let types : c.from-reports.result ≡ n = c.from-reports.ensures ∙ c.types.ensures.count ∙ ap (λ sizes. slice_index sizes i) c.space.ensures.sizes in
    let profiles : c.profiles.result ≡ profile_count (sizes_of s) = c.profiles.ensures.count ∙ ap profile_count c.space-2.ensures.sizes in
    let below : c.args.row < profile_count (sizes_of s) * w = subst (λ p. c.args.row < p * w) profiles c.if-row-rows.false in
    let some = some-factor (profile_count (sizes_of s)) w c.args.row below in
    let rank : r < profile_count (sizes_of s) = div_below c.args.row w (profile_count (sizes_of s)) some below in
    let kind : c.report-kind.result ≡ slice_index t i = c.report-kind.ensures.value ∙ ap (λ sizes. slice_index (profile_at sizes r) i) c.space-3.ensures.sizes in
    let told : IsFalseReport (slice_index t i) (c.args.row % w) b = subst (λ a. IsFalseReport a (c.args.row % w) b) kind c.false_report-report.ensures in
    let true_type : slice_index t i < n = report-below (sizes_of s) t i (profile_at-IsProfile (sizes_of s) r rank) agent in
    let number : c.args.row % w < n - 1 = (let m = mod_below c.args.row w some in omega (arith, m, types)) in
    at_equal_block s (profile_count (sizes_of s)) w c.args.row (λ k. dominant_rows_at s i (profile_at (sizes_of s) k)) (Dominant i r b) some below
    (λ k l. dominant-each s i k agent l ∙ omega (arith, types))
    (at_false s n (slice_index t i) (c.args.row % w) b (dominant_row i t) (Dominant i r b) true_type number told refl
    (c.requires, rank, false-below n (slice_index t i) (c.args.row % w) b true_type number told, false-apart (slice_index t i) (c.args.row % w) b told))
