use Rattle.std.proofs.Common.{◌≡◌, ◌*◌, ◌-◌, ◌/◌, ◌%◌, ◌<◌, slice_index, ap, subst, ◌∙◌, refl, arith}
use Rattle.std.proofs.lemmas.Nat.{div_below, mod_below}
use Rattle.md_setting.specs.Meaning.{sizes_of}
use Rattle.md_mech.specs.declared.condition.Condition.TheVariants.{Bayes}
use Rattle.md_mech.specs.Rows.{bayes_row, bayes_rows_at}
use Rattle.md_mech.proofs.CountLaws.{bayes-each, bayes-length}
use Rattle.md_mech.proofs.ConditionLaws.{some-factor, at_false, at_equal_block, false-below, false-apart}
use Rattle.md_mech.proofs.condition.bayes_of.Goals as goal

pub returns-then-row-rows : goal.returns-then-row-rows
returns-then-row-rows c =
    let s = c.args.setting.now in
    let i = c.args.agent in
    let types : c.from-types.result ≡ slice_index (sizes_of s) i = c.from-types.ensures ∙ c.types.ensures.count ∙ ap (λ sizes. slice_index sizes i) c.space.ensures.sizes in
    let rows : c.from-types.result * (c.from-types.result - 1) ≡ slice_index (sizes_of s) i * (slice_index (sizes_of s) i - 1) = ap (λ n. n * (n - 1)) types in
    omega (arith, bayes-length s i, rows, c.if-row-rows.true)

pub returns : goal.returns
returns c =
    let s = c.args.setting.now in
    let i = c.args.agent in
    let w = c.from-types.result - 1 in
    let a = c.args.row / w in
    let n = slice_index (sizes_of s) i in
    let b = c.false_report-report.result in
    let types : c.from-types.result ≡ n = c.from-types.ensures ∙ c.types.ensures.count ∙ ap (λ sizes. slice_index sizes i) c.space.ensures.sizes in
    let below : c.args.row < n * w = subst (λ m. c.args.row < m * w) types c.if-row-rows.false in
    let some = some-factor n w c.args.row below in
    let kind : a < n = div_below c.args.row w n some below in
    let number : c.args.row % w < n - 1 = (let m = mod_below c.args.row w some in omega (arith, m, types)) in
    at_equal_block s n w c.args.row (bayes_rows_at s i) (Bayes i a b) some below
    (λ k l. bayes-each s i k l ∙ omega (arith, types))
    (at_false s n a (c.args.row % w) b (bayes_row i a) (Bayes i a b) kind number c.false_report-report.ensures refl
    (c.requires, kind, false-below n a (c.args.row % w) b kind number c.false_report-report.ensures, false-apart a (c.args.row % w) b c.false_report-report.ensures))
