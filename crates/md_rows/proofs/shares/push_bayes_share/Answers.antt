use Rattle.std.proofs.Common.{◌≡◌, ◌+◌, pos, ◌-ℤ◌, ◌*ℤ◌, neg_ℤ, ap, sym, ◌∙◌, arith, slice_index, lit<}
use Rattle.md_math.specs.Sizes.{IsWithin}
use Rattle.md_math.proofs.Ring.{linear, zero-*ℤ}
use Rattle.md_math.proofs.SizeLaws.{IsWithin-sub, IsWithin-zero}
use Rattle.md_math.proofs.Bits.{read_result, read_within}
use Rattle.md_setting.specs.Meaning.{sizes_of, weight_of}
use Rattle.md_space.specs.Profiles.{profile_at, replaced}
use Rattle.std.proofs.lemmas.Bool.{eq-eqb, ne_eqb}
use Rattle.md_forms.specs.Terms.{AddsTerms}
use Rattle.md_forms.proofs.TermLaws.{adds-none, adds-told}
use Rattle.md_rows.proofs.RowForms.{on_ok}
use Rattle.md_rows.proofs.shares.push_bayes_share.Goals as goal

pub returns-then-told-kind : goal.returns-then-told-kind
returns-then-told-kind c =
    let s = c.args.setting.now in
    let t = profile_at (sizes_of s) c.args.rank in
    let told : c.report-told.result ≡ slice_index t c.args.agent = c.report-told.ensures.value ∙ ap (λ sizes. slice_index (profile_at sizes c.args.rank) c.args.agent) c.space.ensures.sizes in
    let less : IsWithin (0 + 1000000) (pos 0 -ℤ c.weight.result) = IsWithin-sub 0 1000000 (pos 0) c.weight.result (IsWithin-zero 0) c.weight.ensures.size in
    let minus : pos 0 -ℤ c.weight.result ≡ neg_ℤ (weight_of s t) = omega (arith, linear, ap neg_ℤ c.weight.ensures.value) in
    let e = rw (read_result c.weight.result c.weight.type_inv, read_within (0 + 1000000) (pos 0 -ℤ c.weight.result) less (lit< tt)) at c.push_term.ensures.ok in
    rw (eq-eqb (slice_index t c.args.agent) c.args.kind (sym told ∙ c.if-told-kind.true))
    (on_ok c.push_term.result _ (AddsTerms 1000000 c.args.rank (c.args.rank + 1) (λ y. neg_ℤ (weight_of s t) *ℤ y c.args.rank) c.args.shares.now.items c.push_term.new.terms.items)
    (λ f. adds-told 1000000 c.args.rank (pos 0 -ℤ c.weight.result) (neg_ℤ (weight_of s t)) c.args.shares.now.items c.push_term.new.terms.items minus (f 1000000 less)) e)

pub returns-then-told-report : goal.returns-then-told-report
returns-then-told-report c =
    let s = c.args.setting.now in
    let t = profile_at (sizes_of s) c.args.rank in
    let told : c.report-told.result ≡ slice_index t c.args.agent = c.report-told.ensures.value ∙ ap (λ sizes. slice_index (profile_at sizes c.args.rank) c.args.agent) c.space.ensures.sizes in
    let truth : profile_at (sizes_of s) c.replace-truth.result ≡ replaced t c.args.agent c.args.kind =
    ap (λ sizes. profile_at sizes c.replace-truth.result) (sym c.space-then-told-report.ensures.sizes) ∙ c.replace-truth.ensures.profile ∙ ap (λ sizes. replaced (profile_at sizes c.args.rank) c.args.agent c.args.kind) c.space-then-told-report.ensures.sizes in
    let value : c.weight-then-told-report.result ≡ weight_of s (replaced t c.args.agent c.args.kind) = c.weight-then-told-report.ensures.value ∙ ap (weight_of s) truth in
    let e = rw (read_result c.weight-then-told-report.result c.weight-then-told-report.type_inv) at c.push_term-then-told-report.ensures.ok in
    rw (ne_eqb (slice_index t c.args.agent) c.args.kind (λ same. c.if-told-kind.false (told ∙ same)), eq-eqb (slice_index t c.args.agent) c.args.report (sym told ∙ c.if-told-report.true))
    (on_ok c.push_term-then-told-report.result _ (AddsTerms 1000000 c.args.rank (c.args.rank + 1) (λ y. weight_of s (replaced t c.args.agent c.args.kind) *ℤ y c.args.rank) c.args.shares.now.items c.push_term-then-told-report.new.terms.items)
    (λ f. adds-told 1000000 c.args.rank c.weight-then-told-report.result (weight_of s (replaced t c.args.agent c.args.kind)) c.args.shares.now.items c.push_term-then-told-report.new.terms.items value (f 1000000 c.weight-then-told-report.ensures.size)) e)

pub returns : goal.returns
returns c =
    let s = c.args.setting.now in
    let t = profile_at (sizes_of s) c.args.rank in
    let told : c.report-told.result ≡ slice_index t c.args.agent = c.report-told.ensures.value ∙ ap (λ sizes. slice_index (profile_at sizes c.args.rank) c.args.agent) c.space.ensures.sizes in
    rw (ne_eqb (slice_index t c.args.agent) c.args.kind (λ same. c.if-told-kind.false (told ∙ same)), ne_eqb (slice_index t c.args.agent) c.args.report (λ same. c.if-told-report.false (told ∙ same)))
    (adds-none 1000000 c.args.rank (c.args.rank + 1) (λ y. pos 0 *ℤ y c.args.rank) c.args.shares.now.items (omega arith) (λ y. zero-*ℤ (y c.args.rank)))
