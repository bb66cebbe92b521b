use Rattle.std.proofs.Common.{◌≡◌, ◌+◌, pos, ◌-ℤ◌, ◌*ℤ◌, neg_ℤ, ap, sym, ◌∙◌, arith, slice_index, lit<}
use Rattle.md_math.specs.Sizes.{IsWithin}
use Rattle.md_math.proofs.Ring.{linear, zero-*ℤ}
use Rattle.md_math.proofs.SizeLaws.{IsWithin-sub, IsWithin-zero}
use Rattle.md_math.proofs.Bits.{read_result, read_within}
use Rattle.md_setting.specs.Meaning.{sizes_of, weight_of}
use Rattle.md_space.specs.Profiles.{profile_at}
use Rattle.std.proofs.lemmas.Bool.{eq-eqb, ne_eqb}
use Rattle.md_forms.proofs.TermLaws.{adds-none, adds-told}
use Rattle.md_rows.proofs.shares.push_interim_share.Goals as goal

pub returns-in_ok-push_term : goal.returns-in_ok-push_term
returns-in_ok-push_term c =
    let s = c.args.setting.now in
    let t = profile_at (sizes_of s) c.args.rank in
    let told : c.report.result ≡ slice_index t c.args.agent = c.report.ensures.value ∙ ap (λ sizes. slice_index (profile_at sizes c.args.rank) c.args.agent) c.space.ensures.sizes in
    let less : IsWithin (0 + 1000000) (pos 0 -ℤ c.weight.result) = IsWithin-sub 0 1000000 (pos 0) c.weight.result (IsWithin-zero 0) c.weight.ensures.size in
    let minus : pos 0 -ℤ c.weight.result ≡ neg_ℤ (weight_of s t) = omega (arith, linear, ap neg_ℤ c.weight.ensures.value) in
    let f = rw (read_result c.weight.result c.weight.type_inv, read_within (0 + 1000000) (pos 0 -ℤ c.weight.result) less (lit< tt)) at c.in_ok-push_term.ensures.ok in
    rw (eq-eqb (slice_index t c.args.agent) c.args.kind (sym told ∙ c.if-report-kind.true))
    (adds-told 1000000 c.args.rank (pos 0 -ℤ c.weight.result) (neg_ℤ (weight_of s t)) c.args.shares.now.items c.push_term.new.terms.items minus (f 1000000 less))

pub returns-else-report-kind : goal.returns-else-report-kind
returns-else-report-kind c =
    let s = c.args.setting.now in
    let t = profile_at (sizes_of s) c.args.rank in
    let told : c.report.result ≡ slice_index t c.args.agent = c.report.ensures.value ∙ ap (λ sizes. slice_index (profile_at sizes c.args.rank) c.args.agent) c.space.ensures.sizes in
    rw (ne_eqb (slice_index t c.args.agent) c.args.kind (λ same. c.if-report-kind.false (told ∙ same)))
    (adds-none 1000000 c.args.rank (c.args.rank + 1) (λ y. pos 0 *ℤ y c.args.rank) c.args.shares.now.items (omega arith) (λ y. zero-*ℤ (y c.args.rank)))
