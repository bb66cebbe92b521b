use Rattle.std.proofs.Common.{◌≡◌, ◌+◌, ◌*◌, ◌^◌, true, false, pos, ◌+ℤ◌, neg_ℤ, sym, ◌∙◌, arith, le_refl}
use Rattle.md_setting.specs.Meaning.{agent_count, sizes_of}
use Rattle.md_setting.specs.Rows.{column_count}
use Rattle.md_space.specs.Profiles.{profile_count}
use Rattle.md_math.specs.Sums.{sum_to}
use Rattle.md_forms.specs.Terms.{AddsTerms}
use Rattle.md_forms.proofs.TermLaws.{adds-none, adds-both, adds-as}
use Rattle.md_rows.specs.Columns.{first_plus, first_minus}
use Rattle.md_rows.proofs.PointLaws.{columns-on}
use Rattle.md_rows.proofs.RowForms.{on_ok}
use Rattle.md_fair.specs.Terms.{part_paid, paid_in}
use Rattle.md_fair.proofs.TermForms.{payments-form, no-payments-form}
use Rattle.md_fair.proofs.terms.push_payments.Goals as goal

pub returns-then-not-payments : goal.returns-then-not-payments
returns-then-not-payments c =
    let s = c.args.setting.now in
    let off : s.payments ≡ false = sym c.payments.ensures ∙ c.if-not-payments.true in
    adds-none (2 ^ 44) (first_plus s) (column_count s) (paid_in s c.args.agent) c.args.terms.now.items (omega arith) (λ x. no-payments-form s c.args.agent x off)

pub returns : goal.returns
returns c =
    let s = c.args.setting.now in
    let n = profile_count (sizes_of s) in
    let on : s.payments ≡ true = sym c.payments.ensures ∙ c.if-not-payments.false in
    let p = rw c.first_payment-plus.ensures.value at c.in_ok-push_parts.ensures in
    let q = rw (c.first_payment-plus.ensures.value, c.payment_count.ensures.value) at c.push_parts-2.ensures in
    on_ok c.push_parts-2.result (AddsTerms (2 ^ 44) (first_minus s) (first_minus s + agent_count s * n) (λ x. sum_to n (part_paid s c.args.agent (first_minus s) (neg_ℤ (pos 1)) x)) c.push_parts.new.terms.items c.push_parts-2.new.terms.items)
    (AddsTerms (2 ^ 44) (first_plus s) (column_count s) (paid_in s c.args.agent) c.args.terms.now.items c.push_parts-2.new.terms.items)
    (λ second.
    adds-as (2 ^ 44) (first_plus s) (first_minus s + agent_count s * n) (first_plus s) (column_count s)
    (λ x. sum_to n (part_paid s c.args.agent (first_plus s) (pos 1) x) +ℤ sum_to n (part_paid s c.args.agent (first_minus s) (neg_ℤ (pos 1)) x)) (paid_in s c.args.agent)
    c.args.terms.now.items c.push_parts-2.new.terms.items
    (adds-both (2 ^ 44) (first_plus s) (first_plus s + agent_count s * n) (first_minus s) (first_minus s + agent_count s * n)
    (λ x. sum_to n (part_paid s c.args.agent (first_plus s) (pos 1) x)) (λ x. sum_to n (part_paid s c.args.agent (first_minus s) (neg_ℤ (pos 1)) x))
    c.args.terms.now.items c.push_parts.new.terms.items c.push_parts-2.new.terms.items p second (le_refl (first_minus s)))
    (le_refl (first_plus s)) (omega (arith, columns-on s on)) (λ x. payments-form s c.args.agent x on)) q
