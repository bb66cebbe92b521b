use Rattle.std.proofs.Common.{◌≡◌, ◌+◌, ◌*◌, ◌^◌, true, false, ◌+ℤ◌, neg_ℤ, sym, ap, ◌∙◌, arith, le_refl}
use Rattle.md_setting.specs.Meaning.{agent_count, sizes_of}
use Rattle.md_setting.specs.Rows.{column_count}
use Rattle.md_space.specs.Profiles.{profile_count}
use Rattle.md_math.specs.Sums.{sum_to}
use Rattle.md_mech.proofs.UtilityLaws.{agents_are}
use Rattle.md_forms.specs.Terms.{AddsTerms}
use Rattle.md_forms.proofs.TermLaws.{adds-none, adds-both, adds-as}
use Rattle.md_rows.specs.Columns.{first_plus, first_minus}
use Rattle.md_rows.proofs.PointLaws.{columns-on}
use Rattle.md_rows.proofs.RowForms.{on_ok}
use Rattle.md_require.specs.Named.{named}
use Rattle.md_require.specs.Parts.{part_in, paid_in}
use Rattle.md_require.proofs.PartLaws.{parts-form, no-parts-form}
use Rattle.md_require.proofs.terms.push_payments.Goals as goal

pub returns-then-not-payments : goal.returns-then-not-payments
returns-then-not-payments c =
    let s = c.args.setting.now in
    let scale = c.args.scaled.now.scale in
    let amount = named s c.args.scaled.now.amount in
    let off : s.payments ≡ false = sym c.payments.ensures ∙ c.if-not-payments.true in
    adds-none (2 ^ 44) (first_plus s) (column_count s) (paid_in s scale amount) c.args.terms.now.items (omega arith) (λ x. no-parts-form s scale amount x off)

pub returns : goal.returns
returns c =
    let s = c.args.setting.now in
    let scale = c.args.scaled.now.scale in
    let amount = named s c.args.scaled.now.amount in
    let n = profile_count (sizes_of s) in
    let a = agent_count s in
    let on : s.payments ≡ true = sym c.payments.ensures ∙ c.if-not-payments.false in
    let profiles : c.profiles.result ≡ n = c.profiles.ensures.count ∙ ap profile_count c.space-space.ensures.sizes in
    let again : c.profiles-2.result ≡ n = c.profiles-2.ensures.count ∙ ap profile_count c.space-space.ensures.sizes in
    let agents : c.from.result ≡ a = c.from.ensures ∙ agents_are s c.agents.result _ c.agents.ensures.count c.space-space.ensures.sizes in
    let p = rw (profiles, c.outcomes.ensures.count) at c.in_ok-push_parts.ensures in
    let q = rw (profiles, again, agents, c.outcomes.ensures.count, c.negative.ensures.amount, c.negative.ensures.scale) at c.push_parts-2.ensures in
    on_ok c.push_parts-2.result (AddsTerms (2 ^ 44) (first_minus s) (first_minus s + a * n) (λ x. sum_to a (part_in s (neg_ℤ scale) amount (first_minus s) x)) c.push_parts.new.terms.items c.push_parts-2.new.terms.items)
    (AddsTerms (2 ^ 44) (first_plus s) (column_count s) (paid_in s scale amount) c.args.terms.now.items c.push_parts-2.new.terms.items)
    (λ second.
    adds-as (2 ^ 44) (first_plus s) (first_minus s + a * n) (first_plus s) (column_count s)
    (λ x. sum_to a (part_in s scale amount (first_plus s) x) +ℤ sum_to a (part_in s (neg_ℤ scale) amount (first_minus s) x)) (paid_in s scale amount)
    c.args.terms.now.items c.push_parts-2.new.terms.items
    (adds-both (2 ^ 44) (first_plus s) (first_plus s + a * n) (first_minus s) (first_minus s + a * n)
    (λ x. sum_to a (part_in s scale amount (first_plus s) x)) (λ x. sum_to a (part_in s (neg_ℤ scale) amount (first_minus s) x))
    c.args.terms.now.items c.push_parts.new.terms.items c.push_parts-2.new.terms.items p second (le_refl (first_minus s)))
    (le_refl (first_plus s)) (omega (arith, columns-on s on)) (λ x. parts-form s scale amount x on)) q
