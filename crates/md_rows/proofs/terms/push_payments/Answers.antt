use Rattle.std.proofs.Common.{◌≡◌, ◌+◌, ◌*◌, ◌^◌, true, false, pos, ◌+ℤ◌, neg_ℤ, sym, ◌∙◌, arith, le_refl}
use Rattle.md_setting.specs.Meaning.{agent_count, sizes_of}
use Rattle.md_space.specs.Profiles.{profile_count}
use Rattle.md_math.specs.Sums.{total_by}
use Rattle.md_forms.proofs.TermLaws.{adds-none, adds-both, adds-as}
use Rattle.md_rows.specs.Terms.{part_at, paid_at}
use Rattle.md_rows.proofs.FormLaws.{payments-form, no-payments-form}
use Rattle.md_rows.specs.Columns.{first_plus, first_minus}
use Rattle.md_setting.specs.Rows.{column_count}
use Rattle.md_rows.proofs.PointLaws.{columns-on}
use Rattle.md_rows.proofs.terms.push_payments.Goals as goal

pub returns-then-not-payments : goal.returns-then-not-payments
returns-then-not-payments c =
    let s = c.args.setting.now in
    let off : s.payments ≡ false = sym c.payments.ensures ∙ c.if-not-payments.true in
    adds-none (2 ^ 44) (first_plus s) (column_count s) (λ x. neg_ℤ (total_by (paid_at s c.args.agent x) c.args.shares.now)) c.args.terms.now.items (omega arith) (λ x. no-payments-form s c.args.agent x c.args.shares.now off)

pub returns : goal.returns
returns c =
    let s = c.args.setting.now in
    let n = profile_count (sizes_of s) in
    let on : s.payments ≡ true = sym c.payments.ensures ∙ c.if-not-payments.false in
    let p = rw c.first_plus.ensures.value at c.in_ok-push_parts.ensures in
    let q = rw c.first_minus.ensures.value at c.in_ok-push_parts-2.ensures in
    let both = adds-both (2 ^ 44) (first_plus s) (first_plus s + agent_count s * n) (first_minus s) (first_minus s + agent_count s * n) (λ x. total_by (part_at (first_plus s + c.args.agent * n) (neg_ℤ (pos 1)) x) c.args.shares.now) (λ x. total_by (part_at (first_minus s + c.args.agent * n) (pos 1) x) c.args.shares.now)
    c.args.terms.now.items c.push_parts.new.terms.items c.push_parts-2.new.terms.items p q (le_refl (first_minus s)) in
    adds-as (2 ^ 44) (first_plus s) (first_minus s + agent_count s * n) (first_plus s) (column_count s) (λ x. total_by (part_at (first_plus s + c.args.agent * n) (neg_ℤ (pos 1)) x) c.args.shares.now +ℤ total_by (part_at (first_minus s + c.args.agent * n) (pos 1) x) c.args.shares.now) (λ x. neg_ℤ (total_by (paid_at s c.args.agent x) c.args.shares.now))
    c.args.terms.now.items c.push_parts-2.new.terms.items both (le_refl (first_plus s)) (omega (arith, columns-on s on)) (λ x. payments-form s c.args.agent x c.args.shares.now c.requires.shares.places on)
