use Rattle.std.proofs.Common.{◌^◌, ℕ, ℤ, ◌+ℤ◌, neg_ℤ, [], ◌∙◌, subst, le_refl}
use Rattle.md_math.specs.Sums.{total_by}
use Rattle.md_forms.specs.Terms.{AddsTerms}
use Rattle.md_forms.proofs.TermLaws.{adds-both, adds-all, adds-sum}
use Rattle.md_rows.specs.Terms.{chances_at, paid_at}
use Rattle.md_rows.proofs.FormLaws.{utility-form}
use Rattle.md_rows.specs.Columns.{first_plus}
use Rattle.md_setting.specs.Rows.{column_count}
use Rattle.md_rows.proofs.terms.utility_terms.Goals as goal

pub returns : goal.returns
returns c =
    let s = c.args.setting.now in
    let start = λ (form : (ℕ → ℤ) → ℤ) (p : AddsTerms (2 ^ 44) 0 (first_plus s) form c.new-terms.result.items c.push_lotteries.new.terms.items).
    subst (λ old. AddsTerms (2 ^ 44) 0 (first_plus s) form old c.push_lotteries.new.terms.items) c.new-terms.ensures.items p in
    let all = adds-both (2 ^ 44) 0 (first_plus s) (first_plus s) (column_count s) (λ x. total_by (chances_at s c.args.agent c.args.kind x) c.args.shares.now) (λ x. neg_ℤ (total_by (paid_at s c.args.agent x) c.args.shares.now))
    [] c.push_lotteries.new.terms.items c.push_payments.new.terms.items (start (λ x. total_by (chances_at s c.args.agent c.args.kind x) c.args.shares.now) c.in_ok-push_lotteries.ensures) c.in_ok-push_payments.ensures (le_refl (first_plus s)) in
    record {
      placed = adds-all (2 ^ 44) 0 (column_count s) (λ x. total_by (chances_at s c.args.agent c.args.kind x) c.args.shares.now +ℤ neg_ℤ (total_by (paid_at s c.args.agent x) c.args.shares.now)) c.push_payments.new.terms.items all;
      sum = λ x. adds-sum (2 ^ 44) 0 (column_count s) (λ x. total_by (chances_at s c.args.agent c.args.kind x) c.args.shares.now +ℤ neg_ℤ (total_by (paid_at s c.args.agent x) c.args.shares.now)) c.push_payments.new.terms.items all x
          ∙ utility-form s c.args.agent c.args.kind x c.args.shares.now c.requires.shares.places;
    }
