use Rattle.std.proofs.Common.{◌+◌, ◌^◌, pos, ◌+ℤ◌, ◌*ℤ◌, neg_ℤ, [], subst, le_refl, arith}
use Rattle.md_math.specs.Sums.{sum_to}
use Rattle.md_space.specs.Profiles.{profile_count}
use Rattle.md_setting.specs.Meaning.{sizes_of}
use Rattle.md_setting.specs.Rows.{column_count}
use Rattle.md_forms.specs.Terms.{AddsTerms}
use Rattle.md_forms.proofs.TermLaws.{adds-both, adds-as, adds-all, adds-sum}
use Rattle.md_rows.specs.Columns.{first_plus}
use Rattle.md_fair.specs.FairProgram.{lag_in}
use Rattle.md_fair.specs.Terms.{lottery_lost, paid_in}
use Rattle.md_fair.proofs.TermForms.{agent-form}
use Rattle.md_fair.proofs.terms.agent_terms.Goals as goal

pub returns : goal.returns
returns c =
    let s = c.args.setting.now in
    let i = c.args.agent in
    let n = profile_count (sizes_of s) in
    let k = column_count s in
    let t = c.push_term-2.new.terms.items in
    let first : AddsTerms (2 ^ 44) 0 (first_plus s) (λ x. sum_to n (lottery_lost s i x)) [] c.push_lotteries.new.terms.items =
    subst (λ old. AddsTerms (2 ^ 44) 0 (first_plus s) (λ x. sum_to n (lottery_lost s i x)) old c.push_lotteries.new.terms.items) c.new-terms.ensures.items c.in_ok-push_lotteries.ensures in
    let f = rw c.level_column-level.ensures.value at c.in_ok-push_term.ensures.ok in
    let g = rw c.level_column-level.ensures.value at c.in_ok-push_term-2.ensures.ok in
    let own = adds-both (2 ^ 44) 0 (first_plus s) (first_plus s) k (λ x. sum_to n (lottery_lost s i x)) (paid_in s i)
    [] c.push_lotteries.new.terms.items c.push_payments.new.terms.items first c.in_ok-push_payments.ensures (le_refl (first_plus s)) in
    let plus = adds-both (2 ^ 44) 0 k k (k + 1) (λ x. sum_to n (lottery_lost s i x) +ℤ paid_in s i x) (λ x. pos 1 *ℤ x k)
    [] c.push_payments.new.terms.items c.push_term.new.terms.items own (f (2 ^ 44) (record { within = omega arith })) (le_refl k) in
    let both = adds-both (2 ^ 44) 0 (k + 1) (k + 1) (k + 1 + 1) (λ x. (sum_to n (lottery_lost s i x) +ℤ paid_in s i x) +ℤ pos 1 *ℤ x k) (λ x. neg_ℤ (pos 1) *ℤ x (k + 1))
    [] c.push_term.new.terms.items t plus (g (2 ^ 44) (record { within = omega arith })) (le_refl (k + 1)) in
    let all = adds-as (2 ^ 44) 0 (k + 1 + 1) 0 (k + 2) (λ x. ((sum_to n (lottery_lost s i x) +ℤ paid_in s i x) +ℤ pos 1 *ℤ x k) +ℤ neg_ℤ (pos 1) *ℤ x (k + 1)) (λ x. lag_in s x i)
    [] t both (le_refl 0) (omega arith) (λ x. agent-form s i x) in
    record {
      placed = adds-all (2 ^ 44) 0 (k + 2) (λ x. lag_in s x i) t all;
      sum = λ x. adds-sum (2 ^ 44) 0 (k + 2) (λ x. lag_in s x i) t all x;
    }
