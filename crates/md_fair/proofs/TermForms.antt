-- What the terms of the row of an agent add up to, in the words of the row's left side.
use Rattle.std.proofs.Common.{◌≡◌, ℕ, ◌+◌, ◌*◌, ◌<◌, true, false, ℤ, pos, ◌+ℤ◌, ◌-ℤ◌, ◌*ℤ◌, neg_ℤ, sym, ap, ◌∙◌, arith}
use Rattle.md_math.specs.Sums.{sum_to}
use Rattle.md_math.proofs.Ring.{linear, ring, *ℤ_assoc, neg_ℤ-*ℤ, one-*ℤ, *ℤ-zero}
use Rattle.md_math.proofs.SumLaws.{sum_to-same, sum_to-*ℤ, sum_to-+ℤ, sum_to-zero}
use Rattle.md_space.specs.Profiles.{profile_count, profile_at}
use Rattle.md_space.proofs.InOrder.{total_by-profiles}
use Rattle.md_setting.specs.Setting.{GeneralSetting}
use Rattle.md_setting.specs.Meaning.{outcome_count, sizes_of, utility_of, weight_of}
use Rattle.md_setting.specs.Rows.{column_count}
use Rattle.md_rows.specs.Columns.{chance_column, plus_column, minus_column, first_plus, first_minus, payment_in}
use Rattle.md_rows.specs.Sides.{utility_in}
use Rattle.md_rows.proofs.FormLaws.{chance-at_rank, plus-at_rank, minus-at_rank, payment-on, payment-off}
use Rattle.md_fair.specs.FairProgram.{lag_in, mean_in}
use Rattle.md_fair.specs.Terms.{lottery_lost, part_paid, paid_in}

-- the lottery of a rank, by weight
lottery-form : (s : GeneralSetting) (i r : ℕ) (x : ℕ → ℤ) → r < profile_count (sizes_of s)
    → lottery_lost s i x r ≡ neg_ℤ (weight_of s (profile_at (sizes_of s) r)) *ℤ sum_to (outcome_count s) (λ o. utility_of s i (profile_at (sizes_of s) r) o *ℤ x (chance_column s (profile_at (sizes_of s) r) o))
lottery-form s i r x h =
    let t = profile_at (sizes_of s) r in
    let w = neg_ℤ (weight_of s t) in
    sum_to-same (outcome_count s) (λ o. (w *ℤ utility_of s i t o) *ℤ x (r * outcome_count s + o)) (λ o. w *ℤ (utility_of s i t o *ℤ x (chance_column s t o)))
    (λ o l. *ℤ_assoc w (utility_of s i t o) (x (r * outcome_count s + o)) ∙ ap (λ k. w *ℤ (utility_of s i t o *ℤ x k)) (sym (chance-at_rank s r o h)))
    ∙ sum_to-*ℤ (outcome_count s) w (λ o. utility_of s i t o *ℤ x (chance_column s t o))

-- both parts of the payments
pub payments-form : (s : GeneralSetting) (i : ℕ) (x : ℕ → ℤ) → s.payments ≡ true
    → sum_to (profile_count (sizes_of s)) (part_paid s i (first_plus s) (pos 1) x) +ℤ sum_to (profile_count (sizes_of s)) (part_paid s i (first_minus s) (neg_ℤ (pos 1)) x) ≡ paid_in s i x
payments-form s i x on =
    sym (sum_to-+ℤ n (part_paid s i (first_plus s) (pos 1) x) (part_paid s i (first_minus s) (neg_ℤ (pos 1)) x))
    ∙ sum_to-same n (λ r. part_paid s i (first_plus s) (pos 1) x r +ℤ part_paid s i (first_minus s) (neg_ℤ (pos 1)) x r) (λ r. weight_of s (profile_at (sizes_of s) r) *ℤ payment_in s x i (profile_at (sizes_of s) r)) at
  where
    n : ℕ
    n = profile_count (sizes_of s)

    both : (w p m : ℤ) → (pos 1 *ℤ w) *ℤ p +ℤ (neg_ℤ (pos 1) *ℤ w) *ℤ m ≡ w *ℤ (p -ℤ m)
    both w p m = simp ring (omega (arith, linear))

    at : (r : ℕ) → r < profile_count (sizes_of s) → part_paid s i (first_plus s) (pos 1) x r +ℤ part_paid s i (first_minus s) (neg_ℤ (pos 1)) x r ≡ weight_of s (profile_at (sizes_of s) r) *ℤ payment_in s x i (profile_at (sizes_of s) r)
    at r h =
        let t = profile_at (sizes_of s) r in
        let plus : first_plus s + i * profile_count (sizes_of s) + r ≡ plus_column s i t = omega (arith, plus-at_rank s i r h) in
        let minus : first_minus s + i * profile_count (sizes_of s) + r ≡ minus_column s i t = omega (arith, minus-at_rank s i r h) in
        rw (plus, minus) (both (weight_of s t) (x (plus_column s i t)) (x (minus_column s i t)) ∙ ap (λ z. weight_of s t *ℤ z) (sym (payment-on s x i t on)))

-- where payments are off there are none
pub no-payments-form : (s : GeneralSetting) (i : ℕ) (x : ℕ → ℤ) → s.payments ≡ false → paid_in s i x ≡ pos 0
no-payments-form s i x off =
    sum_to-zero (profile_count (sizes_of s)) (λ r. weight_of s (profile_at (sizes_of s) r) *ℤ payment_in s x i (profile_at (sizes_of s) r))
    (λ r h. ap (λ z. weight_of s (profile_at (sizes_of s) r) *ℤ z) (payment-off s x i (profile_at (sizes_of s) r) off) ∙ *ℤ-zero (weight_of s (profile_at (sizes_of s) r)))

-- what an agent gets on average, by ranks
mean-form : (s : GeneralSetting) (i : ℕ) (x : ℕ → ℤ) → sum_to (profile_count (sizes_of s)) (lottery_lost s i x) +ℤ paid_in s i x ≡ neg_ℤ (mean_in s x i)
mean-form s i x =
    sym (sum_to-+ℤ n (lottery_lost s i x) (λ r. weight_of s (profile_at (sizes_of s) r) *ℤ payment_in s x i (profile_at (sizes_of s) r)))
    ∙ sum_to-same n (λ r. lottery_lost s i x r +ℤ weight_of s (profile_at (sizes_of s) r) *ℤ payment_in s x i (profile_at (sizes_of s) r)) (λ r. neg_ℤ (pos 1) *ℤ (weight_of s (profile_at (sizes_of s) r) *ℤ utility_in s x i (profile_at (sizes_of s) r) (profile_at (sizes_of s) r))) at
    ∙ sum_to-*ℤ n (neg_ℤ (pos 1)) (λ r. weight_of s (profile_at (sizes_of s) r) *ℤ utility_in s x i (profile_at (sizes_of s) r) (profile_at (sizes_of s) r))
    ∙ ap (λ z. neg_ℤ (pos 1) *ℤ z) (sym (total_by-profiles (sizes_of s) (λ t. weight_of s t *ℤ utility_in s x i t t)))
    ∙ minus (mean_in s x i)
  where
    n : ℕ
    n = profile_count (sizes_of s)

    minus : (z : ℤ) → neg_ℤ (pos 1) *ℤ z ≡ neg_ℤ z
    minus z = neg_ℤ-*ℤ (pos 1) z ∙ ap neg_ℤ (one-*ℤ z)

    parts : (w u p : ℤ) → neg_ℤ w *ℤ u +ℤ w *ℤ p ≡ neg_ℤ (pos 1) *ℤ (w *ℤ (u -ℤ p))
    parts w u p = simp ring (omega (arith, linear))

    at : (r : ℕ) → r < profile_count (sizes_of s) → lottery_lost s i x r +ℤ weight_of s (profile_at (sizes_of s) r) *ℤ payment_in s x i (profile_at (sizes_of s) r)
        ≡ neg_ℤ (pos 1) *ℤ (weight_of s (profile_at (sizes_of s) r) *ℤ utility_in s x i (profile_at (sizes_of s) r) (profile_at (sizes_of s) r))
    at r h =
        let t = profile_at (sizes_of s) r in
        ap (λ z. z +ℤ weight_of s t *ℤ payment_in s x i t) (lottery-form s i r x h)
        ∙ parts (weight_of s t) (sum_to (outcome_count s) (λ o. utility_of s i t o *ℤ x (chance_column s t o))) (payment_in s x i t)

-- all terms of the row
pub agent-form : (s : GeneralSetting) (i : ℕ) (x : ℕ → ℤ)
    → ((sum_to (profile_count (sizes_of s)) (lottery_lost s i x) +ℤ paid_in s i x) +ℤ pos 1 *ℤ x (column_count s)) +ℤ neg_ℤ (pos 1) *ℤ x (column_count s + 1) ≡ lag_in s x i
agent-form s i x = rw (mean-form s i x) (level (mean_in s x i) (x (column_count s)) (x (column_count s + 1)))
  where
    level : (m p q : ℤ) → (neg_ℤ m +ℤ pos 1 *ℤ p) +ℤ neg_ℤ (pos 1) *ℤ q ≡ (p -ℤ q) -ℤ m
    level m p q = simp ring (omega (arith, linear))
