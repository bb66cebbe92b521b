-- What the terms of a row add up to, in the words of the row's left side.
use Rattle.std.proofs.Common.{◌≡◌, ℕ, ◌+◌, ◌*◌, ◌<◌, true, false, ℤ, pos, ◌+ℤ◌, ◌-ℤ◌, ◌*ℤ◌, neg_ℤ, List, [], ◌∷◌, get_or, refl, sym, ap, ◌∙◌, arith}
use Rattle.md_math.specs.Sums.{sum_to, total_by}
use Rattle.md_math.proofs.Ring.{linear, *ℤ_assoc, *ℤ-+ℤ, *ℤ-neg_ℤ, neg_ℤ-*ℤ, one-*ℤ, *ℤ-zero}
use Rattle.md_math.proofs.SumLaws.{sum_to-same, sum_to-*ℤ, sum_to-+ℤ, sum_to-neg_ℤ, sum_to-zero}
use Rattle.md_math.proofs.TotalLaws.{total_by-same, total_by-+ℤ, total_by-sub, total_by-zero}
use Rattle.md_space.specs.Profiles.{profile_count, profile_at, replaced}
use Rattle.md_space.proofs.Ranks.{rank_of-profile_at}
use Rattle.md_setting.specs.Setting.{GeneralSetting}
use Rattle.md_setting.specs.Meaning.{agent_count, outcome_count, sizes_of, utility_of}
use Rattle.md_lp.specs.declared.term.Term.{Term}
use Rattle.md_lp.specs.Shape.{HasPlaces}
use Rattle.md_lp.proofs.SparseRows.{All-below}
use Rattle.md_mech.specs.Rows.{deficit_row, profile_row}
use Rattle.md_forms.specs.Terms.{sum_at}
use Rattle.md_rows.specs.Columns.{chance_column, plus_column, minus_column, first_plus, first_minus, payment_by, payment_in}
use Rattle.md_rows.specs.Sides.{utility_as, left_side}
use Rattle.md_rows.specs.Terms.{chances_at, paid_at, part_at, part_of_all}

-- ---- columns by ranks

pub chance-at_rank : (s : GeneralSetting) (r o : ℕ) → r < profile_count (sizes_of s) → chance_column s (profile_at (sizes_of s) r) o ≡ r * outcome_count s + o
chance-at_rank s r o h = ap (λ k. k * outcome_count s + o) (rank_of-profile_at (sizes_of s) r h)

pub plus-at_rank : (s : GeneralSetting) (i r : ℕ) → r < profile_count (sizes_of s) → plus_column s i (profile_at (sizes_of s) r) ≡ first_plus s + (i * profile_count (sizes_of s) + r)
plus-at_rank s i r h = ap (λ k. first_plus s + (i * profile_count (sizes_of s) + k)) (rank_of-profile_at (sizes_of s) r h)

pub minus-at_rank : (s : GeneralSetting) (i r : ℕ) → r < profile_count (sizes_of s) → minus_column s i (profile_at (sizes_of s) r) ≡ first_minus s + (i * profile_count (sizes_of s) + r)
minus-at_rank s i r h = ap (λ k. first_minus s + (i * profile_count (sizes_of s) + k)) (rank_of-profile_at (sizes_of s) r h)

-- ---- utilities

lottery-form : (s : GeneralSetting) (i a : ℕ) (x : ℕ → ℤ) (h : Term) → h.column < profile_count (sizes_of s)
    → chances_at s i a x h ≡ h.value *ℤ sum_to (outcome_count s) (λ o. utility_of s i (replaced (profile_at (sizes_of s) h.column) i a) o *ℤ x (chance_column s (profile_at (sizes_of s) h.column) o))
lottery-form s i a x h below =
    sum_to-same (outcome_count s) (λ o. (h.value *ℤ utility_of s i (replaced (profile_at (sizes_of s) h.column) i a) o) *ℤ x (h.column * outcome_count s + o))
    (λ o. h.value *ℤ (utility_of s i (replaced (profile_at (sizes_of s) h.column) i a) o *ℤ x (chance_column s (profile_at (sizes_of s) h.column) o)))
    (λ o l. *ℤ_assoc h.value (utility_of s i (replaced (profile_at (sizes_of s) h.column) i a) o) (x (h.column * outcome_count s + o))
    ∙ ap (λ k. h.value *ℤ (utility_of s i (replaced (profile_at (sizes_of s) h.column) i a) o *ℤ x k)) (sym (chance-at_rank s h.column o below)))
    ∙ sum_to-*ℤ (outcome_count s) h.value (λ o. utility_of s i (replaced (profile_at (sizes_of s) h.column) i a) o *ℤ x (chance_column s (profile_at (sizes_of s) h.column) o))

share-form : (v u p : ℤ) → v *ℤ u -ℤ v *ℤ p ≡ v *ℤ (u -ℤ p)
share-form v u p = omega (arith, linear, *ℤ-+ℤ v u (neg_ℤ p), *ℤ-neg_ℤ v p)

-- the lotteries less the payments are the utilities
pub utility-form : (s : GeneralSetting) (i a : ℕ) (x : ℕ → ℤ) (shares : List Term) → HasPlaces (profile_count (sizes_of s)) shares
    → total_by (chances_at s i a x) shares +ℤ neg_ℤ (total_by (paid_at s i x) shares) ≡ sum_at (λ r. utility_as s x i a (profile_at (sizes_of s) r)) shares
utility-form s i a x shares places =
    sym (total_by-sub (chances_at s i a x) (paid_at s i x) shares)
    ∙ total_by-same (λ h. chances_at s i a x h -ℤ paid_at s i x h) (λ h. h.value *ℤ utility_as s x i a (profile_at (sizes_of s) h.column)) shares
    (λ k d l. at (get_or shares k d) (All-below (profile_count (sizes_of s)) shares places k d l))
  where
    at : (h : Term) → h.column < profile_count (sizes_of s) → chances_at s i a x h -ℤ paid_at s i x h ≡ h.value *ℤ utility_as s x i a (profile_at (sizes_of s) h.column)
    at h below =
        ap (λ z. z -ℤ paid_at s i x h) (lottery-form s i a x h below)
        ∙ share-form h.value (sum_to (outcome_count s) (λ o. utility_of s i (replaced (profile_at (sizes_of s) h.column) i a) o *ℤ x (chance_column s (profile_at (sizes_of s) h.column) o))) (payment_in s x i (profile_at (sizes_of s) h.column))

-- ---- payments

pub payment-on : (s : GeneralSetting) (x : ℕ → ℤ) (i : ℕ) (t : List ℕ) → s.payments ≡ true → payment_in s x i t ≡ x (plus_column s i t) -ℤ x (minus_column s i t)
payment-on s x i t on = ap (λ b. payment_by b (x (plus_column s i t)) (x (minus_column s i t))) on

pub payment-off : (s : GeneralSetting) (x : ℕ → ℤ) (i : ℕ) (t : List ℕ) → s.payments ≡ false → payment_in s x i t ≡ pos 0
payment-off s x i t off = ap (λ b. payment_by b (x (plus_column s i t)) (x (minus_column s i t))) off

parts-form : (v p m : ℤ) → (neg_ℤ (pos 1) *ℤ v) *ℤ p +ℤ (pos 1 *ℤ v) *ℤ m ≡ neg_ℤ (v *ℤ (p -ℤ m))
parts-form v p m =
    let first : neg_ℤ (pos 1) *ℤ v ≡ neg_ℤ v = neg_ℤ-*ℤ (pos 1) v ∙ ap neg_ℤ (one-*ℤ v) in
    rw (first, one-*ℤ v) (omega (arith, linear, neg_ℤ-*ℤ v p, *ℤ-+ℤ v p (neg_ℤ m), *ℤ-neg_ℤ v m))

-- both parts of the payments make the payments, taken away
pub payments-form : (s : GeneralSetting) (i : ℕ) (x : ℕ → ℤ) (shares : List Term) → HasPlaces (profile_count (sizes_of s)) shares → s.payments ≡ true
    → total_by (part_at (first_plus s + i * profile_count (sizes_of s)) (neg_ℤ (pos 1)) x) shares
    +ℤ total_by (part_at (first_minus s + i * profile_count (sizes_of s)) (pos 1) x) shares
    ≡ neg_ℤ (total_by (paid_at s i x) shares)
payments-form s i x shares places on =
    sym (total_by-+ℤ (part_at (first_plus s + i * n) (neg_ℤ (pos 1)) x) (part_at (first_minus s + i * n) (pos 1) x) shares)
    ∙ total_by-same (λ h. part_at (first_plus s + i * n) (neg_ℤ (pos 1)) x h +ℤ part_at (first_minus s + i * n) (pos 1) x h) (λ h. neg_ℤ (paid_at s i x h)) shares
    (λ k d l. at (get_or shares k d) (All-below n shares places k d l))
    ∙ negated shares
  where
    n : ℕ
    n = profile_count (sizes_of s)

    negated : (hs : List Term) → total_by (λ h. neg_ℤ (paid_at s i x h)) hs ≡ neg_ℤ (total_by (paid_at s i x) hs)
    negated [] = refl
    negated (h ∷ hs) = omega (arith, linear, negated hs)

    at : (h : Term) → h.column < n → part_at (first_plus s + i * n) (neg_ℤ (pos 1)) x h +ℤ part_at (first_minus s + i * n) (pos 1) x h ≡ neg_ℤ (paid_at s i x h)
    at h below =
        let plus : (first_plus s + i * n) + h.column ≡ plus_column s i (profile_at (sizes_of s) h.column) = omega (arith, plus-at_rank s i h.column below) in
        let minus : (first_minus s + i * n) + h.column ≡ minus_column s i (profile_at (sizes_of s) h.column) = omega (arith, minus-at_rank s i h.column below) in
        rw (plus, minus) (parts-form h.value (x (plus_column s i (profile_at (sizes_of s) h.column))) (x (minus_column s i (profile_at (sizes_of s) h.column)))
        ∙ ap (λ z. neg_ℤ (h.value *ℤ z)) (sym (payment-on s x i (profile_at (sizes_of s) h.column) on)))

-- where payments are off there are none
pub no-payments-form : (s : GeneralSetting) (i : ℕ) (x : ℕ → ℤ) (shares : List Term) → s.payments ≡ false → neg_ℤ (total_by (paid_at s i x) shares) ≡ pos 0
no-payments-form s i x shares off =
    ap neg_ℤ (total_by-zero (paid_at s i x) shares (λ k d l.
    ap (λ z. (get_or shares k d).value *ℤ z) (payment-off s x i (profile_at (sizes_of s) (get_or shares k d).column) off) ∙ *ℤ-zero (get_or shares k d).value))

-- ---- deficits and profiles

deficit-part : (p m : ℤ) → neg_ℤ (pos 1) *ℤ p +ℤ pos 1 *ℤ m ≡ neg_ℤ (p -ℤ m)
deficit-part p m = (let first : neg_ℤ (pos 1) *ℤ p ≡ neg_ℤ p = neg_ℤ-*ℤ (pos 1) p ∙ ap neg_ℤ (one-*ℤ p) in rw (first, one-*ℤ m) (omega (arith, linear)))

pub deficit-form : (s : GeneralSetting) (r : ℕ) (x : ℕ → ℤ) → r < profile_count (sizes_of s) → s.payments ≡ true
    → sum_to (agent_count s) (part_of_all s (first_plus s) r (neg_ℤ (pos 1)) x) +ℤ sum_to (agent_count s) (part_of_all s (first_minus s) r (pos 1) x)
    ≡ left_side s (deficit_row (profile_at (sizes_of s) r)) x
deficit-form s r x h on =
    sym (sum_to-+ℤ (agent_count s) (part_of_all s (first_plus s) r (neg_ℤ (pos 1)) x) (part_of_all s (first_minus s) r (pos 1) x))
    ∙ sum_to-same (agent_count s) (λ i. part_of_all s (first_plus s) r (neg_ℤ (pos 1)) x i +ℤ part_of_all s (first_minus s) r (pos 1) x i) (λ i. neg_ℤ (payment_in s x i (profile_at (sizes_of s) r)))
    (λ i l. rw (sym (plus-at_rank s i r h), sym (minus-at_rank s i r h))
    (deficit-part (x (plus_column s i (profile_at (sizes_of s) r))) (x (minus_column s i (profile_at (sizes_of s) r))) ∙ ap neg_ℤ (sym (payment-on s x i (profile_at (sizes_of s) r) on))))
    ∙ sum_to-neg_ℤ (agent_count s) (λ i. payment_in s x i (profile_at (sizes_of s) r))

pub no-deficit-form : (s : GeneralSetting) (t : List ℕ) (x : ℕ → ℤ) → s.payments ≡ false → left_side s (deficit_row t) x ≡ pos 0
no-deficit-form s t x off = ap neg_ℤ (sum_to-zero (agent_count s) (λ i. payment_in s x i t) (λ i l. payment-off s x i t off))

pub profile-form : (s : GeneralSetting) (r : ℕ) (x : ℕ → ℤ) → r < profile_count (sizes_of s)
    → sum_to (outcome_count s) (λ o. pos 1 *ℤ x (r * outcome_count s + o)) ≡ left_side s (profile_row (profile_at (sizes_of s) r)) x
profile-form s r x h =
    sum_to-same (outcome_count s) (λ o. pos 1 *ℤ x (r * outcome_count s + o)) (λ o. x (chance_column s (profile_at (sizes_of s) r) o))
    (λ o l. one-*ℤ (x (r * outcome_count s + o)) ∙ ap x (sym (chance-at_rank s r o h)))
