-- An amount is the sum of its parts, each times its chance or payment.
use Rattle.std.proofs.Common.{◌≡◌, ℕ, ◌+◌, ◌*◌, ◌<◌, true, false, ℤ, pos, ◌+ℤ◌, ◌-ℤ◌, ◌*ℤ◌, neg_ℤ, List, refl, sym, ap, ap₂, ◌∙◌, arith, inl, inr}
use Rattle.std.specs.Prelude.{◌==◌, if◌then◌else◌}
use Rattle.std.proofs.lemmas.Bool.{cases_Bool}
use Rattle.md_math.specs.Sums.{sum_to}
use Rattle.md_math.proofs.Ring.{linear, ring, zero-*ℤ, one-*ℤ, *ℤ-zero, *ℤ_assoc}
use Rattle.md_math.proofs.SumLaws.{sum_to-same, sum_to-zero, sum_to-+ℤ, sum_to-*ℤ, sum_to-swap, sum_to-at}
use Rattle.md_space.specs.Profiles.{IsProfile, profile_at, profile_count, rank_of}
use Rattle.md_space.proofs.InOrder.{total_by-profiles}
use Rattle.md_space.proofs.Ranks.{profile_at-IsProfile, profile_at-rank_of, rank_of-below}
use Rattle.md_setting.specs.Setting.{GeneralSetting}
use Rattle.md_setting.specs.Meaning.{agent_count, outcome_count, sizes_of, utility_of, weight_of, welfare_of}
use Rattle.md_mech.specs.declared.mechanism.Mechanism.{Mechanism}
use Rattle.md_mech.specs.Mechanism.{chance_of, pay_of}
use Rattle.md_mech.specs.Utility.{expected_utility}
use Rattle.md_rows.specs.Columns.{plus_column, minus_column, first_plus, first_minus, payment_in}
use Rattle.md_rows.specs.Points.{mechanism_of}
use Rattle.md_rows.proofs.FormLaws.{chance-at_rank, plus-at_rank, minus-at_rank, payment-on, payment-off}
use Rattle.md_rows.proofs.PointLaws.{Agrees, agrees-mechanism_of}
use Rattle.md_require.specs.Amounts.{Amount, revenue, welfare, utility, chance, chance_at, payment_at, amount_of, weighted}
use Rattle.md_require.specs.Parts.{chance_part, pay_part, chances_add, pays_add, rank_adds, lottery_in, part_in, paid_in, weight_at}
use Rattle.md_require.specs.RequireProgram.{amount_in}
use Rattle.md_require.proofs.AmountLaws.{IsPlaced, amount-agrees}

-- ---- sums with one part

one-part : (n j : ℕ) (v : ℤ) (f : ℕ → ℤ) → j < n → sum_to n (λ k. (if k == j then v else pos 0) *ℤ f k) ≡ v *ℤ f j
one-part n j v f l = sum_to-same n (λ k. (if k == j then v else pos 0) *ℤ f k) (λ k. if k == j then v *ℤ f k else pos 0) (λ k b. at k) ∙ sum_to-at n j (λ k. v *ℤ f k) l
  where
    at : (k : ℕ) → (if k == j then v else pos 0) *ℤ f k ≡ (if k == j then v *ℤ f k else pos 0)
    at k = elim (cases_Bool (k == j)) [ inl here ↦ rw here refl | inr away ↦ rw away (zero-*ℤ (f k)) ]

no-part : (n : ℕ) (f : ℕ → ℤ) → sum_to n (λ k. pos 0 *ℤ f k) ≡ pos 0
no-part n f = sum_to-zero n (λ k. pos 0 *ℤ f k) (λ k l. zero-*ℤ (f k))

nothing-behind : (a b c : ℤ) → a ≡ b → c ≡ pos 0 → b +ℤ c ≡ a
nothing-behind a b c e f = omega (arith, linear, e, f)

nothing-before : (a b c : ℤ) → a ≡ b → c ≡ pos 0 → c +ℤ b ≡ a
nothing-before a b c e f = omega (arith, linear, e, f)

-- ---- an amount as the sum of its parts

module _ (s : GeneralSetting) (m : Mechanism) where
  abbrev t_of : ℕ → List ℕ
  t_of r = profile_at (sizes_of s) r

  -- what a rank adds, by plain parts
  abbrev chances_by : Amount → ℕ → ℤ
  chances_by amount r = sum_to (outcome_count s) (λ o. chance_part s amount r o *ℤ chance_of s m (t_of r) o)

  abbrev pays_by : Amount → ℕ → ℤ
  pays_by amount r = sum_to (agent_count s) (λ i. pay_part s amount r i *ℤ pay_of s m i (t_of r))

  by-rank : (f : List ℕ → ℤ) → weighted s f ≡ sum_to (profile_count (sizes_of s)) (λ r. weight_at s r *ℤ f (t_of r))
  by-rank f = total_by-profiles (sizes_of s) (λ t. weight_of s t *ℤ f t)

  revenue-at : (r : ℕ) → chances_by revenue r +ℤ pays_by revenue r ≡ weight_at s r *ℤ sum_to (agent_count s) (λ i. pay_of s m i (t_of r))
  revenue-at r =
      nothing-before (weight_at s r *ℤ sum_to (agent_count s) (λ i. pay_of s m i (t_of r))) (pays_by revenue r) (chances_by revenue r)
      (sym (sum_to-*ℤ (agent_count s) (weight_at s r) (λ i. pay_of s m i (t_of r)))) (no-part (outcome_count s) (chance_of s m (t_of r)))

  welfare-at : (r : ℕ) → chances_by welfare r +ℤ pays_by welfare r ≡ weight_at s r *ℤ sum_to (agent_count s) (λ i. sum_to (outcome_count s) (λ o. chance_of s m (t_of r) o *ℤ utility_of s i (t_of r) o))
  welfare-at r =
      nothing-behind (w *ℤ sum_to n (λ i. sum_to k (λ o. c o *ℤ u i o))) (chances_by welfare r) (pays_by welfare r)
      (ap (λ z. w *ℤ z) (sum_to-swap n k (λ i o. c o *ℤ u i o) ∙ sum_to-same k (λ o. sum_to n (λ i. c o *ℤ u i o)) (λ o. c o *ℤ welfare_of s (t_of r) o) (λ o l. sum_to-*ℤ n (c o) (λ i. u i o)))
      ∙ sym (sum_to-*ℤ k w (λ o. c o *ℤ welfare_of s (t_of r) o))
      ∙ sum_to-same k (λ o. w *ℤ (c o *ℤ welfare_of s (t_of r) o)) (λ o. (w *ℤ welfare_of s (t_of r) o) *ℤ c o) (λ o l. turn w (c o) (welfare_of s (t_of r) o)))
      (no-part n (λ i. pay_of s m i (t_of r)))
    where
      n : ℕ
      n = agent_count s

      k : ℕ
      k = outcome_count s

      w : ℤ
      w = weight_at s r

      c : ℕ → ℤ
      c = chance_of s m (t_of r)

      u : ℕ → ℕ → ℤ
      u i o = utility_of s i (t_of r) o

      turn : (a b d : ℤ) → a *ℤ (b *ℤ d) ≡ (a *ℤ d) *ℤ b
      turn a b d = simp ring

  utility-at : (i r : ℕ) → i < agent_count s → chances_by (utility i) r +ℤ pays_by (utility i) r ≡ weight_at s r *ℤ expected_utility s m i (t_of r) (t_of r)
  utility-at i r l =
      let w = weight_at s r in
      let own = sum_to (outcome_count s) (λ o. chance_of s m (t_of r) o *ℤ utility_of s i (t_of r) o) in
      let chances : chances_by (utility i) r ≡ w *ℤ own =
      sum_to-same (outcome_count s) (λ o. (w *ℤ utility_of s i (t_of r) o) *ℤ chance_of s m (t_of r) o) (λ o. w *ℤ (chance_of s m (t_of r) o *ℤ utility_of s i (t_of r) o)) (λ o b. turn w (utility_of s i (t_of r) o) (chance_of s m (t_of r) o))
      ∙ sum_to-*ℤ (outcome_count s) w (λ o. chance_of s m (t_of r) o *ℤ utility_of s i (t_of r) o) in
      let pays : pays_by (utility i) r ≡ neg_ℤ w *ℤ pay_of s m i (t_of r) = one-part (agent_count s) i (neg_ℤ w) (λ j. pay_of s m j (t_of r)) l in
      rw (chances, pays) (less w own (pay_of s m i (t_of r)))
    where
      turn : (a b d : ℤ) → (a *ℤ b) *ℤ d ≡ a *ℤ (d *ℤ b)
      turn a b d = simp ring

      less : (a b d : ℤ) → a *ℤ b +ℤ neg_ℤ a *ℤ d ≡ a *ℤ (b -ℤ d)
      less a b d = simp ring (omega (arith, linear))

  chance-at : (p r : ℕ) → p < outcome_count s → chances_by (chance p) r +ℤ pays_by (chance p) r ≡ weight_at s r *ℤ chance_of s m (t_of r) p
  chance-at p r l =
      nothing-behind (weight_at s r *ℤ chance_of s m (t_of r) p) (chances_by (chance p) r) (pays_by (chance p) r)
      (sym (one-part (outcome_count s) p (weight_at s r) (chance_of s m (t_of r)) l)) (no-part (agent_count s) (λ i. pay_of s m i (t_of r)))

  abbrev one_at : List ℕ → ℕ → ℤ
  one_at t r = if r == rank_of (sizes_of s) t then pos 1 else pos 0

  -- the sum over all ranks of what stands at one
  one-rank : (t : List ℕ) (f : List ℕ → ℤ) → IsProfile (sizes_of s) t → sum_to (profile_count (sizes_of s)) (λ r. one_at t r *ℤ f (t_of r)) ≡ f t
  one-rank t f p =
      one-part (profile_count (sizes_of s)) (rank_of (sizes_of s) t) (pos 1) (λ r. f (t_of r)) (rank_of-below (sizes_of s) t p)
      ∙ one-*ℤ (f (t_of (rank_of (sizes_of s) t))) ∙ ap f (profile_at-rank_of (sizes_of s) t p)

  pub amount-parts : (amount : Amount) → IsPlaced s amount → sum_to (profile_count (sizes_of s)) (λ r. chances_by amount r +ℤ pays_by amount r) ≡ amount_of s m amount
  amount-parts revenue h =
      sum_to-same (profile_count (sizes_of s)) (λ r. chances_by revenue r +ℤ pays_by revenue r) (λ r. weight_at s r *ℤ sum_to (agent_count s) (λ i. pay_of s m i (t_of r))) (λ r l. revenue-at r)
      ∙ sym (by-rank (λ t. sum_to (agent_count s) (λ i. pay_of s m i t)))
  amount-parts welfare h =
      sum_to-same (profile_count (sizes_of s)) (λ r. chances_by welfare r +ℤ pays_by welfare r) (λ r. weight_at s r *ℤ sum_to (agent_count s) (λ i. sum_to (outcome_count s) (λ o. chance_of s m (t_of r) o *ℤ utility_of s i (t_of r) o))) (λ r l. welfare-at r)
      ∙ sym (by-rank (λ t. sum_to (agent_count s) (λ i. sum_to (outcome_count s) (λ o. chance_of s m t o *ℤ utility_of s i t o))))
  amount-parts (utility i) h =
      sum_to-same (profile_count (sizes_of s)) (λ r. chances_by (utility i) r +ℤ pays_by (utility i) r) (λ r. weight_at s r *ℤ expected_utility s m i (t_of r) (t_of r)) (λ r l. utility-at i r h)
      ∙ sym (by-rank (λ t. expected_utility s m i t t))
  amount-parts (chance p) h =
      sum_to-same (profile_count (sizes_of s)) (λ r. chances_by (chance p) r +ℤ pays_by (chance p) r) (λ r. weight_at s r *ℤ chance_of s m (t_of r) p) (λ r l. chance-at p r h)
      ∙ sym (by-rank (λ t. chance_of s m t p))
  amount-parts (chance_at t p) h =
      sum_to-same (profile_count (sizes_of s)) (λ r. chances_by (chance_at t p) r +ℤ pays_by (chance_at t p) r) (λ r. one_at t r *ℤ chance_of s m (t_of r) p)
      (λ r l. nothing-behind (one_at t r *ℤ chance_of s m (t_of r) p) (chances_by (chance_at t p) r) (pays_by (chance_at t p) r)
      (sym (one-part (outcome_count s) p (one_at t r) (chance_of s m (t_of r)) h.1)) (no-part (agent_count s) (λ i. pay_of s m i (t_of r))))
      ∙ one-rank t (λ u. chance_of s m u p) h.0
  amount-parts (payment_at j t) h =
      sum_to-same (profile_count (sizes_of s)) (λ r. chances_by (payment_at j t) r +ℤ pays_by (payment_at j t) r) (λ r. one_at t r *ℤ pay_of s m j (t_of r))
      (λ r l. nothing-before (one_at t r *ℤ pay_of s m j (t_of r)) (pays_by (payment_at j t) r) (chances_by (payment_at j t) r)
      (sym (one-part (agent_count s) j (one_at t r) (λ i. pay_of s m i (t_of r)) h.0)) (no-part (outcome_count s) (chance_of s m (t_of r))))
      ∙ one-rank t (λ u. pay_of s m j u) h.1

  -- times a number
  scaled-dot : (n : ℕ) (scale : ℤ) (f g : ℕ → ℤ) → sum_to n (λ k. (scale *ℤ f k) *ℤ g k) ≡ scale *ℤ sum_to n (λ k. f k *ℤ g k)
  scaled-dot n scale f g = sum_to-same n (λ k. (scale *ℤ f k) *ℤ g k) (λ k. scale *ℤ (f k *ℤ g k)) (λ k l. *ℤ_assoc scale (f k) (g k)) ∙ sum_to-*ℤ n scale (λ k. f k *ℤ g k)

  pub scaled-amount : (scale : ℤ) (amount : Amount) → IsPlaced s amount → sum_to (profile_count (sizes_of s)) (rank_adds s m scale amount) ≡ scale *ℤ amount_of s m amount
  scaled-amount scale amount placed =
      sum_to-same (profile_count (sizes_of s)) (rank_adds s m scale amount) (λ r. scale *ℤ (chances_by amount r +ℤ pays_by amount r)) (λ r l. at r)
      ∙ sum_to-*ℤ (profile_count (sizes_of s)) scale (λ r. chances_by amount r +ℤ pays_by amount r)
      ∙ ap (λ z. scale *ℤ z) (amount-parts amount placed)
    where
      join : (a b c : ℤ) → a *ℤ b +ℤ a *ℤ c ≡ a *ℤ (b +ℤ c)
      join a b c = simp ring

      at : (r : ℕ) → rank_adds s m scale amount r ≡ scale *ℤ (chances_by amount r +ℤ pays_by amount r)
      at r =
          ap₂ (λ a b. a +ℤ b) (scaled-dot (outcome_count s) scale (chance_part s amount r) (chance_of s m (t_of r))) (scaled-dot (agent_count s) scale (pay_part s amount r) (λ i. pay_of s m i (t_of r)))
          ∙ join scale (chances_by amount r) (pays_by amount r)

-- ---- by columns

module _ (s : GeneralSetting) (scale : ℤ) (amount : Amount) (x : ℕ → ℤ) where
  abbrev told : Mechanism
  told = mechanism_of s (pos 1) x

  agrees : Agrees s x told
  agrees = agrees-mechanism_of s (pos 1) x

  lottery-told : (r : ℕ) → r < profile_count (sizes_of s) → lottery_in s scale amount x r ≡ chances_add s told scale amount r
  lottery-told r b =
      sum_to-same (outcome_count s) (λ o. (scale *ℤ chance_part s amount r o) *ℤ x (r * outcome_count s + o)) (λ o. (scale *ℤ chance_part s amount r o) *ℤ chance_of s told (profile_at (sizes_of s) r) o)
      (λ o l. ap (λ z. (scale *ℤ chance_part s amount r o) *ℤ z) (ap x (sym (chance-at_rank s r o b)) ∙ agrees.chance (profile_at (sizes_of s) r) o (profile_at-IsProfile (sizes_of s) r b) l))

  paid-told : paid_in s scale amount x ≡ sum_to (profile_count (sizes_of s)) (pays_add s told scale amount)
  paid-told =
      sum_to-swap (agent_count s) (profile_count (sizes_of s)) (λ i r. (scale *ℤ pay_part s amount r i) *ℤ payment_in s x i (profile_at (sizes_of s) r))
      ∙ sum_to-same (profile_count (sizes_of s)) (λ r. sum_to (agent_count s) (λ i. (scale *ℤ pay_part s amount r i) *ℤ payment_in s x i (profile_at (sizes_of s) r))) (pays_add s told scale amount)
      (λ r b. sum_to-same (agent_count s) (λ i. (scale *ℤ pay_part s amount r i) *ℤ payment_in s x i (profile_at (sizes_of s) r)) (λ i. (scale *ℤ pay_part s amount r i) *ℤ pay_of s told i (profile_at (sizes_of s) r))
      (λ i l. ap (λ z. (scale *ℤ pay_part s amount r i) *ℤ z) (agrees.pay i (profile_at (sizes_of s) r) l (profile_at-IsProfile (sizes_of s) r b))))

  -- the terms of all columns
  pub row-form : IsPlaced s amount → sum_to (profile_count (sizes_of s)) (lottery_in s scale amount x) +ℤ paid_in s scale amount x ≡ scale *ℤ amount_in s x amount
  row-form placed =
      ap₂ (λ a b. a +ℤ b) (sum_to-same (profile_count (sizes_of s)) (lottery_in s scale amount x) (chances_add s told scale amount) lottery-told) paid-told
      ∙ sym (sum_to-+ℤ (profile_count (sizes_of s)) (chances_add s told scale amount) (pays_add s told scale amount))
      ∙ scaled-amount s told scale amount placed
      ∙ ap (λ z. scale *ℤ z) (sym (amount-agrees s x told agrees amount placed))

  -- both parts of all payments
  pub parts-form : s.payments ≡ true
      → sum_to (agent_count s) (part_in s scale amount (first_plus s) x) +ℤ sum_to (agent_count s) (part_in s (neg_ℤ scale) amount (first_minus s) x) ≡ paid_in s scale amount x
  parts-form on =
      sym (sum_to-+ℤ (agent_count s) (part_in s scale amount (first_plus s) x) (part_in s (neg_ℤ scale) amount (first_minus s) x))
      ∙ sum_to-same (agent_count s) (λ i. part_in s scale amount (first_plus s) x i +ℤ part_in s (neg_ℤ scale) amount (first_minus s) x i)
      (λ i. sum_to (profile_count (sizes_of s)) (λ r. (scale *ℤ pay_part s amount r i) *ℤ payment_in s x i (profile_at (sizes_of s) r))) (λ i l. of-agent i)
    where
      both : (k v p m : ℤ) → (k *ℤ v) *ℤ p +ℤ (neg_ℤ k *ℤ v) *ℤ m ≡ (k *ℤ v) *ℤ (p -ℤ m)
      both k v p m = simp ring (omega (arith, linear))

      at : (i r : ℕ) → r < profile_count (sizes_of s)
          → (scale *ℤ pay_part s amount r i) *ℤ x (first_plus s + i * profile_count (sizes_of s) + r) +ℤ (neg_ℤ scale *ℤ pay_part s amount r i) *ℤ x (first_minus s + i * profile_count (sizes_of s) + r)
          ≡ (scale *ℤ pay_part s amount r i) *ℤ payment_in s x i (profile_at (sizes_of s) r)
      at i r h =
          let t = profile_at (sizes_of s) r in
          let plus : first_plus s + i * profile_count (sizes_of s) + r ≡ plus_column s i t = omega (arith, plus-at_rank s i r h) in
          let minus : first_minus s + i * profile_count (sizes_of s) + r ≡ minus_column s i t = omega (arith, minus-at_rank s i r h) in
          rw (plus, minus) (both scale (pay_part s amount r i) (x (plus_column s i t)) (x (minus_column s i t)) ∙ ap (λ z. (scale *ℤ pay_part s amount r i) *ℤ z) (sym (payment-on s x i t on)))

      of-agent : (i : ℕ) → part_in s scale amount (first_plus s) x i +ℤ part_in s (neg_ℤ scale) amount (first_minus s) x i ≡ sum_to (profile_count (sizes_of s)) (λ r. (scale *ℤ pay_part s amount r i) *ℤ payment_in s x i (profile_at (sizes_of s) r))
      of-agent i =
          sym (sum_to-+ℤ (profile_count (sizes_of s)) (λ r. (scale *ℤ pay_part s amount r i) *ℤ x (first_plus s + i * profile_count (sizes_of s) + r)) (λ r. (neg_ℤ scale *ℤ pay_part s amount r i) *ℤ x (first_minus s + i * profile_count (sizes_of s) + r)))
          ∙ sum_to-same (profile_count (sizes_of s)) (λ r. (scale *ℤ pay_part s amount r i) *ℤ x (first_plus s + i * profile_count (sizes_of s) + r) +ℤ (neg_ℤ scale *ℤ pay_part s amount r i) *ℤ x (first_minus s + i * profile_count (sizes_of s) + r))
          (λ r. (scale *ℤ pay_part s amount r i) *ℤ payment_in s x i (profile_at (sizes_of s) r)) (at i)

  -- where payments are off there are none
  pub no-parts-form : s.payments ≡ false → paid_in s scale amount x ≡ pos 0
  no-parts-form off =
      sum_to-zero (agent_count s) (λ i. sum_to (profile_count (sizes_of s)) (λ r. (scale *ℤ pay_part s amount r i) *ℤ payment_in s x i (profile_at (sizes_of s) r)))
      (λ i l. sum_to-zero (profile_count (sizes_of s)) (λ r. (scale *ℤ pay_part s amount r i) *ℤ payment_in s x i (profile_at (sizes_of s) r))
      (λ r h. ap (λ z. (scale *ℤ pay_part s amount r i) *ℤ z) (payment-off s x i (profile_at (sizes_of s) r) off) ∙ *ℤ-zero (scale *ℤ pay_part s amount r i)))
