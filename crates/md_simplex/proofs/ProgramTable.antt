-- The first table of a program by the program's own sums: rows, columns, right sides and costs.
use Rattle.std.proofs.Common.{◌≡◌, ◌≢◌, ℕ, zero, suc, ◌+◌, ◌<◌, ◌≤◌, ◌⊎◌, ◌==◌, ◌&&◌, Bool, true, false, if◌then◌else◌, ℤ, pos, negsuc, ◌+ℤ◌, ◌*ℤ◌, neg_ℤ, int_lt, inl, inr, refl, sym, ap, ap₂, ◌∙◌, subst, arith, eq-eqb, ne_eqb, lt-ltb, le-ltb}
use Rattle.std.proofs.lemmas.Bool.{cases_lt}
use Rattle.md_math.specs.Sums.{sum_to}
use Rattle.md_math.proofs.Ring.{linear, ring, *ℤ-zero, zero-*ℤ, *ℤ_assoc, *ℤ-+ℤ, neg_ℤ-*ℤ, one-*ℤ}
use lib.IntN.{*ℤ_comm}
use Rattle.md_math.proofs.SumLaws.{sum_to-same, sum_to-zero, sum_to-join, sum_to-single, sum_to-*ℤ, sum_to-neg_ℤ}
use Rattle.md_lp.specs.declared.row_kind.RowKind.{RowKind}
use Rattle.md_lp.specs.declared.row_kind.RowKind.TheVariants.{AtMost, Exact}
use Rattle.md_lp.specs.Program.{Program, row_count, kind_at, right_at, coefficient_at, cost_at}
use Rattle.md_lp.specs.Point.{row_sum, cost_sum, column_sum, right_sum}
use Rattle.md_dict.specs.FirstTable.{is_at_most, slacks_before, column_count, sign_at, row_entry, main_entry, first_entry}
use Rattle.md_dict.proofs.FirstLaws.{unit_off, unit_own}

-- the slack column of a row
abbrev pub slack_at : Program → ℕ → ℕ
slack_at p k = p.columns + slacks_before p k

module _ (p : Program) where
  -- ---- slack columns

  slacks-more : (k : ℕ) → kind_at p k ≡ AtMost → slacks_before p (suc k) ≡ slacks_before p k + 1
  slacks-more k h = ap (λ t. slacks_before p k + (if is_at_most t then 1 else 0)) h

  slacks-step : (k : ℕ) → slacks_before p k ≤ slacks_before p (suc k)
  slacks-step k = omega arith

  -- later rows have no fewer slack columns before them
  slacks-grow : (i k : ℕ) → i ≤ k → slacks_before p i ≤ slacks_before p k
  slacks-grow i zero l = (let same : i ≡ zero = omega arith in subst (λ j. slacks_before p i ≤ slacks_before p j) same (omega arith))
  slacks-grow i (suc k) l =
      elim (cases_lt i (suc k)) [
        | inl b ↦ (let rest : slacks_before p i ≤ slacks_before p k = slacks-grow i k (omega arith) in let step : slacks_before p k ≤ slacks_before p (suc k) = slacks-step k in omega arith)
        | inr b ↦ (let same : i ≡ suc k = omega arith in subst (λ j. slacks_before p i ≤ slacks_before p j) same (omega arith))
      ]

  -- an at-most row has a slack column more than the rows before it
  slacks-less : (i k : ℕ) → kind_at p i ≡ AtMost → i < k → slacks_before p i < slacks_before p k
  slacks-less i k h l =
      let more : slacks_before p (suc i) ≡ slacks_before p i + 1 = slacks-more i h in
      let grow : slacks_before p (suc i) ≤ slacks_before p k = slacks-grow (suc i) k (omega arith) in
      omega arith

  slacks_apart : (i k : ℕ) → kind_at p i ≡ AtMost → kind_at p k ≡ AtMost → i ≢ k → slack_at p i ≢ slack_at p k
  slacks_apart i k h q o e =
      elim (cases_lt i k) [
        | inl l ↦ (let less : slacks_before p i < slacks_before p k = slacks-less i k h l in omega arith)
        | inr l ↦ (let less : slacks_before p k < slacks_before p i = slacks-less k i q (omega arith) in omega arith)
      ]

  pub slack_in : (k : ℕ) → k < row_count p → kind_at p k ≡ AtMost → slack_at p k < column_count p
  slack_in k b h = (let less : slacks_before p k < slacks_before p (row_count p) = slacks-less k (row_count p) h b in omega arith)

  -- ---- entries of the program rows

  row_is : (k j : ℕ) → k < row_count p → first_entry p k j ≡ row_entry p k j
  row_is k j b = rw (lt-ltb k (row_count p) b) refl

  pub entry-column : (k j : ℕ) → k < row_count p → j < p.columns → first_entry p k j ≡ sign_at p k *ℤ coefficient_at p k j
  entry-column k j b l = row_is k j b ∙ (rw (lt-ltb j p.columns l) refl)

  pub entry-right : (k : ℕ) → k < row_count p → first_entry p k (column_count p + row_count p) ≡ sign_at p k *ℤ right_at p k
  entry-right k b =
      row_is k (column_count p + row_count p) b
      ∙ (rw (le-ltb (column_count p + row_count p) p.columns (omega arith), le-ltb (column_count p + row_count p) (column_count p) (omega arith), le-ltb (column_count p + row_count p) (column_count p + row_count p) (omega arith)) refl)

  entry-start : (k i : ℕ) → k < row_count p → i < row_count p → first_entry p k (column_count p + i) ≡ (if (column_count p + i) == (column_count p + k) then pos 1 else pos 0)
  entry-start k i b c =
      row_is k (column_count p + i) b
      ∙ (rw (le-ltb (column_count p + i) p.columns (omega arith), le-ltb (column_count p + i) (column_count p) (omega arith), lt-ltb (column_count p + i) (column_count p + row_count p) (omega arith)) refl)

  entry-slack : (k s : ℕ) → k < row_count p → s < slacks_before p (row_count p) → first_entry p k (p.columns + s) ≡ (if is_at_most (kind_at p k) && ((p.columns + s) == slack_at p k) then sign_at p k else pos 0)
  entry-slack k s b c =
      row_is k (p.columns + s) b
      ∙ (rw (le-ltb (p.columns + s) p.columns (omega arith), lt-ltb (p.columns + s) (column_count p) (omega arith)) refl)

  slack_on : (k : ℕ) → kind_at p k ≡ AtMost → (j : ℕ) → j ≡ slack_at p k → (if is_at_most (kind_at p k) && (j == slack_at p k) then sign_at p k else pos 0) ≡ sign_at p k
  slack_on k h j e = rw (h, eq-eqb j (slack_at p k) e) refl

  slack_off : (k : ℕ) (j : ℕ) → j ≢ slack_at p k → (if is_at_most (kind_at p k) && (j == slack_at p k) then sign_at p k else pos 0) ≡ pos 0
  slack_off k j o = rw (ne_eqb j (slack_at p k) o) (by_test (is_at_most (kind_at p k)))
    where
      by_test : (t : Bool) → (if t && false then sign_at p k else pos 0) ≡ pos 0
      by_test true = refl
      by_test false = refl

  slack_none : (k : ℕ) → kind_at p k ≡ Exact → (j : ℕ) → (if is_at_most (kind_at p k) && (j == slack_at p k) then sign_at p k else pos 0) ≡ pos 0
  slack_none k h j = rw h refl

  -- a slack column has the sign of its row there, and 0 in each other row
  pub slack-own : (k : ℕ) → k < row_count p → kind_at p k ≡ AtMost → first_entry p k (slack_at p k) ≡ sign_at p k
  slack-own k b h = entry-slack k (slacks_before p k) b (slacks-less k (row_count p) h b) ∙ slack_on k h (slack_at p k) refl

  pub slack-other : (k i : ℕ) → k < row_count p → i < row_count p → kind_at p k ≡ AtMost → i ≢ k → first_entry p i (slack_at p k) ≡ pos 0
  slack-other k i b c h o =
      entry-slack i (slacks_before p k) c (slacks-less k (row_count p) h b)
      ∙ elim (kinds (kind_at p i)) [
        | inl q ↦ slack_off i (slack_at p k) (λ e. slacks_apart i k q h o (sym e))
        | inr q ↦ slack_none i q (slack_at p k)
      ]
    where
      kinds : (kind : RowKind) → (kind ≡ AtMost) ⊎ (kind ≡ Exact)
      kinds AtMost = inl refl
      kinds Exact = inr refl

  -- ---- the main row

  main_is : (j : ℕ) → first_entry p (row_count p + 1) j ≡ main_entry p j
  main_is j = rw (le-ltb (row_count p + 1) (row_count p) (omega arith), ne_eqb (row_count p + 1) (row_count p) (λ e. omega arith)) refl

  pub main-column : (j : ℕ) → j < p.columns → first_entry p (row_count p + 1) j ≡ neg_ℤ (cost_at p j)
  main-column j l = main_is j ∙ (rw (lt-ltb j p.columns l) refl)

  pub main-rest : (j : ℕ) → p.columns ≤ j → first_entry p (row_count p + 1) j ≡ pos 0
  main-rest j l = main_is j ∙ (rw (le-ltb j p.columns l) refl)

  -- ---- signs

  pub sign-twice : (k : ℕ) (x : ℤ) → sign_at p k *ℤ (sign_at p k *ℤ x) ≡ x
  sign-twice k x = by_test (int_lt (right_at p k) (pos 0))
    where
      by_test : (t : Bool) → (if t then negsuc 0 else pos 1) *ℤ ((if t then negsuc 0 else pos 1) *ℤ x) ≡ x
      by_test true =
          let minus : negsuc 0 *ℤ (negsuc 0 *ℤ x) ≡ neg_ℤ (neg_ℤ x) = neg_ℤ-*ℤ (pos 1) (negsuc 0 *ℤ x) ∙ ap neg_ℤ (one-*ℤ (negsuc 0 *ℤ x) ∙ neg_ℤ-*ℤ (pos 1) x ∙ ap neg_ℤ (one-*ℤ x)) in
          omega (arith, linear)
      by_test false = one-*ℤ (pos 1 *ℤ x) ∙ one-*ℤ x

  -- ---- sums over all columns

  -- what the slack column of a row adds
  unfoldable pub slack_share : (ℕ → ℤ) → ℕ → ℤ
  slack_share x k = if is_at_most (kind_at p k) then x (slack_at p k) else pos 0

  program_sum : (k : ℕ) (x : ℕ → ℤ) → k < row_count p → sum_to p.columns (λ j. first_entry p k j *ℤ x j) ≡ sign_at p k *ℤ row_sum p x k
  program_sum k x b =
      sum_to-same p.columns _ (λ j. sign_at p k *ℤ (coefficient_at p k j *ℤ x j)) (λ j l. ap (λ z. z *ℤ x j) (entry-column k j b l) ∙ *ℤ_assoc (sign_at p k) (coefficient_at p k j) (x j))
      ∙ sum_to-*ℤ p.columns (sign_at p k) (λ j. coefficient_at p k j *ℤ x j)

  slack_sum : (k : ℕ) (x : ℕ → ℤ) → k < row_count p → sum_to (slacks_before p (row_count p)) (λ s. first_entry p k (p.columns + s) *ℤ x (p.columns + s)) ≡ sign_at p k *ℤ slack_share x k
  unfolding slack_share
  slack_sum k x b = by_kind (kind_at p k) refl
    where
      by_kind : (kind : RowKind) → kind_at p k ≡ kind → sum_to (slacks_before p (row_count p)) (λ s. first_entry p k (p.columns + s) *ℤ x (p.columns + s)) ≡ sign_at p k *ℤ slack_share x k
      by_kind AtMost h =
          sum_to-single (slacks_before p (row_count p)) (slacks_before p k) (λ s. first_entry p k (p.columns + s) *ℤ x (p.columns + s)) (slacks-less k (row_count p) h b)
          (λ s l o. ap (λ z. z *ℤ x (p.columns + s)) (entry-slack k s b l ∙ slack_off k (p.columns + s) (λ e. o (omega arith))) ∙ zero-*ℤ (x (p.columns + s)))
          ∙ ap₂ (λ y z. y *ℤ z) (slack-own k b h) (sym (let e : slack_share x k ≡ x (slack_at p k) = rw h refl in e))
      by_kind Exact h =
          sum_to-zero (slacks_before p (row_count p)) (λ s. first_entry p k (p.columns + s) *ℤ x (p.columns + s))
          (λ s l. ap (λ z. z *ℤ x (p.columns + s)) (entry-slack k s b l ∙ slack_none k h (p.columns + s)) ∙ zero-*ℤ (x (p.columns + s)))
          ∙ sym (ap (λ z. sign_at p k *ℤ z) (let e : slack_share x k ≡ pos 0 = rw h refl in e) ∙ *ℤ-zero (sign_at p k))

  start_sum : (k : ℕ) (x : ℕ → ℤ) → k < row_count p → sum_to (row_count p) (λ i. first_entry p k (column_count p + i) *ℤ x (column_count p + i)) ≡ x (column_count p + k)
  start_sum k x b =
      sum_to-single (row_count p) k (λ i. first_entry p k (column_count p + i) *ℤ x (column_count p + i)) b
      (λ i c o. ap (λ z. z *ℤ x (column_count p + i)) (entry-start k i b c ∙ unit_off (column_count p + i) (column_count p + k) (λ e. o (omega arith))) ∙ zero-*ℤ (x (column_count p + i)))
      ∙ ap (λ z. z *ℤ x (column_count p + k)) (entry-start k k b b ∙ unit_own (column_count p + k))
      ∙ one-*ℤ (x (column_count p + k))

  -- a first row's sum over all columns: that of the program, its slack, and its start column
  pub table_row_sum : (k : ℕ) (x : ℕ → ℤ) → k < row_count p → sum_to (column_count p + row_count p) (λ j. first_entry p k j *ℤ x j) ≡ sign_at p k *ℤ (row_sum p x k +ℤ slack_share x k) +ℤ x (column_count p + k)
  table_row_sum k x b =
      let outer = sum_to-join (column_count p) (row_count p) (λ j. first_entry p k j *ℤ x j) in
      let inner = sum_to-join p.columns (slacks_before p (row_count p)) (λ j. first_entry p k j *ℤ x j) in
      let spread : sign_at p k *ℤ (row_sum p x k +ℤ slack_share x k) ≡ sign_at p k *ℤ row_sum p x k +ℤ sign_at p k *ℤ slack_share x k = *ℤ-+ℤ (sign_at p k) (row_sum p x k) (slack_share x k) in
      omega (arith, linear, outer, inner, spread, program_sum k x b, slack_sum k x b, start_sum k x b)

  -- the main row's sum over all columns is minus the cost
  pub table_main_sum : (x : ℕ → ℤ) → sum_to (column_count p + row_count p) (λ j. first_entry p (row_count p + 1) j *ℤ x j) ≡ neg_ℤ (cost_sum p x)
  table_main_sum x =
      let outer = sum_to-join (column_count p) (row_count p) (λ j. first_entry p (row_count p + 1) j *ℤ x j) in
      let inner = sum_to-join p.columns (slacks_before p (row_count p)) (λ j. first_entry p (row_count p + 1) j *ℤ x j) in
      let starts : sum_to (row_count p) (λ i. first_entry p (row_count p + 1) (column_count p + i) *ℤ x (column_count p + i)) ≡ pos 0 =
      sum_to-zero (row_count p) _ (λ i c. ap (λ z. z *ℤ x (column_count p + i)) (main-rest (column_count p + i) (omega arith)) ∙ zero-*ℤ (x (column_count p + i))) in
      let slacks : sum_to (slacks_before p (row_count p)) (λ s. first_entry p (row_count p + 1) (p.columns + s) *ℤ x (p.columns + s)) ≡ pos 0 =
      sum_to-zero (slacks_before p (row_count p)) _ (λ s l. ap (λ z. z *ℤ x (p.columns + s)) (main-rest (p.columns + s) (omega arith)) ∙ zero-*ℤ (x (p.columns + s))) in
      let costs : sum_to p.columns (λ j. first_entry p (row_count p + 1) j *ℤ x j) ≡ neg_ℤ (cost_sum p x) =
      sum_to-same p.columns _ (λ j. neg_ℤ (cost_at p j *ℤ x j)) (λ j l. ap (λ z. z *ℤ x j) (main-column j l) ∙ neg_ℤ-*ℤ (cost_at p j) (x j))
      ∙ sum_to-neg_ℤ p.columns (λ j. cost_at p j *ℤ x j) in
      omega (arith, linear, outer, inner, starts, slacks, costs)

  -- ---- sums over the rows

  -- a column's sum with the signs of the rows is that of the first rows
  pub table_column_sum : (w : ℕ → ℤ) (j : ℕ) → j < p.columns → column_sum p (λ k. sign_at p k *ℤ w k) j ≡ sum_to (row_count p) (λ k. w k *ℤ first_entry p k j)
  table_column_sum w j l = sum_to-same (row_count p) _ (λ k. w k *ℤ first_entry p k j) (λ k b. turn (coefficient_at p k j) (sign_at p k) (w k) ∙ ap (λ z. w k *ℤ z) (sym (entry-column k j b l)))
    where
      turn : (a s x : ℤ) → a *ℤ (s *ℤ x) ≡ x *ℤ (s *ℤ a)
      turn a s x = simp ring

  pub table_right_sum : (w : ℕ → ℤ) → right_sum p (λ k. sign_at p k *ℤ w k) ≡ sum_to (row_count p) (λ k. w k *ℤ first_entry p k (column_count p + row_count p))
  table_right_sum w = sum_to-same (row_count p) _ (λ k. w k *ℤ first_entry p k (column_count p + row_count p)) (λ k b. turn (right_at p k) (sign_at p k) (w k) ∙ ap (λ z. w k *ℤ z) (sym (entry-right k b)))
    where
      turn : (a s x : ℤ) → a *ℤ (s *ℤ x) ≡ x *ℤ (s *ℤ a)
      turn a s x = simp ring

  -- the slack column of a row gives the row's number with its sign
  pub table_slack_sum : (w : ℕ → ℤ) (k : ℕ) → k < row_count p → kind_at p k ≡ AtMost → sum_to (row_count p) (λ i. w i *ℤ first_entry p i (slack_at p k)) ≡ sign_at p k *ℤ w k
  table_slack_sum w k b h =
      sum_to-single (row_count p) k (λ i. w i *ℤ first_entry p i (slack_at p k)) b (λ i c o. ap (λ z. w i *ℤ z) (slack-other k i b c h o) ∙ *ℤ-zero (w i))
      ∙ ap (λ z. w k *ℤ z) (slack-own k b h) ∙ *ℤ_comm (w k) (sign_at p k)
