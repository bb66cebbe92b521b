-- What is read off a final dictionary, before it is divided, is certified.
use Rattle.std.proofs.Common.{◌≡◌, ◌≢◌, ℕ, ◌+◌, ◌<◌, ◌≤◌, ◌==◌, Bool, true, false, if◌then◌else◌, ℤ, pos, ◌+ℤ◌, ◌-ℤ◌, ◌*ℤ◌, neg_ℤ, ◌≤ℤ◌, ◌<ℤ◌, inl, inr, refl, sym, ap, ◌∙◌, subst, arith, eq-eqb, ne_eqb}
use Rattle.std.proofs.lemmas.Bool.{cases_eq}
use lib.IntN.{*ℤ_comm}
use Rattle.md_math.specs.LexOrder.{IsPairNonNegative}
use Rattle.md_math.specs.Sums.{sum_to}
use Rattle.md_math.proofs.Ring.{linear, *ℤ-zero, *ℤ_left_comm, *ℤ-+ℤ, *ℤ-neg_ℤ}
use Rattle.md_math.proofs.Order.{lt_or_same_or_gt}
use Rattle.md_math.proofs.SumLaws.{sum_to-same, sum_to-+ℤ, sum_to-neg_ℤ, sum_to-at, dot-same}
use Rattle.md_lp.specs.declared.row_kind.RowKind.{RowKind}
use Rattle.md_lp.specs.declared.row_kind.RowKind.TheVariants.{AtMost, Exact}
use Rattle.md_lp.specs.Program.{Program, row_count, kind_at, right_at, coefficient_at, cost_at, Keeps}
use Rattle.md_lp.specs.Point.{Meets, row_sum, cost_sum, column_sum, right_sum}
use Rattle.md_cert.specs.Pairs.{IsPairFor, IsFaceFor, RayKeeps}
use Rattle.md_cert.specs.Certified.{IsOptimalCertified, IsInfeasibleCertified, IsUnboundedCertified, reduced_cost}
use Rattle.md_dict.specs.Dictionary.{IsScaledDictionary}
use Rattle.md_dict.specs.FirstTable.{column_count, sign_at, first_entry}
use Rattle.md_dict.proofs.RawPivot.{basic_own}
use Rattle.md_simplex.specs.Rules.{IsFaceOver, IsOptimal, IsInfeasible, HasNoRow, IsFaceColumn, IsMainColumn}
use Rattle.md_simplex.specs.Reading.{IsAtBasis, IsReadPoint, IsReadRay, face_multiplier, main_multiplier, HasRightSides}
use Rattle.md_simplex.proofs.BasisSums.{at_basis, at_basis-sum, at_basis-other, at_basis-nonneg, basis_cases, at_basis-own, face_nonpos, start_zero, face_nonneg, start_zero_below, main_by_rows}
use Rattle.md_simplex.proofs.ProgramTable.{slack_at, slack_in, entry-right, main-column, main-rest, sign-twice, slack_share, table_row_sum, table_main_sum, table_column_sum, table_right_sum, table_slack_sum}

-- ---- rows

-- a factor that undoes itself is taken away
without_sign : (s d a b : ℤ) → ((x : ℤ) → s *ℤ (s *ℤ x) ≡ x) → s *ℤ a ≡ d *ℤ (s *ℤ b) → a ≡ d *ℤ b
without_sign s d a b h e = sym (h a) ∙ ap (λ z. s *ℤ z) e ∙ *ℤ_left_comm s d (s *ℤ b) ∙ ap (λ z. d *ℤ z) (h b)

-- a sum with a slack that is not negative keeps to its right side
keeps_from : (p : Program) (x : ℕ → ℤ) (k : ℕ) (right : ℤ) → row_sum p x k +ℤ slack_share p x k ≡ right → (kind_at p k ≡ AtMost → pos 0 ≤ℤ x (slack_at p k)) → Keeps (kind_at p k) (row_sum p x k) right
unfolding slack_share
keeps_from p x k right e h = by_kind (kind_at p k) refl
  where
    by_kind : (kind : RowKind) → kind_at p k ≡ kind → Keeps kind (row_sum p x k) right
    by_kind AtMost q =
        let slack : slack_share p x k ≡ x (slack_at p k) = rw q refl in
        let above : pos 0 ≤ℤ x (slack_at p k) = h q in
        omega (arith, linear)
    by_kind Exact q =
        let slack : slack_share p x k ≡ pos 0 = rw q refl in
        omega (arith, linear)

ray_from_keeps : (kind : RowKind) (sum : ℤ) → Keeps kind sum (pos 0) → RayKeeps kind sum
ray_from_keeps AtMost sum h = h
ray_from_keeps Exact sum h = h

pair_for : (p : Program) (k : ℕ) (f m : ℤ) → (kind_at p k ≡ AtMost → IsPairNonNegative f m) → IsPairFor (kind_at p k) f m
pair_for p k f m h = by_kind (kind_at p k) refl
  where
    by_kind : (kind : RowKind) → kind_at p k ≡ kind → IsPairFor kind f m
    by_kind AtMost q = h q
    by_kind Exact q = tt

face_for : (p : Program) (k : ℕ) (f : ℤ) → (kind_at p k ≡ AtMost → pos 0 ≤ℤ f) → IsFaceFor (kind_at p k) f
face_for p k f h = by_kind (kind_at p k) refl
  where
    by_kind : (kind : RowKind) → kind_at p k ≡ kind → IsFaceFor kind f
    by_kind AtMost q = h q
    by_kind Exact q = tt

-- sums see the program's columns alone
row_sum-same : (p : Program) (x y : ℕ → ℤ) (k : ℕ) → ((j : ℕ) → j < p.columns → x j ≡ y j) → row_sum p x k ≡ row_sum p y k
row_sum-same p x y k h = dot-same p.columns (coefficient_at p k) (coefficient_at p k) x y (λ j b. refl) h

cost_sum-same : (p : Program) (x y : ℕ → ℤ) → ((j : ℕ) → j < p.columns → x j ≡ y j) → cost_sum p x ≡ cost_sum p y
cost_sum-same p x y h = dot-same p.columns (cost_at p) (cost_at p) x y (λ j b. refl) h

-- of the optimal rule: the pair of entries of a column
pair_of : (m n : ℕ) (e : ℕ → ℕ → ℤ) → IsOptimal m n e → (j : ℕ) → j < n → IsPairNonNegative (e m j) (e (m + 1) j)
pair_of m n e h j b =
    elim (lt_or_same_or_gt (pos 0) (e m j)) [
      | inl l ↦ inl l
      | inr (inr l) ↦ (let above : pos 0 ≤ℤ e m j = h.face.columns j b in absurd (omega (arith, linear)))
      | inr (inl q) ↦
          elim (lt_or_same_or_gt (pos 0) (e (m + 1) j)) [
            | inl l ↦ inr (sym q, omega (arith, linear))
            | inr (inl r) ↦ inr (sym q, omega (arith, linear))
            | inr (inr l) ↦ absurd (h.main j b (sym q, l))
          ]
    ]

module _ (p : Program) (basis : ℕ → ℕ) (d : ℤ) (e : ℕ → ℕ → ℤ) (s : IsScaledDictionary (row_count p) (column_count p) (first_entry p) basis d e) where
  basis_in : (r : ℕ) → r < row_count p → basis r < column_count p + row_count p
  basis_in = s.columns

  -- the numbers that are read are those at the basis
  at_basis-read : (v x : ℕ → ℤ) → IsAtBasis p.columns (row_count p) basis v x → (j : ℕ) → j < p.columns → x j ≡ at_basis (row_count p) basis v j
  at_basis-read v x h j b =
      elim (basis_cases (row_count p) basis j) [
        | inl found ↦ own found.0 found.1 found.2
        | inr none ↦ h.other j b none ∙ sym (at_basis-other (row_count p) basis v j (λ r c q. absurd (none r c q)))
      ]
    where
      own : (r : ℕ) → r < row_count p → basis r ≡ j → x j ≡ at_basis (row_count p) basis v j
      own r c q =
          ap x (sym q) ∙ h.basic r c (subst (λ i. i < p.columns) (sym q) b)
          ∙ sym (at_basis-own (row_count p) (column_count p) (first_entry p) basis d e s v r c)
          ∙ ap (at_basis (row_count p) basis v) q

  -- ---- the point

  right_side : ℕ → ℤ
  right_side r = e r (column_count p + row_count p)

  point : ℕ → ℤ
  point = at_basis (row_count p) basis right_side

  right_in : column_count p + row_count p < column_count p + row_count p + 1
  right_in = omega arith

  point-row : (sides : HasRightSides (row_count p) (column_count p) e) → pos 0 ≤ℤ e (row_count p) (column_count p + row_count p) → (k : ℕ) → k < row_count p → row_sum p point k +ℤ slack_share p point k ≡ d *ℤ right_at p k
  unfolding point right_side
  point-row sides over k b =
      let sums : d *ℤ first_entry p k (column_count p + row_count p) ≡ sum_to (column_count p + row_count p) (λ j. first_entry p k j *ℤ point j) =
      s.first k (column_count p + row_count p) b right_in ∙ sym (at_basis-sum (row_count p) (column_count p + row_count p) basis right_side (first_entry p k) basis_in) in
      let start : point (column_count p + k) ≡ pos 0 =
      at_basis-other (row_count p) basis right_side (column_count p + k)
      (λ r c q. start_zero (row_count p) (column_count p) (first_entry p) basis d e s (column_count p + row_count p) right_in sides.nonneg over r c (omega arith)) in
      let table : sum_to (column_count p + row_count p) (λ j. first_entry p k j *ℤ point j) ≡ sign_at p k *ℤ (row_sum p point k +ℤ slack_share p point k) +ℤ point (column_count p + k) = table_row_sum p k point b in
      let right : d *ℤ first_entry p k (column_count p + row_count p) ≡ d *ℤ (sign_at p k *ℤ right_at p k) = ap (λ z. d *ℤ z) (entry-right p k b) in
      without_sign (sign_at p k) d (row_sum p point k +ℤ slack_share p point k) (right_at p k) (sign-twice p k) (omega (arith, linear))

  point-nonneg : HasRightSides (row_count p) (column_count p) e → (j : ℕ) → pos 0 ≤ℤ point j
  unfolding point right_side
  point-nonneg sides j = at_basis-nonneg (row_count p) basis right_side j sides.nonneg

  pub read_meets : (x : ℕ → ℤ) → IsReadPoint p basis e x → HasRightSides (row_count p) (column_count p) e → pos 0 ≤ℤ e (row_count p) (column_count p + row_count p) → Meets p d x
  unfolding point right_side
  read_meets x h sides over =
      record {
        point = record { positive = s.positive; nonneg = λ j b. subst (λ z. pos 0 ≤ℤ z) (sym (same j b)) (point-nonneg sides j) };
        rows = record {
          holds = λ k b.
              subst (λ z. Keeps (kind_at p k) z (d *ℤ right_at p k)) (sym (row_sum-same p x point k same))
              (keeps_from p point k (d *ℤ right_at p k) (point-row sides over k b) (λ q. point-nonneg sides (slack_at p k)));
        };
      }
    where
      same : (j : ℕ) → j < p.columns → x j ≡ point j
      same j b = at_basis-read right_side x h j b

  read_cost : (x : ℕ → ℤ) → IsReadPoint p basis e x → cost_sum p x ≡ e (row_count p + 1) (column_count p + row_count p)
  unfolding point right_side
  read_cost x h =
      let main : e (row_count p + 1) (column_count p + row_count p) ≡ d *ℤ first_entry p (row_count p + 1) (column_count p + row_count p) -ℤ sum_to (row_count p) (λ i. first_entry p (row_count p + 1) (basis i) *ℤ right_side i) =
      main_by_rows (row_count p) (column_count p) (first_entry p) basis d e s (column_count p + row_count p) right_in in
      let none : d *ℤ first_entry p (row_count p + 1) (column_count p + row_count p) ≡ pos 0 = ap (λ z. d *ℤ z) (main-rest p (column_count p + row_count p) (omega arith)) ∙ *ℤ-zero d in
      let sums : sum_to (row_count p) (λ i. first_entry p (row_count p + 1) (basis i) *ℤ right_side i) ≡ neg_ℤ (cost_sum p point) =
      sym (at_basis-sum (row_count p) (column_count p + row_count p) basis right_side (first_entry p (row_count p + 1)) basis_in) ∙ table_main_sum p point in
      cost_sum-same p x point (λ j b. at_basis-read right_side x h j b) ∙ (let f : cost_sum p point ≡ e (row_count p + 1) (column_count p + row_count p) = omega (arith, linear) in f)

  -- ---- the multipliers

  face_column_sum : (j : ℕ) → j < p.columns → column_sum p (face_multiplier p e) j ≡ e (row_count p) j
  face_column_sum j b = table_column_sum p (λ k. e (row_count p) (column_count p + k)) j b ∙ sym (s.rows (row_count p) j (omega arith) (omega arith))

  face_right_sum : right_sum p (face_multiplier p e) ≡ e (row_count p) (column_count p + row_count p)
  face_right_sum = table_right_sum p (λ k. e (row_count p) (column_count p + k)) ∙ sym (s.rows (row_count p) (column_count p + row_count p) (omega arith) right_in)

  face_slack : (k : ℕ) → k < row_count p → kind_at p k ≡ AtMost → face_multiplier p e k ≡ e (row_count p) (slack_at p k)
  face_slack k b h =
      sym (table_slack_sum p (λ i. e (row_count p) (column_count p + i)) k b h)
      ∙ sym (s.rows (row_count p) (slack_at p k) (omega arith) (let l : slack_at p k < column_count p = slack_in p k b h in omega arith))

  main_reduced_cost : (j : ℕ) → j < p.columns → reduced_cost p d (main_multiplier p e) j ≡ e (row_count p + 1) j
  main_reduced_cost j b =
      let sum : column_sum p (main_multiplier p e) j ≡ sum_to (row_count p) (λ k. e (row_count p + 1) (column_count p + k) *ℤ first_entry p k j) = table_column_sum p (λ k. e (row_count p + 1) (column_count p + k)) j b in
      let main : e (row_count p + 1) j ≡ d *ℤ first_entry p (row_count p + 1) j +ℤ sum_to (row_count p) (λ k. e (row_count p + 1) (column_count p + k) *ℤ first_entry p k j) = s.main j (omega arith) in
      let cost : d *ℤ first_entry p (row_count p + 1) j ≡ neg_ℤ (d *ℤ cost_at p j) = ap (λ z. d *ℤ z) (main-column p j b) ∙ *ℤ-neg_ℤ d (cost_at p j) in
      omega (arith, linear)

  -- at a column without a cost, the main row is a sum of first rows
  main_rest_sum : (j : ℕ) → p.columns ≤ j → j < column_count p + row_count p + 1 → sum_to (row_count p) (λ k. e (row_count p + 1) (column_count p + k) *ℤ first_entry p k j) ≡ e (row_count p + 1) j
  main_rest_sum j l b =
      let main : e (row_count p + 1) j ≡ d *ℤ first_entry p (row_count p + 1) j +ℤ sum_to (row_count p) (λ k. e (row_count p + 1) (column_count p + k) *ℤ first_entry p k j) = s.main j b in
      let none : d *ℤ first_entry p (row_count p + 1) j ≡ pos 0 = ap (λ z. d *ℤ z) (main-rest p j l) ∙ *ℤ-zero d in
      omega (arith, linear)

  main_right_sum : right_sum p (main_multiplier p e) ≡ e (row_count p + 1) (column_count p + row_count p)
  main_right_sum = table_right_sum p (λ k. e (row_count p + 1) (column_count p + k)) ∙ main_rest_sum (column_count p + row_count p) (omega arith) right_in

  main_slack : (k : ℕ) → k < row_count p → kind_at p k ≡ AtMost → main_multiplier p e k ≡ e (row_count p + 1) (slack_at p k)
  main_slack k b h =
      sym (table_slack_sum p (λ i. e (row_count p + 1) (column_count p + i)) k b h)
      ∙ main_rest_sum (slack_at p k) (omega arith) (let l : slack_at p k < column_count p = slack_in p k b h in omega arith)

  -- ---- certificates

  pub raw_optimal : (x : ℕ → ℤ) → IsReadPoint p basis e x → HasRightSides (row_count p) (column_count p) e → IsOptimal (row_count p) (column_count p) e → IsOptimalCertified p d x d (main_multiplier p e) (face_multiplier p e)
  raw_optimal x h sides last =
      record {
        meets = read_meets x h sides last.face.right;
        positive = s.positive;
        pairs = record { holds = λ k b. pair_for p k (face_multiplier p e k) (main_multiplier p e k) (λ q. at_slack k b q) };
        columns = record { holds = λ j b. at_column j b };
        face_right = face_right_sum ∙ (let over : pos 0 ≤ℤ e (row_count p) (column_count p + row_count p) = last.face.right in let under : e (row_count p) (column_count p + row_count p) ≤ℤ pos 0 = face_nonpos (row_count p) (column_count p) (first_entry p) basis d e s (column_count p + row_count p) right_in sides.nonneg in let z : e (row_count p) (column_count p + row_count p) ≡ pos 0 = omega (arith, linear) in z);
        main_right = ap (λ z. d *ℤ z) (main_right_sum ∙ sym (read_cost x h));
      }
    where
      at_slack : (k : ℕ) → k < row_count p → kind_at p k ≡ AtMost → IsPairNonNegative (face_multiplier p e k) (main_multiplier p e k)
      at_slack k b q = rw (face_slack k b q, main_slack k b q) (pair_of (row_count p) (column_count p) e last (slack_at p k) (slack_in p k b q))

      at_column : (j : ℕ) → j < p.columns → IsPairNonNegative (column_sum p (face_multiplier p e) j) (reduced_cost p d (main_multiplier p e) j)
      at_column j b = rw (face_column_sum j b, main_reduced_cost j b) (pair_of (row_count p) (column_count p) e last j (omega arith))

  pub raw_infeasible : IsInfeasible (row_count p) (column_count p) e → IsInfeasibleCertified p (face_multiplier p e)
  raw_infeasible last = record {
    pairs = record { holds = λ k b. face_for p k (face_multiplier p e k) (λ q. subst (λ z. pos 0 ≤ℤ z) (sym (face_slack k b q)) (last.columns (slack_at p k) (slack_in p k b q))) };
    columns = record { holds = λ j b. subst (λ z. pos 0 ≤ℤ z) (sym (face_column_sum j b)) (last.columns j (omega arith)) };
    face_right = subst (λ z. z <ℤ pos 0) (sym face_right_sum) last.right;
  }

  -- ---- the ray

  module _ (c : ℕ) (c_in : c < column_count p) (no_row : HasNoRow (row_count p) e c) where
    column_in : c < column_count p + row_count p + 1
    column_in = omega arith

    -- the entering column is not basic
    pub not_basic : (r : ℕ) → r < row_count p → basis r ≢ c
    not_basic r a q =
        let own : e r (basis r) ≡ d = s.basic r r a (omega arith) ∙ basic_own (row_count p) (column_count p) r (basis r) d in
        let same : e r (basis r) ≡ e r c = ap (e r) q in
        let below : e r c ≤ℤ pos 0 = no_row.none r a in
        let above : pos 0 <ℤ d = s.positive in
        omega (arith, linear)

    minus_entry : ℕ → ℤ
    minus_entry r = neg_ℤ (e r c)

    entering_share : ℕ → ℤ
    entering_share j = if j == c then d else pos 0

    ray : ℕ → ℤ
    ray j = at_basis (row_count p) basis minus_entry j +ℤ entering_share j

    entering_on : entering_share c ≡ d
    unfolding entering_share
    entering_on = rw (eq-eqb c c refl) refl

    entering_off : (j : ℕ) → j ≢ c → entering_share j ≡ pos 0
    unfolding entering_share
    entering_off j o = rw (ne_eqb j c o) refl

    minus-nonneg : (r : ℕ) → r < row_count p → pos 0 ≤ℤ minus_entry r
    unfolding minus_entry
    minus-nonneg r a = (let below : e r c ≤ℤ pos 0 = no_row.none r a in omega (arith, linear))

    ray-nonneg : (j : ℕ) → pos 0 ≤ℤ ray j
    unfolding ray
    ray-nonneg j =
        let first : pos 0 ≤ℤ at_basis (row_count p) basis minus_entry j = at_basis-nonneg (row_count p) basis minus_entry j minus-nonneg in
        let above : pos 0 <ℤ d = s.positive in
        elim (cases_eq j c) [
          | inl q ↦ (let share : entering_share j ≡ d = ap entering_share q ∙ entering_on in omega (arith, linear))
          | inr o ↦ (let share : entering_share j ≡ pos 0 = entering_off j o in omega (arith, linear))
        ]

    ray-read : (x : ℕ → ℤ) → IsReadRay p basis d e c x → (j : ℕ) → j < p.columns → x j ≡ ray j
    unfolding ray minus_entry
    ray-read x h j b =
        elim (cases_eq j c) [
          | inl q ↦
              let none : at_basis (row_count p) basis minus_entry j ≡ pos 0 = at_basis-other (row_count p) basis minus_entry j (λ r a f. absurd (not_basic r a (f ∙ q))) in
              let share : entering_share j ≡ d = ap entering_share q ∙ entering_on in
              let value : x j ≡ d = ap x q ∙ h.entering (subst (λ i. i < p.columns) q b) in
              omega (arith, linear)
          | inr o ↦
              let share : entering_share j ≡ pos 0 = entering_off j o in
              elim (basis_cases (row_count p) basis j) [
                | inl found ↦ own found.0 found.1 found.2 share
                | inr none ↦
                    let zero : at_basis (row_count p) basis minus_entry j ≡ pos 0 = at_basis-other (row_count p) basis minus_entry j (λ r a f. absurd (none r a f)) in
                    let value : x j ≡ pos 0 = h.other j b o none in
                    omega (arith, linear)
              ]
        ]
      where
        own : (r : ℕ) → r < row_count p → basis r ≡ j → entering_share j ≡ pos 0 → x j ≡ at_basis (row_count p) basis minus_entry j +ℤ entering_share j
        own r a q share =
            let value : x j ≡ neg_ℤ (e r c) = ap x (sym q) ∙ h.basic r a (subst (λ i. i < p.columns) (sym q) b) in
            let at : at_basis (row_count p) basis minus_entry j ≡ neg_ℤ (e r c) = ap (at_basis (row_count p) basis minus_entry) (sym q) ∙ at_basis-own (row_count p) (column_count p) (first_entry p) basis d e s minus_entry r a in
            omega (arith, linear)

    -- the sum of a row over all columns along the ray
    ray-sum : (a : ℕ → ℤ) → sum_to (column_count p + row_count p) (λ j. a j *ℤ ray j) ≡ d *ℤ a c -ℤ sum_to (row_count p) (λ r. a (basis r) *ℤ e r c)
    unfolding ray minus_entry entering_share
    ray-sum a =
        let split : sum_to (column_count p + row_count p) (λ j. a j *ℤ ray j) ≡ sum_to (column_count p + row_count p) (λ j. a j *ℤ at_basis (row_count p) basis minus_entry j) +ℤ sum_to (column_count p + row_count p) (λ j. a j *ℤ entering_share j) =
        sum_to-same (column_count p + row_count p) _ (λ j. a j *ℤ at_basis (row_count p) basis minus_entry j +ℤ a j *ℤ entering_share j) (λ j b. *ℤ-+ℤ (a j) (at_basis (row_count p) basis minus_entry j) (entering_share j))
        ∙ sum_to-+ℤ (column_count p + row_count p) (λ j. a j *ℤ at_basis (row_count p) basis minus_entry j) (λ j. a j *ℤ entering_share j) in
        let first : sum_to (column_count p + row_count p) (λ j. a j *ℤ at_basis (row_count p) basis minus_entry j) ≡ neg_ℤ (sum_to (row_count p) (λ r. a (basis r) *ℤ e r c)) =
        at_basis-sum (row_count p) (column_count p + row_count p) basis minus_entry a basis_in
        ∙ sum_to-same (row_count p) _ (λ r. neg_ℤ (a (basis r) *ℤ e r c)) (λ r b. *ℤ-neg_ℤ (a (basis r)) (e r c))
        ∙ sum_to-neg_ℤ (row_count p) (λ r. a (basis r) *ℤ e r c) in
        let second : sum_to (column_count p + row_count p) (λ j. a j *ℤ entering_share j) ≡ d *ℤ a c =
        sum_to-same (column_count p + row_count p) _ (λ j. if j == c then d *ℤ a j else pos 0) (λ j b. by_test (j == c) (a j))
        ∙ sum_to-at (column_count p + row_count p) c (λ j. d *ℤ a j) (omega arith) in
        omega (arith, linear)
      where
        by_test : (t : Bool) (y : ℤ) → y *ℤ (if t then d else pos 0) ≡ (if t then d *ℤ y else pos 0)
        by_test true y = *ℤ_comm y d
        by_test false y = *ℤ-zero y

    ray-row : e (row_count p) c ≡ pos 0 → (k : ℕ) → k < row_count p → row_sum p ray k +ℤ slack_share p ray k ≡ pos 0
    unfolding ray minus_entry
    ray-row face k b =
        let sums : sum_to (column_count p + row_count p) (λ j. first_entry p k j *ℤ ray j) ≡ pos 0 =
        ray-sum (first_entry p k) ∙ (let f : d *ℤ first_entry p k c ≡ sum_to (row_count p) (λ r. first_entry p k (basis r) *ℤ e r c) = s.first k c b column_in in let z : d *ℤ first_entry p k c -ℤ sum_to (row_count p) (λ r. first_entry p k (basis r) *ℤ e r c) ≡ pos 0 = omega (arith, linear) in z) in
        let none : at_basis (row_count p) basis minus_entry (column_count p + k) ≡ pos 0 =
        at_basis-other (row_count p) basis minus_entry (column_count p + k)
        (λ r a q. (let z : e r c ≡ pos 0 = start_zero_below (row_count p) (column_count p) (first_entry p) basis d e s c column_in no_row.none face r a (omega arith) in let y : neg_ℤ (e r c) ≡ pos 0 = omega (arith, linear) in y)) in
        let share : entering_share (column_count p + k) ≡ pos 0 = entering_off (column_count p + k) (λ q. omega arith) in
        let table : sum_to (column_count p + row_count p) (λ j. first_entry p k j *ℤ ray j) ≡ sign_at p k *ℤ (row_sum p ray k +ℤ slack_share p ray k) +ℤ ray (column_count p + k) = table_row_sum p k ray b in
        let signed : sign_at p k *ℤ (row_sum p ray k +ℤ slack_share p ray k) ≡ pos 0 = omega (arith, linear) in
        sym (sign-twice p k (row_sum p ray k +ℤ slack_share p ray k)) ∙ ap (λ z. sign_at p k *ℤ z) signed ∙ *ℤ-zero (sign_at p k)

    ray-cost : cost_sum p ray ≡ neg_ℤ (e (row_count p + 1) c)
    ray-cost =
        let table : sum_to (column_count p + row_count p) (λ j. first_entry p (row_count p + 1) j *ℤ ray j) ≡ neg_ℤ (cost_sum p ray) = table_main_sum p ray in
        let sums : sum_to (column_count p + row_count p) (λ j. first_entry p (row_count p + 1) j *ℤ ray j) ≡ d *ℤ first_entry p (row_count p + 1) c -ℤ sum_to (row_count p) (λ r. first_entry p (row_count p + 1) (basis r) *ℤ e r c) = ray-sum (first_entry p (row_count p + 1)) in
        let main : e (row_count p + 1) c ≡ d *ℤ first_entry p (row_count p + 1) c -ℤ sum_to (row_count p) (λ i. first_entry p (row_count p + 1) (basis i) *ℤ e i c) = main_by_rows (row_count p) (column_count p) (first_entry p) basis d e s c column_in in
        omega (arith, linear)

    -- no row leaves only where the face row is over
    pub no_face_column : IsFaceColumn (row_count p) e c → ⊥
    no_face_column h = (let above : pos 0 ≤ℤ e (row_count p) c = face_nonneg (row_count p) (column_count p) (first_entry p) basis d e s c column_in no_row.none in omega (arith, linear))

    pub raw_unbounded : (x y : ℕ → ℤ) → IsReadPoint p basis e x → IsReadRay p basis d e c y → HasRightSides (row_count p) (column_count p) e → IsFaceOver (row_count p) (column_count p) e → IsMainColumn (row_count p) e c → IsUnboundedCertified p d x y
    raw_unbounded x y h g sides over main =
        record {
          meets = read_meets x h sides over.right;
          nonneg = λ j b. subst (λ z. pos 0 ≤ℤ z) (sym (ray-read y g j b)) (ray-nonneg j);
          rows = record {
            holds = λ k b.
                subst (λ z. RayKeeps (kind_at p k) z) (sym (row_sum-same p y ray k (ray-read y g)))
                (ray_from_keeps (kind_at p k) (row_sum p ray k) (keeps_from p ray k (pos 0) (ray-row main.0 k b) (λ q. ray-nonneg (slack_at p k))));
          };
          gain = (let cost : cost_sum p y ≡ neg_ℤ (e (row_count p + 1) c) = cost_sum-same p y ray (ray-read y g) ∙ ray-cost in let below : e (row_count p + 1) c <ℤ pos 0 = main.1 in omega (arith, linear));
        }
