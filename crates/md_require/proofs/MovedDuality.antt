-- Weak duality on two levels where right sides have moved: what multipliers with the conditions of a certificate show of points that
-- meet other right sides, where the face multiplier of each row that moved is 0.
use Rattle.std.proofs.Common.{◌≡◌, ℕ, ◌<◌, ℤ, pos, ◌+ℤ◌, ◌-ℤ◌, ◌*ℤ◌, ◌≤ℤ◌, inl, inr, refl, ap, ◌∙◌, arith}
use lib.IntN.{*ℤ_comm}
use Rattle.md_lp.specs.declared.row_kind.RowKind.{RowKind}
use Rattle.md_lp.specs.declared.row_kind.RowKind.TheVariants.{AtMost, Exact}
use Rattle.md_math.specs.FirstFailure.{HoldsBelow}
use Rattle.md_math.specs.LexOrder.{IsPairNonNegative}
use Rattle.md_math.specs.Sums.{dot}
use Rattle.md_math.proofs.Ring.{linear, ring, *ℤ-zero, zero-*ℤ}
use Rattle.md_math.proofs.Order.{nonneg-*ℤ, zero_from_*ℤ}
use Rattle.md_math.proofs.SumLaws.{sum_to-same, sum_to-zero, sum_to-nonneg, sum_to-all_zero, sum_to-sub, +ℤ-dot, dot-same, dot_comm, dot-+ℤ, dot-*ℤ, *ℤ-dot, dot-swap}
use Rattle.md_lp.specs.Program.{Program, row_count, kind_at, right_at, coefficient_at, cost_at, Keeps}
use Rattle.md_lp.specs.Point.{row_sum, cost_sum, column_sum, right_sum}
use Rattle.md_cert.specs.Pairs.{IsPairFor}
use Rattle.md_cert.specs.Certified.{ColumnHolds, PairHolds, reduced_cost}

-- ---- one place: a number s at least 0 with a pair (f, m)

record IsLevel (s f m : ℤ) : Type 0 where
  first : pos 0 ≤ℤ (s *ℤ f)
  second : s *ℤ f ≡ pos 0 → pos 0 ≤ℤ (s *ℤ m)

level_of_pair : (s f m : ℤ) → pos 0 ≤ℤ s → IsPairNonNegative f m → IsLevel s f m
level_of_pair s f m h (inl p) = record {
  first = nonneg-*ℤ s f h (omega (arith, linear));
  second = λ e.
      let z : s ≡ pos 0 = zero_from_*ℤ f s p (*ℤ_comm f s ∙ e) in
      let w : s *ℤ m ≡ pos 0 = rw z (zero-*ℤ m) in
      omega (arith, linear);
}
level_of_pair s f m h (inr p) = record {
  first = nonneg-*ℤ s f h (let e : f ≡ pos 0 = p.0 in omega (arith, linear));
  second = λ e. nonneg-*ℤ s m h p.1;
}

level_of_row : (kind : RowKind) (left right f m : ℤ) → Keeps kind left right → IsPairFor kind f m → IsLevel (right -ℤ left) f m
level_of_row AtMost left right f m h p = level_of_pair (right -ℤ left) f m (omega (arith, linear)) p
level_of_row Exact left right f m h p =
    let z : right -ℤ left ≡ pos 0 = omega (arith, linear) in
    let at : (n : ℤ) → (right -ℤ left) *ℤ n ≡ pos 0 = λ n. rw z (zero-*ℤ n) in
    record { first = (let e = at f in omega (arith, linear)); second = λ _. (let e = at m in omega (arith, linear)) }

-- two lists of places: where the first sum is 0, the second is at least 0
two_levels : (m n : ℕ) (s f g t h k : ℕ → ℤ) → ((i : ℕ) → i < m → IsLevel (s i) (f i) (g i)) → ((j : ℕ) → j < n → IsLevel (t j) (h j) (k j)) → dot m s f +ℤ dot n t h ≡ pos 0
    → pos 0 ≤ℤ (dot m s g +ℤ dot n t k)
two_levels m n s f g t h k rows columns e =
    let a : pos 0 ≤ℤ dot m s f = sum_to-nonneg m _ (λ i b. (rows i b).first) in
    let b : pos 0 ≤ℤ dot n t h = sum_to-nonneg n _ (λ j b. (columns j b).first) in
    let a0 : dot m s f ≤ℤ pos 0 = omega (arith, linear) in
    let b0 : dot n t h ≤ℤ pos 0 = omega (arith, linear) in
    let c : pos 0 ≤ℤ dot m s g = sum_to-nonneg m _ (λ i l. (rows i l).second (sum_to-all_zero m i (λ i. s i *ℤ f i) l (λ i l. (rows i l).first) a0)) in
    let d : pos 0 ≤ℤ dot n t k = sum_to-nonneg n _ (λ j l. (columns j l).second (sum_to-all_zero n j (λ j. t j *ℤ h j) l (λ j l. (columns j l).first) b0)) in
    omega (arith, linear)

-- ---- the sums of a program

module _ (p : Program) (times e : ℤ) (y moved : ℕ → ℤ) where
  -- so many times the right side of a row, and what it moved by
  abbrev right_moved : ℕ → ℤ
  right_moved r = times *ℤ (e *ℤ right_at p r) +ℤ moved r

  -- what a row leaves of it
  abbrev slack_moved : ℕ → ℤ
  slack_moved r = right_moved r -ℤ times *ℤ row_sum p y r

  -- the sums of the rows are the sums of the columns
  sums-swap : (w : ℕ → ℤ) → dot (row_count p) (row_sum p y) w ≡ dot p.columns y (column_sum p w)
  sums-swap w =
      dot_comm (row_count p) (row_sum p y) w
      ∙ dot-swap (row_count p) p.columns w y (coefficient_at p)
      ∙ dot-same p.columns _ (column_sum p w) y y (λ j b. dot_comm (row_count p) w (λ r. coefficient_at p r j)) (λ j b. refl)
      ∙ dot_comm p.columns (column_sum p w) y

  -- multipliers of any sign: the right sides are the slacks and the columns' sums
  right-parts : (w : ℕ → ℤ) → times *ℤ (e *ℤ right_sum p w) +ℤ dot (row_count p) moved w ≡ dot (row_count p) slack_moved w +ℤ dot p.columns (λ j. times *ℤ y j) (column_sum p w)
  right-parts w =
      let m = row_count p in
      let split : dot m slack_moved w ≡ dot m right_moved w -ℤ dot m (λ r. times *ℤ row_sum p y r) w =
      sum_to-same m _ (λ r. right_moved r *ℤ w r -ℤ (times *ℤ row_sum p y r) *ℤ w r) (λ r b. minus-product (right_moved r) (times *ℤ row_sum p y r) (w r))
      ∙ sum_to-sub m (λ r. right_moved r *ℤ w r) (λ r. (times *ℤ row_sum p y r) *ℤ w r) in
      let sides : dot m right_moved w ≡ times *ℤ (e *ℤ right_sum p w) +ℤ dot m moved w =
      +ℤ-dot m (λ r. times *ℤ (e *ℤ right_at p r)) moved w
      ∙ ap (λ z. z +ℤ dot m moved w) (*ℤ-dot m times (λ r. e *ℤ right_at p r) w ∙ ap (λ z. times *ℤ z) (*ℤ-dot m e (right_at p) w)) in
      let rows : dot m (λ r. times *ℤ row_sum p y r) w ≡ times *ℤ dot m (row_sum p y) w = *ℤ-dot m times (row_sum p y) w in
      let swap : times *ℤ dot m (row_sum p y) w ≡ times *ℤ dot p.columns y (column_sum p w) = ap (λ z. times *ℤ z) (sums-swap w) in
      let columns : dot p.columns (λ j. times *ℤ y j) (column_sum p w) ≡ times *ℤ dot p.columns y (column_sum p w) = *ℤ-dot p.columns times y (column_sum p w) in
      omega (arith, linear, split, sides, rows, swap, columns)
    where
      minus-product : (a b c : ℤ) → (a -ℤ b) *ℤ c ≡ a *ℤ c -ℤ b *ℤ c
      minus-product a b c = simp ring (omega (arith, linear))

  -- the columns' sums are the reduced costs and the costs
  column-parts : (over : ℤ) (w : ℕ → ℤ) → dot p.columns (λ j. times *ℤ y j) (column_sum p w) ≡ dot p.columns (λ j. times *ℤ y j) (reduced_cost p over w) +ℤ times *ℤ (over *ℤ cost_sum p y)
  column-parts over w =
      let n = p.columns in
      let t : ℕ → ℤ = λ j. times *ℤ y j in
      let split : dot n t (column_sum p w) ≡ dot n t (λ j. reduced_cost p over w j +ℤ over *ℤ cost_at p j) =
      dot-same n t t _ _ (λ j b. refl) (λ j b. apart (column_sum p w j) (over *ℤ cost_at p j)) in
      let sum : dot n t (λ j. reduced_cost p over w j +ℤ over *ℤ cost_at p j) ≡ dot n t (reduced_cost p over w) +ℤ dot n t (λ j. over *ℤ cost_at p j) =
      dot-+ℤ n t (reduced_cost p over w) (λ j. over *ℤ cost_at p j) in
      let scale : dot n t (λ j. over *ℤ cost_at p j) ≡ times *ℤ (over *ℤ cost_sum p y) =
      *ℤ-dot n times y (λ j. over *ℤ cost_at p j) ∙ ap (λ z. times *ℤ z) (dot-*ℤ n over y (cost_at p) ∙ ap (λ z. over *ℤ z) (dot_comm n y (cost_at p))) in
      omega (arith, linear, split, sum, scale)
    where
      apart : (a b : ℤ) → a ≡ (a -ℤ b) +ℤ b
      apart a b = omega (arith, linear)

  -- ---- the bound

  pub bounded-moved : (over : ℤ) (face main : ℕ → ℤ) → pos 0 ≤ℤ times → ((j : ℕ) → j < p.columns → pos 0 ≤ℤ y j)
      → HoldsBelow (row_count p) (PairHolds p face main) → HoldsBelow p.columns (ColumnHolds p over face main) → right_sum p face ≡ pos 0
      → ((r : ℕ) → r < row_count p → Keeps (kind_at p r) (times *ℤ row_sum p y r) (right_moved r)) → ((r : ℕ) → r < row_count p → moved r *ℤ face r ≡ pos 0)
      → (times *ℤ (over *ℤ cost_sum p y)) ≤ℤ (times *ℤ (e *ℤ right_sum p main) +ℤ dot (row_count p) moved main)
  bounded-moved over face main up nonneg pairs columns vanishes kept firm =
      let m = row_count p in
      let n = p.columns in
      let t : ℕ → ℤ = λ j. times *ℤ y j in
      let rows : (r : ℕ) → r < m → IsLevel (slack_moved r) (face r) (main r) = λ r b. level_of_row (kind_at p r) (times *ℤ row_sum p y r) (right_moved r) (face r) (main r) (kept r b) (pairs.holds r b) in
      let places : (j : ℕ) → j < n → IsLevel (t j) (column_sum p face j) (reduced_cost p over main j) =
      λ j b. level_of_pair (t j) (column_sum p face j) (reduced_cost p over main j) (nonneg-*ℤ times (y j) up (nonneg j b)) (columns.holds j b) in
      let none : times *ℤ (e *ℤ right_sum p face) ≡ pos 0 = rw vanishes (ap (λ z. times *ℤ z) (*ℤ-zero e) ∙ *ℤ-zero times) in
      let still : dot m moved face ≡ pos 0 = sum_to-zero m (λ r. moved r *ℤ face r) firm in
      let first : dot m slack_moved face +ℤ dot n t (column_sum p face) ≡ pos 0 = (let parts = right-parts face in omega (arith, linear, parts, none, still)) in
      let second : pos 0 ≤ℤ (dot m slack_moved main +ℤ dot n t (reduced_cost p over main)) = two_levels m n slack_moved face main t (column_sum p face) (reduced_cost p over main) rows places first in
      let parts = right-parts main in
      let more = column-parts over main in
      omega (arith, linear, second, parts, more)
