-- Weak duality and the lemma of Farkas on two levels: what the conditions of a certificate show of all points.
use Rattle.std.proofs.Common.{◌≡◌, ℕ, ◌<◌, ℤ, pos, ◌+ℤ◌, ◌-ℤ◌, ◌*ℤ◌, ◌≤ℤ◌, ◌<ℤ◌, inl, inr, refl, sym, ap, ◌∙◌, arith}
use Rattle.std.proofs.Common.{Option, None, Some, MatchOption, IfNone}
use Rattle.md_cert.specs.declared.cert_fault.CertFault.{CertFault}
use lib.IntN.{*ℤ_comm}
use Rattle.std.proofs.lemmas.Int.{ints}
use Rattle.md_lp.specs.declared.row_kind.RowKind.{RowKind}
use Rattle.md_lp.specs.declared.row_kind.RowKind.TheVariants.{AtMost, Exact}
use Rattle.md_math.specs.FirstFailure.{HoldsBelow}
use Rattle.md_math.specs.Sums.{dot}
use Rattle.md_math.proofs.Ring.{linear, ring, *ℤ-zero, *ℤ-one, zero-*ℤ, *ℤ_left_comm}
use Rattle.md_math.proofs.Order.{nonneg-*ℤ, *ℤ-le, *ℤ-lt, le_from_*ℤ, zero_from_*ℤ}
use Rattle.md_math.proofs.SumLaws.{sum_to-same, sum_to-nonneg, sum_to-all_zero, sum_to-sub, dot-same, dot_comm, dot-+ℤ, dot-*ℤ, *ℤ-dot, dot-swap, dot-nonneg}
use Rattle.md_lp.specs.Program.{Program, row_count, kind_at, right_at, coefficient_at, cost_at, Keeps}
use Rattle.md_lp.specs.Point.{Meets, row_sum, cost_sum, column_sum, right_sum}
use Rattle.md_math.specs.LexOrder.{IsPairNonNegative}
use Rattle.md_cert.specs.Pairs.{IsPairFor, IsFaceFor, RayKeeps}
use Rattle.md_cert.specs.Claims.{IsOptimalPoint, HasNoPoint, GrowsAlong, along}
use Rattle.md_cert.specs.Certified.{IsOptimalCertified, IsInfeasibleCertified, IsUnboundedCertified, Certified, Claims, reduced_cost}
use Rattle.md_cert.specs.declared.certificate.Certificate.{Certificate}
use Rattle.md_cert.specs.declared.certificate.Certificate.TheVariants.{Optimal, Infeasible, Unbounded}
use Rattle.md_math.specs.Lists.{number_at}

-- ---- one place: a number s at least 0 with a pair (f, m)

-- what a place adds to the two sums
record IsLevel (s f m : ℤ) : Type 0 where
  first : pos 0 ≤ℤ (s *ℤ f)
  second : s *ℤ f ≡ pos 0 → pos 0 ≤ℤ (s *ℤ m)

level_of_pair : (s f m : ℤ) → pos 0 ≤ℤ s → IsPairNonNegative f m → IsLevel s f m
level_of_pair s f m h (inl p) = record {
  first = nonneg-*ℤ s f h (omega (arith, linear));
  second = λ e.
      let z : s ≡ pos 0 = zero_from_*ℤ f s p (*ℤ_comm f s ∙ e) in
      let w : s *ℤ m ≡ pos 0 = rw z (zero-*ℤ m) in
      omega (arith, linear);
}
level_of_pair s f m h (inr p) = record {
  first = nonneg-*ℤ s f h (let e : f ≡ pos 0 = p.0 in omega (arith, linear));
  second = λ e. nonneg-*ℤ s m h p.1;
}

-- the slack of a row that keeps to its right side
level_of_row : (kind : RowKind) (left right f m : ℤ) → Keeps kind left right → IsPairFor kind f m → IsLevel (right -ℤ left) f m
level_of_row AtMost left right f m h p = level_of_pair (right -ℤ left) f m (omega (arith, linear)) p
level_of_row Exact left right f m h p =
    let z : right -ℤ left ≡ pos 0 = omega (arith, linear) in
    let at : (n : ℤ) → (right -ℤ left) *ℤ n ≡ pos 0 = λ n. rw z (zero-*ℤ n) in
    record { first = (let e = at f in omega (arith, linear)); second = λ _. (let e = at m in omega (arith, linear)) }

-- ---- two lists of places: where the first sum is 0, the second is at least 0
two_levels : (m n : ℕ) (s f g t h k : ℕ → ℤ) → ((i : ℕ) → i < m → IsLevel (s i) (f i) (g i)) → ((j : ℕ) → j < n → IsLevel (t j) (h j) (k j)) → dot m s f +ℤ dot n t h ≡ pos 0 → pos 0 ≤ℤ (dot m s g +ℤ dot n t k)
two_levels m n s f g t h k rows columns e =
    let a : pos 0 ≤ℤ dot m s f = sum_to-nonneg m _ (λ i b. (rows i b).first) in
    let b : pos 0 ≤ℤ dot n t h = sum_to-nonneg n _ (λ j b. (columns j b).first) in
    let a0 : dot m s f ≤ℤ pos 0 = omega (arith, linear) in
    let b0 : dot n t h ≤ℤ pos 0 = omega (arith, linear) in
    let c : pos 0 ≤ℤ dot m s g = sum_to-nonneg m _ (λ i l. (rows i l).second (sum_to-all_zero m i (λ i. s i *ℤ f i) l (λ i l. (rows i l).first) a0)) in
    let d : pos 0 ≤ℤ dot n t k = sum_to-nonneg n _ (λ j l. (columns j l).second (sum_to-all_zero n j (λ j. t j *ℤ h j) l (λ j l. (columns j l).first) b0)) in
    omega (arith, linear)

-- ---- the sums of a program

-- what a row leaves of its right side
slack : Program → ℤ → (ℕ → ℤ) → ℕ → ℤ
slack p e y r = e *ℤ right_at p r -ℤ row_sum p y r

-- the sums of the rows are the sums of the columns
sums-swap : (p : Program) (w y : ℕ → ℤ) → dot (row_count p) (row_sum p y) w ≡ dot p.columns y (column_sum p w)
sums-swap p w y =
    dot_comm (row_count p) (row_sum p y) w
    ∙ dot-swap (row_count p) p.columns w y (coefficient_at p)
    ∙ dot-same p.columns _ (column_sum p w) y y (λ j b. dot_comm (row_count p) w (λ r. coefficient_at p r j)) (λ j b. refl)
    ∙ dot_comm p.columns (column_sum p w) y

-- multipliers of any sign: the right sides are the slacks and the columns' sums
right_sum-parts : (p : Program) (e : ℤ) (w y : ℕ → ℤ) → e *ℤ right_sum p w ≡ dot (row_count p) (slack p e y) w +ℤ dot p.columns y (column_sum p w)
unfolding slack
right_sum-parts p e w y =
    let m = row_count p in
    let split : dot m (λ r. e *ℤ right_at p r -ℤ row_sum p y r) w ≡ dot m (λ r. e *ℤ right_at p r) w -ℤ dot m (row_sum p y) w =
    sum_to-same m _ (λ r. (e *ℤ right_at p r) *ℤ w r -ℤ row_sum p y r *ℤ w r) (λ r b. minus-product (e *ℤ right_at p r) (row_sum p y r) (w r))
    ∙ sum_to-sub m (λ r. (e *ℤ right_at p r) *ℤ w r) (λ r. row_sum p y r *ℤ w r) in
    let scale : dot m (λ r. e *ℤ right_at p r) w ≡ e *ℤ right_sum p w = *ℤ-dot m e (right_at p) w in
    let swap : dot m (row_sum p y) w ≡ dot p.columns y (column_sum p w) = sums-swap p w y in
    omega (arith, linear)
  where
    minus-product : (a b c : ℤ) → (a -ℤ b) *ℤ c ≡ a *ℤ c -ℤ b *ℤ c
    minus-product a b c = simp ring (omega (arith, linear))

-- the columns' sums are the reduced costs and the costs
column_sum-parts : (p : Program) (over : ℤ) (w y : ℕ → ℤ) → dot p.columns y (column_sum p w) ≡ dot p.columns y (reduced_cost p over w) +ℤ over *ℤ cost_sum p y
column_sum-parts p over w y =
    let n = p.columns in
    let split : dot n y (column_sum p w) ≡ dot n y (λ j. reduced_cost p over w j +ℤ over *ℤ cost_at p j) =
    dot-same n y y _ _ (λ j b. refl) (λ j b. apart (column_sum p w j) (over *ℤ cost_at p j)) in
    let sum : dot n y (λ j. reduced_cost p over w j +ℤ over *ℤ cost_at p j) ≡ dot n y (reduced_cost p over w) +ℤ dot n y (λ j. over *ℤ cost_at p j) =
    dot-+ℤ n y (reduced_cost p over w) (λ j. over *ℤ cost_at p j) in
    let scale : dot n y (λ j. over *ℤ cost_at p j) ≡ over *ℤ dot n y (cost_at p) = dot-*ℤ n over y (cost_at p) in
    let turn : over *ℤ dot n y (cost_at p) ≡ over *ℤ cost_sum p y = ap (λ z. over *ℤ z) (dot_comm n y (cost_at p)) in
    omega (arith, linear)
  where
    apart : (a b : ℤ) → a ≡ (a -ℤ b) +ℤ b
    apart a b = omega (arith, linear)

-- ---- the claims

-- multipliers whose face sum vanishes bound the cost of each point
bounded : (p : Program) (over e : ℤ) (face main y : ℕ → ℤ) → Meets p e y → HoldsBelow (row_count p) (λ r. IsPairFor (kind_at p r) (face r) (main r)) → HoldsBelow p.columns (λ j. IsPairNonNegative (column_sum p face j) (reduced_cost p over main j)) → right_sum p face ≡ pos 0 → (over *ℤ cost_sum p y) ≤ℤ (e *ℤ right_sum p main)
unfolding slack
bounded p over e face main y meets pairs columns vanishes =
    let rows : (r : ℕ) → r < row_count p → IsLevel (slack p e y r) (face r) (main r) =
    λ r b. level_of_row (kind_at p r) (row_sum p y r) (e *ℤ right_at p r) (face r) (main r) (meets.rows.holds r b) (pairs.holds r b) in
    let places : (j : ℕ) → j < p.columns → IsLevel (y j) (column_sum p face j) (reduced_cost p over main j) =
    λ j b. level_of_pair (y j) (column_sum p face j) (reduced_cost p over main j) (meets.point.nonneg j b) (columns.holds j b) in
    let none : e *ℤ right_sum p face ≡ pos 0 = rw vanishes (*ℤ-zero e) in
    let first : dot (row_count p) (slack p e y) face +ℤ dot p.columns y (column_sum p face) ≡ pos 0 = sym (right_sum-parts p e face y) ∙ none in
    let second : pos 0 ≤ℤ (dot (row_count p) (slack p e y) main +ℤ dot p.columns y (reduced_cost p over main)) =
    two_levels (row_count p) p.columns (slack p e y) face main y (column_sum p face) (reduced_cost p over main) rows places first in
    let parts : e *ℤ right_sum p main ≡ dot (row_count p) (slack p e y) main +ℤ dot p.columns y (column_sum p main) = right_sum-parts p e main y in
    let more : dot p.columns y (column_sum p main) ≡ dot p.columns y (reduced_cost p over main) +ℤ over *ℤ cost_sum p y = column_sum-parts p over main y in
    omega (arith, linear)

-- fractions: a bound that is the cost of a point is at least the cost of the others
greatest_by_bound : (den e over bound here there : ℤ) → pos 0 <ℤ den → pos 0 <ℤ over → (over *ℤ there) ≤ℤ (e *ℤ bound) → den *ℤ bound ≡ over *ℤ here → (den *ℤ there) ≤ℤ (e *ℤ here)
greatest_by_bound den e over bound here there p q h k =
    let a : (den *ℤ (over *ℤ there)) ≤ℤ (den *ℤ (e *ℤ bound)) = *ℤ-le den (over *ℤ there) (e *ℤ bound) (omega (arith, linear)) h in
    let b : den *ℤ (over *ℤ there) ≡ over *ℤ (den *ℤ there) = *ℤ_left_comm den over there in
    let c : den *ℤ (e *ℤ bound) ≡ over *ℤ (e *ℤ here) = *ℤ_left_comm den e bound ∙ ap (λ z. e *ℤ z) k ∙ *ℤ_left_comm e over here in
    le_from_*ℤ over (den *ℤ there) (e *ℤ here) q (omega (arith, linear))

pub optimal-claim : (p : Program) (den over : ℤ) (point main face : ℕ → ℤ) → IsOptimalCertified p den point over main face → IsOptimalPoint p den point
optimal-claim p den over point main face c = record {
  meets = c.meets;
  greatest = λ e y meets.
      greatest_by_bound den e over (right_sum p main) (cost_sum p point) (cost_sum p y) c.meets.point.positive c.positive
      (bounded p over e face main y meets c.pairs c.columns c.face_right) c.main_right;
}

-- ---- no point

-- a multiplier's share of a row's slack
row_share : (kind : RowKind) (left right f : ℤ) → Keeps kind left right → IsFaceFor kind f → pos 0 ≤ℤ ((right -ℤ left) *ℤ f)
row_share AtMost left right f h p = nonneg-*ℤ (right -ℤ left) f (omega (arith, linear)) p
row_share Exact left right f h p = (level_of_row Exact left right f (pos 0) h tt).first

pub infeasible-claim : (p : Program) (face : ℕ → ℤ) → IsInfeasibleCertified p face → HasNoPoint p
unfolding slack
infeasible-claim p face c = record {
  none = λ e y meets.
      let rows : pos 0 ≤ℤ dot (row_count p) (slack p e y) face =
      sum_to-nonneg (row_count p) _ (λ r b. row_share (kind_at p r) (row_sum p y r) (e *ℤ right_at p r) (face r) (meets.rows.holds r b) (c.pairs.holds r b)) in
      let columns : pos 0 ≤ℤ dot p.columns y (column_sum p face) = dot-nonneg p.columns y (column_sum p face) meets.point.nonneg c.columns.holds in
      let parts : e *ℤ right_sum p face ≡ dot (row_count p) (slack p e y) face +ℤ dot p.columns y (column_sum p face) = right_sum-parts p e face y in
      let negative : (e *ℤ right_sum p face) <ℤ (e *ℤ pos 0) = *ℤ-lt e (right_sum p face) (pos 0) meets.point.positive c.face_right in
      let zero : e *ℤ pos 0 ≡ pos 0 = *ℤ-zero e in
      omega (arith, linear);
}

-- ---- no end

-- a row's sum along the ray
row_sum-along : (p : Program) (x ray : ℕ → ℤ) (k r : ℕ) → row_sum p (along x k ray) r ≡ row_sum p x r +ℤ pos k *ℤ row_sum p ray r
row_sum-along p x ray k r = dot-+ℤ p.columns (coefficient_at p r) x (λ j. pos k *ℤ ray j) ∙ ap (λ z. row_sum p x r +ℤ z) (dot-*ℤ p.columns (pos k) (coefficient_at p r) ray)

cost_sum-along : (p : Program) (x ray : ℕ → ℤ) (k : ℕ) → cost_sum p (along x k ray) ≡ cost_sum p x +ℤ pos k *ℤ cost_sum p ray
cost_sum-along p x ray k = dot-+ℤ p.columns (cost_at p) x (λ j. pos k *ℤ ray j) ∙ ap (λ z. cost_sum p x +ℤ z) (dot-*ℤ p.columns (pos k) (cost_at p) ray)

-- a number at least 0 times a number that is at most 0, or 0
kept_along : (kind : RowKind) (left right step : ℤ) (k : ℕ) → Keeps kind left right → RayKeeps kind step → Keeps kind (left +ℤ pos k *ℤ step) right
kept_along AtMost left right step k h s =
    let m : (pos k *ℤ step) ≤ℤ (pos k *ℤ pos 0) = *ℤ-le (pos k) step (pos 0) (omega (arith, ints)) s in
    let z : pos k *ℤ pos 0 ≡ pos 0 = *ℤ-zero (pos k) in
    omega (arith, linear)
kept_along Exact left right step k h s =
    let z : pos k *ℤ step ≡ pos 0 = rw s (*ℤ-zero (pos k)) in
    omega (arith, linear)

pub unbounded-claim : (p : Program) (den : ℤ) (point ray : ℕ → ℤ) → IsUnboundedCertified p den point ray → GrowsAlong p den point ray
unbounded-claim p den point ray c = record {
  meets = λ k. record {
    point = record {
      positive = c.meets.point.positive;
      nonneg = λ j b.
          let a : pos 0 ≤ℤ point j = c.meets.point.nonneg j b in
          let s : pos 0 ≤ℤ (pos k *ℤ ray j) = nonneg-*ℤ (pos k) (ray j) (omega (arith, ints)) (c.nonneg j b) in
          omega (arith, linear);
    };
    rows = record { holds = λ r b. rw (row_sum-along p point ray k r) (kept_along (kind_at p r) (row_sum p point r) (den *ℤ right_at p r) (row_sum p ray r) k (c.meets.rows.holds r b) (c.rows.holds r b)) };
  };
  gains = λ k.
      let along : cost_sum p (along point k ray) ≡ cost_sum p point +ℤ pos k *ℤ cost_sum p ray = cost_sum-along p point ray k in
      let one : pos 1 ≤ℤ cost_sum p ray = (let g = c.gain in omega (arith, ints, linear)) in
      let more : (pos k *ℤ pos 1) ≤ℤ (pos k *ℤ cost_sum p ray) = *ℤ-le (pos k) (pos 1) (cost_sum p ray) (omega (arith, ints)) one in
      let same : pos k *ℤ pos 1 ≡ pos k = *ℤ-one (pos k) in
      omega (arith, linear);
}

-- ---- whatever a certificate claims is so
pub claims : (p : Program) (c : Certificate) → Certified p c → Claims p c
claims p (Optimal den point bound) c = optimal-claim p den bound.den (number_at point) (number_at bound.main) (number_at bound.face) c
claims p (Infeasible face) c = infeasible-claim p (number_at face) c
claims p (Unbounded den point ray) c = unbounded-claim p den (number_at point) (number_at ray) c

-- what a check that finds no fault has shown
pub IfNone-claims : (p : Program) (c : Certificate) (r : Option CertFault) (F : CertFault → Type 0) → MatchOption r (Certified p c) F → IfNone r (Claims p c)
IfNone-claims p c None F h = claims p c h
IfNone-claims p c (Some fault) F h = tt
