-- The certificate that is read off a final dictionary is certified, it fits the program, and there is one.
use Rattle.std.proofs.Common.{◌≡◌, ℕ, suc, ◌<◌, ℤ, pos, ◌+ℤ◌, ◌-ℤ◌, ◌*ℤ◌, neg_ℤ, ◌≤ℤ◌, ◌<ℤ◌, List, inl, inr, refl, sym, ap, ap₂, ◌∙◌, subst, arith}
use Rattle.md_math.specs.LexOrder.{IsPairNonNegative}
use Rattle.md_math.specs.Lists.{number_at}
use Rattle.md_math.proofs.Ring.{linear, ring, *ℤ-zero, *ℤ_assoc, *ℤ-+ℤ, *ℤ-neg_ℤ}
use Rattle.md_math.proofs.Order.{le_from_*ℤ, *ℤ_cancel, nonneg_from_*ℤ, positive_from_*ℤ, zero_from_*ℤ}
use Rattle.md_math.proofs.SumLaws.{dot-same, dot-*ℤ}
use Rattle.md_lp.specs.declared.row_kind.RowKind.{RowKind}
use Rattle.md_lp.specs.declared.row_kind.RowKind.TheVariants.{AtMost, Exact}
use Rattle.md_lp.specs.Program.{Program, row_count, kind_at, right_at, coefficient_at, cost_at, Keeps}
use Rattle.md_lp.specs.Point.{Meets, row_sum, cost_sum, column_sum, right_sum}
use Rattle.md_cert.specs.Pairs.{IsPairFor, IsFaceFor, RayKeeps}
use Rattle.md_cert.specs.Certified.{IsOptimalCertified, IsInfeasibleCertified, IsUnboundedCertified, Certified, reduced_cost}
use Rattle.md_cert.specs.declared.certificate.Certificate.{Certificate}
use Rattle.md_cert.specs.declared.certificate.Certificate.TheVariants as certificates
use Rattle.md_dict.specs.Dictionary.{IsScaledDictionary}
use Rattle.md_dict.specs.FirstTable.{column_count, first_entry}
use Rattle.md_simplex.specs.declared.step.Step.{Step}
use Rattle.md_simplex.specs.declared.step.Step.TheVariants as steps
use Rattle.md_simplex.specs.Rules.{HasNoRow, IsFaceOver, IsMainColumn, IsEntering}
use Rattle.md_simplex.specs.Reading.{face_multiplier, main_multiplier, IsReadOver, IsReading, HasRightSides, IsLast}
use Rattle.md_simplex.proofs.PathLaws.{entering_in}
use Rattle.md_simplex.proofs.RawReading.{raw_optimal, raw_infeasible, raw_unbounded, no_face_column}

-- ---- positive factors of both sides

keeps_without : (kind : RowKind) (g left right : ℤ) → pos 0 <ℤ g → Keeps kind (g *ℤ left) (g *ℤ right) → Keeps kind left right
keeps_without AtMost g left right p h = le_from_*ℤ g left right p h
keeps_without Exact g left right p h = *ℤ_cancel g left right p h

pair_without : (g h f m : ℤ) → pos 0 <ℤ g → pos 0 <ℤ h → IsPairNonNegative (g *ℤ f) (h *ℤ m) → IsPairNonNegative f m
pair_without g h f m p q (inl a) = inl (positive_from_*ℤ g f p a)
pair_without g h f m p q (inr a) = inr (zero_from_*ℤ g f p a.0, nonneg_from_*ℤ h m q a.1)

pair_for_without : (kind : RowKind) (g h f m : ℤ) → pos 0 <ℤ g → pos 0 <ℤ h → IsPairFor kind (g *ℤ f) (h *ℤ m) → IsPairFor kind f m
pair_for_without AtMost g h f m p q a = pair_without g h f m p q a
pair_for_without Exact g h f m p q a = tt

face_for_without : (kind : RowKind) (g f : ℤ) → pos 0 <ℤ g → IsFaceFor kind (g *ℤ f) → IsFaceFor kind f
face_for_without AtMost g f p a = nonneg_from_*ℤ g f p a
face_for_without Exact g f p a = tt

ray_without : (kind : RowKind) (g sum : ℤ) → pos 0 <ℤ g → RayKeeps kind (g *ℤ sum) → RayKeeps kind sum
ray_without AtMost g sum p a = le_from_*ℤ g sum (pos 0) p (let z : g *ℤ pos 0 ≡ pos 0 = *ℤ-zero g in omega (arith, linear))
ray_without Exact g sum p a = zero_from_*ℤ g sum p a

-- ---- sums of a multiple

module _ (p : Program) (g : ℤ) (f x : ℕ → ℤ) where
  row_times : ((j : ℕ) → j < p.columns → f j ≡ g *ℤ x j) → (k : ℕ) → row_sum p f k ≡ g *ℤ row_sum p x k
  row_times h k = dot-same p.columns (coefficient_at p k) (coefficient_at p k) f (λ j. g *ℤ x j) (λ j b. refl) h ∙ dot-*ℤ p.columns g (coefficient_at p k) x

  cost_times : ((j : ℕ) → j < p.columns → f j ≡ g *ℤ x j) → cost_sum p f ≡ g *ℤ cost_sum p x
  cost_times h = dot-same p.columns (cost_at p) (cost_at p) f (λ j. g *ℤ x j) (λ j b. refl) h ∙ dot-*ℤ p.columns g (cost_at p) x

  column_times : ((k : ℕ) → k < row_count p → f k ≡ g *ℤ x k) → (j : ℕ) → column_sum p f j ≡ g *ℤ column_sum p x j
  column_times h j = dot-same (row_count p) (λ r. coefficient_at p r j) (λ r. coefficient_at p r j) f (λ k. g *ℤ x k) (λ k b. refl) h ∙ dot-*ℤ (row_count p) g (λ r. coefficient_at p r j) x

  right_times : ((k : ℕ) → k < row_count p → f k ≡ g *ℤ x k) → right_sum p f ≡ g *ℤ right_sum p x
  right_times h = dot-same (row_count p) (right_at p) (right_at p) f (λ k. g *ℤ x k) (λ k b. refl) h ∙ dot-*ℤ (row_count p) g (right_at p) x

-- ---- lists over a denominator

-- the same factor for the denominator and the numbers
record IsTimes (n : ℕ) (den : ℤ) (f : ℕ → ℤ) (over : ℤ) (x : ℕ → ℤ) : Type 0 where
  by : ℤ
  positive : pos 0 <ℤ by
  den_is : den ≡ by *ℤ over
  numbers : (k : ℕ) → k < n → f k ≡ by *ℤ x k

IsTimes-over : (n : ℕ) (den : ℤ) (f : ℕ → ℤ) (over : ℤ) (xs : List ℤ) → IsReadOver n den f over xs → IsTimes n den f over (number_at xs)
IsTimes-over n den f over xs h = record {
  by = h.reduced.by;
  positive = h.reduced.positive;
  den_is = h.reduced.times 0 (omega arith);
  numbers = λ k b. h.reduced.times (suc k) (omega arith);
}

meets_without : (p : Program) (den : ℤ) (f : ℕ → ℤ) (over : ℤ) (x : ℕ → ℤ) → IsTimes p.columns den f over x → Meets p den f → Meets p over x
meets_without p den f over x t h = record {
  point = record {
    positive = positive_from_*ℤ t.by over t.positive (subst (λ z. pos 0 <ℤ z) t.den_is h.point.positive);
    nonneg = λ j b. nonneg_from_*ℤ t.by (x j) t.positive (subst (λ z. pos 0 ≤ℤ z) (t.numbers j b) (h.point.nonneg j b));
  };
  rows = record {
    holds = λ k b.
        let left : row_sum p f k ≡ t.by *ℤ row_sum p x k = row_times p t.by f x t.numbers k in
        let right : den *ℤ right_at p k ≡ t.by *ℤ (over *ℤ right_at p k) = ap (λ z. z *ℤ right_at p k) t.den_is ∙ *ℤ_assoc t.by over (right_at p k) in
        keeps_without (kind_at p k) t.by (row_sum p x k) (over *ℤ right_at p k) t.positive
        (subst (λ z. Keeps (kind_at p k) z (t.by *ℤ (over *ℤ right_at p k))) left (subst (λ z. Keeps (kind_at p k) (row_sum p f k) z) right (h.rows.holds k b)));
  };
}

-- ---- certificates of multiples

reduced_cost-times : (p : Program) (den : ℤ) (w : ℕ → ℤ) (over : ℤ) (u : ℕ → ℤ) (t : IsTimes (row_count p) den w over u) (j : ℕ) → reduced_cost p den w j ≡ t.by *ℤ reduced_cost p over u j
reduced_cost-times p den w over u t j =
    let sum : column_sum p w j ≡ t.by *ℤ column_sum p u j = column_times p t.by w u t.numbers j in
    let cost : den *ℤ cost_at p j ≡ t.by *ℤ (over *ℤ cost_at p j) = ap (λ z. z *ℤ cost_at p j) t.den_is ∙ *ℤ_assoc t.by over (cost_at p j) in
    ap₂ (λ y z. y -ℤ z) sum cost ∙ apart t.by (column_sum p u j) (over *ℤ cost_at p j)
  where
    apart : (g a b : ℤ) → g *ℤ a -ℤ g *ℤ b ≡ g *ℤ (a -ℤ b)
    apart g a b =
        let minus : a -ℤ b ≡ a +ℤ neg_ℤ b = omega (arith, linear) in
        let split : g *ℤ (a +ℤ neg_ℤ b) ≡ g *ℤ a +ℤ g *ℤ neg_ℤ b = *ℤ-+ℤ g a (neg_ℤ b) in
        let turn : g *ℤ neg_ℤ b ≡ neg_ℤ (g *ℤ b) = *ℤ-neg_ℤ g b in
        let whole : g *ℤ (a -ℤ b) ≡ g *ℤ (a +ℤ neg_ℤ b) = ap (λ z. g *ℤ z) minus in
        omega (arith, linear)

-- what makes two fractions equal stays where a factor of each is taken away
cross_without : (a b over d right cost : ℤ) → pos 0 <ℤ a → pos 0 <ℤ b → (a *ℤ over) *ℤ (b *ℤ right) ≡ (b *ℤ d) *ℤ (a *ℤ cost) → over *ℤ right ≡ d *ℤ cost
cross_without a b over d right cost p q h =
    *ℤ_cancel a (over *ℤ right) (d *ℤ cost) p
    (*ℤ_cancel b (a *ℤ (over *ℤ right)) (a *ℤ (d *ℤ cost)) q
    ((let e : b *ℤ (a *ℤ (over *ℤ right)) ≡ (a *ℤ over) *ℤ (b *ℤ right) = simp ring in e) ∙ h ∙ (let e : (b *ℤ d) *ℤ (a *ℤ cost) ≡ b *ℤ (a *ℤ (d *ℤ cost)) = simp ring in e)))

module _ (p : Program) where
  optimal_without : (den : ℤ) (f w v : ℕ → ℤ) (over : ℤ) (x : ℕ → ℤ) (d : ℤ) (u : ℕ → ℤ) (g : ℤ) (y : ℕ → ℤ) → IsTimes p.columns den f over x → IsTimes (row_count p) den w d u → pos 0 <ℤ g → ((k : ℕ) → k < row_count p → v k ≡ g *ℤ y k) → IsOptimalCertified p den f den w v → IsOptimalCertified p over x d u y
  optimal_without den f w v over x d u g y t r q h c = record {
    meets = meets_without p den f over x t c.meets;
    positive = positive_from_*ℤ r.by d r.positive (subst (λ z. pos 0 <ℤ z) r.den_is c.positive);
    pairs = record { holds = λ k b. pair_for_without (kind_at p k) g r.by (y k) (u k) q r.positive (subst (λ z. IsPairFor (kind_at p k) z (r.by *ℤ u k)) (h k b) (subst (λ z. IsPairFor (kind_at p k) (v k) z) (r.numbers k b) (c.pairs.holds k b))) };
    columns = record { holds = λ j b. pair_without g r.by (column_sum p y j) (reduced_cost p d u j) q r.positive (subst (λ z. IsPairNonNegative z (r.by *ℤ reduced_cost p d u j)) (column_times p g v y h j) (subst (λ z. IsPairNonNegative (column_sum p v j) z) (reduced_cost-times p den w d u r j) (c.columns.holds j b))) };
    face_right = zero_from_*ℤ g (right_sum p y) q (sym (right_times p g v y h) ∙ c.face_right);
    main_right =
        cross_without t.by r.by over d (right_sum p u) (cost_sum p x) t.positive r.positive
        (sym (ap₂ (λ a b. a *ℤ b) t.den_is (right_times p r.by w u r.numbers)) ∙ c.main_right ∙ ap₂ (λ a b. a *ℤ b) r.den_is (cost_times p t.by f x t.numbers));
  }

  infeasible_without : (v : ℕ → ℤ) (g : ℤ) (y : ℕ → ℤ) → pos 0 <ℤ g → ((k : ℕ) → k < row_count p → v k ≡ g *ℤ y k) → IsInfeasibleCertified p v → IsInfeasibleCertified p y
  infeasible_without v g y q h c = record {
    pairs = record { holds = λ k b. face_for_without (kind_at p k) g (y k) q (subst (IsFaceFor (kind_at p k)) (h k b) (c.pairs.holds k b)) };
    columns = record { holds = λ j b. nonneg_from_*ℤ g (column_sum p y j) q (subst (λ z. pos 0 ≤ℤ z) (column_times p g v y h j) (c.columns.holds j b)) };
    face_right =
        let times : right_sum p v ≡ g *ℤ right_sum p y = right_times p g v y h in
        let below : right_sum p v <ℤ pos 0 = c.face_right in
        let minus : g *ℤ neg_ℤ (right_sum p y) ≡ neg_ℤ (g *ℤ right_sum p y) = *ℤ-neg_ℤ g (right_sum p y) in
        let above : pos 0 <ℤ neg_ℤ (right_sum p y) = positive_from_*ℤ g (neg_ℤ (right_sum p y)) q (omega (arith, linear)) in
        omega (arith, linear);
  }

  unbounded_without : (den : ℤ) (f v : ℕ → ℤ) (over : ℤ) (x : ℕ → ℤ) (g : ℤ) (y : ℕ → ℤ) → IsTimes p.columns den f over x → pos 0 <ℤ g → ((j : ℕ) → j < p.columns → v j ≡ g *ℤ y j) → IsUnboundedCertified p den f v → IsUnboundedCertified p over x y
  unbounded_without den f v over x g y t q h c = record {
    meets = meets_without p den f over x t c.meets;
    nonneg = λ j b. nonneg_from_*ℤ g (y j) q (subst (λ z. pos 0 ≤ℤ z) (h j b) (c.nonneg j b));
    rows = record { holds = λ k b. ray_without (kind_at p k) g (row_sum p y k) q (subst (RayKeeps (kind_at p k)) (row_times p g v y h k) (c.rows.holds k b)) };
    gain = positive_from_*ℤ g (cost_sum p y) q (subst (λ z. pos 0 <ℤ z) (cost_times p g v y h) c.gain);
  }

-- ---- the certificate that is read

-- the entering column is one of the program and slack columns
pub last_in : (m n : ℕ) (e : ℕ → ℕ → ℤ) (step : Step) → IsLast m n e step → (column : ℕ) → step ≡ steps.Unbounded column → column < n
last_in m n e step last column same = entering_in last.order m n e column ((subst (IsLast m n e) same last).next.0)

module _ (p : Program) (basis : ℕ → ℕ) (d : ℤ) (e : ℕ → ℕ → ℤ) (s : IsScaledDictionary (row_count p) (column_count p) (first_entry p) basis d e) (sides : HasRightSides (row_count p) (column_count p) e) where
  entering_column : (c : ℕ) → c < column_count p → HasNoRow (row_count p) e c → (last : IsLast (row_count p) (column_count p) e (steps.Unbounded c)) → IsFaceOver (row_count p) (column_count p) e × IsMainColumn (row_count p) e c
  entering_column c b none last = by_entering last.next.0
    where
      by_entering : IsEntering last.order (row_count p) (column_count p) e c → IsFaceOver (row_count p) (column_count p) e × IsMainColumn (row_count p) e c
      by_entering (inl h) = absurd (no_face_column p basis d e s c b none h.holds)
      by_entering (inr h) = (h.0, h.1.holds)

  -- it is certified
  pub reading_certified : (step : Step) (c : Certificate) → IsLast (row_count p) (column_count p) e step → IsReading p basis d e step c → Certified p c
  reading_certified steps.Optimal (certificates.Optimal over point bound) last h =
      optimal_without p d h.0.x (main_multiplier p e) (face_multiplier p e) over (number_at point) bound.den (number_at bound.main) h.1.face.reduced.by (number_at bound.face)
      (IsTimes-over p.columns d h.0.x over point h.0.divided) (IsTimes-over (row_count p) d (main_multiplier p e) bound.den bound.main h.1.main) h.1.face.reduced.positive h.1.face.reduced.times
      (raw_optimal p basis d e s h.0.x h.0.read sides last.next)
  reading_certified steps.Infeasible (certificates.Infeasible face) last h =
      infeasible_without p (face_multiplier p e) h.reduced.by (number_at face) h.reduced.positive h.reduced.times (raw_infeasible p basis d e s last.next)
  reading_certified (steps.Unbounded column) (certificates.Unbounded over point ray) last h =
      let inside : column < column_count p = last_in (row_count p) (column_count p) e (steps.Unbounded column) last column refl in
      let rules = entering_column column inside last.next.1 last in
      unbounded_without p d h.0.x h.1.x over (number_at point) h.1.divided.reduced.by (number_at ray)
      (IsTimes-over p.columns d h.0.x over point h.0.divided) h.1.divided.reduced.positive h.1.divided.reduced.times
      (raw_unbounded p basis d e s column inside last.next.1 h.0.x h.1.x h.0.read h.1.read sides rules.0 rules.1)
  reading_certified (steps.Pivot q) c last h = absurd last.ends
  reading_certified steps.Optimal (certificates.Infeasible face) last h = absurd h
  reading_certified steps.Optimal (certificates.Unbounded over point ray) last h = absurd h
  reading_certified steps.Infeasible (certificates.Optimal over point bound) last h = absurd h
  reading_certified steps.Infeasible (certificates.Unbounded over point ray) last h = absurd h
  reading_certified (steps.Unbounded column) (certificates.Optimal over point bound) last h = absurd h
  reading_certified (steps.Unbounded column) (certificates.Infeasible face) last h = absurd h
