-- The rules say something of each table.
use Rattle.std.proofs.Common.{◌≡◌, ◌⊎◌, ℕ, ◌+◌, Option, None, Some, ℤ, pos, ◌<ℤ◌, inl, inr, arith}
use Rattle.md_math.proofs.Ring.{linear}
use Rattle.md_math.proofs.Order.{lt_or_le, lt_or_same_or_gt}
use Rattle.md_dict.specs.Dictionary.{IsDictionary}
use Rattle.md_simplex.specs.declared.order.Order.{Order}
use Rattle.md_simplex.specs.declared.step.Step.{Step}
use Rattle.md_simplex.specs.declared.step.Step.TheVariants as steps
use Rattle.md_simplex.specs.Rules.{IsFirstIn, IsFaceColumn, IsMainColumn, IsFaceOver, IsEntering, IsLeaving, HasNoRow, IsRightNegative, IsInfeasible, IsOptimal, IsNext, HasNext}
use Rattle.md_simplex.specs.Best.{IsLeastBelow, HasNoRowBelow, IsBest}
use Rattle.md_simplex.specs.Columns.{HasNoColumn}
use Rattle.md_simplex.proofs.BestLaws.{best_exists}
use Rattle.md_simplex.proofs.ColumnLaws.{Search, First, Nowhere, search_columns}

module _ (order : Order) (m n : ℕ) (e : ℕ → ℕ → ℤ) where
  -- ---- the row that leaves

  pub leaving_from_best : (c r : ℕ) → IsLeastBelow m n e c m r → IsLeaving m n e c r
  leaving_from_best c r h = record { inside = h.inside; positive = h.positive; least = h.least }

  pub no_row_from_best : (c : ℕ) → HasNoRowBelow e c m → HasNoRow m e c
  no_row_from_best c h = record { none = h.none }

  -- ---- the column that enters

  -- no column has a negative face entry, and the right side has none
  pub face_over : HasNoColumn n (IsFaceColumn m e) → ¬ IsRightNegative m n e → IsFaceOver m n e
  face_over h o = record {
    columns = λ j b. elim (lt_or_le (e m j) (pos 0)) [ inl l ↦ absurd (h.none j b l) | inr l ↦ l ];
    right = elim (lt_or_le (e m (n + m)) (pos 0)) [ inl l ↦ absurd (o l) | inr l ↦ l ];
  }

  pub infeasible : HasNoColumn n (IsFaceColumn m e) → IsRightNegative m n e → IsInfeasible m n e
  infeasible h l = record {
    columns = λ j b. elim (lt_or_le (e m j) (pos 0)) [ inl k ↦ absurd (h.none j b k) | inr k ↦ k ];
    right = l;
  }

  pub optimal : HasNoColumn n (IsFaceColumn m e) → ¬ IsRightNegative m n e → HasNoColumn n (IsMainColumn m e) → IsOptimal m n e
  optimal h o k = record { face = face_over h o; main = k.none }

  pub entering_face : (c : ℕ) → IsFirstIn order n (IsFaceColumn m e) c → IsEntering order m n e c
  entering_face c h = inl h

  pub entering_main : (c : ℕ) → HasNoColumn n (IsFaceColumn m e) → ¬ IsRightNegative m n e → IsFirstIn order n (IsMainColumn m e) c → IsEntering order m n e c
  entering_main c h o f = inr (face_over h o, f)

  -- ---- there is a step

  step_for : (c : ℕ) (best : Option ℕ) → IsEntering order m n e c → IsBest m n e c m best → (step : Step) × IsNext order m n e step
  step_for c None h k = (steps.Unbounded c, (h, no_row_from_best c k))
  step_for c (Some r) h k = (steps.Pivot (record { row = r; column = c }), (h, leaving_from_best c r k))

  step_with : (c : ℕ) → IsEntering order m n e c → (step : Step) × IsNext order m n e step
  step_with c h = step_for c (best_exists m n e c m).0 h (best_exists m n e c m).1

  is_face : (j : ℕ) → IsFaceColumn m e j ⊎ (¬ IsFaceColumn m e j)
  is_face j = elim (lt_or_le (e m j) (pos 0)) [ inl l ↦ inl l | inr l ↦ inr (λ k. omega (arith, linear)) ]

  is_main : (j : ℕ) → IsMainColumn m e j ⊎ (¬ IsMainColumn m e j)
  is_main j = elim (lt_or_same_or_gt (e m j) (pos 0)) [
    | inl l ↦ inr (λ k. (let z : e m j ≡ pos 0 = k.0 in omega (arith, linear)))
    | inr (inl z) ↦ elim (lt_or_le (e (m + 1) j) (pos 0)) [
      | inl l ↦ inl (z, l)
      | inr l ↦ inr (λ k. (let b : e (m + 1) j <ℤ pos 0 = k.1 in omega (arith, linear)))
    ]
    | inr (inr l) ↦ inr (λ k. (let z : e m j ≡ pos 0 = k.0 in omega (arith, linear)))
  ]

  after_face : HasNoColumn n (IsFaceColumn m e) → ¬ IsRightNegative m n e → Search order n (IsMainColumn m e) → (step : Step) × IsNext order m n e step
  after_face h o (First c f) = step_with c (entering_main c h o f)
  after_face h o (Nowhere k) = (steps.Optimal, optimal h o k)

  from_face : Search order n (IsFaceColumn m e) → (step : Step) × IsNext order m n e step
  from_face (First c f) = step_with c (inl f)
  from_face (Nowhere h) = elim (lt_or_le (e m (n + m)) (pos 0)) [
    | inl l ↦ (steps.Infeasible, infeasible h l)
    | inr l ↦ after_face h (λ k. omega (arith, linear)) (search_columns order n (IsMainColumn m e) is_main)
  ]

  pub next_exists : (step : Step) × IsNext order m n e step
  next_exists = from_face (search_columns order n (IsFaceColumn m e) is_face)

-- so a basis with a dictionary has a next step
pub has_next : (order : Order) (m n : ℕ) (t : ℕ → ℕ → ℤ) (basis : ℕ → ℕ) (d : ℤ) (e : ℕ → ℕ → ℤ) → IsDictionary m n t basis d e → (step : Step) × HasNext order m n t basis step
has_next order m n t basis d e h =
    let (step, next) = next_exists order m n e in
    (step, record { den = d; table = e; dictionary = h; next = next })
