-- Pairs of numbers that are compared by the first, and where these are equal by the second: sums and multiples of positive pairs.
use Rattle.std.proofs.Common.{◌≡◌, ℤ, pos, ◌+ℤ◌, ◌-ℤ◌, ◌*ℤ◌, ◌≤ℤ◌, ◌<ℤ◌, inl, inr, sym, ap, ◌∙◌, subst, arith}
use Rattle.md_math.specs.LexOrder.{IsPairNonNegative, IsPairPositive}
use Rattle.md_math.proofs.Order.{lt_or_same_or_gt, positive-*ℤ, positive_from_*ℤ, zero_from_*ℤ}
use Rattle.md_math.proofs.Ring.{linear, ring, *ℤ-zero}

pub pair-add : (f m g n : ℤ) → IsPairPositive f m → IsPairPositive g n → IsPairPositive (f +ℤ g) (m +ℤ n)
pair-add f m g n (inl h) (inl k) = inl (omega (arith, linear, h, k))
pair-add f m g n (inl h) (inr k) = inl (omega (arith, linear, h, k.0))
pair-add f m g n (inr h) (inl k) = inl (omega (arith, linear, h.0, k))
pair-add f m g n (inr h) (inr k) = inr (omega (arith, linear, h.0, k.0), omega (arith, linear, h.1, k.1))

pub pair-multiple : (c f m : ℤ) → pos 0 <ℤ c → IsPairPositive f m → IsPairPositive (c *ℤ f) (c *ℤ m)
pair-multiple c f m p (inl h) = inl (positive-*ℤ c f p h)
pair-multiple c f m p (inr h) = inr (ap (λ z. c *ℤ z) h.0 ∙ *ℤ-zero c, positive-*ℤ c m p h.1)

-- a positive factor is taken away
pub pair-from_multiple : (c f m : ℤ) → pos 0 <ℤ c → IsPairPositive (c *ℤ f) (c *ℤ m) → IsPairPositive f m
pair-from_multiple c f m p (inl h) = inl (positive_from_*ℤ c f p h)
pair-from_multiple c f m p (inr h) = inr (zero_from_*ℤ c f p h.0, positive_from_*ℤ c m p h.1)

-- a first number that is not negative, and a second one that is positive
pub pair-by_second : (f m : ℤ) → pos 0 ≤ℤ f → pos 0 <ℤ m → IsPairPositive f m
pair-by_second f m h p = elim (lt_or_same_or_gt (pos 0) f) [
  | inl l ↦ inl l
  | inr (inl e) ↦ inr (sym e, p)
  | inr (inr l) ↦ absurd (omega (arith, linear, h, l))
]

-- the first number in other units
pub pair-in_units : (c f d g m : ℤ) → pos 0 <ℤ c → pos 0 <ℤ d → c *ℤ f ≡ d *ℤ g → IsPairNonNegative g m → IsPairNonNegative f m
pair-in_units c f d g m p q e (inl h) = inl (positive_from_*ℤ c f p (subst (λ z. pos 0 <ℤ z) (sym e) (positive-*ℤ d g q h)))
pair-in_units c f d g m p q e (inr h) = inr (zero_from_*ℤ c f p (e ∙ ap (λ z. d *ℤ z) h.0 ∙ *ℤ-zero d), h.1)

-- ---- slopes: pairs over weights, compared crosswise

-- by how much one slope exceeds another, times both weights
abbrev pub more : (s w t v : ℤ) → ℤ
more s w t v = s *ℤ v -ℤ t *ℤ w

-- a slope above one that is above a third is above that
pub above-through : (s h w t i v r j u : ℤ) → pos 0 <ℤ w → pos 0 <ℤ v → pos 0 <ℤ u
    → IsPairPositive (more s w t v) (more h w i v) → IsPairPositive (more t v r u) (more i v j u) → IsPairPositive (more s w r u) (more h w j u)
above-through s h w t i v r j u p q o above below =
    pair-from_multiple v (more s w r u) (more h w j u) q
    (rw (parts s w t v r u, parts h w i v j u)
    (pair-add (u *ℤ more s w t v) (u *ℤ more h w i v) (w *ℤ more t v r u) (w *ℤ more i v j u)
    (pair-multiple u (more s w t v) (more h w i v) o above) (pair-multiple w (more t v r u) (more i v j u) p below)))
  where
    parts : (s w t v r u : ℤ) → v *ℤ (s *ℤ u -ℤ r *ℤ w) ≡ u *ℤ (s *ℤ v -ℤ t *ℤ w) +ℤ w *ℤ (t *ℤ u -ℤ r *ℤ v)
    parts s w t v r u = simp ring (omega (arith, linear))

-- a slope above a positive one is positive
pub positive-through : (s h w t i v : ℤ) → pos 0 <ℤ w → pos 0 <ℤ v → IsPairPositive (more s w t v) (more h w i v) → IsPairPositive t i → IsPairPositive s h
positive-through s h w t i v p q above positive =
    pair-from_multiple v s h q
    (rw (parts s w t v, parts h w i v)
    (pair-add (more s w t v) (more h w i v) (w *ℤ t) (w *ℤ i) above (pair-multiple w t i p positive)))
  where
    parts : (s w t v : ℤ) → v *ℤ s ≡ (s *ℤ v -ℤ t *ℤ w) +ℤ w *ℤ t
    parts s w t v = simp ring (omega (arith, linear))
