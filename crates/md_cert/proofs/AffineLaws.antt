-- Where a worth is an affine function of a program's cost, what a greatest point is worth nothing exceeds.
use Rattle.std.proofs.Common.{◌≡◌, ℕ, ℤ, pos, ◌+ℤ◌, ◌*ℤ◌, ◌≤ℤ◌, ◌<ℤ◌, ap, ◌∙◌, arith}
use Rattle.md_math.proofs.Order.{*ℤ-le, le_from_*ℤ}
use Rattle.md_math.proofs.Ring.{linear, ring}
use Rattle.md_lp.specs.Program.{Program}
use Rattle.md_lp.specs.Affine.{StandsAt}
use Rattle.md_lp.specs.Point.{cost_sum}
use Rattle.md_cert.specs.Claims.{IsOptimalPoint}

module _ (p : Program) (whole : ℤ) (x : ℕ → ℤ) (greatest : IsOptimalPoint p whole x) (base scale times mine : ℤ) (up : pos 0 <ℤ scale) (often : pos 0 <ℤ times) (mine_is : mine ≡ base *ℤ whole +ℤ scale *ℤ cost_sum p x) where
  -- so often one worth by the other denominator
  there : (den worth cost : ℤ) → times *ℤ worth ≡ base *ℤ (times *ℤ den) +ℤ scale *ℤ cost → times *ℤ (worth *ℤ whole) ≡ base *ℤ ((times *ℤ den) *ℤ whole) +ℤ scale *ℤ (whole *ℤ cost)
  there den worth cost e = first times worth whole ∙ ap (λ z. z *ℤ whole) e ∙ second base (times *ℤ den) scale cost whole
    where
      first : (t w d : ℤ) → t *ℤ (w *ℤ d) ≡ (t *ℤ w) *ℤ d
      first t w d = simp ring

      second : (b m s c d : ℤ) → (b *ℤ m +ℤ s *ℤ c) *ℤ d ≡ b *ℤ (m *ℤ d) +ℤ s *ℤ (d *ℤ c)
      second b m s c d = simp ring

  here : (den : ℤ) → times *ℤ (mine *ℤ den) ≡ base *ℤ ((times *ℤ den) *ℤ whole) +ℤ scale *ℤ ((times *ℤ den) *ℤ cost_sum p x)
  here den = ap (λ z. times *ℤ (z *ℤ den)) mine_is ∙ parts times den base whole scale (cost_sum p x)
    where
      parts : (t d b w s c : ℤ) → t *ℤ ((b *ℤ w +ℤ s *ℤ c) *ℤ d) ≡ b *ℤ ((t *ℤ d) *ℤ w) +ℤ s *ℤ ((t *ℤ d) *ℤ c)
      parts t d b w s c = simp ring

  -- what stands at a point is worth no more, by the denominators, than the greatest point
  pub best-affine : (den : ℤ) (y : ℕ → ℤ) (worth : ℤ) → StandsAt p base scale times den y worth → (worth *ℤ whole) ≤ℤ (mine *ℤ den)
  best-affine den y worth stands =
      let costs : (whole *ℤ cost_sum p y) ≤ℤ ((times *ℤ den) *ℤ cost_sum p x) = greatest.greatest (times *ℤ den) y stands.meets in
      let scaled : (scale *ℤ (whole *ℤ cost_sum p y)) ≤ℤ (scale *ℤ ((times *ℤ den) *ℤ cost_sum p x)) = *ℤ-le scale (whole *ℤ cost_sum p y) ((times *ℤ den) *ℤ cost_sum p x) (omega (arith, linear)) costs in
      let left = there den worth (cost_sum p y) stands.costs in
      let right = here den in
      le_from_*ℤ times (worth *ℤ whole) (mine *ℤ den) often (omega (arith, linear))
