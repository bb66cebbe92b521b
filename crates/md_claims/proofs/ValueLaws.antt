-- A fraction is a mechanism's value exactly where it is the value in least terms.
use Rattle.std.proofs.Common.{◌≡◌, ℕ, ◌<◌, false, ℤ, pos, ◌*ℤ◌, ◌<ℤ◌, sym, ap, ◌∙◌, arith}
use Rattle.std.proofs.lemmas.Int.{ints}
use lib.Signed.{lt_z}
use Rattle.md_math.proofs.Ring.{ring}
use Rattle.md_math.proofs.Order.{*ℤ_cancel}

-- a over b is the value w over t in least terms
pub same_value : (a b n d w t : ℤ) → pos 0 <ℤ b → a *ℤ t ≡ w *ℤ b → a *ℤ d ≡ n *ℤ b → n *ℤ t ≡ w *ℤ d
same_value a b n d w t above value same =
    *ℤ_cancel b (n *ℤ t) (w *ℤ d) above (first b n t ∙ ap (λ z. z *ℤ t) (sym same) ∙ second a d t ∙ ap (λ z. z *ℤ d) value ∙ third w b d)
  where
    first : (b n t : ℤ) → b *ℤ (n *ℤ t) ≡ (n *ℤ b) *ℤ t
    first b n t = simp ring

    second : (a d t : ℤ) → (a *ℤ d) *ℤ t ≡ (a *ℤ t) *ℤ d
    second a d t = simp ring

    third : (w b d : ℤ) → (w *ℤ b) *ℤ d ≡ b *ℤ (w *ℤ d)
    third w b d = simp ring

pub same_least : (a b n d w t : ℤ) → pos 0 <ℤ t → a *ℤ t ≡ w *ℤ b → n *ℤ t ≡ w *ℤ d → a *ℤ d ≡ n *ℤ b
same_least a b n d w t above value same =
    *ℤ_cancel t (a *ℤ d) (n *ℤ b) above (first a d t ∙ ap (λ z. z *ℤ d) value ∙ second w b d ∙ ap (λ z. z *ℤ b) (sym same) ∙ third n t b)
  where
    first : (a d t : ℤ) → t *ℤ (a *ℤ d) ≡ (a *ℤ t) *ℤ d
    first a d t = simp ring

    second : (w b d : ℤ) → (w *ℤ b) *ℤ d ≡ (w *ℤ d) *ℤ b
    second w b d = simp ring

    third : (n t b : ℤ) → (n *ℤ t) *ℤ b ≡ t *ℤ (n *ℤ b)
    third n t b = simp ring

pub same_parts : (a b p q n d : ℤ) → a *ℤ d ≡ n *ℤ b → (a ≡ p) × (b ≡ q) → p *ℤ d ≡ n *ℤ q
same_parts a b p q n d value same = ap (λ z. z *ℤ d) (sym same.0) ∙ value ∙ ap (λ z. n *ℤ z) same.1

-- a positive number is above 0
pub never_below : (n : ℕ) → 0 < n → lt_z (pos 0) (pos n) ≡ false → ⊥
never_below n above off = grind (arith, ints)
