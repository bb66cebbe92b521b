-- How what mechanisms are worth compares, as fractions over their denominators.
use Rattle.std.proofs.Common.{◌≡◌, ◌↔◌, ℤ, pos, ◌*ℤ◌, ◌≤ℤ◌, ◌<ℤ◌, sym, ap, ◌∙◌, subst}
use Rattle.md_math.proofs.Ring.{ring}
use Rattle.md_math.proofs.Order.{*ℤ-le, le_from_*ℤ, le_from_lt, positive-*ℤ, ≤ℤ_trans}

-- a / x ≤ b / y and b / y ≤ c / z give a / x ≤ c / z
pub at_most-chain : (a x b y c z : ℤ) → pos 0 <ℤ x → pos 0 <ℤ y → pos 0 <ℤ z → (a *ℤ y) ≤ℤ (b *ℤ x) → (b *ℤ z) ≤ℤ (c *ℤ y) → (a *ℤ z) ≤ℤ (c *ℤ x)
at_most-chain a x b y c z px py pz first second = le_from_*ℤ y (a *ℤ z) (c *ℤ x) py (≤ℤ_trans (y *ℤ (a *ℤ z)) (z *ℤ (b *ℤ x)) (y *ℤ (c *ℤ x)) left right)
  where
    left : (y *ℤ (a *ℤ z)) ≤ℤ (z *ℤ (b *ℤ x))
    left = subst (λ w. w ≤ℤ (z *ℤ (b *ℤ x))) (turn z a y) (*ℤ-le z (a *ℤ y) (b *ℤ x) (le_from_lt (pos 0) z pz) first)
      where
        turn : (z a y : ℤ) → z *ℤ (a *ℤ y) ≡ y *ℤ (a *ℤ z)
        turn z a y = simp ring

    right : (z *ℤ (b *ℤ x)) ≤ℤ (y *ℤ (c *ℤ x))
    right =
        subst (λ w. w ≤ℤ (y *ℤ (c *ℤ x))) (turn x b z) (subst (λ w. (x *ℤ (b *ℤ z)) ≤ℤ w) (turn x c y) (*ℤ-le x (b *ℤ z) (c *ℤ y) (le_from_lt (pos 0) x px) second))
      where
        turn : (x b z : ℤ) → x *ℤ (b *ℤ z) ≡ z *ℤ (b *ℤ x)
        turn x b z = simp ring

-- ---- values

-- the value a / b of the worth w over m, and the value c / d of the worth v over n, where all profiles weigh t
module _ (a b w m c d v n t : ℤ) (b_above : pos 0 <ℤ b) (d_above : pos 0 <ℤ d) (m_above : pos 0 <ℤ m) (n_above : pos 0 <ℤ n) (t_above : pos 0 <ℤ t)
    (first : a *ℤ (m *ℤ t) ≡ w *ℤ b) (second : c *ℤ (n *ℤ t) ≡ v *ℤ d) where
  -- ((m * t) * (n * t)) * (a * d) is ((b * d) * t) * (w * n)
  left : ((m *ℤ t) *ℤ (n *ℤ t)) *ℤ (a *ℤ d) ≡ ((b *ℤ d) *ℤ t) *ℤ (w *ℤ n)
  left = apart (m *ℤ t) (n *ℤ t) a d ∙ ap (λ z. z *ℤ ((n *ℤ t) *ℤ d)) first ∙ join w b n t d
    where
      apart : (x y a d : ℤ) → (x *ℤ y) *ℤ (a *ℤ d) ≡ (a *ℤ x) *ℤ (y *ℤ d)
      apart x y a d = simp ring

      join : (w b n t d : ℤ) → (w *ℤ b) *ℤ ((n *ℤ t) *ℤ d) ≡ ((b *ℤ d) *ℤ t) *ℤ (w *ℤ n)
      join w b n t d = simp ring

  right : ((m *ℤ t) *ℤ (n *ℤ t)) *ℤ (c *ℤ b) ≡ ((b *ℤ d) *ℤ t) *ℤ (v *ℤ m)
  right = apart (m *ℤ t) (n *ℤ t) c b ∙ ap (λ z. z *ℤ ((m *ℤ t) *ℤ b)) second ∙ join v d m t b
    where
      apart : (x y c b : ℤ) → (x *ℤ y) *ℤ (c *ℤ b) ≡ (c *ℤ y) *ℤ (x *ℤ b)
      apart x y c b = simp ring

      join : (v d m t b : ℤ) → (v *ℤ d) *ℤ ((m *ℤ t) *ℤ b) ≡ ((b *ℤ d) *ℤ t) *ℤ (v *ℤ m)
      join v d m t b = simp ring

  scale : pos 0 <ℤ ((m *ℤ t) *ℤ (n *ℤ t))
  scale = positive-*ℤ (m *ℤ t) (n *ℤ t) (positive-*ℤ m t m_above t_above) (positive-*ℤ n t n_above t_above)

  over : pos 0 <ℤ ((b *ℤ d) *ℤ t)
  over = positive-*ℤ (b *ℤ d) t (positive-*ℤ b d b_above d_above) t_above

  worth-at_most : (a *ℤ d) ≤ℤ (c *ℤ b) → (w *ℤ n) ≤ℤ (v *ℤ m)
  worth-at_most h =
      le_from_*ℤ ((b *ℤ d) *ℤ t) (w *ℤ n) (v *ℤ m) over
      (subst (λ z. z ≤ℤ (((b *ℤ d) *ℤ t) *ℤ (v *ℤ m))) left
      (subst (λ z. (((m *ℤ t) *ℤ (n *ℤ t)) *ℤ (a *ℤ d)) ≤ℤ z) right (*ℤ-le ((m *ℤ t) *ℤ (n *ℤ t)) (a *ℤ d) (c *ℤ b) (le_from_lt (pos 0) ((m *ℤ t) *ℤ (n *ℤ t)) scale) h)))

  value-at_most : (w *ℤ n) ≤ℤ (v *ℤ m) → (a *ℤ d) ≤ℤ (c *ℤ b)
  value-at_most h =
      le_from_*ℤ ((m *ℤ t) *ℤ (n *ℤ t)) (a *ℤ d) (c *ℤ b) scale
      (subst (λ z. z ≤ℤ (((m *ℤ t) *ℤ (n *ℤ t)) *ℤ (c *ℤ b))) (sym left)
      (subst (λ z. (((b *ℤ d) *ℤ t) *ℤ (w *ℤ n)) ≤ℤ z) (sym right) (*ℤ-le ((b *ℤ d) *ℤ t) (w *ℤ n) (v *ℤ m) (le_from_lt (pos 0) ((b *ℤ d) *ℤ t) over) h)))

  -- values compare as the worths do
  pub same-order : ((a *ℤ d) ≤ℤ (c *ℤ b)) ↔ ((w *ℤ n) ≤ℤ (v *ℤ m))
  same-order = (worth-at_most, value-at_most)
