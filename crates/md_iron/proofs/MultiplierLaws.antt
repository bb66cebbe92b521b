-- What a row is multiplied by, by its kind.
use Rattle.std.proofs.Common.{◌≡◌, ◌≢◌, ℕ, ◌+◌, ℤ, pos, ◌+ℤ◌, ◌*ℤ◌, refl, sym, ap, ◌∙◌, eq-eqb, ne_eqb}
use Rattle.md_num.specs.declared.frac.Frac.{Frac}
use Rattle.md_setting.specs.Auction.{SymmetricAuction, total_weight}
use Rattle.md_iron_values.specs.Gaps.{gap_in, scale_in}
use Rattle.md_iron_values.specs.Odds.{share_den}
use Rattle.md_iron_values.specs.Pools.{Pools}
use Rattle.md_iron_values.specs.VirtualValues.{weight_from}
use Rattle.md_iron_laws.specs.Multipliers.{apart_by, steeper_by, steeper_den}
use Rattle.md_iron_laws.specs.Rows.{truth_row, rational_row, cut_row}
use Rattle.md_iron.specs.RowMultipliers.{IsMultiplierOf}

-- a fraction that is known by other names of its numbers
pub ratio-is : (p q x y num den : ℤ) → p *ℤ y ≡ x *ℤ q → x ≡ num → y ≡ den → p *ℤ den ≡ num *ℤ q
ratio-is p q x y num den e f g = ap (λ z. p *ℤ z) (sym g) ∙ e ∙ ap (λ z. z *ℤ q) f

-- a value and the next one above
pub multiplier-up : (a : SymmetricAuction) (pools : Pools) (factor : ℤ) (divisor : ℕ → ℤ) (v w : ℕ) (f : Frac) → w ≡ v + 1
    → f.num *ℤ (scale_in a pools w *ℤ (apart_by a w v *ℤ factor)) ≡ gap_in a pools w *ℤ f.den → IsMultiplierOf a pools factor divisor (truth_row v w) f
multiplier-up a pools factor divisor v w f e h = record { ratio = rw (eq-eqb w (v + 1) e) h }

-- a value and the next one below
pub multiplier-down : (a : SymmetricAuction) (pools : Pools) (factor : ℤ) (divisor : ℕ → ℤ) (v w : ℕ) (f : Frac) → w ≢ v + 1 → v ≡ w + 1
    → f.num *ℤ (scale_in a pools v *ℤ (apart_by a v w *ℤ factor)) ≡ (a.revenue *ℤ (weight_from a v *ℤ (scale_in a pools v *ℤ apart_by a v w)) +ℤ gap_in a pools v) *ℤ f.den
    → IsMultiplierOf a pools factor divisor (truth_row v w) f
multiplier-down a pools factor divisor v w f n e h = record { ratio = rw (ne_eqb w (v + 1) n, eq-eqb v (w + 1) e) h }

-- two values that are not next to each other
pub multiplier-apart : (a : SymmetricAuction) (pools : Pools) (factor : ℤ) (divisor : ℕ → ℤ) (v w : ℕ) → w ≢ v + 1 → v ≢ w + 1 → IsMultiplierOf a pools factor divisor (truth_row v w) (record { num = pos 0; den = pos 1 })
multiplier-apart a pools factor divisor v w n o = record { ratio = rw (ne_eqb w (v + 1) n, ne_eqb v (w + 1) o) refl }

-- the lowest value takes part
pub multiplier-lowest : (a : SymmetricAuction) (pools : Pools) (factor : ℤ) (divisor : ℕ → ℤ) (v : ℕ) (f : Frac) → v ≡ 0 → f.num *ℤ factor ≡ (a.revenue *ℤ pos (total_weight a.weights)) *ℤ f.den
    → IsMultiplierOf a pools factor divisor (rational_row v) f
multiplier-lowest a pools factor divisor v f e h = record { ratio = rw (eq-eqb v 0 e) h }

-- a higher value does
pub multiplier-higher : (a : SymmetricAuction) (pools : Pools) (factor : ℤ) (divisor : ℕ → ℤ) (v : ℕ) → v ≢ 0 → IsMultiplierOf a pools factor divisor (rational_row v) (record { num = pos 0; den = pos 1 })
multiplier-higher a pools factor divisor v n = record { ratio = rw (ne_eqb v 0 n) refl }

-- a cut
pub multiplier-cut : (a : SymmetricAuction) (pools : Pools) (factor divisor : ℤ) (divisors : ℕ → ℤ) (s : ℕ) (f : Frac) → divisors s ≡ divisor
    → f.num *ℤ (steeper_den a pools s *ℤ (share_den a *ℤ factor)) ≡ (steeper_by a pools s *ℤ divisor) *ℤ f.den → IsMultiplierOf a pools factor divisors (cut_row s) f
multiplier-cut a pools factor divisor divisors s f e h = record { ratio = h ∙ ap (λ z. (steeper_by a pools s *ℤ z) *ℤ f.den) (sym e) }
