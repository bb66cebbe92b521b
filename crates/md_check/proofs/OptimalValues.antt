-- All optimal mechanisms of a setting have one value.
use Rattle.std.proofs.Common.{◌≡◌, ℤ, pos, ◌*ℤ◌, ◌≤ℤ◌, ◌<ℤ◌, ap, ◌∙◌, arith}
use Rattle.std.proofs.lemmas.Int.{ints}
use Rattle.md_math.proofs.Order.{*ℤ_cancel, ≤ℤ_antisymm, positive-*ℤ}
use Rattle.md_math.proofs.Ring.{ring}
use Rattle.md_num.specs.declared.frac.Frac.{Frac}
use Rattle.md_setting.specs.Setting.{GeneralSetting}
use Rattle.md_setting.specs.Meaning.{total_of}
use Rattle.md_mech.specs.declared.mechanism.Mechanism.{Mechanism}
use Rattle.md_mech.specs.Optimal.{IsOptimal, worth_of}
use Rattle.md_mech.specs.Value.{IsValueOf}
use Rattle.md_question.proofs.OneFraction.{one_fraction}

above : (z : ℤ) → pos 1 ≤ℤ z → pos 0 <ℤ z
above z l = omega (arith, ints, l)

-- the value of one is the value of each
pub value-of_each : (s : GeneralSetting) (m n : Mechanism) (v : Frac) → IsOptimal s m → IsValueOf s m v → IsOptimal s n → IsValueOf s n v
value-of_each s m n v one is other = record {
  is_value = *ℤ_cancel m.den (v.num *ℤ (n.den *ℤ total_of s)) (worth_of s n *ℤ v.den) (above m.den one.admissible.mechanism.den)
      (first m.den v.num n.den (total_of s)
      ∙ ap (λ z. n.den *ℤ z) is.is_value
      ∙ second n.den (worth_of s m) v.den
      ∙ ap (λ z. z *ℤ v.den) same
      ∙ third (worth_of s n) m.den v.den);
  least = is.least;
}
  where
    same : worth_of s m *ℤ n.den ≡ worth_of s n *ℤ m.den
    same = ≤ℤ_antisymm (worth_of s m *ℤ n.den) (worth_of s n *ℤ m.den) (other.best m one.admissible) (one.best n other.admissible)

    first : (d x e t : ℤ) → d *ℤ (x *ℤ (e *ℤ t)) ≡ e *ℤ (x *ℤ (d *ℤ t))
    first d x e t = simp ring

    second : (e w y : ℤ) → e *ℤ (w *ℤ y) ≡ (w *ℤ e) *ℤ y
    second e w y = simp ring

    third : (w d y : ℤ) → (w *ℤ d) *ℤ y ≡ d *ℤ (w *ℤ y)
    third w d y = simp ring

-- so there is one
pub one_value : (s : GeneralSetting) (m n : Mechanism) (v w : Frac) → pos 0 <ℤ total_of s → IsOptimal s m → IsValueOf s m v → IsOptimal s n → IsValueOf s n w → v ≡ w
one_value s m n v w total one is other there =
    let here = value-of_each s m n v one is other in
    one_fraction (worth_of s n) (n.den *ℤ total_of s) v w (positive-*ℤ n.den (total_of s) (above n.den other.admissible.mechanism.den) total)
    (record { same = here.is_value; least = here.least }) (record { same = there.is_value; least = there.least })
