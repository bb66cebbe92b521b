-- A mechanism with the odds and payments of a greatest point of the program of a sale is optimal over all its mechanisms.
use Rattle.std.proofs.Common.{◌≡◌, ℕ, ℤ, pos, ◌+ℤ◌, ◌*ℤ◌, ◌≤ℤ◌, ◌<ℤ◌, List, sym, ap, ◌∙◌, subst, arith}
use Rattle.std.proofs.lemmas.Int.{ints}
use Rattle.md_math.proofs.Order.{*ℤ-le, le_from_*ℤ}
use Rattle.md_math.proofs.Ring.{ring}
use Rattle.md_setting.specs.Setting.{GeneralSetting}
use Rattle.md_setting.specs.Shaped.{IsShaped}
use Rattle.md_mech.specs.declared.mechanism.Mechanism.{Mechanism}
use Rattle.md_mech.specs.Admissible.{IsAdmissible}
use Rattle.md_mech.specs.Optimal.{worth_of}
use Rattle.md_lp.specs.Program.{Program}
use Rattle.md_lp.specs.Point.{cost_sum}
use Rattle.md_lp.proofs.Dividing.{IsDivisorFor-positive}
use Rattle.md_cert.specs.Claims.{IsOptimalPoint}
use Rattle.md_cert.proofs.AffineLaws.{best-affine}
use Rattle.md_forms.specs.Forms.{unit}
use Rattle.md_asym_sale.specs.Forms.{cost_of}
use Rattle.md_asym_sale.specs.ProgramOf.{IsSaleProgram, column_count}
use Rattle.md_asym_sale.specs.Sale.{IsSale}
use Rattle.md_asym_sale.proofs.BuiltLaws.{costs-points}
use Rattle.md_asym_laws.specs.Averages.{all_marginals, point_of}
use Rattle.md_asym_laws.specs.Mechanisms.{MakesOptimal}
use Rattle.md_asym_laws.specs.Worth.{base_of, worth_in}
use Rattle.md_asym_laws.proofs.Admitting.{admits}
use Rattle.md_asym_laws.proofs.MeanLaws.{all-positive}
use Rattle.md_asym_laws.proofs.MechanismWorth.{worth-of_odds}
use Rattle.md_asym_laws.proofs.Standing.{stands-in}

pub factor-positive : (s : GeneralSetting) (cuts : List ℕ) (p : Program) → IsSaleProgram s cuts p → pos 0 <ℤ p.factor
factor-positive s cuts p is = IsDivisorFor-positive (column_count s) (λ j. cost_of s (unit j)) p.factor is.has_cost.factor

-- a mechanism with the worth of a greatest point is worth no less than any admissible one, by the denominators
no-better : (s : GeneralSetting) (cuts : List ℕ) (p : Program) (den : ℤ) (x : ℕ → ℤ) (m other : Mechanism) → IsSale s → IsShaped s → IsSaleProgram s cuts p → IsOptimalPoint p den x → pos 0 ≤ℤ m.den
    → den *ℤ worth_of s m ≡ m.den *ℤ worth_in s den x → IsAdmissible s other → (worth_of s other *ℤ m.den) ≤ℤ (worth_of s m *ℤ other.den)
no-better s cuts p den x m other sale shaped is greatest up own admissible =
    let mine = worth_in s den x in
    let mine_is : mine ≡ base_of s *ℤ den +ℤ p.factor *ℤ cost_sum p x = ap (λ z. base_of s *ℤ den +ℤ z) (costs-points s cuts p is x) in
    let less : (worth_of s other *ℤ den) ≤ℤ (mine *ℤ other.den) =
    best-affine p den x greatest (base_of s) p.factor (all_marginals s) mine (factor-positive s cuts p is) (all-positive s shaped) mine_is other.den (point_of s other) (worth_of s other) (stands-in s cuts p sale shaped is other admissible) in
    le_from_*ℤ den (worth_of s other *ℤ m.den) (worth_of s m *ℤ other.den) greatest.meets.point.positive
    (subst (λ z. (den *ℤ (worth_of s other *ℤ m.den)) ≤ℤ z) (second m.den mine other.den ∙ ap (λ z. z *ℤ other.den) (sym own) ∙ third den (worth_of s m) other.den)
    (subst (λ z. z ≤ℤ (m.den *ℤ (mine *ℤ other.den))) (first m.den (worth_of s other) den) (*ℤ-le m.den (worth_of s other *ℤ den) (mine *ℤ other.den) up less)))
  where
    first : (e w d : ℤ) → e *ℤ (w *ℤ d) ≡ d *ℤ (w *ℤ e)
    first e w d = simp ring

    second : (e w d : ℤ) → e *ℤ (w *ℤ d) ≡ (e *ℤ w) *ℤ d
    second e w d = simp ring

    third : (d w e : ℤ) → (d *ℤ w) *ℤ e ≡ d *ℤ (w *ℤ e)
    third d w e = simp ring

pub makes-optimal : (s : GeneralSetting) (cuts : List ℕ) (p : Program) → IsSale s → IsShaped s → IsSaleProgram s cuts p → MakesOptimal s p
makes-optimal s cuts p sale shaped is m den x greatest mechanism odds pays = record {
  admissible = admits s cuts p sale shaped is m den x greatest.meets mechanism odds pays;
  best = λ other admissible. no-better s cuts p den x m other sale shaped is greatest (some m.den mechanism.den) (worth-of_odds s m den x sale shaped mechanism odds pays) admissible;
}
  where
    some : (z : ℤ) → pos 1 ≤ℤ z → pos 0 ≤ℤ z
    some z l = omega (arith, ints, l)
