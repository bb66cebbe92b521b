-- The divisor of a pivot, from the new denominator alone: rows over denominators of their own give a divisor with the same product, and so the same divisor.
use Rattle.std.proofs.Common.{◌≡◌, ℕ, ◌+◌, ◌<◌, List, ℤ, pos, ◌*ℤ◌, ◌<ℤ◌, int_div, sym, ◌∙◌, ap, subst}
use lib.IntN.{*ℤ_comm}
use Rattle.md_math.proofs.Division.{Divides-from_product}
use Rattle.md_math.proofs.Order.{*ℤ_cancel}
use Rattle.md_dict.specs.declared.step.Step.{Step}
use Rattle.md_dict.specs.Step.{raw_number, IsStepDivisor}
use Rattle.md_dict.specs.Multiples.{HaveDivisor}
use Rattle.md_dict_rows.proofs.Quotients.{quotient_is}

-- the divisor is the one of the rows
same_divisor : (step : Step) (kept : List ℤ) (den g : ℤ) (dens : ℕ → ℤ) (table : ℕ → ℕ → ℤ) → (h : HaveDivisor step kept den dens table) → pos 0 <ℤ den → g *ℤ den ≡ step.den *ℤ step.pivot → h.divisor ≡ g
same_divisor step kept den g dens table h p e =
    *ℤ_cancel den h.divisor g p (*ℤ_comm den h.divisor ∙ h.den_is ∙ sym e ∙ *ℤ_comm g den)

pub IsStepDivisor-over : (step : Step) (kept : List ℤ) (den g : ℤ) (dens : ℕ → ℤ) (table : ℕ → ℕ → ℤ) → HaveDivisor step kept den dens table → pos 0 <ℤ den → g *ℤ den ≡ step.den *ℤ step.pivot → IsStepDivisor step kept (step.rows + 2) g
IsStepDivisor-over step kept den g dens table h p e =
    subst (IsStepDivisor step kept (step.rows + 2)) (same_divisor step kept den g dens table h p e) h.is_divisor

-- the numbers of the rows, over the new denominator
pub divided_numbers : (step : Step) (kept : List ℤ) (den g : ℤ) (dens : ℕ → ℤ) (table : ℕ → ℕ → ℤ) → HaveDivisor step kept den dens table → pos 0 <ℤ den → g *ℤ den ≡ step.den *ℤ step.pivot → (i s : ℕ) (share : ℤ) → i < step.rows + 2 → s < step.columns + 1 → share *ℤ dens i ≡ den → g *ℤ (share *ℤ table i s) ≡ raw_number step kept i s
divided_numbers step kept den g dens table h p e i s share a b q =
    ap (λ z. z *ℤ (share *ℤ table i s)) (sym (same_divisor step kept den g dens table h p e)) ∙ h.numbers i s share a b q

-- the new denominator
pub den_over : (step : Step) (kept : List ℤ) (den g : ℤ) (dens : ℕ → ℤ) (table : ℕ → ℕ → ℤ) → HaveDivisor step kept den dens table → pos 0 <ℤ den → g *ℤ den ≡ step.den *ℤ step.pivot → int_div (step.den *ℤ step.pivot) g ≡ den
den_over step kept den g dens table h p e =
    let above : pos 0 <ℤ g = (IsStepDivisor-over step kept den g dens table h p e).positive in
    sym (quotient_is g (step.den *ℤ step.pivot) den above (Divides-from_product g den (step.den *ℤ step.pivot) (sym e)) e)
