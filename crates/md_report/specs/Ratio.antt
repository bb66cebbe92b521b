-- Fractions in least terms.
use Rattle.std.specs.Prelude.{◌≡◌, ℤ, ◌*ℤ◌}
use Rattle.md_math.specs.Divisors.{IsLeastTerms}
use Rattle.md_num.specs.declared.frac.Frac.{Frac}

-- the fraction is num over den, in least terms
pub record IsRatio (num den : ℤ) (value : Frac) : Type 0 where
  pub is_ratio : value.num *ℤ den ≡ num *ℤ value.den
  pub least : IsLeastTerms value.num value.den
