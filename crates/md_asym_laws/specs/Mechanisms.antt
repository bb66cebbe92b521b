-- What the program of a sale says of the mechanisms of its setting, with any denominator and numbers of any size.
use Rattle.std.specs.Prelude.{◌≡◌, ℕ, ℤ, ◌*ℤ◌}
use Rattle.md_setting.specs.Setting.{GeneralSetting}
use Rattle.md_mech.specs.declared.mechanism.Mechanism.{Mechanism}
use Rattle.md_mech.specs.Mechanism.{IsMechanism}
use Rattle.md_mech.specs.Admissible.{IsAdmissible}
use Rattle.md_mech.specs.Optimal.{IsOptimal, worth_of}
use Rattle.md_lp.specs.Program.{Program}
use Rattle.md_lp.specs.Affine.{StandsAt}
use Rattle.md_lp.specs.Point.{Meets}
use Rattle.md_cert.specs.Claims.{GrowsAlong, IsOptimalPoint}
use Rattle.md_asym_sale.specs.Forms.{pay_in}
use Rattle.md_asym_laws.specs.Averages.{all_marginals, point_of}
use Rattle.md_asym_laws.specs.Odds.{HasPairOdds, HasPairPays}
use Rattle.md_asym_laws.specs.Worth.{base_of, worth_in}

-- a mechanism with the odds and the payments of a point that meets the program is admissible
abbrev pub AdmitsPoints : GeneralSetting → Program → Type 0
AdmitsPoints s p =
    (m : Mechanism) (den : ℤ) (x : ℕ → ℤ) → Meets p den x → IsMechanism s m
    → HasPairOdds s m den x → HasPairPays s m den (pay_in s x) → IsAdmissible s m

-- Each admissible mechanism stands at a point of the program, that of its averages. So often its worth is what it is where
-- the item is always kept, and a multiple of the cost of the point.
abbrev pub HoldsAdmissible : GeneralSetting → Program → Type 0
HoldsAdmissible s p =
    (m : Mechanism) → IsAdmissible s m → StandsAt p (base_of s) p.factor (all_marginals s) m.den (point_of s m) (worth_of s m)

-- a mechanism with the odds and the payments of a greatest point is optimal, over mechanisms of every denominator
abbrev pub MakesOptimal : GeneralSetting → Program → Type 0
MakesOptimal s p =
    (m : Mechanism) (den : ℤ) (x : ℕ → ℤ) → IsOptimalPoint p den x → IsMechanism s m
    → HasPairOdds s m den x → HasPairPays s m den (pay_in s x) → IsOptimal s m

-- a mechanism with these odds and payments is worth what they are, by the denominators
abbrev pub HasWorthOf : GeneralSetting → Mechanism → ℤ → (ℕ → ℤ) → Type 0
HasWorthOf s m den x = den *ℤ worth_of s m ≡ m.den *ℤ worth_in s den x

-- no point of the program grows without end
abbrev pub IsBounded : Program → Type 0
IsBounded p = (den : ℤ) (x ray : ℕ → ℤ) → ¬ GrowsAlong p den x ray
