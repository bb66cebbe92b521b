-- What a reduced program of several units says of the mechanisms of their sale, with any denominator and numbers of any size.
use Rattle.std.specs.Prelude.{ℕ, ◌^◌, ℤ, pos, ◌*ℤ◌}
use Rattle.md_setting.specs.Auction.{SymmetricAuction, total_weight}
use Rattle.md_mech.specs.declared.mechanism.Mechanism.{Mechanism}
use Rattle.md_mech.specs.Mechanism.{IsMechanism}
use Rattle.md_mech.specs.Admissible.{IsAdmissible}
use Rattle.md_mech.specs.Optimal.{IsOptimal, worth_of}
use Rattle.md_lp.specs.Program.{Program}
use Rattle.md_lp.specs.Affine.{StandsAt}
use Rattle.md_lp.specs.Point.{Meets}
use Rattle.md_cert.specs.Claims.{IsOptimalPoint}
use Rattle.md_reduced.specs.Averages.{averages, times_of}
use Rattle.md_reduced.specs.Mechanisms.{scale_of}
use Rattle.md_reduced.specs.Points.{interim_in}
use Rattle.md_winners.specs.Setting.{units_of}
use Rattle.md_winners.specs.Odds.{HasUnitOdds, HasUnitPays, paid_in, win_in}

-- a mechanism with the odds and the payments of a point that meets the program is admissible
abbrev pub AdmitsUnitPoints : SymmetricAuction → ℕ → Program → Type 0
AdmitsUnitPoints a units p =
    (m : Mechanism) (den : ℤ) (x : ℕ → ℤ) → Meets p den x → IsMechanism (units_of a units) m
    → HasUnitOdds a units m den (interim_in a den x).odds → HasUnitPays a units m den (interim_in a den x).pays → IsAdmissible (units_of a units) m

-- what the designer has for each unit of the denominator where all units are always kept, over all profiles by weight
abbrev pub unit_base_of : SymmetricAuction → ℕ → ℤ
unit_base_of a units = (a.keep *ℤ pos units) *ℤ pos (total_weight a.weights ^ a.bidders)

-- the point of the averages of a mechanism
abbrev pub unit_point_of : SymmetricAuction → ℕ → Mechanism → ℕ → ℤ
unit_point_of a units m = averages a (win_in a units m) (paid_in a units m)

-- Each admissible mechanism stands at a point of the program, that of its averages. So often its worth is what it is where all
-- units are always kept, and a multiple of the cost of the point.
abbrev pub HoldsUnitAdmissible : SymmetricAuction → ℕ → Program → Type 0
HoldsUnitAdmissible a units p =
    (m : Mechanism) → IsAdmissible (units_of a units) m
    → StandsAt p (unit_base_of a units) (scale_of a p) (pos (times_of a)) m.den (unit_point_of a units m) (worth_of (units_of a units) m)

-- a mechanism with the odds and the payments of a greatest point is optimal, over mechanisms of every denominator
abbrev pub MakesUnitOptimal : SymmetricAuction → ℕ → Program → Type 0
MakesUnitOptimal a units p =
    (m : Mechanism) (den : ℤ) (x : ℕ → ℤ) → IsOptimalPoint p den x → IsMechanism (units_of a units) m
    → HasUnitOdds a units m den (interim_in a den x).odds → HasUnitPays a units m den (interim_in a den x).pays → IsOptimal (units_of a units) m
