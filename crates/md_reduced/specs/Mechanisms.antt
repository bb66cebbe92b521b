-- What a reduced program says of the mechanisms of an auction, with any denominator and numbers of any size.
use Rattle.std.specs.Prelude.{ℕ, ◌*◌, ◌-◌, ◌^◌, ℤ, pos, ◌*ℤ◌}
use Rattle.md_setting.specs.Auction.{SymmetricAuction, total_weight}
use Rattle.md_setting.specs.General.{general_of}
use Rattle.md_mech.specs.declared.mechanism.Mechanism.{Mechanism}
use Rattle.md_mech.specs.Mechanism.{IsMechanism}
use Rattle.md_mech.specs.Admissible.{IsAdmissible}
use Rattle.md_mech.specs.Optimal.{IsOptimal, worth_of}
use Rattle.md_lp.specs.Program.{Program}
use Rattle.md_lp.specs.Affine.{StandsAt}
use Rattle.md_lp.specs.Point.{Meets}
use Rattle.md_cert.specs.Claims.{GrowsAlong, IsOptimalPoint}
use Rattle.md_border.specs.Odds.{HasOdds, HasPays}
use Rattle.md_reduced.specs.Averages.{times_of, point_of}
use Rattle.md_reduced.specs.Points.{interim_in}

-- a mechanism with the odds and the payments of a point that meets the program is admissible
abbrev pub AdmitsPoints : SymmetricAuction → Program → Type 0
AdmitsPoints a p =
    (m : Mechanism) (den : ℤ) (x : ℕ → ℤ) → Meets p den x → IsMechanism (general_of a) m
    → HasOdds a m den (interim_in a den x).odds → HasPays a m den (interim_in a den x).pays → IsAdmissible (general_of a) m

-- what the designer has for each unit of the denominator where the item is always kept, over all profiles by weight
abbrev pub base_of : SymmetricAuction → ℤ
base_of a = a.keep *ℤ pos (total_weight a.weights ^ a.bidders)

-- what a mechanism is worth more than that for each unit of the cost of its averages
abbrev pub scale_of : SymmetricAuction → Program → ℤ
scale_of a p = pos (a.bidders * total_weight a.weights ^ (a.bidders - 1)) *ℤ p.factor

-- Each admissible mechanism stands at a point of the program, that of its averages. So often its worth is what it is where
-- the item is always kept, and a multiple of the cost of the point.
abbrev pub HoldsAdmissible : SymmetricAuction → Program → Type 0
HoldsAdmissible a p =
    (m : Mechanism) → IsAdmissible (general_of a) m
    → StandsAt p (base_of a) (scale_of a p) (pos (times_of a)) m.den (point_of a m) (worth_of (general_of a) m)

-- a mechanism with the odds and the payments of a greatest point is optimal, over mechanisms of every denominator
abbrev pub MakesOptimal : SymmetricAuction → Program → Type 0
MakesOptimal a p =
    (m : Mechanism) (den : ℤ) (x : ℕ → ℤ) → IsOptimalPoint p den x → IsMechanism (general_of a) m
    → HasOdds a m den (interim_in a den x).odds → HasPays a m den (interim_in a den x).pays → IsOptimal (general_of a) m

-- no point of the program grows without end
abbrev pub IsBounded : Program → Type 0
IsBounded p = (den : ℤ) (x ray : ℕ → ℤ) → ¬ GrowsAlong p den x ray
