-- The mechanism of a unit table. At each profile the mass of a value goes to the bidders with it in equal parts. The parts of
-- all bidders lie one behind the other, each at most as long as the whole; at one draw below the whole those bidders win in
-- whose part the draw falls, or it with the whole added some times. So each wins as often as its part says, and never two units.
use Rattle.std.specs.Prelude.{ℕ, ℤ, pos, ◌*ℤ◌, unsigned_abs, List, slice_index}
use Rattle.md_math.specs.Lists.{number_at}
use Rattle.md_setting.specs.Auction.{SymmetricAuction}
use Rattle.md_mech.specs.declared.mechanism.Mechanism.{Mechanism}
use Rattle.md_mech.specs.ByProfiles.{mechanism_by}
use Rattle.md_expost.specs.declared.masses.Masses.{Masses}
use Rattle.md_expost.specs.Mechanisms.{all_orders, whole_of, win_of}
use Rattle.md_winners.specs.Sets.{set_at}
use Rattle.md_winners.specs.Draws.{draws}
use Rattle.md_winners.specs.Setting.{units_of}

-- the part of bidder i, counted from 0, at the profile t
abbrev pub part_of : SymmetricAuction → Masses → List ℕ → ℕ → ℕ
part_of a y t i = unsigned_abs (win_of a y t i)

-- how often each set of bidders wins at the profile t: at so many of the draws below the whole
abbrev pub unit_lottery_of : SymmetricAuction → ℕ → Masses → List ℕ → ℕ → ℤ
unit_lottery_of a units y t o =
    pos (draws a.bidders (unsigned_abs (whole_of a y)) (part_of a y t) (set_at a.bidders units o))

-- the mechanism of a unit table in which each bidder pays by the kind of its value, in units of one over the denominator of the masses
abbrev pub unit_mechanism_of : SymmetricAuction → ℕ → Masses → List ℤ → Mechanism
unit_mechanism_of a units y pays =
    mechanism_by (units_of a units) (whole_of a y) (unit_lottery_of a units y) (λ i t. number_at pays (slice_index t i) *ℤ pos (all_orders a))
