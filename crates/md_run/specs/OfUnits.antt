-- What is drawn of a unit table of an auction, at a profile of reported values: who gets a unit.
use Rattle.std.specs.Prelude.{◌≡◌, ℕ, ◌*◌, ◌/◌, ◌<◌, ◌≤◌, ℤ, pos, ◌*ℤ◌, Bool, true, List, slice_index, unsigned_abs}
use Rattle.md_math.specs.Lists.{list_to, number_at}
use Rattle.md_setting.specs.Auction.{SymmetricAuction}
use Rattle.md_border.specs.declared.interim.Interim.{Interim}
use Rattle.md_counts.specs.Weights.{count_in}
use Rattle.md_expost.specs.declared.masses.Masses.{Masses}
use Rattle.md_winners.specs.Draws.{draws, winners, wins}
use Rattle.md_winners.specs.Setting.{units_of}
use Rattle.md_winners.specs.Sets.{set_at, set_count, size}
use Rattle.md_unit_tables.specs.Mechanisms.{unit_mechanism_of}
use Rattle.md_run.specs.Counting.{HasCountBelow}
use Rattle.md_run.specs.OfMasses.{AreReports, HasChance, cap_for, mass_for}
use Rattle.md_run.specs.OfMechanism.{IsDraw}
use Rattle.md_run.specs.declared.units_drawn.UnitsDrawn.{UnitsDrawn}

-- Each unit of mass is so many draws. The numbers from 1 to 12 divide it, so that a mass can be cut into equal parts.
unfoldable pub draws_each : ℕ
draws_each = 27720

-- how many draws there are at the profile t: those of what there is to give at its counts
abbrev pub draws_for : SymmetricAuction → ℤ → List ℕ → ℕ
draws_for a den t = unsigned_abs (cap_for a den t) * draws_each

-- how long the stretch of bidder i is: its part of the mass of its value, of which each bidder that reports the value has as much
abbrev pub stretch_of : SymmetricAuction → Masses → List ℕ → ℕ → ℕ
stretch_of a y t i = unsigned_abs (mass_for a y t (slice_index t i)) * (draws_each / count_in (slice_index t i) t)

-- who wins at a draw
abbrev pub winners_at : SymmetricAuction → Masses → List ℕ → ℕ → List Bool
winners_at a y t d = winners a.bidders (draws_for a y.den t) (stretch_of a y t) d

-- at how many draws a set of bidders wins
abbrev pub draws_with : SymmetricAuction → Masses → List ℕ → List Bool → ℕ
draws_with a y t set = draws a.bidders (draws_for a y.den t) (stretch_of a y t) set

-- what is drawn: who gets a unit, and each bidder pays what is paid with its value on average
pub record IsUnitsDrawn (a : SymmetricAuction) (interim : Interim) (y : Masses) (t : List ℕ) (d1 d2 : ℤ) (drawn : UnitsDrawn) : Type 0 where
  pub profile : AreReports a t
  pub draw : IsDraw (pos (draws_for a y.den t)) d1 d2
  pub wins : drawn.wins.items ≡ winners_at a y t (unsigned_abs d1)
  pub pays : drawn.pays ≡ list_to a.bidders (λ i. number_at interim.pays (slice_index t i))
  pub den : drawn.den ≡ interim.den

-- Each bidder wins by as many of the draws as its stretch is long: so often as its value has mass at the profile, in equal parts for
-- all who report it. No draw gives more units than there are. Each set of winners comes by so many draws, and that is its chance
-- in the mechanism of the unit table, whatever bidders pay: so it is this mechanism that is drawn.
pub record IsUnitsLottery (a : SymmetricAuction) (units : ℕ) (y : Masses) (t : List ℕ) : Type 0 where
  pub bidder : (i : ℕ) → i < a.bidders → HasCountBelow (draws_for a y.den t) (λ d. wins (draws_for a y.den t) (stretch_of a y t) d i ≡ true) (stretch_of a y t i)
  pub part : (i : ℕ) → i < a.bidders
      → pos (stretch_of a y t i) *ℤ (cap_for a y.den t *ℤ pos (count_in (slice_index t i) t)) ≡ pos (draws_for a y.den t) *ℤ mass_for a y t (slice_index t i)
  pub enough : (d : ℕ) → d < draws_for a y.den t → size (winners_at a y t d) ≤ units
  pub outcome : (o : ℕ) → o < set_count a.bidders units
      → HasCountBelow (draws_for a y.den t) (λ d. winners_at a y t d ≡ set_at a.bidders units o) (draws_with a y t (set_at a.bidders units o))
  pub chance : (pays : List ℤ) (o : ℕ) → o < set_count a.bidders units
      → HasChance (units_of a units) (unit_mechanism_of a units y pays) t o (pos (draws_with a y t (set_at a.bidders units o))) (pos (draws_for a y.den t))
