-- The cut runs of auctions, over their reduced programs.
use Rattle.std.specs.Prelude.{◌≡◌, ℕ, ℤ, List}
use Rattle.md_math.specs.Lists.{number_at}
use Rattle.md_setting.specs.Auction.{SymmetricAuction, value_count}
use Rattle.md_mech.specs.declared.mechanism.Mechanism.{Mechanism}
use Rattle.md_border.specs.Odds.{IsInterim, unit_excess_of}
use Rattle.md_expost.specs.Implementing.{Implements}
use Rattle.md_expost.specs.Masses.{AreMasses}
use Rattle.md_expost.specs.Mechanisms.{mechanism_of}
use Rattle.md_reduced.specs.Points.{interim_in}
use Rattle.md_reduced.specs.ProgramOf.{IsReducedProgram}
use Rattle.md_cuts.specs.declared.auction_cuts.Realised.{Realised}
use Rattle.md_cuts.specs.declared.auction_end.AuctionEnd.{AuctionEnd}
use Rattle.md_cut_runs.specs.declared.optimum.Optimum.{Optimum}
use Rattle.md_cut_runs.specs.CutRuns.{EndsSettled, IsShownBy}
use Rattle.md_cut_runs.specs.Cutting.{Cutting}

-- the places are the values, the programs the reduced ones of so many units, and a set is over by its excess at the odds of the
-- point
abbrev pub unit_cutting : SymmetricAuction → ℕ → Cutting
unit_cutting a units = record { places = value_count a; is_program = IsReducedProgram a units; excess = λ den x set. unit_excess_of a units (interim_in a den x) set }

-- the same for one item
abbrev pub auction_cutting : SymmetricAuction → Cutting
auction_cutting a = unit_cutting a 1

-- the odds and payments of a point, and a mass table that has exactly the odds
pub record IsRealised (a : SymmetricAuction) (den : ℤ) (x : ℕ → ℤ) (realised : Realised) : Type 0 where
  pub interim : realised.interim ≡ interim_in a den x
  pub fits : IsInterim a realised.interim
  pub masses : AreMasses a realised.masses
  pub implements : Implements a realised.interim realised.masses

-- the mechanism of the masses, in which each bidder pays what the interim payments say
abbrev pub mechanism_in : SymmetricAuction → AuctionEnd → Mechanism
mechanism_in a end = mechanism_of a end.masses end.interim.pays

-- the cuts, and the odds, the payments and the bound of an optimum
pub record TellsOptimum (a : SymmetricAuction) (cuts : List ℕ) (optimum : Optimum) (end : AuctionEnd) : Type 0 where
  pub same_cuts : end.cuts ≡ cuts
  pub interim : end.interim ≡ interim_in a optimum.den (number_at optimum.point)
  pub bound : end.bound ≡ optimum.bound

-- the cut run of the auction ends with these cuts, and this is what is read off its last program
pub record IsSolvedAuction (a : SymmetricAuction) (width : ℕ) (end : AuctionEnd) : Type 0 where
  pub optimum : Optimum
  pub ends : EndsSettled (auction_cutting a) width end.cuts optimum
  pub shown : IsShownBy (auction_cutting a) end.cuts optimum
  pub tells : TellsOptimum a end.cuts optimum end
