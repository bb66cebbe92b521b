-- What is drawn of a mass table of an auction, at a profile of reported values.
use Rattle.std.specs.Prelude.{◌≡◌, ℕ, zero, suc, ◌+◌, ◌<◌, ℤ, pos, ◌-ℤ◌, ◌*ℤ◌, ◌≤ℤ◌, ◌<ℤ◌, List, length, take, replicate, slice_index, unsigned_abs, if◌then◌else◌}
use Rattle.md_math.specs.Lists.{list_to, number_at}
use Rattle.md_math.specs.Sums.{sum_to}
use Rattle.md_space.specs.Profiles.{IsProfile}
use Rattle.md_setting.specs.Setting.{GeneralSetting}
use Rattle.md_setting.specs.Auction.{SymmetricAuction, value_count}
use Rattle.md_setting.specs.General.{general_of}
use Rattle.md_mech.specs.declared.mechanism.Mechanism.{Mechanism}
use Rattle.md_mech.specs.Mechanism.{chance_of}
use Rattle.md_border.specs.declared.interim.Interim.{Interim}
use Rattle.md_counts.specs.Weights.{count_in, counts_of, has_counts, weight_of_counts}
use Rattle.md_expost.specs.declared.masses.Masses.{Masses}
use Rattle.md_expost.specs.Masses.{rank_count, counts_in, mass_at}
use Rattle.md_expost.specs.Mechanisms.{mechanism_of}
use Rattle.md_run.specs.Counting.{HasCountBelow}
use Rattle.md_run.specs.Lottery.{IsDrawnPlace, IsNoPlace}
use Rattle.md_run.specs.declared.drawn.Drawn.{Drawn}

-- a report of each bidder: the place of one of the values
abbrev pub AreReports : SymmetricAuction → List ℕ → Type 0
AreReports a t = IsProfile (replicate a.bidders (value_count a)) t

-- the mass of a value at the counts of the profile t
abbrev pub mass_for : SymmetricAuction → Masses → List ℕ → ℕ → ℤ
mass_for a y t v = sum_to (rank_count a) (λ rank. if has_counts (counts_in a rank) t then mass_at a y rank v else pos 0)

-- what there is to give at the counts of the profile t: their weight, in units of one over the denominator
abbrev pub cap_for : SymmetricAuction → ℤ → List ℕ → ℤ
cap_for a den t = den *ℤ pos (weight_of_counts a.weights a.bidders (counts_of (value_count a) t))

-- bidder i, counted from 0, reports the value v, and before it so many others do
pub record IsNumbered (t : List ℕ) (v : ℕ) (number : ℤ) (i : ℕ) : Type 0 where
  pub below : i < length t
  pub reports : slice_index t i ≡ v
  pub others : pos (count_in v (take i t)) ≡ number

-- the second draw is one of as many as there are bidders with the value that the first one gives, and 0 where it gives none
pub record IsSecondDraw (a : SymmetricAuction) (y : Masses) (t : List ℕ) (d1 d2 : ℤ) : Type 0 where
  pub given : (v : ℕ) → IsDrawnPlace (value_count a) (mass_for a y t) d1 v → (pos 0 ≤ℤ d2) × (d2 <ℤ pos (count_in v t))
  pub kept : IsNoPlace (value_count a) (mass_for a y t) d1 → d2 ≡ pos 0

-- the draws that may be: the first is one of as many as there are units to give
pub record IsAuctionDraw (a : SymmetricAuction) (y : Masses) (t : List ℕ) (d1 d2 : ℤ) : Type 0 where
  pub from : pos 0 ≤ℤ d1
  pub below : d1 <ℤ cap_for a y.den t
  pub second : IsSecondDraw a y t d1 d2

-- the outcome: 0, where no value is drawn and the item is kept; i + 1, where the value of bidder i is drawn, and it is the
-- one with the number of the second draw among those that report it
abbrev pub IsOutcome : SymmetricAuction → Masses → List ℕ → ℤ → ℤ → ℕ → Type 0
IsOutcome a y t d1 d2 zero = IsNoPlace (value_count a) (mass_for a y t) d1
IsOutcome a y t d1 d2 (suc i) = IsDrawnPlace (value_count a) (mass_for a y t) d1 (slice_index t i) × IsNumbered t (slice_index t i) d2 i

-- what is drawn: who gets the item, and each bidder pays what is paid with its value on average
pub record IsAuctionDrawn (a : SymmetricAuction) (interim : Interim) (y : Masses) (t : List ℕ) (d1 d2 : ℤ) (drawn : Drawn) : Type 0 where
  pub profile : AreReports a t
  pub draw : IsAuctionDraw a y t d1 d2
  pub outcome : IsOutcome a y t d1 d2 drawn.outcome
  pub pays : drawn.pays ≡ list_to a.bidders (λ i. number_at interim.pays (slice_index t i))
  pub den : drawn.den ≡ interim.den

-- the mechanism has outcome o at the report t with a chance of so many in so many
abbrev pub HasChance : GeneralSetting → Mechanism → List ℕ → ℕ → ℤ → ℤ → Type 0
HasChance s m t o part whole = chance_of s m t o *ℤ whole ≡ m.den *ℤ part

-- Each value is drawn by as many of the first draws as its mass at the profile has units, none by as many as are left, and
-- each bidder with the value that is drawn by one of the second draws. So it is the mechanism of the mass table that is drawn,
-- whatever bidders pay: bidder i, counted from 0, gets the item with the chance of its value over the number of bidders who
-- have it, and else it is kept.
pub record IsAuctionLottery (a : SymmetricAuction) (y : Masses) (t : List ℕ) : Type 0 where
  pub value : (v : ℕ) → v < value_count a → HasCountBelow (unsigned_abs (cap_for a y.den t)) (λ d. IsDrawnPlace (value_count a) (mass_for a y t) (pos d) v) (unsigned_abs (mass_for a y t v))
  pub kept : HasCountBelow (unsigned_abs (cap_for a y.den t)) (λ d. IsNoPlace (value_count a) (mass_for a y t) (pos d)) (unsigned_abs (cap_for a y.den t -ℤ sum_to (value_count a) (mass_for a y t)))
  pub bidder : (i : ℕ) → i < a.bidders → HasCountBelow (count_in (slice_index t i) t) (λ d. IsNumbered t (slice_index t i) (pos d) i) 1
  pub wins : (pays : List ℤ) (i : ℕ) → i < a.bidders
      → HasChance (general_of a) (mechanism_of a y pays) t (i + 1) (mass_for a y t (slice_index t i)) (cap_for a y.den t *ℤ pos (count_in (slice_index t i) t))
  pub keeps : (pays : List ℤ) → HasChance (general_of a) (mechanism_of a y pays) t 0 (cap_for a y.den t -ℤ sum_to (value_count a) (mass_for a y t)) (cap_for a y.den t)
