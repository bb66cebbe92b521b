-- Why numbers make no mass table of an auction.
use Rattle.std.specs.Prelude.{◌≡◌, ℕ, ◌*◌, ◌/◌, ◌%◌, ℤ, pos, ◌≤ℤ◌, List, length, slice_index}
use Rattle.md_math.specs.FirstFailure.{HoldsBelow, IsFirstFailure}
use Rattle.md_math.specs.Lists.{number_at}
use Rattle.md_math.specs.Sums.{sum_to}
use Rattle.md_setting.specs.Auction.{SymmetricAuction, value_count}
use Rattle.md_mech.specs.Refusals.{HasDen}
use Rattle.md_expost.specs.declared.masses.Masses.{Masses}
use Rattle.md_expost.specs.declared.refusal.MassRefusal.{MassRefusal}
use Rattle.md_expost.specs.declared.refusal.MassRefusal.TheVariants.{Shape, Den, Negative, Absent, Over}
use Rattle.md_expost.specs.Masses.{rank_count, counts_in, cap_at, mass_in}

-- the list has a number for each list of counts and each kind
abbrev pub HasShape : SymmetricAuction → List ℤ → Type 0
HasShape a rows = length rows ≡ rank_count a * value_count a

-- the number at a place is not negative
abbrev pub IsMassAt : List ℤ → ℕ → Type 0
IsMassAt rows k = pos 0 ≤ℤ number_at rows k

-- the number at a place is not positive where no bidder has the value
abbrev pub IsPresentAt : SymmetricAuction → List ℤ → ℕ → Type 0
IsPresentAt a rows k = slice_index (counts_in a (k / value_count a)) (k % value_count a) ≡ 0 → number_at rows k ≤ℤ pos 0

-- the numbers of a rank do not add to more than there is to give
abbrev pub IsKeptAt : SymmetricAuction → ℤ → List ℤ → ℕ → Type 0
IsKeptAt a den rows rank = sum_to (value_count a) (mass_in a rows rank) ≤ℤ cap_at a den rank

-- what is in order before the signs are looked at
pub record HasFrame (a : SymmetricAuction) (y : Masses) : Type 0 where
  pub shape : HasShape a y.rows
  pub den : HasDen y.den

-- and before the counts are
pub record HasSigns (a : SymmetricAuction) (y : Masses) : Type 0 where
  pub frame : HasFrame a y
  pub signs : HoldsBelow (length y.rows) (IsMassAt y.rows)

-- and before the sums are
pub record HasPresent (a : SymmetricAuction) (y : Masses) : Type 0 where
  pub signs : HasSigns a y
  pub present : HoldsBelow (length y.rows) (IsPresentAt a y.rows)

-- the first reason for which y is refused
abbrev pub IsRefused : SymmetricAuction → Masses → MassRefusal → Type 0
IsRefused a y Shape = ¬ HasShape a y.rows
IsRefused a y Den = HasShape a y.rows × ¬ HasDen y.den
IsRefused a y (Negative place) = HasFrame a y × IsFirstFailure (length y.rows) (IsMassAt y.rows) place
IsRefused a y (Absent place) = HasSigns a y × IsFirstFailure (length y.rows) (IsPresentAt a y.rows) place
IsRefused a y (Over rank) = HasPresent a y × IsFirstFailure (rank_count a) (IsKeptAt a y.den y.rows) rank
