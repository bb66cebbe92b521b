-- Optimal auctions in closed form (Myerson 1981), of one item or of several units: what is answered of one, and why nothing is.
use Rattle.std.specs.Prelude.{◌≡◌, ℕ, ◌<◌, pos, ◌*ℤ◌, ◌≤ℤ◌, List}
use Rattle.md_math.specs.Divisors.{IsLeastTerms}
use Rattle.md_math.specs.Lists.{number_at}
use Rattle.md_num.specs.declared.frac.Frac.{Frac}
use Rattle.md_setting.specs.Auction.{SymmetricAuction, value_count}
use Rattle.md_border.specs.declared.interim.Interim.{Interim}
use Rattle.md_border.specs.Worth.{IsWorthOf}
use Rattle.md_expost.specs.declared.masses.Masses.{Masses}
use Rattle.md_expost.specs.Implementing.{Implements}
use Rattle.md_cert.specs.declared.bound.Bound.{Bound}
use Rattle.md_iron_values.specs.Pools.{Pools}
use Rattle.md_iron_values.specs.Cuts.{cuts_of}
use Rattle.md_iron_pools.specs.ByRule.{IsAuctionByRule}
use Rattle.md_threshold_laws.specs.ClosedOdds.{IsClosedInterim}
use Rattle.md_unit_tables.specs.Tables.{ImplementsUnits, IsUnitTable, table_of}
use Rattle.md_unit_tables.specs.Worth.{HasUnitWorth}
use Rattle.md_units.specs.declared.units_answer.UnitsAnswer.{UnitsAnswer}
use Rattle.md_answer.specs.declared.answer.Answer.{Answer}
use Rattle.md_answer.specs.declared.answer.Answer.TheVariants.{AuctionOptimal}
use Rattle.md_iron.specs.declared.forms.ClosedForm.{ClosedForm}
use Rattle.md_iron.specs.ShortBounds.{HasNoShortBound, IsClosedBound}

-- ---- for any number of units

-- the odds, the payments, the cuts and the multipliers are those of the pools that the rule names
pub record IsClosedForm (a : SymmetricAuction) (units : ℕ) (interim : Interim) (cuts : List ℕ) (bound : Bound) : Type 0 where
  pub pools : Pools
  pub by_rule : IsAuctionByRule a pools
  pub interim_is : IsClosedInterim a units pools interim
  pub cuts_are : cuts ≡ cuts_of (value_count a) pools
  pub bound_is : IsClosedBound a units pools bound

abbrev pub IsForm : SymmetricAuction → ℕ → ClosedForm → Type 0
IsForm a units form = IsClosedForm a units form.interim form.cuts form.bound

-- the multipliers of the pools that the rule names are too long
pub record HasLongMultipliers (a : SymmetricAuction) (units : ℕ) : Type 0 where
  pub pools : Pools
  pub by_rule : IsAuctionByRule a pools
  pub long : HasNoShortBound a units pools

-- each value pays from nothing to what a unit is worth to it, as often as it has one
pub record PaysWithinValue (a : SymmetricAuction) (interim : Interim) : Type 0 where
  pub nonneg : (v : ℕ) → v < value_count a → pos 0 ≤ℤ number_at interim.pays v
  pub at_most : (v : ℕ) → v < value_count a → number_at interim.pays v ≤ℤ (number_at a.values v *ℤ number_at interim.odds v)

-- ---- answers about one item

-- they are those of one item, with the value in least terms, and the masses have the odds
pub record IsClosedItem (a : SymmetricAuction) (value : Frac) (interim : Interim) (masses : Masses) (cuts : List ℕ) (bound : Bound) : Type 0 where
  pub form : IsClosedForm a 1 interim cuts bound
  pub value_is : IsWorthOf a interim value
  pub implements : Implements a interim masses

abbrev pub IsClosedAnswer : SymmetricAuction → Answer → Type 0
IsClosedAnswer a (AuctionOptimal value interim masses cuts bound) = IsClosedItem a value interim masses cuts bound
IsClosedAnswer a _ = ⊥

-- no other value, odds, payments, cuts and multipliers are so, and the multipliers are not too long
pub record IsOneItem (a : SymmetricAuction) (value : Frac) (interim : Interim) (cuts : List ℕ) (bound : Bound) : Type 0 where
  pub only : (value' : Frac) (interim' : Interim) (masses' : Masses) (cuts' : List ℕ) (bound' : Bound) → IsClosedItem a value' interim' masses' cuts' bound'
      → (value' ≡ value) × (interim' ≡ interim) × (cuts' ≡ cuts) × (bound' ≡ bound)
  pub short : ¬ HasLongMultipliers a 1

abbrev pub IsOneAnswer : SymmetricAuction → Answer → Type 0
IsOneAnswer a (AuctionOptimal value interim masses cuts bound) = IsOneItem a value interim cuts bound
IsOneAnswer a _ = ⊥

abbrev pub IsPaidWithinValue : SymmetricAuction → Answer → Type 0
IsPaidWithinValue a (AuctionOptimal value interim masses cuts bound) = PaysWithinValue a interim
IsPaidWithinValue a _ = ⊥

-- ---- answers about several units

-- they are those of so many units, with the value in least terms, and the masses are a unit table that has the odds
pub record IsClosedUnits (a : SymmetricAuction) (units : ℕ) (answer : UnitsAnswer) : Type 0 where
  pub form : IsClosedForm a units answer.interim answer.cuts answer.bound
  pub value_is : HasUnitWorth a units answer.interim answer.value
  pub least : IsLeastTerms answer.value.num answer.value.den
  pub table : IsUnitTable a units (table_of answer.interim answer.masses)
  pub implements : ImplementsUnits a answer.interim answer.masses

-- all others differ from it in nothing but their masses, and the multipliers are not too long
pub record IsOneUnits (a : SymmetricAuction) (units : ℕ) (answer : UnitsAnswer) : Type 0 where
  pub only : (other : UnitsAnswer) → IsClosedUnits a units other
      → (other.value ≡ answer.value) × (other.interim ≡ answer.interim) × (other.cuts ≡ answer.cuts) × (other.bound ≡ answer.bound)
  pub short : ¬ HasLongMultipliers a units
