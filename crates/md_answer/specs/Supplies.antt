-- What an answer about an auction sells, and which masses tell who gets it.
use Rattle.std.specs.Prelude.{ℕ, List, codes}
use Rattle.md_setting.specs.Auction.{SymmetricAuction}
use Rattle.md_expost.specs.declared.masses.Masses.{Masses}
use Rattle.md_expost.specs.Masses.{AreMasses}
use Rattle.md_unit_tables.specs.Tables.{IsUnitTable}
use Rattle.md_answer.specs.declared.supply.Supply.{Supply}
use Rattle.md_answer.specs.declared.supply.Supply.TheVariants.{Item, Units}

-- how many units it has: the item is one
abbrev pub units_in : Supply → ℕ
units_in Item = 1
units_in (Units units) = units

-- the word that the first record of its answers has
abbrev pub word_for : Supply → List ℕ
word_for Item = codes "auction"
word_for (Units units) = codes "units"

-- the masses are a table of the auction that gives no more than it has
abbrev pub AreMassesOf : Supply → SymmetricAuction → Masses → Type 0
AreMassesOf Item a y = AreMasses a y
AreMassesOf (Units units) a y = IsUnitTable a units y
