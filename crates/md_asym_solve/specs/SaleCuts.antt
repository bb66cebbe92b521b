-- The cut runs of sales, over their programs.
use Rattle.std.specs.Prelude.{◌≡◌, ℕ, ℤ, ◌-ℤ◌, ◌*ℤ◌, List}
use Rattle.md_math.specs.Sizes.{AllWithin}
use Rattle.md_setting.specs.Setting.{GeneralSetting}
use Rattle.md_mech.specs.Accepted.{number_limit}
use Rattle.md_cut_runs.specs.Cutting.{Cutting}
use Rattle.md_asym_sale.specs.ProgramOf.{IsSaleProgram}
use Rattle.md_asym_sale.specs.Sides.{demands_in, right_of}
use Rattle.md_asym_sale.specs.Values.{pairs_of}
use Rattle.md_asym_tables.specs.Odds.{AreOdds}
use Rattle.md_asym_tables.specs.Tables.{IsProfileTable, Implements}
use Rattle.md_asym.specs.Gains.{odds_in, pays_in}
use Rattle.md_asym_solve.specs.declared.sale.Realised.{Realised}

-- the places are the pairs of an agent and a type, the programs those of the sale, and a set of pairs is over by how much its
-- demands are above its right side
abbrev pub sale_cutting : GeneralSetting → Cutting
sale_cutting s = record { places = pairs_of s; is_program = IsSaleProgram s; excess = λ den x set. demands_in s x set -ℤ den *ℤ right_of s set }

-- the odds and payments of a point, and a profile table that has exactly the odds
pub record IsRealised (s : GeneralSetting) (den : ℤ) (x : ℕ → ℤ) (realised : Realised) : Type 0 where
  pub odds_are : realised.odds ≡ odds_in s x
  pub pays_are : realised.pays ≡ pays_in s x
  pub fits : AreOdds s den realised.odds
  pub pay_size : AllWithin number_limit realised.pays
  pub table : IsProfileTable s den realised.masses
  pub implements : Implements s realised.odds realised.masses
