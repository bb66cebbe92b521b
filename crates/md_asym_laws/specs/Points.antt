-- Points of the program of a sale with a cut for each pair alone.
use Rattle.std.specs.Prelude.{ℕ, ℤ, List}
use Rattle.md_setting.specs.Setting.{GeneralSetting}
use Rattle.md_lp.specs.Program.{Program}
use Rattle.md_lp.specs.Point.{Meets}
use Rattle.md_lp.specs.Cuts.{HasSingles}
use Rattle.md_asym_sale.specs.ProgramOf.{IsSaleProgram}
use Rattle.md_asym_sale.specs.Values.{pairs_of}

-- the numbers over the denominator are a point that meets such a program
pub record MeetsSale (s : GeneralSetting) (den : ℤ) (x : ℕ → ℤ) : Type 0 where
  pub cuts : List ℕ
  pub program : Program
  pub is_program : IsSaleProgram s cuts program
  pub singles : HasSingles (pairs_of s) cuts
  pub meets : Meets program den x
