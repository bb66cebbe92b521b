-- That a program has room for all conditions of a setting.
use Rattle.std.proofs.Common.{◌≡◌, [], length, ap, arith}
use Rattle.std.proofs.lemmas.List.{length-map}
use Rattle.md_setting.specs.Setting.{GeneralSetting}
use Rattle.md_setting.specs.Shaped.{IsShaped}
use Rattle.md_setting.specs.Rows.{column_count}
use Rattle.md_mech.specs.Rows.{conditions_of}
use Rattle.md_mech.proofs.CountLaws.{conditions-length}
use Rattle.md_lp.specs.Program.{Program}
use Rattle.md_rows.specs.ProgramOf.{form_of}
use Rattle.md_rows.specs.Built.{HasRoom}

-- a program with the columns and no row has room for all conditions
pub whole-room : (s : GeneralSetting) (p : Program) → IsShaped s → p.columns ≡ column_count s → p.rows ≡ [] → HasRoom s (conditions_of s) p
whole-room s p shaped columns none = record {
  columns = omega (arith, columns);
  room = record { room = omega (arith, ap length none, conditions-length s, length-map (conditions_of s) (form_of s), shaped.few_rows) };
}
