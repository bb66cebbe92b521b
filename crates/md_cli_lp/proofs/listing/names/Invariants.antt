use Rattle.std.proofs.Common.{◌≡◌, map, take}
use Rattle.md_mech.specs.Rows.{conditions_of}
use Rattle.md_mech.specs.RowName.{name_of}
use Rattle.md_cli_lp.specs.ProgramTexts.{texts_of}
use Rattle.md_cli_lp.proofs.listing.names.Given as goal

abbrev pub invariant-loop-row : goal.invariant-loop-row
invariant-loop-row l = texts_of l.names.items ≡ map (name_of l.setting) (take l.row (conditions_of l.setting))
