use Rattle.std.proofs.Common.{◌≡◌, ◌∷◌, take}
use Rattle.md_cli_lp.specs.ProgramTexts.{program_record, cost_record, row_records, texts_of}
use Rattle.md_cli_lp.proofs.listing.records.Given as goal

abbrev pub invariant-loop-row : goal.invariant-loop-row
invariant-loop-row l = l.records.items ≡ program_record l.lp ∷ cost_record l.lp ∷ row_records l.lp 0 (take l.row (texts_of l.names))
