use Rattle.std.proofs.Common.{◌≡◌, take}
use Rattle.md_records.specs.Written.{text_of_records}
use Rattle.md_replay.specs.Records.{basis_records}
use Rattle.md_replay.proofs.text.bases_text.Given as goal

abbrev pub invariant-loop-place : goal.invariant-loop-place
invariant-loop-place l = l.text.items ≡ text_of_records (basis_records 0 (take l.place l.dens) (take l.place l.greatest))
