-- A text of comma-separated values as the list of its records.
use Rattle.std.specs.Prelude.{ℕ, ◌+◌, List, length}
use Rattle.csv.specs.Reading.{default_config, records_from, strip_bom}
use Rattle.csv.specs.declared.parser.State.{State}
use Rattle.csv.specs.declared.parser.State.TheVariants.{StartRecord}

-- the records of the bytes that are left, from a state of the machine that reads them. A record takes a byte at
-- least, so there are no more of them than bytes.
abbrev pub records_left : State → List ℕ → List (List (List ℕ))
records_left state bytes = records_from default_config (length bytes + 1) state bytes

-- the records of a text, after a byte order mark
abbrev pub records_of : List ℕ → List (List (List ℕ))
records_of text = records_left StartRecord (strip_bom text)
