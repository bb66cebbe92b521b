-- What a reader of records has left.
use Rattle.std.specs.Prelude.{ℕ, ◌≡◌, Bool, true, false, List, [], Option, Some, None, if◌then◌else◌}
use denote.Ref.{Bor}
use Rattle.csv.specs.Machine.{ends_at_end}
use Rattle.csv.specs.Reading.{default_config, source_of, Ready}
use Rattle.csv.specs.declared.reader.Reader.{Reader}
use Rattle.csv.specs.declared.reader.Trim.TheVariants as trim
use Rattle.csv.specs.declared.parser.State.{State}
use Rattle.md_records.specs.Text.{records_left}

-- the bytes that a reader of bytes in memory has left
abbrev pub bytes_left : Reader (Bor (List ℕ)) → Option (List ℕ)
bytes_left reader = source_of (λ bytes. Some bytes.now) reader

abbrev pub records_in : State → Option (List ℕ) → List (List (List ℕ))
records_in state None = []
records_in state (Some bytes) = records_left state bytes

-- the records that are left
abbrev pub left_of : Bool → Reader (Bor (List ℕ)) → List (List (List ℕ))
left_of ended reader = if ended then [] else records_in reader.state (bytes_left reader)

-- a reader that is about to read a record
pub record IsReading (reader : Reader (Bor (List ℕ))) : Type 0 where
  pub trim_none : reader.trim ≡ trim.None
  pub config : reader.config ≡ default_config
  pub flexible : reader.flexible ≡ true
  pub ready : Ready reader
  pub between : ends_at_end reader.state ≡ false
  pub bytes : List ℕ
  pub known : bytes_left reader ≡ Some bytes
