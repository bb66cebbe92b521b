-- What a sink that never fails tells.
use Rattle.std.specs.Prelude.{ℕ, ◌+◌, List, ◌++◌, Option, Some, None, length, nat_le, if◌then◌else◌}
use Rattle.md_ports.specs.declared.clean_sink.CleanSink.{CleanSink}

-- the bytes so far; `None` once more bytes came than it has room for
abbrev pub told : CleanSink → Option (List ℕ)
told s = if s.overflowed then None else Some s.held.items

-- how many bytes it has room for in all
abbrev pub room_of : CleanSink → ℕ
room_of s = s.room

-- what a sink of that room tells after a piece
abbrev pub told_after : ℕ → Option (List ℕ) → List ℕ → Option (List ℕ)
told_after room None piece = None
told_after room (Some bytes) piece = if nat_le (length bytes + length piece) room then Some (bytes ++ piece) else None
