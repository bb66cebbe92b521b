-- What a sink in memory holds.
use Rattle.std.specs.Prelude.{ℕ, ◌+◌, ◌-◌, List, Option, Some, None, length, min, nat_lt, unwrap_or, if◌then◌else◌}
use Rattle.std.specs.Ordering.{nat_cmp}
use Rattle.std.specs.BTreeMap.{get}
use Rattle.md_ports.specs.MemShelf.{last_call}
use Rattle.md_ports.specs.declared.mem_sink.MemSink.{MemSink}

-- the bytes so far
abbrev pub held : MemSink → List ℕ
held s = s.held.items

abbrev pub told : MemSink → Option (List ℕ)
told s = Some (held s)

-- how many bytes it has room for in all
abbrev pub room_of : MemSink → ℕ
room_of s = s.room

-- how often it has failed
abbrev pub count_of : MemSink → ℕ
count_of s = s.faults

-- the number of the last call, where 0 is none. Calls past the last number have none.
abbrev pub calls_of : MemSink → ℕ
calls_of s = s.calls

-- how many bytes the write of a number takes before it fails; `None` where it is not to fail
abbrev pub taken_at : MemSink → ℕ → Option ℕ
taken_at s call = get nat_cmp s.failing call

-- the same of the next write
abbrev pub next_taken : MemSink → Option ℕ
next_taken s = if nat_lt (calls_of s) last_call then taken_at s (calls_of s + 1) else None

-- how many bytes of a piece of n bytes the next write takes if it fails
abbrev pub front_taken : MemSink → ℕ → ℕ
front_taken s n = min (unwrap_or (next_taken s) n) (min n (room_of s - length (held s)))
