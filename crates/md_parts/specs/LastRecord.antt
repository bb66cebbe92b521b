-- The last record.
use Rattle.std.specs.Prelude.{[], codes}
use Rattle.md_parts.specs.Reading.{Reading, ◌>>=◌, read_record, nothing_left}

-- the end, after which nothing follows
abbrev pub read_end : Reading (Unit {0})
read_end = do
  _ ← read_record (codes "end") []
  nothing_left
