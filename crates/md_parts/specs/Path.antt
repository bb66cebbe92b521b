-- The records of paths of pivots, each with an entry that is too wide at its end.
use Rattle.std.specs.Prelude.{ℤ, List, [], ◌∷◌, map, codes, Option, None, Some, unsigned_abs}
use Rattle.md_math.specs.Lists.{number_at}
use Rattle.md_lp.specs.declared.pivot.Pivot.{Pivot}
use Rattle.md_lp.specs.declared.entry.Entry.{Entry}
use Rattle.md_lp.specs.declared.wide.Wide.{Wide}
use Rattle.md_parts.specs.declared.version.Version.{Version}
use Rattle.md_parts.specs.declared.version.Version.TheVariants.{One, Two}
use Rattle.md_parts.specs.Fields.{Field, table_place, wide_number, wide_denominator}
use Rattle.md_parts.specs.Reading.{Reading, ◌>>=◌, nothing_more, read_record}
use Rattle.md_parts.specs.Repeated.{repeated}

-- the row and the column of a pivot, whatever pivots come before it
abbrev pub pivot_fields : Unit {0} → List Field
pivot_fields _ = table_place ∷ table_place ∷ []

abbrev pub no_change : Unit {0} → List ℤ → Unit {0}
no_change state numbers = state

abbrev pub pivot_of : List ℤ → Pivot
pivot_of numbers = record { row = unsigned_abs (number_at numbers 0); column = unsigned_abs (number_at numbers 1) }

abbrev pub path_of : Reading (List Pivot)
path_of = do
  records ← repeated (codes "pivot") pivot_fields no_change tt
  nothing_more (map pivot_of records)

-- an entry with its place and its denominator
abbrev pub entry_of : Reading Entry
entry_of = do
  numbers ← read_record (codes "wide") (table_place ∷ table_place ∷ wide_number ∷ wide_denominator ∷ [])
  nothing_more record {
    row = unsigned_abs (number_at numbers 0);
    column = unsigned_abs (number_at numbers 1);
    num = number_at numbers 2;
    den = number_at numbers 3;
  }

-- a path, and the entry at its end
abbrev pub wide_of : Reading Wide
wide_of = do
  path ← path_of
  entry ← entry_of
  nothing_more record { path = path; entry = entry }

-- the part about the second path stands in the second version, behind a record of its own
abbrev pub second_of : Version → Reading (Option Wide)
second_of One = nothing_more None
second_of Two = do
  _ ← read_record (codes "again") []
  second ← wide_of
  nothing_more (Some second)

-- the version in which a second part is read, where there is one
abbrev pub version_with : Option Wide → Version
version_with None = One
version_with (Some second) = Two
