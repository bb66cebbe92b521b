-- The two files of a call, under their names.
use Rattle.std.specs.Prelude.{ℕ, List, Option, Some, codes, if◌then◌else◌}
use Rattle.std.specs.Str.{bytes_eq}

-- the name `setting` has the first file, and every other name the second
abbrev pub file_of : List ℕ → List ℕ → List ℕ → List ℕ
file_of setting second name = if bytes_eq name (codes "setting") then setting else second

abbrev pub files_in : List ℕ → List ℕ → List ℕ → Option (List ℕ)
files_in setting second name = Some (file_of setting second name)
