-- Which version of the format the first record of a file names.
use Rattle.std.specs.Prelude.{ℕ, ℤ, pos, List, None, Some, codes, if◌then◌else◌}
use Rattle.std.specs.Ordering.{int_eq}
use Rattle.std.specs.Str.{bytes_eq}
use Rattle.md_parts.specs.declared.version.Version.{Version}
use Rattle.md_parts.specs.declared.version.Version.TheVariants.{One, Two}
use Rattle.md_parts.specs.Fields.{Field}

abbrev pub version_text : Version → List ℕ
version_text One = codes "1"
version_text Two = codes "2"

-- the number that stands for a version among the numbers of a record
abbrev pub version_number : Version → ℤ
version_number One = pos 1
version_number Two = pos 2

-- the version that a number stands for
abbrev pub version_of : ℤ → Version
version_of number = if int_eq number (version_number Two) then Two else One

-- the field is the text of a version
abbrev pub version_field : Field
version_field text =
    if bytes_eq text (version_text One) then Some (version_number One)
    else (if bytes_eq text (version_text Two) then Some (version_number Two) else None)
