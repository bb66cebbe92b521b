-- What a shelf that never fails holds.
use Rattle.std.specs.Prelude.{ℕ, List, [], Option, Some, unwrap_or}
use Rattle.md_ports.specs.MemShelf.{content_of}
use Rattle.md_ports.specs.declared.clean_shelf.CleanShelf.{CleanShelf}

-- what lies under a name; a name that is not there has an empty file
abbrev pub bytes_under : CleanShelf → List ℕ → List ℕ
bytes_under s name = unwrap_or (content_of s.shelf name) []

abbrev pub told_under : CleanShelf → List ℕ → Option (List ℕ)
told_under s name = Some (bytes_under s name)
