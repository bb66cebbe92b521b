-- Files in memory as a list, where the first file of a name counts.
use Rattle.std.specs.Prelude.{ℕ, ◌≤◌, ◌≢◌, ◌<◌, ◌≡◌, Bool, true, false, length, slice_index_or, List, [], ◌∷◌, Option, Some, None, if◌then◌else◌, string_bytes}
use Rattle.std.specs.Str.{bytes_eq}
use Rattle.md_ports.specs.Faults.{next_count}
use Rattle.md_ports.specs.declared.file.File.{File}

-- what lies under a name
abbrev pub content_in : List File → List ℕ → Option (List ℕ)
content_in [] name = None
content_in (f ∷ fs) name = if bytes_eq (string_bytes f.name) name then Some f.bytes.items else content_in fs name

-- the faults of a name; the names that are not there share one count
abbrev pub count_in : ℕ → List File → List ℕ → ℕ
count_in absent [] name = absent
count_in absent (f ∷ fs) name = if bytes_eq (string_bytes f.name) name then f.faults else count_in absent fs name

-- a file has a name
abbrev pub is_named : List ℕ → File → Bool
is_named name f = bytes_eq (string_bytes f.name) name

-- the file at place i is the first of its name
pub record IsFirstNamed (fs : List File) (name : List ℕ) (i : ℕ) (d : File) : Type 0 where
  pub within : i < length fs
  pub named : is_named name (slice_index_or fs i d) ≡ true
  pub before : (k : ℕ) → k < i → is_named name (slice_index_or fs k d) ≡ false

-- no file has the name
pub record IsAbsent (fs : List File) (name : List ℕ) : Type 0 where
  pub no_content : content_in fs name ≡ None
  pub count : (absent : ℕ) → count_in absent fs name ≡ absent

-- the bytes of a name are replaced, and nothing else
pub record Replaces (old new : List File) (name bytes : List ℕ) : Type 0 where
  pub content : content_in new name ≡ Some bytes
  pub others : (n : List ℕ) → n ≢ name → content_in new n ≡ content_in old n
  pub counts : (absent : ℕ) (n : List ℕ) → count_in absent new n ≡ count_in absent old n

-- a fault is counted at a name that is there, and nothing else changes
pub record CountsFault (old new : List File) (name : List ℕ) : Type 0 where
  pub there : content_in old name ≢ None
  pub counted : (absent : ℕ) → count_in absent new name ≡ next_count (count_in absent old name)
  pub others : (absent : ℕ) (n : List ℕ) → n ≢ name → count_in absent new n ≡ count_in absent old n
  pub rises : (absent : ℕ) (n : List ℕ) → count_in absent old n ≤ count_in absent new n
  pub contents : (n : List ℕ) → content_in new n ≡ content_in old n
