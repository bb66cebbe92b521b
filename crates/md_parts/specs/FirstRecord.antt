-- The first record: the version of the format, the kind of what the file is about, and which answer it is.
use Rattle.std.specs.Prelude.{ℕ, ◌+◌, pos, Bool, true, List, [], ◌∷◌, slice_index_or, unsigned_abs, codes, None, Some, Ok, Err, if◌then◌else◌}
use Rattle.std.specs.Str.{bytes_eq}
use Rattle.md_math.specs.Lists.{number_at}
use Rattle.md_parts.specs.declared.refusal.AnswerRefusal.TheVariants.{Cell}
use Rattle.md_parts.specs.declared.version.Version.{Version}
use Rattle.md_parts.specs.declared.version.Version.TheVariants.{One, Two}
use Rattle.md_parts.specs.declared.first_record.Head.{Head}
use Rattle.md_parts.specs.Fields.{Field, word_field}
use Rattle.md_parts.specs.Versions.{version_field, version_of}
use Rattle.md_parts.specs.Reading.{Reading, ◌>>=◌, read_record}

-- the field is one of some words, and stands for the place of the first that it is
abbrev pub word_among_from : ℕ → List (List ℕ) → Field
word_among_from place [] text = None
word_among_from place (word ∷ words) text = if bytes_eq text word then Some (pos place) else word_among_from (place + 1) words text

abbrev pub word_among : List (List ℕ) → Field
word_among words = word_among_from 0 words

-- the word at a place
abbrev pub word_at : List (List ℕ) → ℕ → List ℕ
word_at words place = slice_index_or words place []

-- all words stand in the first version, and in the second that of answers of two parts
abbrev pub stands_in : Version → List ℕ → Bool
stands_in One word = true
stands_in Two word = bytes_eq word (codes "toowide")

-- a word that stands in the version; the word is field 4 of the record that was read last
abbrev pub in_version : List (List ℕ) → Version → ℕ → Reading Head
in_version words version place rest = if stands_in version (word_at words place) then Ok (record { version = version; word = place }, rest) else Err (Cell rest.read 4)

-- what the first record says, where these are the words of such answers
abbrev pub first_of : List ℕ → List (List ℕ) → Reading Head
first_of kind words = do
  numbers ← read_record (codes "answer") (version_field ∷ word_field kind ∷ word_among words ∷ [])
  in_version words (version_of (number_at numbers 0)) (unsigned_abs (number_at numbers 2))
