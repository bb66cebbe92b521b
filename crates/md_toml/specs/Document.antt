-- What the bytes of a file say as a document, and what its first keys say.
use Rattle.std.specs.Prelude.{ℕ, pos, Bool, false, List, Ok, Err, Option, None, Some, codes, if◌then◌else◌, int_le, ◌&&◌}
use Rattle.std.specs.Str.{bytes_eq, is_utf8}
use Rattle.toml.specs.Data.{Data, string, Members, get_member}
use Rattle.toml.specs.Parse.{parse_document}
use Rattle.md_toml.specs.declared.document.Kind.{Kind}
use Rattle.md_toml.specs.declared.document.Kind.TheVariants.{General, Auction, Bidders}
use Rattle.md_toml.specs.declared.document.Version.{Version}
use Rattle.md_toml.specs.declared.document.Version.TheVariants.{One, Two}
use Rattle.md_toml.specs.declared.key.Key.{Key}
use Rattle.md_toml.specs.declared.key.Key.TheVariants as key
use Rattle.md_toml.specs.declared.refusal.SettingRefusal.TheVariants.{NotToml, UnknownWord}
use Rattle.md_toml.specs.Keys.{member_name}
use Rattle.md_toml.specs.Reading.{Reading, ◌>>=◌}
use Rattle.md_toml.specs.Values.{text_in, integer_in, required}

-- the document that `toml` reads of some bytes that are text
abbrev pub parsed : Option Members → Reading Members
parsed None = Err NotToml
parsed (Some members) = Ok members

abbrev pub document_of : List ℕ → Reading Members
document_of bytes = if is_utf8 bytes then parsed (parse_document bytes) else Err NotToml

-- the word that says what the file is for
abbrev pub format_in : Key → Data → Reading (Unit {0})
format_in k value = do
  word ← text_in k value
  if bytes_eq word (codes "mechanism-setting") then Ok tt else Err (UnknownWord k)

-- the value is this text
abbrev pub is_text : List ℕ → Data → Bool
is_text word (string text) = bytes_eq text word
is_text word _ = false

-- the file says that it is about groups of bidders
abbrev pub says_bidders : Members → Bool
says_bidders members = elim (get_member (member_name key.Kind) members) [
  | None ↦ false
  | Some value ↦ is_text (codes "bidders") value
]

-- the version of the format, which is 1 or 2; or it is 3, that of groups of bidders alone
abbrev pub version_in : Bool → Key → Data → Reading (Option Version)
version_in of_bidders k value = do
  number ← integer_in k value
  if int_le number (pos 1) && int_le (pos 1) number then Ok (Some One)
      else (if int_le number (pos 2) && int_le (pos 2) number then Ok (Some Two)
      else (if (int_le number (pos 3) && int_le (pos 3) number) && of_bidders then Ok None
      else Err (UnknownWord k)))

-- the kind of setting in the first two versions
abbrev pub kind_in : Version → Key → Data → Reading Kind
kind_in version k value = do
  word ← text_in k value
  if bytes_eq word (codes "general") then Ok (General version)
      else (if bytes_eq word (codes "auction") then Ok Auction
      else Err (UnknownWord k))

abbrev pub kind_by : Option Version → Members → Reading Kind
kind_by (Some version) members = required (kind_in version) key.Kind members
kind_by None _ = Ok Bidders

-- what the first keys say: the kind of the file, and the version where that tells something
abbrev pub kind_of : Members → Reading Kind
kind_of members = do
  _ ← required format_in key.Format members
  version ← required (version_in (says_bidders members)) key.Version members
  kind_by version members
