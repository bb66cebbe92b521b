-- What one value of a document says, by the kind that its key demands.
use Rattle.std.specs.Borrow.{Bor}
use Rattle.std.specs.BTreeMap.{BTreeMap}
use Rattle.std.specs.declared.alloc.Global.{Global}
use Rattle.std.specs.Prelude.{String, map, ℕ, ℤ, Bool, List, [], ◌∷◌, Ok, Err, None, Some}
use Rattle.toml.specs.Data.{Data, string, integer, boolean, array, table, Items, no_items, item, Members, get_member}
use Rattle.toml.specs.View.{table_view}
use Rattle.toml.specs.declared.value.Value.{Value}
use Rattle.md_toml.specs.declared.key.Key.{Key}
use Rattle.md_toml.specs.declared.refusal.SettingRefusal.TheVariants.{Missing, WrongKind}
use Rattle.md_toml.specs.Keys.{member_name}
use Rattle.md_toml.specs.Reading.{Reading, ◌>>=◌}

abbrev pub text_in : Key → Data → Reading (List ℕ)
text_in key (string text) = Ok text
text_in key _ = Err (WrongKind key)

abbrev pub integer_in : Key → Data → Reading ℤ
integer_in key (integer number) = Ok number
integer_in key _ = Err (WrongKind key)

abbrev pub truth_value_in : Key → Data → Reading Bool
truth_value_in key (boolean value) = Ok value
truth_value_in key _ = Err (WrongKind key)

abbrev pub table_in : Key → Data → Reading Members
table_in key (table members) = Ok members
table_in key _ = Err (WrongKind key)

-- each item, read one after the other
abbrev pub each_item : {T : Type 0} → (Data → Reading T) → Items → Reading (List T)
each_item read no_items = Ok []
each_item read (item value rest) = do
  first ← read value
  others ← each_item read rest
  Ok (first ∷ others)

abbrev pub list_in : {T : Type 0} → (Key → Data → Reading T) → Key → Data → Reading (List T)
list_in read key (array items) = each_item (read key) items
list_in read key _ = Err (WrongKind key)

-- the value of a key that must stand
abbrev pub value_at : Key → Members → Reading Data
value_at key members = elim (get_member (member_name key) members) [
  | None ↦ Err (Missing key)
  | Some value ↦ Ok value
]

-- what a key says that must stand
abbrev pub required : {T : Type 0} → (Key → Data → Reading T) → Key → Members → Reading T
required read key members = value_at key members >>= read key

-- what a key says that may be absent, and then means a default
abbrev pub defaulted : {T : Type 0} → (Key → Data → Reading T) → T → Key → Members → Reading T
defaulted read default key members = elim (get_member (member_name key) members) [
  | None ↦ Ok default
  | Some value ↦ read key value
]

-- each table, read one after the other
abbrev pub read_each : {T : Type 0} → (Members → Reading T) → List Members → Reading (List T)
read_each read [] = Ok []
read_each read (members ∷ rest) = do
  first ← read members
  others ← read_each read rest
  Ok (first ∷ others)

-- the members of each of some tables
abbrev pub members_of_all : List (Bor (BTreeMap (String Global) Value)) → List Members
members_of_all tables = map (λ members. table_view members.now) tables
