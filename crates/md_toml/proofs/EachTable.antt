-- Tables are read one by one: what was read so far stands before what the rest gives.
use Rattle.std.proofs.Common.{◌≡◌, ℕ, ◌+◌, ◌<◌, ◌≤◌, List, [], ◌∷◌, ◌++◌, length, get_or, drop, Ok, Err, BTreeMap, String, Global, Bor, refl, ap}
use Rattle.std.proofs.lemmas.List.{append-nil, drop_all, drop_more}
use Rattle.toml.specs.Data.{Members}
use Rattle.toml.specs.View.{table_view}
use Rattle.toml.specs.declared.value.Value.{Value}
use Rattle.md_toml.specs.declared.refusal.SettingRefusal.{SettingRefusal}
use Rattle.md_toml.specs.Reading.{Reading}
use Rattle.md_toml.specs.Values.{members_of_all, read_each}
use Rattle.md_toml.proofs.Each.{after, after-one, after-nothing}

abbrev Tables : Type 0
Tables = List (Bor (BTreeMap (String Global) Value))

-- all tables are yet to be read
pub tables-start : {T : Type 0} (read : Members → Reading T) (tables : Tables)
    → after [] (read_each read (members_of_all (drop 0 tables))) ≡ read_each read (members_of_all tables)
tables-start read tables = after-nothing (read_each read (members_of_all tables))

-- the next table was read
pub tables-goes_on : {T : Type 0} (read : Members → Reading T) (tables : Tables) (i : ℕ) (d : Bor (BTreeMap (String Global) Value)) (front : List T) (x : T)
    → i < length tables → read (table_view (get_or tables i d).now) ≡ Ok x
    → after front (read_each read (members_of_all (drop i tables)))
    ≡ after (front ++ x ∷ []) (read_each read (members_of_all (drop (i + 1) tables)))
tables-goes_on read tables i d front x within given =
    rw (drop_more tables i d within, given) (after-one front x (read_each read (members_of_all (drop (i + 1) tables))))

-- the next table was refused
pub tables-fails : {T : Type 0} (read : Members → Reading T) (tables : Tables) (i : ℕ) (d : Bor (BTreeMap (String Global) Value)) (front : List T) (e : SettingRefusal)
    → i < length tables → read (table_view (get_or tables i d).now) ≡ Err e
    → after front (read_each read (members_of_all (drop i tables))) ≡ Err e
tables-fails read tables i d front e within given = rw (drop_more tables i d within, given) refl

-- no table is left
pub tables-stops : {T : Type 0} (read : Members → Reading T) (tables : Tables) (i : ℕ) (front : List T)
    → length tables ≤ i → after front (read_each read (members_of_all (drop i tables))) ≡ Ok front
tables-stops read tables i front beyond = rw (drop_all i tables beyond) (ap Ok (append-nil front))
