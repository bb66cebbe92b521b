-- A list is read item by item: what was read so far stands before what the rest gives.
use Rattle.std.proofs.Common.{◌≡◌, ℕ, ◌+◌, ◌<◌, ◌≤◌, List, [], ◌∷◌, ◌++◌, length, get_or, drop, Ok, Err, refl, ap, sym, append_assoc}
use Rattle.std.proofs.lemmas.List.{append-nil, drop_all}
use Rattle.toml.specs.Data.{Data}
use Rattle.toml.specs.View.{view, items_view}
use Rattle.toml.specs.declared.value.Value.{Value}
use Rattle.toml.proofs.Views.{items_view-drop}
use Rattle.md_toml.specs.declared.refusal.SettingRefusal.{SettingRefusal}
use Rattle.md_toml.specs.Reading.{Reading, ◌>>=◌}
use Rattle.md_toml.specs.Values.{each_item}

-- what was read before, and what the rest gives
abbrev pub after : {T : Type 0} → List T → Reading (List T) → Reading (List T)
after front (Ok rest) = Ok (front ++ rest)
after front (Err e) = Err e

pub after-nothing : {T : Type 0} (given : Reading (List T)) → after [] given ≡ given
after-nothing (Ok rest) = refl
after-nothing (Err e) = refl

pub after-one : {T : Type 0} (front : List T) (x : T) (given : Reading (List T))
    → after front (given >>= λ others. Ok (x ∷ others)) ≡ after (front ++ x ∷ []) given
after-one front x (Ok rest) = ap Ok (sym (append_assoc front (x ∷ []) rest))
after-one front x (Err e) = refl

-- all of a list is yet to be read
pub each-start : {T : Type 0} (read : Data → Reading T) (values : List Value)
    → after [] (each_item read (items_view (drop 0 values))) ≡ each_item read (items_view values)
each-start read values = after-nothing (each_item read (items_view values))

-- the next item was read
pub each-goes_on : {T : Type 0} (read : Data → Reading T) (values : List Value) (i : ℕ) (d : Value) (front : List T) (x : T)
    → i < length values → read (view (get_or values i d)) ≡ Ok x
    → after front (each_item read (items_view (drop i values)))
    ≡ after (front ++ x ∷ []) (each_item read (items_view (drop (i + 1) values)))
each-goes_on read values i d front x within given =
    rw (items_view-drop values i d within, given) (after-one front x (each_item read (items_view (drop (i + 1) values))))

-- the next item was refused
pub each-fails : {T : Type 0} (read : Data → Reading T) (values : List Value) (i : ℕ) (d : Value) (front : List T) (e : SettingRefusal)
    → i < length values → read (view (get_or values i d)) ≡ Err e
    → after front (each_item read (items_view (drop i values))) ≡ Err e
each-fails read values i d front e within given = rw (items_view-drop values i d within, given) refl

-- no item is left
pub each-stops : {T : Type 0} (read : Data → Reading T) (values : List Value) (i : ℕ) (front : List T)
    → length values ≤ i → after front (each_item read (items_view (drop i values))) ≡ Ok front
each-stops read values i front beyond = rw (drop_all i values beyond) (ap Ok (append-nil front))
