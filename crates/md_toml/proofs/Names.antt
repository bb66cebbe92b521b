-- The names of a table are the keys of its map.
use Rattle.std.proofs.Common.{◌≡◌, List, [], ◌∷◌, ◌&&◌, String, Global, string_bytes, refl, ap}
use Rattle.std.specs.List.{list_all}
use Rattle.std.specs.Map.{keys_of}
use Rattle.toml.specs.View.{members_view}
use Rattle.toml.specs.declared.value.Value.{Value}
use Rattle.md_toml.specs.declared.key.Key.{Key}
use Rattle.md_toml.specs.Known.{has_only, is_among}

pub has_only-view : (keys : List Key) (entries : List (String Global × Value))
    → list_all (λ name. is_among keys (string_bytes name)) (keys_of entries) ≡ has_only keys (members_view entries)
has_only-view keys [] = refl
has_only-view keys (entry ∷ entries) = ap (λ others. is_among keys (string_bytes entry.0) && others) (has_only-view keys entries)

pub ruleset names_of_tables = has_only-view
