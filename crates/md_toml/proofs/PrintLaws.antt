-- Values put into a list or a table, beside their data.
use Rattle.std.proofs.Common.{◌≡◌, ℕ, ◌+◌, ◌<◌, List, [], ◌∷◌, ◌++◌, length, get_or, take, map, Ordering, Less, Equal, Greater, String, Global, string_bytes, refl, sym, ap, ◌∙◌}
use Rattle.std.specs.BTreeMap.{insert_entry}
use Rattle.std.specs.String.{string_cmp}
use Rattle.std.specs.Ordering.{match_ordering}
use Rattle.std.proofs.lemmas.List.{take_more, map-append}
use Rattle.toml.specs.Data.{Data, item, push_item}
use Rattle.toml.specs.View.{view, items_view, members_view}
use Rattle.toml.specs.declared.value.Value.{Value}
use Rattle.toml.proofs.Views.{items_view-push}
use Rattle.md_toml.specs.Writing.{put_member, items_from}

-- an entry put into a map
put-match : (o : Ordering) (a b c : List (String Global × Value)) → members_view (match_ordering o a b c) ≡ match_ordering o (members_view a) (members_view b) (members_view c)
put-match Less a b c = refl
put-match Equal a b c = refl
put-match Greater a b c = refl

pub members_view-insert : (entries : List (String Global × Value)) (key : String Global) (value : Value)
    → members_view (insert_entry string_cmp entries key value) ≡ put_member (string_bytes key) (view value) (members_view entries)
members_view-insert [] key value = refl
members_view-insert (e ∷ entries) key value = put-match (string_cmp key e.0) _ _ _ ∙ rw (members_view-insert entries key value) refl

-- the next value of a list
push-from : {T : Type 0} (data_of : T → Data) (xs : List T) (x : T) → push_item (items_from data_of xs) (data_of x) ≡ items_from data_of (xs ++ x ∷ [])
push-from data_of [] x = refl
push-from data_of (y ∷ xs) x = ap (item (data_of y)) (push-from data_of xs x)

pub items-more : {T : Type 0} (data_of : T → Data) (values : List Value) (value : Value) (xs : List T) (x : T)
    → items_view values ≡ items_from data_of xs → view value ≡ data_of x → items_view (values ++ value ∷ []) ≡ items_from data_of (xs ++ x ∷ [])
items-more data_of values value xs x e f = items_view-push values value ∙ rw (e, f) (push-from data_of xs x)

-- the same of what each of some things means
pub items-more_of : {S T : Type 0} (data_of : T → Data) (meaning : S → T) (values : List Value) (value : Value) (all : List S) (i : ℕ) (d : S) → i < length all
    → items_view values ≡ items_from data_of (map meaning (take i all)) → view value ≡ data_of (meaning (get_or all i d))
    → items_view (values ++ value ∷ []) ≡ items_from data_of (map meaning (take (i + 1) all))
items-more_of data_of meaning values value all i d h e f =
    items-more data_of values value (map meaning (take i all)) (meaning (get_or all i d)) e f
    ∙ ap (items_from data_of) (sym (ap (map meaning) (take_more all i d h) ∙ map-append meaning (take i all) (get_or all i d ∷ [])))
