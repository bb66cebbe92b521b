-- The place of a value is that of the first record that has it.
use Rattle.std.proofs.Common.{◌≡◌, ℕ, zero, suc, ◌<◌, true, false, List, [], ◌∷◌, length, slice_index_or, refl, ap, ◌∙◌, arith}
use Rattle.md_list.specs.declared.ranked.Ranked.{Ranked}
use Rattle.md_list.specs.Lists.{rank_of, ranks_of}
use Rattle.md_list.specs.Ranks.{has_value, place_of}
use Rattle.md_list.proofs.PlaceLaws.{place-here, place-later}

abbrev pub ranked_at : List Ranked → ℕ → Ranked
ranked_at list p = slice_index_or list p (record { group = 0; first = 0; stop = 0 })

-- no record before a place has the value
abbrev pub NoneBefore : List Ranked → ℕ → ℕ → ℕ → Type 0
NoneBefore list k v place = (p : ℕ) → p < place → has_value (rank_of (ranked_at list p)) k v ≡ false

pub place-found : (list : List Ranked) (k v place : ℕ) → NoneBefore list k v place → place < length list → has_value (rank_of (ranked_at list place)) k v ≡ true → place_of (ranks_of list) k v ≡ place
place-found [] k v place none b e = absurd (omega (arith, b))
place-found (first ∷ others) k v zero none b e = place-here (rank_of first) (ranks_of others) k v e
place-found (first ∷ others) k v (suc place) none b e =
    place-later (rank_of first) (ranks_of others) k v (none 0 (omega arith))
    ∙ ap suc (place-found others k v place (λ p l. none (suc p) (omega (arith, l))) (omega (arith, b)) e)

pub place-behind : (list : List Ranked) (k v : ℕ) → NoneBefore list k v (length list) → place_of (ranks_of list) k v ≡ length list
place-behind [] k v none = refl
place-behind (first ∷ others) k v none =
    place-later (rank_of first) (ranks_of others) k v (none 0 (omega arith))
    ∙ ap suc (place-behind others k v (λ p l. none (suc p) (omega (arith, l))))
