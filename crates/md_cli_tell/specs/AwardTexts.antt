-- The records that tell what bidders have where units are awarded.
use Rattle.std.specs.Prelude.{ℕ, ◌+◌, pos, Bool, false, List, [], ◌∷◌, ◌++◌, length, codes, slice_index_or, Option, Some, None, if◌then◌else◌}
use Rattle.md_math.specs.Lists.{up_to}
use Rattle.md_num.specs.declared.frac.Frac.{Frac}
use Rattle.md_records.specs.Written.{text_of_records}
use Rattle.md_parts.specs.Rows.{end_row, number_row}
use Rattle.md_threshold.specs.declared.shares.Share.{Share}
use Rattle.md_cli_tell.specs.declared.award_text.Part.{Part}
use Rattle.md_cli_tell.specs.declared.award_text.Part.TheVariants.{Chance, Price, Win}

-- what the bidder of a place has, counted from 0
abbrev pub no_share : Share
no_share = record { chance = record { num = pos 0; den = pos 1 }; price = None; wins = false }

abbrev pub share_at : List Share → ℕ → Share
share_at shares i = slice_index_or shares i no_share

-- a fraction of a bidder, who is counted from 1
abbrev pub bidder_row : List ℕ → ℕ → Frac → List (List ℕ)
bidder_row word i frac = number_row word (pos (i + 1) ∷ frac.num ∷ frac.den ∷ [])

-- a price, where a bidder ever wins
abbrev pub paid_rows : ℕ → Option Frac → List (List (List ℕ))
paid_rows i None = []
paid_rows i (Some price) = bidder_row (codes "price") i price ∷ []

-- that a bidder wins, where it does
abbrev pub win_rows : ℕ → Bool → List (List (List ℕ))
win_rows i wins = if wins then number_row (codes "wins") (pos (i + 1) ∷ []) ∷ [] else []

-- what a part tells of a bidder
abbrev pub share_rows : Part → ℕ → Share → List (List (List ℕ))
share_rows Chance i share = bidder_row (codes "chance") i share.chance ∷ []
share_rows Price i share = paid_rows i share.price
share_rows Win i share = win_rows i share.wins

-- and of all bidders, in their order
abbrev pub part_rows : Part → List Share → List (List (List ℕ))
part_rows part shares = up_to (length shares) (λ i. share_rows part i (share_at shares i))

-- how often each wins, then what each pays who ever wins, then who wins at the draw
abbrev pub award_records : List Share → List (List (List ℕ))
award_records shares = part_rows Chance shares ++ part_rows Price shares ++ part_rows Win shares ++ end_row ∷ []

abbrev pub text_of_award : List Share → List ℕ
text_of_award shares = text_of_records (award_records shares)
