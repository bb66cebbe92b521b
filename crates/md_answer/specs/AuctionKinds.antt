-- Which answer about an auction the first record of a file names.
use Rattle.std.specs.Prelude.{ℕ, ◌==◌, List, [], ◌∷◌, codes, if◌then◌else◌}
use Rattle.md_answer.specs.declared.auction_kind.AuctionKind.{AuctionKind}
use Rattle.md_answer.specs.declared.auction_kind.AuctionKind.TheVariants.{Optimal, TooWide}

-- the words of answers about auctions
abbrev pub auction_words : List (List ℕ)
auction_words = codes "optimal" ∷ codes "toowide" ∷ []

-- the place of a kind's word among them
abbrev pub place_of : AuctionKind → ℕ
place_of Optimal = 0
place_of TooWide = 1

abbrev pub word_of : AuctionKind → List ℕ
word_of Optimal = codes "optimal"
word_of TooWide = codes "toowide"

-- the kind whose word stands at a place
abbrev pub kind_of : ℕ → AuctionKind
kind_of place = if place == 0 then Optimal else TooWide
