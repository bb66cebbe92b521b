-- The records that an answer about an auction, or about several units, is written as.
use Rattle.std.specs.Prelude.{ℕ, List, [], ◌∷◌, ◌++◌}
use Rattle.md_setting.specs.Auction.{SymmetricAuction}
use Rattle.md_records.specs.Written.{text_of_records}
use Rattle.md_answer.specs.declared.answer.Answer.{Answer}
use Rattle.md_answer.specs.declared.answer.Answer.TheVariants.{AuctionOptimal, TooWide}
use Rattle.md_answer.specs.declared.auction_kind.AuctionKind.{AuctionKind}
use Rattle.md_answer.specs.declared.auction_kind.AuctionKind.TheVariants as kind
use Rattle.md_answer.specs.declared.supply.Supply.{Supply}
use Rattle.md_answer.specs.declared.supply.Supply.TheVariants.{Item, Units}
use Rattle.md_parts.specs.declared.version.Version.{Version}
use Rattle.md_parts.specs.declared.version.Version.TheVariants.{One}
use Rattle.md_answer.specs.AuctionKinds.{word_of}
use Rattle.md_answer.specs.Supplies.{word_for}
use Rattle.md_answer.specs.InterimRecords.{interim_rows}
use Rattle.md_answer.specs.MassRecords.{mass_rows}
use Rattle.md_answer.specs.ReducedRows.{reduced_rows}
use Rattle.md_answer.specs.Rows.{version_in}
use Rattle.md_parts.specs.Rows.{first_row, value_row, cut_rows, bound_rows, wide_rows, second_rows, end_row}

-- what stands between the first record and the last
abbrev pub inner_rows : SymmetricAuction → Answer → List (List (List ℕ))
inner_rows a (AuctionOptimal value interim masses cuts bound) =
    value_row value ∷ (interim_rows interim ++ (mass_rows a masses ++ (cut_rows cuts ++ bound_rows (reduced_rows a cuts) bound)))
inner_rows a (TooWide cuts first second) = cut_rows cuts ++ (wide_rows first ++ second_rows second)
inner_rows a _ = []

abbrev pub kind_in : Answer → AuctionKind
kind_in (AuctionOptimal value interim masses cuts bound) = kind.Optimal
kind_in _ = kind.TooWide

-- the version of the first record: where units are sold there is one
abbrev pub written_version : Supply → Answer → Version
written_version Item answer = version_in answer
written_version (Units units) answer = One

abbrev pub rows_for : Supply → SymmetricAuction → Answer → List (List (List ℕ))
rows_for supply a answer = first_row (written_version supply answer) (word_for supply) (word_of (kind_in answer)) ∷ (inner_rows a answer ++ end_row ∷ [])

-- the one text of an answer
abbrev pub text_for : Supply → SymmetricAuction → Answer → List ℕ
text_for supply a answer = text_of_records (rows_for supply a answer)

-- the same about the auction of one item
abbrev pub text_of_auction_answer : SymmetricAuction → Answer → List ℕ
text_of_auction_answer a answer = text_for Item a answer
