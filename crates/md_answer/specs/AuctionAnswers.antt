-- What the bytes of an answer file say of an auction, or of several units: an answer, or the first reason to refuse them.
use Rattle.std.specs.Prelude.{ℕ, List, Result}
use Rattle.md_setting.specs.Auction.{SymmetricAuction, value_count}
use Rattle.md_records.specs.Text.{records_of}
use Rattle.md_answer.specs.declared.answer.Answer.{Answer}
use Rattle.md_answer.specs.declared.answer.Answer.TheVariants.{AuctionOptimal, TooWide}
use Rattle.md_parts.specs.declared.refusal.AnswerRefusal.{AnswerRefusal}
use Rattle.md_parts.specs.declared.version.Version.{Version}
use Rattle.md_parts.specs.declared.version.Version.TheVariants.{Two}
use Rattle.md_answer.specs.declared.auction_kind.AuctionKind.{AuctionKind}
use Rattle.md_answer.specs.declared.auction_kind.AuctionKind.TheVariants as kind
use Rattle.md_answer.specs.AuctionKinds.{auction_words, kind_of}
use Rattle.md_answer.specs.declared.supply.Supply.{Supply}
use Rattle.md_answer.specs.declared.supply.Supply.TheVariants.{Item, Units}
use Rattle.md_answer.specs.Supplies.{word_for}
use Rattle.md_parts.specs.Reading.{Reading, ◌>>=◌, nothing_more, answered}
use Rattle.md_parts.specs.FirstRecord.{first_of}
use Rattle.md_parts.specs.LastRecord.{read_end}
use Rattle.md_parts.specs.Table.{value_of}
use Rattle.md_parts.specs.Cuts.{cuts_of}
use Rattle.md_parts.specs.Multipliers.{bound_of}
use Rattle.md_parts.specs.Path.{wide_of, second_of}
use Rattle.md_answer.specs.InterimRecords.{interim_in}
use Rattle.md_answer.specs.MassReading.{masses_over}
use Rattle.md_answer.specs.ReducedRows.{reduced_rows}

-- what stands between the first record and the last
abbrev pub optimal_answer : Supply → SymmetricAuction → Reading Answer
optimal_answer supply a = do
  value ← value_of
  interim ← interim_in a
  masses ← masses_over supply a interim.den
  cuts ← cuts_of (value_count a)
  bound ← bound_of (reduced_rows a cuts)
  nothing_more (AuctionOptimal value interim masses cuts bound)

-- the version by which the part about the second path is read: where units are sold it stands in each version
abbrev pub version_for : Supply → Version → Version
version_for Item version = version
version_for (Units units) version = Two

-- the rows that were added to the program stand before the paths
abbrev pub too_wide_answer : Supply → SymmetricAuction → Version → Reading Answer
too_wide_answer supply a version = do
  cuts ← cuts_of (value_count a)
  first ← wide_of
  second ← second_of (version_for supply version)
  nothing_more (TooWide cuts first second)

abbrev pub answer_by : Supply → SymmetricAuction → Version → AuctionKind → Reading Answer
answer_by supply a version kind.Optimal = optimal_answer supply a
answer_by supply a version kind.TooWide = too_wide_answer supply a version

abbrev pub whole_answer : Supply → SymmetricAuction → Reading Answer
whole_answer supply a = do
  head ← first_of (word_for supply) auction_words
  answer ← answer_by supply a head.version (kind_of head.word)
  _ ← read_end
  nothing_more answer

abbrev pub answer_for : Supply → SymmetricAuction → List ℕ → Result Answer AnswerRefusal
answer_for supply a bytes = answered (whole_answer supply a record { read = 0; left = records_of bytes })

-- the same about the auction of one item
abbrev pub auction_answer_of : SymmetricAuction → List ℕ → Result Answer AnswerRefusal
auction_answer_of a bytes = answer_for Item a bytes
