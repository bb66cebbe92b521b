-- What the bytes of a pivots file say of an auction: pivots, or the first reason to refuse them.
use Rattle.std.specs.Prelude.{ℕ, List, Result}
use Rattle.md_setting.specs.Auction.{SymmetricAuction, value_count}
use Rattle.md_lp.specs.Cuts.{AreCuts}
use Rattle.md_records.specs.Text.{records_of}
use Rattle.md_parts.specs.declared.refusal.AnswerRefusal.{AnswerRefusal}
use Rattle.md_answer.specs.declared.pivots_file.Pivots.{Pivots}
use Rattle.md_parts.specs.Reading.{Reading, ◌>>=◌, answered}
use Rattle.md_parts.specs.Cuts.{cuts_of}
use Rattle.md_answer.specs.Pivots.{pivots_with}

-- the rows that were added to the program stand before the pivots
abbrev pub whole_pivots : SymmetricAuction → Reading Pivots
whole_pivots a = do
  cuts ← cuts_of (value_count a)
  pivots_with cuts

abbrev pub auction_pivots_of : SymmetricAuction → List ℕ → Result Pivots AnswerRefusal
auction_pivots_of a bytes = answered (whole_pivots a record { read = 0; left = records_of bytes })

-- the cuts are sets of the auction's values
abbrev pub HasCutsOf : SymmetricAuction → Pivots → Type 0
HasCutsOf a pivots = AreCuts (value_count a) pivots.cuts
