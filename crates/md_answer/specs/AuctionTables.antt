-- What the bytes of an auction of a designer's own say: odds and payments, or the first reason to refuse them.
use Rattle.std.specs.Prelude.{ℕ, List, [], ◌∷◌, codes, Result}
use Rattle.md_setting.specs.Auction.{SymmetricAuction}
use Rattle.md_border.specs.declared.interim.Interim.{Interim}
use Rattle.md_records.specs.Text.{records_of}
use Rattle.md_parts.specs.declared.refusal.AnswerRefusal.{AnswerRefusal}
use Rattle.md_parts.specs.Reading.{Reading, ◌>>=◌, nothing_more, answered}
use Rattle.md_parts.specs.FirstRecord.{first_of}
use Rattle.md_parts.specs.LastRecord.{read_end}
use Rattle.md_answer.specs.InterimRecords.{interim_in}

-- nothing is claimed of it
abbrev pub table_words : List (List ℕ)
table_words = codes "table" ∷ []

abbrev pub whole_table : SymmetricAuction → Reading Interim
whole_table a = do
  _ ← first_of (codes "auction") table_words
  interim ← interim_in a
  _ ← read_end
  nothing_more interim

abbrev pub auction_table_of : SymmetricAuction → List ℕ → Result Interim AnswerRefusal
auction_table_of a bytes = answered (whole_table a record { read = 0; left = records_of bytes })
