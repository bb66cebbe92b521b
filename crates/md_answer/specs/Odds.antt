-- What the bytes of an odds file say of an auction: interim odds, or the first reason to refuse them.
use Rattle.std.specs.Prelude.{ℕ, ◌+◌, ℤ, pos, List, [], ◌∷◌, Result, replicate, codes, unsigned_abs}
use Rattle.md_math.specs.Lists.{number_at}
use Rattle.md_setting.specs.Auction.{SymmetricAuction, value_count}
use Rattle.md_border.specs.declared.interim.Interim.{Interim}
use Rattle.md_records.specs.Text.{records_of}
use Rattle.md_parts.specs.declared.refusal.AnswerRefusal.{AnswerRefusal}
use Rattle.md_parts.specs.Fields.{Field, place_field, denominator_field}
use Rattle.md_parts.specs.Reading.{Reading, ◌>>=◌, nothing_more, answered, read_record}
use Rattle.md_parts.specs.LastRecord.{read_end}

-- the denominator of odds
abbrev pub interim_den : Reading ℤ
interim_den = do
  numbers ← read_record (codes "interim") (denominator_field ∷ [])
  nothing_more (number_at numbers 0)

-- a number from 0 to the denominator
abbrev pub odds_field : ℤ → Field
odds_field den = place_field 0 (unsigned_abs den + 1)

-- the odds, one number for each value
abbrev pub odds_in : SymmetricAuction → ℤ → Reading (List ℤ)
odds_in a den = read_record (codes "odds") (replicate (value_count a) (odds_field den))

-- nothing is paid
abbrev pub whole_odds : SymmetricAuction → Reading Interim
whole_odds a = do
  den ← interim_den
  odds ← odds_in a den
  _ ← read_end
  nothing_more record { den = den; odds = odds; pays = replicate (value_count a) (pos 0) }

abbrev pub odds_of : SymmetricAuction → List ℕ → Result Interim AnswerRefusal
odds_of a bytes = answered (whole_odds a record { read = 0; left = records_of bytes })
