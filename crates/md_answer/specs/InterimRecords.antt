-- The records of interim odds and payments.
use Rattle.std.specs.Prelude.{ℕ, ℤ, List, [], ◌∷◌, replicate, codes}
use Rattle.md_setting.specs.Auction.{SymmetricAuction, value_count}
use Rattle.md_border.specs.declared.interim.Interim.{Interim}
use Rattle.md_parts.specs.Fields.{any_number}
use Rattle.md_parts.specs.Reading.{Reading, ◌>>=◌, nothing_more, read_record}
use Rattle.md_parts.specs.Rows.{number_row}
use Rattle.md_answer.specs.Odds.{interim_den, odds_in}

-- what is paid, one number for each value
abbrev pub pays_in : SymmetricAuction → Reading (List ℤ)
pays_in a = read_record (codes "pays") (replicate (value_count a) any_number)

-- the denominator, the odds and the payments
abbrev pub interim_in : SymmetricAuction → Reading Interim
interim_in a = do
  den ← interim_den
  odds ← odds_in a den
  pays ← pays_in a
  nothing_more record { den = den; odds = odds; pays = pays }

-- the records that they are written as
abbrev pub interim_rows : Interim → List (List (List ℕ))
interim_rows interim =
    number_row (codes "interim") (interim.den ∷ []) ∷ number_row (codes "odds") interim.odds ∷ number_row (codes "pays") interim.pays ∷ []
