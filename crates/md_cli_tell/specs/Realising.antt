-- What `realise` says of an auction and of the interim odds that a second file says.
use Rattle.std.specs.Prelude.{◌≡◌, ◌⊎◌, ◌++◌, ◌∷◌, [], ℕ, ℤ, pos, List, Result, Ok, Err, codes}
use Rattle.md_setting.specs.Auction.{SymmetricAuction}
use Rattle.md_setting.specs.General.{general_of}
use Rattle.md_setting.specs.ByKind.{WhereAuction}
use Rattle.md_setting.specs.declared.file.SettingFile.{SettingFile}
use Rattle.md_setting.specs.declared.file.SettingFile.TheVariants.{General, Auction, Bidders}
use Rattle.md_mech.specs.declared.mechanism.Mechanism.{Mechanism}
use Rattle.md_mech.specs.Mechanism.{IsMechanism}
use Rattle.md_border.specs.declared.interim.Interim.{Interim}
use Rattle.md_border.specs.Odds.{HasOdds, HasPays, excess_of}
use Rattle.md_expost.specs.declared.masses.Masses.{Masses}
use Rattle.md_expost.specs.Masses.{AreMasses}
use Rattle.md_expost.specs.Implementing.{Implements}
use Rattle.md_expost.specs.Mechanisms.{mechanism_of}
use Rattle.md_expost.specs.WorstSets.{IsWorstSet, MeetsBorder}
use Rattle.md_records.specs.Written.{text_of_records}
use Rattle.md_parts.specs.Rows.{number_row, end_row}
use Rattle.md_parts.specs.declared.refusal.AnswerRefusal.{AnswerRefusal}
use Rattle.md_answer.specs.MassRecords.{mass_rows}
use Rattle.md_answer.specs.Odds.{odds_of}
use Rattle.md_cli_driver.specs.declared.refusal.Refusal.{Refusal}
use Rattle.md_cli_driver.specs.declared.refusal.Refusal.TheVariants as refusal
use Rattle.md_cli_driver.specs.Saying.{Saying}

abbrev pub odds_or_refusal : Result Interim AnswerRefusal → Result Interim Refusal
odds_or_refusal (Ok interim) = Ok interim
odds_or_refusal (Err e) = Err (refusal.Answer e)

-- the odds that the second file says of an auction
abbrev pub odds_in : SettingFile → List ℕ → Result Interim Refusal
odds_in (General s) bytes = Err refusal.OtherKind
odds_in (Auction a) bytes = odds_or_refusal (odds_of a bytes)
odds_in (Bidders a) bytes = Err refusal.OtherKind

-- ---- a table

-- its denominator, and then its masses
abbrev pub table_rows : SymmetricAuction → Masses → List (List (List ℕ))
table_rows a y = number_row (codes "realise") (y.den ∷ []) ∷ (mass_rows a y ++ end_row ∷ [])

-- A mass table with exactly the odds. With any payments by kind it makes a mechanism of the auction, which has them and the
-- payments (Border 1991).
pub record IsTableSaying (a : SymmetricAuction) (interim : Interim) (saying : Saying) : Type 0 where
  pub masses : Masses
  pub table : AreMasses a masses
  pub odds : Implements a interim masses
  pub border : MeetsBorder a interim
  pub mechanism : (pays : List ℤ) → IsMechanism (general_of a) (mechanism_of a masses pays)
  pub has_odds : (pays : List ℤ) → HasOdds a (mechanism_of a masses pays) interim.den interim.odds
  pub has_pays : (pays : List ℤ) → HasPays a (mechanism_of a masses pays) masses.den pays
  pub status : saying.status ≡ 0
  pub text : saying.text ≡ text_of_records (table_rows a masses)

-- ---- a violated set

-- the set as a number, its excess and the denominator of that
abbrev pub violated_row : SymmetricAuction → Interim → ℕ → List (List ℕ)
violated_row a interim set = number_row (codes "violated") (pos set ∷ excess_of a interim set ∷ interim.den ∷ [])

-- The largest set of those that break Border's condition most. No mechanism of the auction has the odds, truthful or not.
pub record IsViolatedSaying (a : SymmetricAuction) (interim : Interim) (saying : Saying) : Type 0 where
  pub set : ℕ
  pub worst : IsWorstSet a interim set
  pub none : (m : Mechanism) → IsMechanism (general_of a) m → HasOdds a m interim.den interim.odds → ⊥
  pub status : saying.status ≡ 21
  pub text : saying.text ≡ text_of_records (violated_row a interim set ∷ [])

-- ---- what is said

abbrev pub IsRealising : SymmetricAuction → Interim → Saying → Type 0
IsRealising a interim saying = IsTableSaying a interim saying ⊎ IsViolatedSaying a interim saying

abbrev pub IsRealise : SettingFile → Interim → Saying → Type 0
IsRealise file interim saying = WhereAuction (λ a. IsRealising a interim saying) file

-- the statuses of what is answered
abbrev pub IsRealiseStatus : ℕ → Type 0
IsRealiseStatus status = (status ≡ 0) ⊎ (status ≡ 21)
