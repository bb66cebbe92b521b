-- What `solve` says of a setting: the answer that the paths of its program give, or for an auction those of the programs of
-- its cut run.
use Rattle.std.specs.Prelude.{◌≡◌, ℕ, List}
use Rattle.md_setting.specs.Auction.{SymmetricAuction}
use Rattle.md_setting.specs.Setting.{GeneralSetting}
use Rattle.md_setting.specs.declared.file.SettingFile.{SettingFile}
use Rattle.md_setting.specs.declared.file.SettingFile.TheVariants.{General, Auction, Bidders}
use Rattle.md_answer.specs.AuctionRows.{text_of_auction_answer}
use Rattle.md_answer.specs.Rows.{text_of_answer}
use Rattle.md_answer.specs.declared.answer.Answer.{Answer}
use Rattle.md_answer.specs.declared.answer.Answer.TheVariants.{Table, Optimal, Infeasible, Unbounded, AuctionOptimal, TooWide}
use Rattle.md_solve.specs.AuctionSolved.{IsAuctionSolved, IsSameButMasses}
use Rattle.md_solve.specs.Solved.{IsSolved}
use Rattle.md_cli_best.specs.AuctionHeadline.{IsAuctionHeadline}
use Rattle.md_cli_best.specs.Headline.{IsHeadline}
use Rattle.md_cli_driver.specs.Saying.{Saying}

-- the status of each kind of answer; a table is none that is given
abbrev pub status_of_answer : Answer → ℕ
status_of_answer (Table mechanism) = 0
status_of_answer (Optimal value mechanism bound) = 0
status_of_answer (Infeasible face) = 10
status_of_answer (Unbounded mechanism ray) = 11
status_of_answer (AuctionOptimal value interim masses cuts bound) = 0
status_of_answer (TooWide cuts first second) = 12

-- The one answer of a setting within a width, its status and its text, and what these show. Setting and width alone decide both: each
-- answer that the paths give has this status and this text.
pub record IsSolving (s : GeneralSetting) (width : ℕ) (saying : Saying) : Type 0 where
  pub answer : Answer
  pub solved : IsSolved s width answer
  pub status : saying.status ≡ status_of_answer answer
  pub text : saying.text ≡ text_of_answer s answer
  pub only : (other : Answer) → IsSolved s width other → (saying.status ≡ status_of_answer other) × (saying.text ≡ text_of_answer s other)
  pub headline : IsHeadline s width saying.status saying.text

-- An answer to an auction, its status and its text. Auction and width alone decide all but the mass table: each answer that the cut run
-- gives differs from this one in nothing but its masses.
pub record IsAuctionSolving (a : SymmetricAuction) (width : ℕ) (saying : Saying) : Type 0 where
  pub answer : Answer
  pub solved : IsAuctionSolved a width answer
  pub status : saying.status ≡ status_of_answer answer
  pub text : saying.text ≡ text_of_auction_answer a answer
  pub only : (other : Answer) → IsAuctionSolved a width other → IsSameButMasses answer other
  pub headline : IsAuctionHeadline a width saying.status saying.text

abbrev pub IsSolve : ℕ → SettingFile → Saying → Type 0
IsSolve width (General s) saying = IsSolving s width saying
IsSolve width (Auction a) saying = IsAuctionSolving a width saying
IsSolve width (Bidders a) saying = ⊥

-- what is shown by a text that was printed with a status
abbrev pub IsShownBy : SettingFile → ℕ → ℕ → List ℕ → Type 0
IsShownBy (General s) width status text = IsHeadline s width status text
IsShownBy (Auction a) width status text = IsAuctionHeadline a width status text
IsShownBy (Bidders a) width status text = ⊥
