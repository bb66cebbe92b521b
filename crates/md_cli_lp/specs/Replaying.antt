-- What `replay` says of a setting and of listed pivots.
use Rattle.std.specs.Prelude.{◌≡◌, ◌⊎◌, ℕ, List, Option, None, Some, Result, Ok, Err}
use Rattle.md_setting.specs.declared.file.SettingFile.{SettingFile}
use Rattle.md_setting.specs.declared.file.SettingFile.TheVariants.{General, Auction, Bidders}
use Rattle.md_lp.specs.Program.{Program}
use Rattle.md_lp.specs.declared.entry.Entry.{Entry}
use Rattle.md_lp.specs.declared.pivot.Pivot.{Pivot}
use Rattle.md_reduced.specs.ProgramOf.{IsReducedProgram}
use Rattle.md_rows.specs.ProgramOf.{IsProgramOf}
use Rattle.md_replay.specs.Records.{replay_text}
use Rattle.md_replay.specs.Replay.{IsLawless, IsReplay as IsReplayOf}
use Rattle.md_replay.specs.declared.outcome.Replay.{Replay}
use Rattle.md_answer.specs.AuctionPivots.{auction_pivots_of}
use Rattle.md_answer.specs.Pivots.{pivots_of}
use Rattle.md_answer.specs.declared.pivots_file.Pivots.{Pivots}
use Rattle.md_parts.specs.declared.refusal.AnswerRefusal.{AnswerRefusal}
use Rattle.md_cli_driver.specs.declared.refusal.Refusal.{Refusal}
use Rattle.md_cli_driver.specs.declared.refusal.Refusal.TheVariants as refusal
use Rattle.md_cli_driver.specs.Refused.{refused}
use Rattle.md_cli_driver.specs.Saying.{Saying}

-- the status of pivots that lead to no wide basis, and of those that do
abbrev pub status_of_replay : Option Entry → ℕ
status_of_replay None = 0
status_of_replay (Some entry) = 12

-- what comes of the pivots on a program, and the records that tell it
pub record IsReplaying (program : Program) (width : ℕ) (listed : List Pivot) (saying : Saying) : Type 0 where
  pub replay : Replay
  pub replayed : IsReplayOf program width listed replay
  pub status : saying.status ≡ status_of_replay replay.wide
  pub text : saying.text ≡ replay_text replay

-- the first pivot that cannot be carried out, which comes before any wide basis
pub record IsPivotRefused (program : Program) (width : ℕ) (listed : List Pivot) (saying : Saying) : Type 0 where
  pub number : ℕ
  pub lawless : IsLawless program width listed number
  pub said : saying ≡ refused (refusal.Pivot number)

-- the statuses of both
abbrev pub IsReplayStatus : ℕ → Type 0
IsReplayStatus status = (status ≡ 0) ⊎ ((status ≡ 12) ⊎ (status ≡ 67))

-- ---- the files

abbrev pub pivots_or_refusal : Result Pivots AnswerRefusal → Result Pivots Refusal
pivots_or_refusal (Ok pivots) = Ok pivots
pivots_or_refusal (Err e) = Err (refusal.Answer e)

-- the pivots that the second file lists, for an auction behind the cuts of its program
abbrev pub pivots_in : SettingFile → List ℕ → Result Pivots Refusal
pivots_in (General s) bytes = pivots_or_refusal (pivots_of bytes)
pivots_in (Auction a) bytes = pivots_or_refusal (auction_pivots_of a bytes)
pivots_in (Bidders a) bytes = Err refusal.OtherKind

-- the program of the setting, for an auction with these cuts
abbrev pub IsProgramIn : SettingFile → List ℕ → Program → Type 0
IsProgramIn (General s) cuts p = IsProgramOf s p
IsProgramIn (Auction a) cuts p = IsReducedProgram a 1 cuts p
IsProgramIn (Bidders a) cuts p = ⊥

pub record IsReplay (width : ℕ) (file : SettingFile) (pivots : Pivots) (saying : Saying) : Type 0 where
  pub program : Program
  pub is_program : IsProgramIn file pivots.cuts program
  pub outcome : IsReplaying program width pivots.path saying ⊎ IsPivotRefused program width pivots.path saying
