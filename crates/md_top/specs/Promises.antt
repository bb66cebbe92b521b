-- What a call promises of its status and its texts, as consequences of what it says.
use Rattle.std.specs.Prelude.{◌≡◌, ◌≢◌, ◌++◌, ◌<◌, ◌≤◌, ℕ, Bool, true, false, List, Option, None, Some, MatchResult}
use Rattle.std.specs.Option.{ForSome}
use Rattle.md_ports.specs.Faults.{Rose}
use Rattle.md_cli_words.specs.declared.command.Command.{Command}
use Rattle.md_cli_words.specs.declared.command.Command.TheVariants.{Audit, Rows, Check, Solve, Replay, Realise, Fair, Find, FindFair, Require, Asym, Units, Threshold, Award, Determ, DetermCheck, Run, Report, Iron, IronUnits, Make, Drill}
use Rattle.md_cli_words.specs.Words.{Order}
use Rattle.md_setting.specs.ByKind.{has_no_groups}
use Rattle.md_setting.specs.declared.file.SettingFile.{SettingFile}
use Rattle.md_cli_driver.specs.Reading.{is_general, setting_in}
use Rattle.md_top.specs.Reply.{HasFaulted, IsReply}
use Rattle.md_cli_driver.specs.Saying.{IsDelivered, SinkChange}
use Rattle.md_cli_best.specs.Finding.{IsFindShownBy}
use Rattle.md_cli_best.specs.Solving.{IsShownBy}

-- ---- the headline

-- the text that was printed, and that it shows this by its status
pub record IsPrinted (Shows : ℕ → List ℕ → Type 0) (status : ℕ) (old new : List ℕ) : Type 0 where
  pub text : List ℕ
  pub grew : new ≡ old ++ text
  pub shows : Shows status text

-- whatever a file holds, an answer is printed only of a setting that is served, and shows this of it
abbrev pub IsPrintedOf : (SettingFile → Bool) → (SettingFile → ℕ → List ℕ → Type 0) → List ℕ → (List ℕ → Option (List ℕ)) → ℕ → SinkChange → Type 0
IsPrintedOf serves Shows setting content status out =
    ForSome (content setting) (λ bytes. MatchResult (setting_in serves bytes)
    (λ file. status < 64 → ForSome out.before (λ old. ForSome out.after (λ new. IsPrinted (Shows file) status old new)))
    (λ e. 64 ≤ status))

-- the same where the setting comes with a second file, whatever that holds
abbrev pub IsPrintedOfBoth : (SettingFile → Bool) → (SettingFile → ℕ → List ℕ → Type 0) → Order → (List ℕ → Option (List ℕ)) → ℕ → SinkChange → Type 0
IsPrintedOfBoth serves Shows order content status out =
    ForSome (content order.second) (λ _. IsPrintedOf serves Shows order.setting content status out)

abbrev pub IsFound : Bool → Order → (List ℕ → Option (List ℕ)) → ℕ → SinkChange → Type 0
IsFound false order content status out = IsPrintedOf is_general IsFindShownBy order.setting content status out
IsFound true order content status out = IsPrintedOfBoth is_general IsFindShownBy order content status out

-- where the best mechanism of a setting is to be found, it shows what the headline says
abbrev pub IsHeadlineBy : Command → Order → (List ℕ → Option (List ℕ)) → ℕ → SinkChange → Type 0
IsHeadlineBy Solve order content status out = IsPrintedOf has_no_groups (λ file. IsShownBy file order.width) order.setting content status out
IsHeadlineBy Find order content status out = IsFound order.has_second order content status out
IsHeadlineBy Audit order content status out = Unit {0}
IsHeadlineBy Rows order content status out = Unit {0}
IsHeadlineBy Check order content status out = Unit {0}
IsHeadlineBy Replay order content status out = Unit {0}
IsHeadlineBy Realise order content status out = Unit {0}
IsHeadlineBy Fair order content status out = Unit {0}
IsHeadlineBy FindFair order content status out = Unit {0}
IsHeadlineBy Require order content status out = Unit {0}
IsHeadlineBy Asym order content status out = Unit {0}
IsHeadlineBy Units order content status out = Unit {0}
IsHeadlineBy Threshold order content status out = Unit {0}
IsHeadlineBy Award order content status out = Unit {0}
IsHeadlineBy Determ order content status out = Unit {0}
IsHeadlineBy DetermCheck order content status out = Unit {0}
IsHeadlineBy Run order content status out = Unit {0}
IsHeadlineBy Report order content status out = Unit {0}
IsHeadlineBy Iron order content status out = Unit {0}
IsHeadlineBy IronUnits order content status out = Unit {0}
IsHeadlineBy Make order content status out = Unit {0}
IsHeadlineBy Drill order content status out = Unit {0}

abbrev pub IsHeadlineOf : Option Order → (List ℕ → Option (List ℕ)) → ℕ → SinkChange → Type 0
IsHeadlineOf None content status out = Unit {0}
IsHeadlineOf (Some order) content status out = IsHeadlineBy order.command order content status out

-- ---- completeness

-- no fault was counted and memory did not run out
pub record IsFaultless (order : Order) (content : List ℕ → Option (List ℕ)) (before after : List ℕ → ℕ) (status : ℕ) (out err : SinkChange) : Type 0 where
  pub read : ¬ HasFaulted order content before after
  pub printed : ¬ Rose out.faults_before out.faults_after
  pub told : ¬ Rose err.faults_before err.faults_after
  pub memory : status ≢ 72

-- a command got its reply, and the reply was delivered with its status
pub record IsReplied (order : Order) (content : List ℕ → Option (List ℕ)) (status : ℕ) (out err : SinkChange) : Type 0 where
  pub text : List ℕ
  pub reply : IsReply order content record { status = status; text = text }
  pub delivered : IsDelivered record { status = status; text = text } status out err

-- a command gets its reply wherever no fault is counted and memory does not run out
abbrev pub IsComplete : Option Order → (List ℕ → Option (List ℕ)) → (List ℕ → ℕ) → (List ℕ → ℕ) → ℕ → SinkChange → SinkChange → Type 0
IsComplete None content before after status out err = Unit {0}
IsComplete (Some order) content before after status out err =
    IsFaultless order content before after status out err → IsReplied order content status out err
