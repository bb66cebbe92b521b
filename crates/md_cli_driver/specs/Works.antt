-- What a command does: which files it reads, and what it says of them.
use Rattle.std.specs.Prelude.{◌≡◌, ◌≢◌, ◌⊎◌, ◌<◌, ℕ, Bool, List, Option, Result, Ok, Err, IsOk, IfOk}
use Rattle.std.specs.Option.{ForSome}
use Rattle.md_ports.specs.Faults.{Rose}
use Rattle.md_setting.specs.declared.file.SettingFile.{SettingFile}
use Rattle.md_cli_driver.specs.declared.answered.Answered.{Answered}
use Rattle.md_cli_driver.specs.declared.refusal.Refusal.{Refusal}
use Rattle.md_cli_driver.specs.declared.refusal.Refusal.TheVariants as refusal
use Rattle.md_cli_driver.specs.Reading.{setting_in, second_in}
use Rattle.md_cli_driver.specs.Refused.{refused, status_of}
use Rattle.md_cli_driver.specs.Saying.{Saying, said}

-- A command of no file says something, and has statuses of its own. One of one file serves some settings, and says something
-- of each. One of two files reads the second by the setting that the first one says, and says something of both.
pub data Work : Type 1 where
  no_file : (Saying → Type 0) → (ℕ → Type 0) → Work
  one_file : (SettingFile → Bool) → (SettingFile → Saying → Type 0) → (ℕ → Type 0) → Work
  two_files : (T : Type 0) → (SettingFile → Bool) → (SettingFile → List ℕ → Result T Refusal) → (SettingFile → T → Saying → Type 0) → (ℕ → Type 0) → Work

-- a command whose number is refused, before any file is read
abbrev pub number_refused : Work
number_refused = no_file (λ saying. saying ≡ refused refusal.Number) (λ status. status ≡ 67)

-- ---- what is said of the files

-- P of what was read, or the refusal
abbrev pub IsSaidOf : {T : Type 0} → (T → Saying → Type 0) → Result T Refusal → Saying → Type 0
IsSaidOf P (Ok x) saying = P x saying
IsSaidOf P (Err e) saying = saying ≡ refused e

-- The same of two files, as far as the shelf tells them. A refusal of the setting comes first, whatever the second file
-- holds.
abbrev pub IsSaidOfBoth : {T : Type 0} → (SettingFile → List ℕ → Result T Refusal) → (SettingFile → T → Saying → Type 0) → Result SettingFile Refusal → Option (List ℕ) → Saying → Type 0
IsSaidOfBoth reading P (Err e) second saying = saying ≡ refused e
IsSaidOfBoth reading P (Ok file) second saying =
    (saying.status ≢ 65) × ForSome second (λ bytes. IsSaidOf (P file) (second_in (reading file) bytes) saying)

-- a reply of a command that reads no file
pub record IsReplyToNone (P : Saying → Type 0) (IsOwn : ℕ → Type 0) (saying : Saying) : Type 0 where
  pub status : IsOwn saying.status
  pub said_of : P saying

-- a reply about the setting of this name, by what the shelf tells
pub record IsReplyToOne (serves : SettingFile → Bool) (P : SettingFile → Saying → Type 0) (IsOwn : ℕ → Type 0) (setting : List ℕ) (content : List ℕ → Option (List ℕ)) (saying : Saying) : Type 0 where
  pub status : IsOwn saying.status ⊎ (saying.status ≡ 65)
  pub said_of : ForSome (content setting) (λ bytes. IsSaidOf P (setting_in serves bytes) saying)

-- the same about a second file, which is refused with 66
pub record IsReplyToTwo {T : Type 0} (serves : SettingFile → Bool) (reading : SettingFile → List ℕ → Result T Refusal) (P : SettingFile → T → Saying → Type 0) (IsOwn : ℕ → Type 0) (setting second : List ℕ) (content : List ℕ → Option (List ℕ)) (saying : Saying) : Type 0 where
  pub status : IsOwn saying.status ⊎ ((saying.status ≡ 65) ⊎ (saying.status ≡ 66))
  pub said_of : ForSome (content setting) (λ bytes. IsSaidOfBoth reading P (setting_in serves bytes) (content second) saying)

-- what a command says of the files of these names, by what the shelf tells under each
abbrev pub IsReplyTo : Work → List ℕ → List ℕ → (List ℕ → Option (List ℕ)) → Saying → Type 0
IsReplyTo (no_file P IsOwn) setting second content saying = IsReplyToNone P IsOwn saying
IsReplyTo (one_file serves P IsOwn) setting second content saying = IsReplyToOne serves P IsOwn setting content saying
IsReplyTo (two_files T serves reading P IsOwn) setting second content saying = IsReplyToTwo serves reading P IsOwn setting second content saying

-- The count of one of the command's files rose; of a command of no file none ever does. The second file is looked at only where the first one says a setting that
-- the command serves, as far as the shelf tells.
abbrev pub HasFaultedIn : Work → List ℕ → List ℕ → (List ℕ → Option (List ℕ)) → (List ℕ → ℕ) → (List ℕ → ℕ) → Type 0
HasFaultedIn (no_file P IsOwn) setting second content before after = ⊥
HasFaultedIn (one_file serves P IsOwn) setting second content before after = Rose (before setting) (after setting)
HasFaultedIn (two_files T serves reading P IsOwn) setting second content before after =
    Rose (before setting) (after setting)
    ⊎ (Rose (before second) (after second) × ForSome (content setting) (λ bytes. IsOk (setting_in serves bytes)))

-- ---- what the work gives

-- What comes of the work on files that were read: an answer with a status of the command's own, below 64; a refusal that
-- belongs to what is said, with status 67; or that memory ran out.
abbrev pub IsWorked : (Saying → Type 0) → (ℕ → Type 0) → Result Answered Refusal → Type 0
IsWorked Says IsOwn (Ok answered) = Says (said answered) × (IsOwn answered.status × (answered.status < 64))
IsWorked Says IsOwn (Err e) = (e ≡ refusal.Memory) ⊎ (Says (refused e) × (IsOwn 67 × (status_of e ≡ 67)))

-- The same of files, the last of which may be refused with its own status too: a setting that the command serves and yet cannot work
-- on, with 65, and a second file that says nothing of such a setting, with 66.
abbrev pub IsWorkedOn : ℕ → (Saying → Type 0) → (ℕ → Type 0) → Result Answered Refusal → Type 0
IsWorkedOn refusing Says IsOwn (Ok answered) = Says (said answered) × (IsOwn answered.status × (answered.status < 64))
IsWorkedOn refusing Says IsOwn (Err e) = (e ≡ refusal.Memory) ⊎ (Says (refused e) × ((IsOwn 67 × (status_of e ≡ 67)) ⊎ (status_of e ≡ refusing)))

-- What came of a command: an answer or a refusal that belongs to its reply, or a fault, or that memory ran out.
abbrev pub IsOutcome : (Saying → Type 0) → Result Answered Refusal → Type 0
IsOutcome Replies (Ok answered) = Replies (said answered)
IsOutcome Replies (Err e) = (Replies (refused e) × (e ≢ refusal.ReadFault)) ⊎ ((e ≡ refusal.ReadFault) ⊎ (e ≡ refusal.Memory))

-- A command was carried out over a shelf: what came of it, when it is a fault, and that no count of faults changes
-- otherwise. The statuses of answers lie below 64.
pub record IsCarriedOut (work : Work) (setting second : List ℕ) (content : List ℕ → Option (List ℕ)) (before after : List ℕ → ℕ) (result : Result Answered Refusal) : Type 0 where
  pub outcome : IsOutcome (IsReplyTo work setting second content) result
  pub fault : result ≡ Err refusal.ReadFault → HasFaultedIn work setting second content before after
  pub quiet : (n : List ℕ) → result ≢ Err refusal.ReadFault → after n ≡ before n
  pub status : IfOk result (λ answered. answered.status < 64)
