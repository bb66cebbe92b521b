-- The promises of a call, from what it says and to whom.
use Rattle.std.proofs.Common.{Bool, true, false, ◌≡◌, ◌<◌, ◌≤◌, ℕ, suc, List, Option, Some, None, Result, Ok, Err, sym, ap, ◌∙◌, subst, inl, inr, arith}
use mathlib.Core.Logic.{⊎_elim}
use Rattle.std.specs.Prelude.{◌⊎◌, nat_lt, MatchResult}
use Rattle.std.specs.Option.{ForSome}
use Rattle.std.proofs.lemmas.Bool.Decides.{nat_tests, eqb_tells, leb_tells}
use Rattle.md_ports.specs.Faults.{Rose}
use Rattle.md_cli_words.specs.Commands.{command_in}
use Rattle.md_cli_words.specs.Words.{Order, command_of}
use Rattle.md_cli_words.specs.declared.command.Command.{Command}
use Rattle.md_cli_words.specs.declared.command.Command.TheVariants.{Audit, Rows, Check, Solve, Replay, Realise, Fair, Find, FindFair, Require, Asym, Units, Threshold, Award, Determ, DetermCheck, Run, Report, Iron, IronUnits, Make, Drill}
use Rattle.md_setting.specs.ByKind.{has_no_groups}
use Rattle.md_setting.specs.declared.file.SettingFile.{SettingFile}
use Rattle.md_setting.specs.declared.file.SettingFile.TheVariants.{General, Auction, Bidders}
use Rattle.md_cli_driver.specs.declared.refusal.Refusal.{Refusal}
use Rattle.md_cli_driver.specs.declared.refusal.Refusal.TheVariants as refusal
use Rattle.md_top.specs.Promises.{IsComplete, IsFaultless, IsFound, IsHeadlineBy, IsHeadlineOf, IsPrinted, IsPrintedOf, IsReplied}
use Rattle.md_cli_driver.specs.Refused.{refused, status_of}
use Rattle.md_cli_driver.specs.Reading.{is_general, second_in, setting_in}
use Rattle.md_top.specs.Reply.{IsReply, IsSaid, IsSaidBy, IsSaidOfOrder, IsSaidOfWork, find_work}
use Rattle.md_cli_driver.specs.Works.{IsSaidOf, IsSaidOfBoth, one_file, two_files}
use Rattle.md_cli_best.specs.Finding.{IsFind, IsFindShownBy, IsFindStatus, basis_in}
use Rattle.md_cli_best.specs.Headline.{IsSolveStatus}
use Rattle.md_cli_best.specs.Solving.{IsShownBy, IsSolve}
use Rattle.md_cli_driver.specs.Saying.{IsDelivered, IsSent, Saying, SinkChange, is_answer, write_fault}

below_test : (status : ℕ) → status < 64 → nat_lt status 64 ≡ true
below_test status below = grind (arith, nat_tests)

above_test : (status : ℕ) → 64 ≤ status → nat_lt status 64 ≡ false
above_test status above = grind (arith, nat_tests)

-- ---- statuses

refusal_least : (e : Refusal) → 64 ≤ status_of e
refusal_least refusal.Usage = omega arith
refusal_least refusal.SettingTooLong = omega arith
refusal_least (refusal.Setting _) = omega arith
refusal_least refusal.OtherKind = omega arith
refusal_least refusal.NotASale = omega arith
refusal_least refusal.AnswerTooLong = omega arith
refusal_least (refusal.Answer _) = omega arith
refusal_least refusal.NoTable = omega arith
refusal_least (refusal.Pivot _) = omega arith
refusal_least refusal.Profile = omega arith
refusal_least refusal.Draw = omega arith
refusal_least refusal.Number = omega arith
refusal_least refusal.ReadFault = omega arith
refusal_least refusal.Memory = omega arith

-- the saying is an answer or it is not
answer_or_not : (saying : Saying) → ((is_answer saying ≡ true) × (saying.status < 64)) ⊎ ((is_answer saying ≡ false) × (64 ≤ saying.status))
answer_or_not saying = ⊎_elim (λ low. inl (below_test saying.status low.1, low.1)) (λ high. inr (above_test saying.status (omega (arith, high.1)), omega (arith, high.1))) (leb_tells (suc saying.status) 64)

-- what was sent has its status, unless the write failed
sent-status : (saying : Saying) (status : ℕ) (before after : Option (List ℕ)) (faults_before faults_after : ℕ)
    → IsSent saying status before after faults_before faults_after → (status ≡ saying.status) ⊎ ((status ≡ write_fault) × Rose faults_before faults_after)
sent-status saying status before after faults_before faults_after sent =
    ⊎_elim (λ same. inr (same.1, (sent.part same.1).1)) (λ other. inl (sent.whole other.1).0) (eqb_tells status write_fault)

-- the status of the call is that of what was said, unless a write failed
status-of : (saying : Saying) (status : ℕ) (out err : SinkChange) → IsDelivered saying status out err
    → (status ≡ saying.status) ⊎ ((status ≡ write_fault) × (Rose out.faults_before out.faults_after ⊎ Rose err.faults_before err.faults_after))
status-of saying status out err delivered =
    ⊎_elim
    (λ answer. ⊎_elim inl (λ part. inr (part.0, inl part.1)) (sent-status saying status out.before out.after out.faults_before out.faults_after (delivered.answer answer.0).0))
    (λ refused. ⊎_elim inl (λ part. inr (part.0, inr part.1)) (sent-status saying status err.before err.after err.faults_before err.faults_after (delivered.refusal refused.0).0))
    (answer_or_not saying)

-- a refusal is told with a status of 64 or more
refused-above : (e : Refusal) (saying : Saying) (status : ℕ) (out err : SinkChange) → saying ≡ refused e → IsDelivered saying status out err → 64 ≤ status
refused-above e saying status out err is delivered =
    let own : saying.status ≡ status_of e = ap (λ (x : Saying). x.status) is in
    ⊎_elim (λ same. omega (arith, same, own, refusal_least e)) (λ part. omega (arith, part.0)) (status-of saying status out err delivered)

-- ---- the headline

module _ (Shows : SettingFile → ℕ → List ℕ → Type 0) (saying : Saying) (status : ℕ) (out err : SinkChange) (delivered : IsDelivered saying status out err) where
  printed : (file : SettingFile) → Shows file saying.status saying.text → status < 64 → ForSome out.before (λ old. ForSome out.after (λ new. IsPrinted (Shows file) status old new))
  printed file h low = λ old before new after.
      ⊎_elim
      (λ answer.
      let sent = ((delivered.answer answer.0).0).whole (λ e. omega (arith, low, e)) in
      record { text = saying.text; grew = sent.1.0 old before new after; shows = subst (λ n. Shows file n saying.text) (sym sent.0) h })
      (λ high. absurd (⊎_elim (λ same. omega (arith, same, low, high.1)) (λ part. omega (arith, part.0, low)) (status-of saying status out err delivered)))
      (answer_or_not saying)

  -- what is said of a setting shows it
  shown : (Says : SettingFile → Saying → Type 0) → ((file : SettingFile) → Says file saying → Shows file saying.status saying.text)
      → (r : Result SettingFile Refusal) → IsSaidOf Says r saying
      → MatchResult r (λ file. status < 64 → ForSome out.before (λ old. ForSome out.after (λ new. IsPrinted (Shows file) status old new))) (λ e. 64 ≤ status)
  shown Says shows (Ok file) h = printed file (shows file h)
  shown Says shows (Err e) h = refused-above e saying status out err h delivered

  -- where a refusal was told, nothing was printed
  not_shown : (r : Result SettingFile Refusal) → 64 ≤ status
      → MatchResult r (λ file. status < 64 → ForSome out.before (λ old. ForSome out.after (λ new. IsPrinted (Shows file) status old new))) (λ e. 64 ≤ status)
  not_shown (Ok file) high = λ low. absurd (omega (arith, high, low))
  not_shown (Err e) high = high

  -- whatever is said of a command over one file
  printed-of : (serves : SettingFile → Bool) (Says : SettingFile → Saying → Type 0) (IsOwn : ℕ → Type 0) → ((file : SettingFile) → Says file saying → Shows file saying.status saying.text)
      → (setting second : List ℕ) (content : List ℕ → Option (List ℕ)) (before after : List ℕ → ℕ) → IsSaidOfWork (one_file serves Says IsOwn) setting second content before after saying
      → IsPrintedOf serves Shows setting content status out
  printed-of serves Says IsOwn shows setting second content before after (inl reply) = λ bytes told. shown Says shows (setting_in serves bytes) (reply.0.said_of bytes told)
  printed-of serves Says IsOwn shows setting second content before after (inr (inl fault)) =
      λ bytes told. not_shown (setting_in serves bytes) (refused-above refusal.ReadFault saying status out err fault.0 delivered)
  printed-of serves Says IsOwn shows setting second content before after (inr (inr memory)) =
      λ bytes told. not_shown (setting_in serves bytes) (refused-above refusal.Memory saying status out err memory.0 delivered)

  -- what is said of a setting that is served and of what was read of a second file
  said-of : {T : Type 0} (file : SettingFile) (Says : T → Saying → Type 0) → ((x : T) → Says x saying → Shows file saying.status saying.text)
      → (r : Result T Refusal) → IsSaidOf Says r saying → status < 64 → ForSome out.before (λ old. ForSome out.after (λ new. IsPrinted (Shows file) status old new))
  said-of file Says shows (Ok x) h low = printed file (shows x h) low
  said-of file Says shows (Err e) h low = absurd (omega (arith, low, refused-above e saying status out err h delivered))

  both-shown : {T : Type 0} (reading : SettingFile → List ℕ → Result T Refusal) (Says : SettingFile → T → Saying → Type 0) → ((file : SettingFile) (x : T) → Says file x saying → Shows file saying.status saying.text)
      → (r : Result SettingFile Refusal) (second : Option (List ℕ)) (more : List ℕ) → second ≡ Some more → IsSaidOfBoth reading Says r second saying
      → MatchResult r (λ file. status < 64 → ForSome out.before (λ old. ForSome out.after (λ new. IsPrinted (Shows file) status old new))) (λ e. 64 ≤ status)
  both-shown reading Says shows (Ok file) second more told h = said-of file (Says file) (shows file) (second_in (reading file) more) (h.1 more told)
  both-shown reading Says shows (Err e) second more told h = refused-above e saying status out err h delivered

  -- whatever is said of a command over two files
  printed-of_both : {T : Type 0} (serves : SettingFile → Bool) (reading : SettingFile → List ℕ → Result T Refusal) (Says : SettingFile → T → Saying → Type 0) (IsOwn : ℕ → Type 0)
      → ((file : SettingFile) (x : T) → Says file x saying → Shows file saying.status saying.text)
      → (setting second : List ℕ) (content : List ℕ → Option (List ℕ)) (before after : List ℕ → ℕ) → IsSaidOfWork (two_files T serves reading Says IsOwn) setting second content before after saying
      → ForSome (content second) (λ _. IsPrintedOf serves Shows setting content status out)
  printed-of_both serves reading Says IsOwn shows setting second content before after (inl reply) =
      λ more held bytes told. both-shown reading Says shows (setting_in serves bytes) (content second) more held (reply.0.said_of bytes told)
  printed-of_both serves reading Says IsOwn shows setting second content before after (inr (inl fault)) =
      λ more held bytes told. not_shown (setting_in serves bytes) (refused-above refusal.ReadFault saying status out err fault.0 delivered)
  printed-of_both serves reading Says IsOwn shows setting second content before after (inr (inr memory)) =
      λ more held bytes told. not_shown (setting_in serves bytes) (refused-above refusal.Memory saying status out err memory.0 delivered)

solve-shows : (width : ℕ) (saying : Saying) (file : SettingFile) → IsSolve width file saying → IsShownBy file width saying.status saying.text
solve-shows width saying (General s) h = h.headline
solve-shows width saying (Auction a) h = h.headline
solve-shows width saying (Bidders a) h = absurd h

find-shows : (saying : Saying) (file : SettingFile) → IsFind file saying → IsFindShownBy file saying.status saying.text
find-shows saying (General s) h = h.headline
find-shows saying (Auction a) h = tt
find-shows saying (Bidders a) h = tt

found-shows : (has_second : Bool) (order : Order) (content : List ℕ → Option (List ℕ)) (before after : List ℕ → ℕ) (saying : Saying) (status : ℕ) (out err : SinkChange)
    → IsSaidOfWork (find_work has_second) order.setting order.second content before after saying → IsDelivered saying status out err → IsFound has_second order content status out
found-shows false order content before after saying status out err said delivered =
    printed-of IsFindShownBy saying status out err delivered is_general IsFind IsFindStatus (find-shows saying) order.setting order.second content before after said
found-shows true order content before after saying status out err said delivered =
    printed-of_both IsFindShownBy saying status out err delivered is_general basis_in (λ file basis. IsFind file) IsFindStatus (λ file basis. find-shows saying file) order.setting order.second content before after said

headline-of_command : (command : Command) (order : Order) (content : List ℕ → Option (List ℕ)) (before after : List ℕ → ℕ) (saying : Saying) (status : ℕ) (out err : SinkChange)
    → IsSaidOfOrder (record order { command = command }) content before after saying → IsDelivered saying status out err
    → IsHeadlineBy command order content status out
headline-of_command Audit order content before after saying status out err said delivered = tt
headline-of_command Rows order content before after saying status out err said delivered = tt
headline-of_command Check order content before after saying status out err said delivered = tt
headline-of_command Solve order content before after saying status out err said delivered =
    printed-of (λ file. IsShownBy file order.width) saying status out err delivered has_no_groups (IsSolve order.width) IsSolveStatus (solve-shows order.width saying) order.setting order.second content before after said
headline-of_command Find order content before after saying status out err said delivered =
    found-shows order.has_second order content before after saying status out err said delivered
headline-of_command FindFair order content before after saying status out err said delivered = tt
headline-of_command Require order content before after saying status out err said delivered = tt
headline-of_command Replay order content before after saying status out err said delivered = tt
headline-of_command Realise order content before after saying status out err said delivered = tt
headline-of_command Fair order content before after saying status out err said delivered = tt
headline-of_command Asym order content before after saying status out err said delivered = tt
headline-of_command Units order content before after saying status out err said delivered = tt
headline-of_command Threshold order content before after saying status out err said delivered = tt
headline-of_command Award order content before after saying status out err said delivered = tt
headline-of_command Determ order content before after saying status out err said delivered = tt
headline-of_command DetermCheck order content before after saying status out err said delivered = tt
headline-of_command Run order content before after saying status out err said delivered = tt
headline-of_command Report order content before after saying status out err said delivered = tt
headline-of_command Iron order content before after saying status out err said delivered = tt
headline-of_command IronUnits order content before after saying status out err said delivered = tt
headline-of_command Make order content before after saying status out err said delivered = tt
headline-of_command Drill order content before after saying status out err said delivered = tt

headline-by : {A : Type 0} (named : Option A) (order : Option Order) (content : List ℕ → Option (List ℕ)) (before after : List ℕ → ℕ) (saying : Saying) (status : ℕ) (out err : SinkChange)
    → IsSaidBy named order content before after saying → IsDelivered saying status out err → IsHeadlineOf order content status out
headline-by named None content before after saying status out err said delivered = tt
headline-by named (Some order) content before after saying status out err said delivered = headline-of_command order.command order content before after saying status out err said delivered

pub headline-from : (words : List (List ℕ)) (content : List ℕ → Option (List ℕ)) (before after : List ℕ → ℕ) (status : ℕ) (out err : SinkChange)
    → (saying : Saying) × (IsSaid words content before after saying × IsDelivered saying status out err) → IsHeadlineOf (command_of words) content status out
headline-from words content before after status out err h =
    headline-by (command_in words) (command_of words) content before after h.0 status out err h.1.0 h.1.1

-- ---- completeness

-- without a fault, the status is that of what was said
own_status : (order : Order) (content : List ℕ → Option (List ℕ)) (before after : List ℕ → ℕ) (saying : Saying) (status : ℕ) (out err : SinkChange)
    → IsDelivered saying status out err → IsFaultless order content before after status out err → status ≡ saying.status
own_status order content before after saying status out err delivered fine =
    ⊎_elim (λ same. same) (λ part. absurd (⊎_elim fine.printed fine.told part.1)) (status-of saying status out err delivered)

replied : (order : Order) (content : List ℕ → Option (List ℕ)) (status : ℕ) (out err : SinkChange) (own : ℕ) (text : List ℕ)
    → status ≡ own → IsReply order content record { status = own; text = text } → IsDelivered record { status = own; text = text } status out err
    → IsReplied order content status out err
replied order content status out err own text same reply delivered =
    record {
      text = text;
      reply = subst (λ n. IsReply order content record { status = n; text = text }) (sym same) reply;
      delivered = subst (λ n. IsDelivered record { status = n; text = text } status out err) (sym same) delivered;
    }

complete-of_order : (order : Order) (content : List ℕ → Option (List ℕ)) (before after : List ℕ → ℕ) (saying : Saying) (status : ℕ) (out err : SinkChange)
    → IsSaidOfOrder order content before after saying → IsDelivered saying status out err → IsFaultless order content before after status out err
    → IsReplied order content status out err
complete-of_order order content before after saying status out err (inl reply) delivered fine =
    replied order content status out err saying.status saying.text (own_status order content before after saying status out err delivered fine) reply.0 delivered
complete-of_order order content before after saying status out err (inr (inl fault)) delivered fine = absurd (fine.read fault.1)
complete-of_order order content before after saying status out err (inr (inr memory)) delivered fine =
    absurd (fine.memory (own_status order content before after saying status out err delivered fine ∙ ap (λ (x : Saying). x.status) memory.0))

complete-by : {A : Type 0} (named : Option A) (order : Option Order) (content : List ℕ → Option (List ℕ)) (before after : List ℕ → ℕ) (saying : Saying) (status : ℕ) (out err : SinkChange)
    → IsSaidBy named order content before after saying → IsDelivered saying status out err → IsComplete order content before after status out err
complete-by named None content before after saying status out err said delivered = tt
complete-by named (Some order) content before after saying status out err said delivered = λ fine.
    complete-of_order order content before after saying status out err said delivered fine

pub complete-from : (words : List (List ℕ)) (content : List ℕ → Option (List ℕ)) (before after : List ℕ → ℕ) (status : ℕ) (out err : SinkChange)
    → (saying : Saying) × (IsSaid words content before after saying × IsDelivered saying status out err) → IsComplete (command_of words) content before after status out err
complete-from words content before after status out err h =
    complete-by (command_in words) (command_of words) content before after h.0 status out err h.1.0 h.1.1
