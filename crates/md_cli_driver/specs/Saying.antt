-- What a call says: a status and a text, which goes to one of two sinks.
use Rattle.std.specs.Prelude.{◌≡◌, ◌≢◌, ◌++◌, ◌∷◌, [], ℕ, Bool, true, false, List, Option, codes, nat_lt}
use Rattle.std.specs.Option.{ForSome}
use Rattle.md_cli_driver.specs.declared.answered.Answered.{Answered}
use Rattle.md_ports.specs.Faults.{Rose}
use Rattle.md_ports.specs.Written.{AddsFrontOf}

pub record Saying : Type 0 where
  pub status : ℕ
  pub text : List ℕ

-- what an answer of the program says
abbrev pub said : Answered → Saying
said answered = record { status = answered.status; text = answered.text.items }

-- the text of an answer that decides nothing
abbrev pub undecided_text : List ℕ
undecided_text = codes "undecided" ++ 10 ∷ []

-- answers go to the sink for answers, and refusals, whose statuses begin at 64, to the other one
abbrev pub is_answer : Saying → Bool
is_answer saying = nat_lt saying.status 64

-- the status of a call that could not write its text
abbrev pub write_fault : ℕ
write_fault = 71

-- the text of a sink grew by this, where the sink tells its text
abbrev pub Grew : List ℕ → Option (List ℕ) → Option (List ℕ) → Type 0
Grew text before after = ForSome before (λ old. ForSome after (λ new. new ≡ old ++ text))

-- the same with a front of it
abbrev pub GrewByFront : List ℕ → Option (List ℕ) → Option (List ℕ) → Type 0
GrewByFront text before after = ForSome before (λ old. ForSome after (AddsFrontOf text old))

-- A text was written to a sink: whole, with the status that belongs to it, or in part, which is a fault of that sink.
pub record IsSent (saying : Saying) (status : ℕ) (before after : Option (List ℕ)) (faults_before faults_after : ℕ) : Type 0 where
  pub whole : status ≢ write_fault → (status ≡ saying.status) × (Grew saying.text before after × (faults_after ≡ faults_before))
  pub part : status ≡ write_fault → GrewByFront saying.text before after × Rose faults_before faults_after

-- what becomes of a sink in a call: its text, where it tells that, and its count of faults
pub record SinkChange : Type 0 where
  pub before : Option (List ℕ)
  pub after : Option (List ℕ)
  pub faults_before : ℕ
  pub faults_after : ℕ

-- the same of a value, by what its text and its count of faults are
abbrev pub change_of : {S : Type 0} → (S → Option (List ℕ)) → (S → ℕ) → S → S → SinkChange
change_of written faults old new = record { before = written old; after = written new; faults_before = faults old; faults_after = faults new }

abbrev pub IsSentTo : Saying → ℕ → SinkChange → Type 0
IsSentTo saying status change = IsSent saying status change.before change.after change.faults_before change.faults_after

-- nothing was written to the sink
pub record IsUntouched (change : SinkChange) : Type 0 where
  pub text : change.after ≡ change.before
  pub faults : change.faults_after ≡ change.faults_before

-- an answer was sent to out and a refusal to err, with this status in the end, and the other sink is untouched
pub record IsDelivered (saying : Saying) (status : ℕ) (out err : SinkChange) : Type 0 where
  pub answer : is_answer saying ≡ true → IsSentTo saying status out × IsUntouched err
  pub refusal : is_answer saying ≡ false → IsSentTo saying status err × IsUntouched out
