-- The status and the line of each refusal.
use Rattle.std.specs.Prelude.{◌≡◌, ◌⊎◌, ℕ, List, codes}
use Rattle.md_parts.specs.declared.refusal.AnswerRefusal.{AnswerRefusal}
use Rattle.md_parts.specs.declared.refusal.AnswerRefusal.TheVariants as answer
use Rattle.md_cli_driver.specs.declared.refusal.Refusal.{Refusal}
use Rattle.md_cli_driver.specs.declared.refusal.Refusal.TheVariants.{Usage, SettingTooLong, Setting, OtherKind, NotASale, AnswerTooLong, Answer, NoTable, Pivot, Profile, Draw, Number, ReadFault, Memory}
use Rattle.md_cli_driver.specs.Saying.{Saying}
use Rattle.md_cli_driver.specs.Texts.{line, want_of_memory, setting_text, answer_text, pivot_text}

abbrev pub status_of : Refusal → ℕ
status_of Usage = 64
status_of SettingTooLong = 65
status_of (Setting _) = 65
status_of OtherKind = 65
status_of NotASale = 65
status_of AnswerTooLong = 66
status_of (Answer _) = 66
status_of NoTable = 66
status_of (Pivot _) = 67
status_of Profile = 67
status_of Draw = 67
status_of Number = 67
status_of ReadFault = 70
status_of Memory = 72

abbrev pub text_of : Refusal → List ℕ
text_of Usage = line (codes "usage")
text_of SettingTooLong = line (codes "setting refused: too long")
text_of (Setting refusal) = setting_text refusal
text_of OtherKind = line (codes "setting refused: other kind")
text_of NotASale = line (codes "setting refused: not a sale")
text_of AnswerTooLong = line (codes "answer refused: too long")
text_of (Answer refusal) = answer_text refusal
text_of NoTable = line (codes "answer refused: no table")
text_of (Pivot number) = pivot_text number
text_of Profile = line (codes "profile refused")
text_of Draw = line (codes "draw refused")
text_of Number = line (codes "number refused")
text_of ReadFault = line (codes "read fault")
text_of Memory = want_of_memory

abbrev pub refused : Refusal → Saying
refused refusal = record { status = status_of refusal; text = text_of refusal }

-- a refusal of an answer file, of which running out of memory is one of its own
abbrev pub answer_refused : AnswerRefusal → Refusal
answer_refused answer.Memory = Memory
answer_refused (answer.Line n) = Answer (answer.Line n)
answer_refused (answer.Cell n k) = Answer (answer.Cell n k)
answer_refused (answer.Sum n) = Answer (answer.Sum n)
answer_refused (answer.End n) = Answer (answer.End n)

-- a word or a number goes into the line of a refusal, which is made in memory
abbrev pub HasMadeLine : Refusal → Type 0
HasMadeLine (Setting _) = Unit {0}
HasMadeLine (Answer _) = Unit {0}
HasMadeLine (Pivot _) = Unit {0}
HasMadeLine Usage = ⊥
HasMadeLine SettingTooLong = ⊥
HasMadeLine OtherKind = ⊥
HasMadeLine NotASale = ⊥
HasMadeLine AnswerTooLong = ⊥
HasMadeLine NoTable = ⊥
HasMadeLine Profile = ⊥
HasMadeLine Draw = ⊥
HasMadeLine Number = ⊥
HasMadeLine ReadFault = ⊥
HasMadeLine Memory = ⊥

-- what is told of a refusal: it, or that there is no memory to make its line
abbrev pub IsTold : Refusal → Refusal → Type 0
IsTold refusal told = (told ≡ refusal) ⊎ ((told ≡ Memory) × HasMadeLine refusal)
