-- The mechanism that a text says of a general setting, as an answer about the best one, about the fairest one, or about the best one
-- under conditions of the designer, which come with it.
use Rattle.std.specs.Prelude.{◌==◌, ℕ, Bool, false, List, [], Option, None, Some, Result, Ok, Err, if◌then◌else◌}
use Rattle.md_setting.specs.Setting.{GeneralSetting}
use Rattle.md_mech.specs.declared.mechanism.Mechanism.{Mechanism}
use Rattle.md_parts.specs.declared.refusal.AnswerRefusal.{AnswerRefusal}
use Rattle.md_parts.specs.declared.refusal.AnswerRefusal.TheVariants.{Line, Cell, Sum, End, Memory}
use Rattle.md_answer.specs.declared.answer.Answer.{Answer}
use Rattle.md_answer.specs.declared.answer.Answer.TheVariants.{Table, Optimal, Infeasible, Unbounded, AuctionOptimal, TooWide}
use Rattle.md_answer.specs.Answers.{answer_of}
use Rattle.md_question.specs.declared.finding.Finding.{Finding}
use Rattle.md_question.specs.declared.finding.Finding.TheVariants as findings
use Rattle.md_fair.specs.declared.answer.FairAnswer.{FairAnswer}
use Rattle.md_fair.specs.declared.answer.FairAnswer.TheVariants as fairest
use Rattle.md_fair.specs.FairText.{fair_answer_of}
use Rattle.md_require_text.specs.RequiredText.{required_answer_of}
use Rattle.md_require_text.specs.Told.{Told}
use Rattle.md_mechanism_text.specs.Proposals.{Proposed, proposed_under}

-- the mechanism of an answer about the best one, where it has one
abbrev pub mechanism_of : Answer → Option Mechanism
mechanism_of (Table mechanism) = Some mechanism
mechanism_of (Optimal value mechanism bound) = Some mechanism
mechanism_of (Infeasible face) = None
mechanism_of (Unbounded mechanism ray) = Some mechanism
mechanism_of (AuctionOptimal value interim masses cuts bound) = None
mechanism_of (TooWide cuts first second) = None

-- the same of an answer about the fairest one
abbrev pub mechanism_found : Finding → Option Mechanism
mechanism_found (findings.Optimal value mechanism bound) = Some mechanism
mechanism_found (findings.Infeasible face) = None
mechanism_found (findings.Unbounded mechanism ray) = Some mechanism

abbrev pub mechanism_of_fairest : FairAnswer → Option Mechanism
mechanism_of_fairest (fairest.Found finding) = mechanism_found finding
mechanism_of_fairest (fairest.TooWide first second) = None

-- a text is refused for the third field of its first record, which names the kind of the answer
abbrev pub names_another_kind : AnswerRefusal → Bool
names_another_kind (Line line) = false
names_another_kind (Cell line field) = if line == 1 then field == 3 else false
names_another_kind (Sum line) = false
names_another_kind (End line) = false
names_another_kind Memory = false

-- what it says as an answer about the best mechanism under conditions
abbrev pub required_or_refusal : Result Told AnswerRefusal → Result (Option Proposed) AnswerRefusal
required_or_refusal (Ok answer) = Ok (proposed_under answer.conditions (mechanism_found answer.finding))
required_or_refusal (Err e) = Err e

abbrev pub required_in : GeneralSetting → List ℕ → Result (Option Proposed) AnswerRefusal
required_in s bytes = required_or_refusal (required_answer_of s bytes)

-- what it says as an answer about the fairest one, or else as another
abbrev pub fairest_or_other : Result FairAnswer AnswerRefusal → Result (Option Proposed) AnswerRefusal → Result (Option Proposed) AnswerRefusal
fairest_or_other (Ok answer) other = Ok (proposed_under [] (mechanism_of_fairest answer))
fairest_or_other (Err e) other = if names_another_kind e then other else Err e

abbrev pub other_kind_in : GeneralSetting → List ℕ → Result (Option Proposed) AnswerRefusal
other_kind_in s bytes = fairest_or_other (fair_answer_of s bytes) (required_in s bytes)

-- what it says as an answer about the best one, or else as another
abbrev pub best_or_other : Result Answer AnswerRefusal → Result (Option Proposed) AnswerRefusal → Result (Option Proposed) AnswerRefusal
best_or_other (Ok answer) other = Ok (proposed_under [] (mechanism_of answer))
best_or_other (Err e) other = if names_another_kind e then other else Err e

-- The mechanism of the answer that a text says, if that has one, or the first reason to refuse the text. A text whose first record
-- names another kind than that of answers about the best mechanism is read as one about the fairest, and else as one about the best
-- under conditions. Those conditions it is to meet, and in the other answers there are none.
abbrev pub mechanism_text_of : GeneralSetting → List ℕ → Result (Option Proposed) AnswerRefusal
mechanism_text_of s bytes = best_or_other (answer_of s bytes) (other_kind_in s bytes)
