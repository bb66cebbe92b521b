-- What the bytes of an answer file say of the best mechanism of a sale: an answer, or the first reason to refuse them.
use Rattle.std.specs.Prelude.{ℕ, ◌==◌, List, [], ◌∷◌, codes, Result, if◌then◌else◌}
use Rattle.md_setting.specs.Setting.{GeneralSetting}
use Rattle.md_records.specs.Text.{records_of}
use Rattle.md_parts.specs.declared.refusal.AnswerRefusal.{AnswerRefusal}
use Rattle.md_parts.specs.Reading.{Reading, ◌>>=◌, nothing_more, answered, read_record}
use Rattle.md_parts.specs.FirstRecord.{first_of}
use Rattle.md_parts.specs.LastRecord.{read_end}
use Rattle.md_parts.specs.Cuts.{cuts_of}
use Rattle.md_parts.specs.Multipliers.{bound_of}
use Rattle.md_parts.specs.Path.{wide_of}
use Rattle.md_parts.specs.Table.{value_of}
use Rattle.md_asym_sale.specs.Values.{pairs_of}
use Rattle.md_asym.specs.AnswerTo.{sale_rows}
use Rattle.md_asym.specs.SaleReading.{interim_of, masses_of}
use Rattle.md_asym.specs.declared.asym_answer.AsymAnswer.{AsymAnswer}
use Rattle.md_asym.specs.declared.sale_answer.SaleAnswer.{SaleAnswer}
use Rattle.md_asym.specs.declared.sale_answer.SaleAnswer.TheVariants.{Optimal, TooWide}

-- the words of answers about sales
abbrev pub answer_words : List (List ℕ)
answer_words = codes "optimal" ∷ codes "toowide" ∷ []

-- what stands between the first record and the last: multipliers are by the number of a row of the program with the cuts
abbrev pub best_of : GeneralSetting → Reading AsymAnswer
best_of s = do
  value ← value_of
  interim ← interim_of s
  masses ← masses_of s interim.den
  cuts ← cuts_of (pairs_of s)
  bound ← bound_of (sale_rows s cuts)
  nothing_more record { value = value; interim = interim; masses = masses; cuts = cuts; bound = bound }

abbrev pub optimal_answer : GeneralSetting → Reading SaleAnswer
optimal_answer s = do
  answer ← best_of s
  nothing_more (Optimal answer)

-- the cuts of the last program, the part about the forward path, and then that about the backward one
abbrev pub too_wide_answer : GeneralSetting → Reading SaleAnswer
too_wide_answer s = do
  cuts ← cuts_of (pairs_of s)
  first ← wide_of
  _ ← read_record (codes "again") []
  second ← wide_of
  nothing_more (TooWide cuts first second)

-- by the place of the first record's word
abbrev pub answer_by : GeneralSetting → ℕ → Reading SaleAnswer
answer_by s word = if word == 0 then optimal_answer s else too_wide_answer s

abbrev pub whole_answer : GeneralSetting → Reading SaleAnswer
whole_answer s = do
  head ← first_of (codes "asym") answer_words
  answer ← answer_by s head.word
  _ ← read_end
  nothing_more answer

abbrev pub sale_answer_of : GeneralSetting → List ℕ → Result SaleAnswer AnswerRefusal
sale_answer_of s bytes = answered (whole_answer s record { read = 0; left = records_of bytes })
