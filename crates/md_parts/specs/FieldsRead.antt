-- What one step takes of the fields of a record, whatever is read after it.
use Rattle.std.specs.Prelude.{◌≡◌, ℕ, ◌+◌, ℤ, List, ◌++◌, length, Result, Ok, Err}
use Rattle.md_parts.specs.declared.refusal.AnswerRefusal.{AnswerRefusal}
use Rattle.md_parts.specs.declared.refusal.AnswerRefusal.TheVariants.{Cell}
use Rattle.md_parts.specs.Fields.{Field, numbers_of}
use Rattle.md_parts.specs.Left.{Left}

-- numbers that come before those that are read later
abbrev pub after_numbers : List ℤ → Result (List ℤ) ℕ → Result (List ℤ) ℕ
after_numbers numbers (Ok more) = Ok (numbers ++ more)
after_numbers numbers (Err place) = Err place

-- these fields are read, and give these numbers
pub record Reads (fields : List Field) (old new : Left) (numbers : List ℤ) : Type 0 where
  pub step : (more : List Field) → numbers_of old.place (fields ++ more) old.texts ≡ after_numbers numbers (numbers_of new.place more new.texts)
  pub number : new.number ≡ old.number
  pub left : length old.texts ≡ length fields + length new.texts

-- one of these fields holds something else
pub record FailsIn (fields : List Field) (old : Left) (refusal : AnswerRefusal) : Type 0 where
  pub place : ℕ
  pub wrong : (more : List Field) → numbers_of old.place (fields ++ more) old.texts ≡ Err place
  pub refusal_is : refusal ≡ Cell old.number place
