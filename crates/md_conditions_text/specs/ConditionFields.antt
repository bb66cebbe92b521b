-- What stands in the fields of records of conditions, and the condition that they say.
use Rattle.std.specs.Prelude.{ℕ, ◌+◌, ◌==◌, ℤ, unsigned_abs, List, [], ◌∷◌, ◌++◌, drop, codes, Option, None, Some, Ok, slice_index_or, if◌then◌else◌}
use Rattle.md_math.specs.Lists.{number_at}
use Rattle.md_setting.specs.Setting.{GeneralSetting}
use Rattle.md_parts.specs.Fields.{Field, any_number, denominator_field}
use Rattle.md_parts.specs.FirstRecord.{word_among}
use Rattle.md_parts.specs.Reading.{Reading, ◌>>=◌, nothing_more, read_record, fields_after_word}
use Rattle.md_require.specs.declared.condition.Condition.{Condition}
use Rattle.md_require.specs.declared.condition.Measured.{Measured}
use Rattle.md_require.specs.declared.condition.Side.{Side}
use Rattle.md_require.specs.declared.condition.Side.TheVariants.{Least, Most}
use Rattle.md_conditions_text.specs.declared.kind.Kind.{Kind}
use Rattle.md_conditions_text.specs.declared.kind.Kind.TheVariants.{Revenue, Welfare, Utility, Chance, ChanceAt, Payment, PaymentAs}
use Rattle.md_conditions_text.specs.Kinds.{word_of, measure_count, measured_by}
use Rattle.md_conditions_text.specs.Names.{agent_names, type_names, outcome_names, profile_names}

-- ---- what is measured: names, each of which stands for its place among those of its kind

abbrev pub agent_field : GeneralSetting → Field
agent_field s = word_among (agent_names s)

abbrev pub outcome_field : GeneralSetting → Field
outcome_field s = word_among (outcome_names s)

abbrev pub profile_field : GeneralSetting → Field
profile_field s = word_among (profile_names s)

-- the place that a field stands for, and 0 where it holds something else
abbrev pub place_or_zero : Option ℤ → ℕ
place_or_zero None = 0
place_or_zero (Some place) = unsigned_abs place

-- a type of the agent that the first of the fields names
abbrev pub type_field : GeneralSetting → List (List ℕ) → Field
type_field s texts = word_among (type_names s (place_or_zero (agent_field s (slice_index_or texts 0 []))))

-- the fields that say what is measured, in a record with these fields behind its word
abbrev pub measure_fields : GeneralSetting → List (List ℕ) → Kind → List Field
measure_fields s texts Revenue = []
measure_fields s texts Welfare = []
measure_fields s texts Utility = agent_field s ∷ []
measure_fields s texts Chance = outcome_field s ∷ []
measure_fields s texts ChanceAt = profile_field s ∷ outcome_field s ∷ []
measure_fields s texts Payment = agent_field s ∷ []
measure_fields s texts PaymentAs = agent_field s ∷ type_field s texts ∷ []

-- ---- the bound

abbrev pub side_words : List (List ℕ)
side_words = codes "least" ∷ codes "most" ∷ []

abbrev pub side_place : Side → ℕ
side_place Least = 0
side_place Most = 1

abbrev pub side_at : ℕ → Side
side_at place = if place == 0 then Least else Most

-- the side on which the measure is to stay, and the fraction
abbrev pub bound_fields : List Field
bound_fields = word_among side_words ∷ any_number ∷ denominator_field ∷ []

abbrev pub bounded : Measured → List ℤ → Condition
bounded measured numbers = record {
  measured = measured;
  side = side_at (unsigned_abs (number_at numbers 0));
  num = number_at numbers 1;
  den = number_at numbers 2;
}

-- ---- a record

-- the condition of a record of this kind by its numbers
abbrev pub condition_from : Kind → List ℤ → Condition
condition_from kind numbers = bounded (measured_by kind numbers) (drop (measure_count kind) numbers)

-- the fields behind the word of the record that comes next, which stays
abbrev pub next_texts : List (List (List ℕ)) → List (List ℕ)
next_texts [] = []
next_texts (next ∷ others) = fields_after_word next

abbrev pub texts_ahead : Reading (List (List ℕ))
texts_ahead rest = Ok (next_texts rest.left, rest)

-- the condition that a record of this kind says
abbrev pub condition_of : GeneralSetting → Kind → Reading Condition
condition_of s kind = do
  texts ← texts_ahead
  numbers ← read_record (word_of kind) (measure_fields s texts kind ++ bound_fields)
  nothing_more (condition_from kind numbers)

-- the places of the numerator and the denominator of its bound among the fields of its record, the word being field 1
abbrev pub numerator_place : Kind → ℕ
numerator_place kind = measure_count kind + 3

abbrev pub denominator_place : Kind → ℕ
denominator_place kind = measure_count kind + 4
