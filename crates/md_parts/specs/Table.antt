-- The records of a mechanism: its denominator, a lottery for each profile, and where agents pay what they pay at each profile.
use Rattle.std.specs.Prelude.{ℕ, ◌*◌, ℤ, pos, List, [], ◌∷◌, ◌++◌, map, drop, replicate, codes, Bool, true, false}
use Rattle.md_math.specs.Lists.{number_at}
use Rattle.md_num.specs.declared.frac.Frac.{Frac}
use Rattle.md_space.specs.Profiles.{profile_count}
use Rattle.md_space.specs.AllProfiles.{profiles_of}
use Rattle.md_setting.specs.Setting.{GeneralSetting}
use Rattle.md_setting.specs.Meaning.{agent_count, outcome_count, sizes_of}
use Rattle.md_mech.specs.declared.mechanism.Mechanism.{Mechanism}
use Rattle.md_mech.specs.RowName.{type_names}
use Rattle.md_parts.specs.Fields.{Field, word_field, any_number, chance_field, denominator_field, wide_number, wide_denominator}
use Rattle.md_parts.specs.Reading.{Reading, ◌>>=◌, nothing_more, read_record, adding_to}

-- the names of a profile's types, one field for each agent
abbrev pub profile_fields : GeneralSetting → List ℕ → List Field
profile_fields s t = map word_field (type_names s.agents t)

-- the denominator of a table
abbrev pub denominator_of : Reading ℤ
denominator_of = do
  numbers ← read_record (codes "table") (denominator_field ∷ [])
  nothing_more (number_at numbers 0)

-- the chances of the outcomes at a profile, which add to the denominator
abbrev pub lottery_of : GeneralSetting → ℤ → List ℕ → Reading (List ℤ)
lottery_of s den t = do
  numbers ← read_record (codes "lottery") (profile_fields s t ++ replicate (outcome_count s) chance_field)
  adding_to den (drop (agent_count s) numbers)

-- what each agent pays at a profile, in a record that begins with the word
abbrev pub payments_of : List ℕ → GeneralSetting → List ℕ → Reading (List ℤ)
payments_of word s t = do
  numbers ← read_record word (profile_fields s t ++ replicate (agent_count s) any_number)
  nothing_more (drop (agent_count s) numbers)

-- the numbers of each of some profiles, one profile after another
abbrev pub each_profile : (List ℕ → Reading (List ℤ)) → List (List ℕ) → Reading (List ℤ)
each_profile read [] = nothing_more []
each_profile read (t ∷ others) = do
  first ← read t
  rest ← each_profile read others
  nothing_more (first ++ rest)

-- these records stand exactly where payments are on; elsewhere nothing is paid
abbrev pub all_payments_of : List ℕ → GeneralSetting → Bool → Reading (List ℤ)
all_payments_of word s true = each_profile (payments_of word s) (profiles_of (sizes_of s))
all_payments_of word s false = nothing_more (replicate (profile_count (sizes_of s) * agent_count s) (pos 0))

-- the payments along which a mechanism gains without end
abbrev pub ray_of : GeneralSetting → Reading (List ℤ)
ray_of s = all_payments_of (codes "ray") s s.payments

-- the value of a mechanism
abbrev pub value_of : Reading Frac
value_of = do
  numbers ← read_record (codes "value") (wide_number ∷ wide_denominator ∷ [])
  nothing_more record { num = number_at numbers 0; den = number_at numbers 1 }

abbrev pub mechanism_of : GeneralSetting → Reading Mechanism
mechanism_of s = do
  den ← denominator_of
  chances ← each_profile (lottery_of s den) (profiles_of (sizes_of s))
  pays ← all_payments_of (codes "pay") s s.payments
  nothing_more record { den = den; chances = chances; pays = pays }
