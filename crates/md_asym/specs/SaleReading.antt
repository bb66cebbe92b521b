-- What the records of odds, payments and masses of a sale say.
use Rattle.std.specs.Prelude.{ℕ, zero, suc, ◌-◌, ◌^◌, ℤ, List, [], ◌∷◌, ◌++◌, drop, replicate, slice_index, codes}
use Rattle.md_space.specs.Profiles.{profile_at, profile_count}
use Rattle.md_setting.specs.Setting.{GeneralSetting}
use Rattle.md_setting.specs.Meaning.{agent_count, sizes_of}
use Rattle.md_mech.specs.RowName.{agent_name}
use Rattle.md_border.specs.declared.interim.Interim.{Interim}
use Rattle.md_parts.specs.Fields.{Field, amount_field, any_number, word_field}
use Rattle.md_parts.specs.Reading.{Reading, ◌>>=◌, nothing_more, read_record}
use Rattle.md_parts.specs.Table.{profile_fields}
use Rattle.md_answer.specs.MassReading.{adding_at_most}
use Rattle.md_answer.specs.Odds.{interim_den, odds_field}
use Rattle.md_asym_tables.specs.PairNets.{cap_at}

-- the numbers at each of the first places, one place after another
abbrev pub each_of : ℕ → (ℕ → Reading (List ℤ)) → Reading (List ℤ)
each_of zero read = nothing_more []
each_of (suc n) read = do
  before ← each_of n read
  last ← read n
  nothing_more (before ++ last)

-- ---- odds and payments

-- of a bidder, in a record that begins with the word: its name, and a number for each of its types
abbrev pub agent_numbers : List ℕ → GeneralSetting → Field → ℕ → Reading (List ℤ)
agent_numbers word s field i = do
  numbers ← read_record word (word_field (agent_name s i) ∷ replicate (slice_index (sizes_of s) i) field)
  nothing_more (drop 1 numbers)

-- the numbers of all pairs
abbrev pub pair_numbers : List ℕ → GeneralSetting → Field → Reading (List ℤ)
pair_numbers word s field = each_of (agent_count s) (agent_numbers word s field)

-- the denominator, the odds and the payments
abbrev pub interim_of : GeneralSetting → Reading Interim
interim_of s = do
  den ← interim_den
  odds ← pair_numbers (codes "odds") s (odds_field den)
  pays ← pair_numbers (codes "pays") s any_number
  nothing_more record { den = den; odds = odds; pays = pays }

-- ---- masses

-- a mass is from 0 on, and has at most 126 bits
abbrev pub mass_field : Field
mass_field = amount_field (2 ^ 126 - 1)

-- the masses of the bidders at the profile of a rank: together no more than there is to give
abbrev pub masses_at : GeneralSetting → ℤ → ℕ → Reading (List ℤ)
masses_at s den rank = do
  numbers ← read_record (codes "mass") (profile_fields s (profile_at (sizes_of s) rank) ++ replicate (agent_count s) mass_field)
  adding_at_most (cap_at s den rank) (drop (agent_count s) numbers)

abbrev pub masses_of : GeneralSetting → ℤ → Reading (List ℤ)
masses_of s den = each_of (profile_count (sizes_of s)) (masses_at s den)
