-- How a mechanism stands against the conditions of the designer, in records.
use Rattle.std.specs.Prelude.{◌≡◌, ◌↔◌, ℕ, suc, pos, Bool, List, [], ◌∷◌, codes, if◌then◌else◌}
use Rattle.md_num.specs.WholeText.{text_of}
use Rattle.md_setting.specs.Setting.{GeneralSetting}
use Rattle.md_require.specs.declared.standing.Standing.{Standing}
use Rattle.md_require.specs.Conditions.{MeetsAll}
use Rattle.md_require.specs.Standings.{AreMet, AreStandings}
use Rattle.md_mechanism_text.specs.Proposals.{Proposed}
use Rattle.md_report.specs.Records.{fraction}

abbrev pub met_word : Bool → List ℕ
met_word met = if met then codes "met" else codes "missed"

-- the number of a condition, whether it is met, and what it measures
abbrev pub standing_record : ℕ → Standing → List (List ℕ)
standing_record index standing = codes "condition" ∷ text_of (pos index) ∷ met_word standing.met ∷ fraction standing.amount

-- those of conditions whose numbers go on from one
abbrev pub standing_records : ℕ → List Standing → List (List (List ℕ))
standing_records index [] = []
standing_records index (standing ∷ others) = standing_record index standing ∷ standing_records (suc index) others

-- The records tell how a mechanism stands against each of its conditions, by their numbers from 0. It meets them all exactly where each is
-- told to be met.
pub record TellStandings (s : GeneralSetting) (proposed : Proposed) (records : List (List (List ℕ))) : Type 0 where
  pub standings : List Standing
  pub stands : AreStandings s proposed.mechanism proposed.conditions standings
  pub meets : AreMet standings ↔ MeetsAll s proposed.conditions proposed.mechanism
  pub told : records ≡ standing_records 0 standings
