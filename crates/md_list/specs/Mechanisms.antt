-- The rule of a list of bids as a mechanism, and what a list of the right form promises.
use Rattle.std.specs.Prelude.{◌≡◌, ◌≢◌, ℕ, ◌<◌, ℤ, pos, List, bytes_eq, if◌then◌else◌}
use Rattle.md_math.specs.Sums.{sum_to}
use Rattle.md_space.specs.Profiles.{IsProfile}
use Rattle.md_setting.specs.Meaning.{sizes_of}
use Rattle.md_mech.specs.declared.mechanism.Mechanism.{Mechanism}
use Rattle.md_mech.specs.Admissible.{IsAdmissible}
use Rattle.md_mech.specs.ByProfiles.{mechanism_by}
use Rattle.md_mech.specs.Rationality.{IsExPostRational}
use Rattle.md_mech.specs.Truth.{IsDominantTruth}
use Rattle.md_setting.specs.Grouped.{GroupedAuction, bidder_count}
use Rattle.md_bidders.specs.Assignments.{assignment_at}
use Rattle.md_bidders.specs.Setting.{setting_of}
use Rattle.md_list.specs.Ranks.{Rank}
use Rattle.md_list.specs.Rule.{slot_at, assigned, amount_at, payment, least_value}

-- the way of the rule comes at each profile, and no other one
abbrev pub chance_at : GroupedAuction → List Rank → List ℕ → ℕ → ℤ
chance_at a ranks t o = if bytes_eq (assignment_at a o) (assigned a ranks t) then pos 1 else pos 0

abbrev pub list_mechanism : GroupedAuction → List Rank → Mechanism
list_mechanism a ranks = mechanism_by (setting_of a) (pos 1) (chance_at a ranks) (payment a ranks)

-- no slot goes to two bidders
abbrev pub SlotsDiffer : GroupedAuction → List Rank → Type 0
SlotsDiffer a ranks =
    (t : List ℕ) (i j : ℕ) → i < bidder_count a → j < bidder_count a → i ≢ j
    → slot_at a ranks t i ≡ slot_at a ranks t j → slot_at a ranks t i ≡ 0

-- who gets nothing pays nothing
abbrev pub LosersPayNothing : GroupedAuction → List Rank → Type 0
LosersPayNothing a ranks =
    (i : ℕ) (t : List ℕ) → i < bidder_count a → IsProfile (sizes_of (setting_of a)) t
    → amount_at a ranks t i ≡ 0 → payment a ranks i t ≡ pos 0

-- for each unit that it gets a bidder pays the least of its values with which it would still get that unit
abbrev pub UnitsCostLeast : GroupedAuction → List Rank → Type 0
UnitsCostLeast a ranks =
    (i : ℕ) (t : List ℕ) → i < bidder_count a → IsProfile (sizes_of (setting_of a)) t
    → payment a ranks i t ≡ sum_to (amount_at a ranks t i) (least_value a ranks i t)

-- No slot goes to two bidders. Whatever the others report, truth is best, and nobody has less than nothing; who gets nothing pays
-- nothing, and each unit costs the least value with which it would still be had. So the mechanism is one that the setting admits.
pub record KeepsPromises (a : GroupedAuction) (ranks : List Rank) : Type 0 where
  pub admissible : IsAdmissible (setting_of a) (list_mechanism a ranks)
  pub truthful : IsDominantTruth (setting_of a) (list_mechanism a ranks)
  pub rational : IsExPostRational (setting_of a) (list_mechanism a ranks)
  pub slots : SlotsDiffer a ranks
  pub losers : LosersPayNothing a ranks
  pub prices : UnitsCostLeast a ranks
