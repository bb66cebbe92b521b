-- What a mechanism of an auction with groups of bidders brings on average. All numbers are sums over profiles by weight; those of a
-- mechanism are in units of one over its denominator.
use Rattle.std.specs.Prelude.{ℕ, ℤ, pos, ◌*ℤ◌, ◌==◌, if◌then◌else◌, List, slice_index}
use Rattle.md_math.specs.Sums.{sum_to, total_by}
use Rattle.md_space.specs.AllProfiles.{profiles_of}
use Rattle.md_setting.specs.Setting.{GeneralSetting}
use Rattle.md_setting.specs.Meaning.{agent_count, outcome_count, sizes_of, weight_of}
use Rattle.md_mech.specs.declared.mechanism.Mechanism.{Mechanism}
use Rattle.md_mech.specs.Mechanism.{chance_of, pay_of}
use Rattle.md_mech.specs.Utility.{weighted_given}
use Rattle.md_setting.specs.Grouped.{GroupedAuction, group_of, bidder_count}
use Rattle.md_bidders.specs.Assignments.{assignment_at, amount_in}
use Rattle.md_bidders.specs.Setting.{setting_of}

-- all payments, over all profiles
abbrev pub revenue_in : GeneralSetting → Mechanism → ℤ
revenue_in s m = total_by (λ t. weight_of s t *ℤ sum_to (agent_count s) (λ i. pay_of s m i t)) (profiles_of (sizes_of s))

-- ---- one value of a group

-- how often bidder i gets a slot when t is reported, and what amount it gets
abbrev pub wins_at : GroupedAuction → Mechanism → ℕ → List ℕ → ℤ
wins_at a m i t = sum_to (outcome_count (setting_of a)) (λ o. chance_of (setting_of a) m t o *ℤ (if slice_index (assignment_at a o) i == 0 then pos 0 else pos 1))

abbrev pub gets_at : GroupedAuction → Mechanism → ℕ → List ℕ → ℤ
gets_at a m i t = sum_to (outcome_count (setting_of a)) (λ o. chance_of (setting_of a) m t o *ℤ pos (amount_in a (assignment_at a o) i))

-- the sum of f over the bidders of group k, for each of them over the profiles in which it has value number v
abbrev pub over_group : GroupedAuction → ℕ → ℕ → (ℕ → List ℕ → ℤ) → ℤ
over_group a k v f = sum_to (bidder_count a) (λ i. if group_of a i == k then weighted_given (setting_of a) i v (f i) else pos 0)

-- How often a bidder of group k with value number v gets a slot, what amount it gets and what it pays, on average over the others'
-- values and over the bidders of the group: these sums over that of `whole_given`.
abbrev pub wins_given : GroupedAuction → Mechanism → ℕ → ℕ → ℤ
wins_given a m k v = over_group a k v (wins_at a m)

abbrev pub gets_given : GroupedAuction → Mechanism → ℕ → ℕ → ℤ
gets_given a m k v = over_group a k v (gets_at a m)

abbrev pub pays_given : GroupedAuction → Mechanism → ℕ → ℕ → ℤ
pays_given a m k v = over_group a k v (pay_of (setting_of a) m)

abbrev pub whole_given : GroupedAuction → Mechanism → ℕ → ℕ → ℤ
whole_given a m k v = over_group a k v (λ i t. m.den)
