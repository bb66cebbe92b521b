-- The mechanism of a profile table: at each profile each agent gets the item as often as its mass says.
use Rattle.std.specs.Prelude.{ℕ, zero, suc, ℤ, pos, ◌-ℤ◌, ◌*ℤ◌, ◌==◌, List, slice_index, if◌then◌else◌}
use Rattle.md_math.specs.Lists.{number_at}
use Rattle.md_math.specs.Sums.{sum_to}
use Rattle.md_space.specs.Profiles.{profile_count, profile_at, rank_of}
use Rattle.md_setting.specs.Setting.{GeneralSetting}
use Rattle.md_setting.specs.Meaning.{agent_count, sizes_of, weight_of}
use Rattle.md_mech.specs.declared.mechanism.Mechanism.{Mechanism}
use Rattle.md_mech.specs.ByProfiles.{mechanism_by}
use Rattle.md_asym_sale.specs.Pairs.{pair_number}
use Rattle.md_asym_sale.specs.Products.{product_below}
use Rattle.md_asym_tables.specs.Tables.{mass_at}

-- the weight of the profile of a rank
abbrev pub weight_at : GeneralSetting → ℕ → ℤ
weight_at s r = weight_of s (profile_at (sizes_of s) r)

-- the product of the weights of all profiles, and of all but that of a rank: the first one divided by the weight of that
abbrev pub all_weights : GeneralSetting → ℤ
all_weights s = product_below (profile_count (sizes_of s)) (weight_at s)

abbrev pub other_weights : GeneralSetting → ℕ → ℤ
other_weights s r = product_below (profile_count (sizes_of s)) (λ q. if q == r then pos 1 else weight_at s q)

-- how often agent i, counted from 0, gets the item at the profile t: its mass over the weight of the profile
abbrev pub win_of : GeneralSetting → List ℤ → List ℕ → ℕ → ℤ
win_of s y t i = mass_at s y (rank_of (sizes_of s) t) i *ℤ other_weights s (rank_of (sizes_of s) t)

-- the denominator of the mechanism
abbrev pub whole_of : GeneralSetting → ℤ → ℤ
whole_of s den = den *ℤ all_weights s

-- how often an outcome comes at the profile t: agent i gets the item at outcome i + 1, and what is left is kept
abbrev pub lottery_of : GeneralSetting → ℤ → List ℤ → List ℕ → ℕ → ℤ
lottery_of s den y t zero = whole_of s den -ℤ sum_to (agent_count s) (win_of s y t)
lottery_of s den y t (suc i) = win_of s y t i

-- what agent i pays at the profile t: the payment of its type, whatever the others' types
abbrev pub payment_of : GeneralSetting → List ℤ → ℕ → List ℕ → ℤ
payment_of s pays i t = number_at pays (pair_number (sizes_of s) i (slice_index t i)) *ℤ all_weights s

-- the mechanism of a profile table in which each agent pays by its type, in units of one over the denominator of the masses
abbrev pub mechanism_of : GeneralSetting → ℤ → List ℤ → List ℤ → Mechanism
mechanism_of s den y pays = mechanism_by s (whole_of s den) (lottery_of s den y) (payment_of s pays)
