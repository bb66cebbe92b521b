-- What the item of a sale is worth: to the agent of a pair with its type, and to the designer. Outcome 0 keeps it, and at
-- outcome i + 1 it goes to agent i, counted from 0.
use Rattle.std.specs.Prelude.{ℕ, ◌+◌, ℤ, ◌+ℤ◌, ◌-ℤ◌, ◌*ℤ◌}
use Rattle.md_math.specs.Lists.{number_at}
use Rattle.md_space.specs.Profiles.{profile_at, replaced}
use Rattle.md_setting.specs.Setting.{GeneralSetting}
use Rattle.md_setting.specs.Meaning.{sizes_of, utility_of, marginal_of}
use Rattle.md_asym_sale.specs.Pairs.{pair_count, agent_of, kind_of}

-- what it is worth to agent i with the type a, where all others have their first types
abbrev pub own_value : GeneralSetting → ℕ → ℕ → ℤ
own_value s i a = utility_of s i (replaced (profile_at (sizes_of s) 0) i a) (i + 1)

-- how many pairs the setting has
abbrev pub pairs_of : GeneralSetting → ℕ
pairs_of s = pair_count (sizes_of s)

-- the same for the pair with a number, and the weight of the profiles in which its agent has its type
abbrev pub value_at : GeneralSetting → ℕ → ℤ
value_at s p = own_value s (agent_of (sizes_of s) p) (kind_of (sizes_of s) p)

abbrev pub marginal_at : GeneralSetting → ℕ → ℤ
marginal_at s p = marginal_of s (agent_of (sizes_of s) p) (kind_of (sizes_of s) p)

-- what it is worth to the designer that agent i with the type a has the item, more than where it is kept
abbrev pub surplus_of : GeneralSetting → ℕ → ℕ → ℤ
surplus_of s i a = (number_at s.values (i + 1) +ℤ s.welfare *ℤ own_value s i a) -ℤ number_at s.values 0

abbrev pub surplus_at : GeneralSetting → ℕ → ℤ
surplus_at s p = surplus_of s (agent_of (sizes_of s) p) (kind_of (sizes_of s) p)
