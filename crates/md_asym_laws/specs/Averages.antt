-- Averages over the profiles of a sale, by pairs of an agent and one of its types. What agents win and pay are any functions
-- of the agent, counted from 0, and of the profile.
use Rattle.std.specs.Prelude.{ℕ, ◌+◌, ◌-◌, ◌*◌, ℤ, pos, ◌+ℤ◌, ◌*ℤ◌, unsigned_abs, List, nat_lt, ◌==◌, if◌then◌else◌}
use Rattle.md_setting.specs.Setting.{GeneralSetting}
use Rattle.md_setting.specs.Meaning.{sizes_of}
use Rattle.md_mech.specs.declared.mechanism.Mechanism.{Mechanism}
use Rattle.md_mech.specs.Mechanism.{chance_of, pay_of}
use Rattle.md_mech.specs.Utility.{weighted_given}
use Rattle.md_asym_sale.specs.Pairs.{agent_of, kind_of}
use Rattle.md_asym_sale.specs.Products.{product_below}
use Rattle.md_asym_sale.specs.Values.{pairs_of, marginal_at}

-- ---- the averages

-- the product of what the types of all pairs weigh, and of all pairs but one
abbrev pub all_marginals : GeneralSetting → ℤ
all_marginals s = product_below (pairs_of s) (marginal_at s)

abbrev pub other_marginals : GeneralSetting → ℕ → ℤ
other_marginals s p = product_below (pairs_of s) (λ q. if q == p then pos 1 else marginal_at s q)

-- what the agent of a pair has of f, over the profiles by weight in which it has the pair's type
abbrev pub given_at : GeneralSetting → (ℕ → List ℕ → ℤ) → ℕ → ℤ
given_at s f p = weighted_given s (agent_of (sizes_of s) p) (kind_of (sizes_of s) p) (f (agent_of (sizes_of s) p))

-- the average of f at a pair, in units of one over the denominator of f times the product of what all types weigh
abbrev pub mean : GeneralSetting → (ℕ → List ℕ → ℤ) → ℕ → ℤ
mean s f p = other_marginals s p *ℤ given_at s f p

-- ---- the point of the averages

-- a number is its plus part less its minus part, which is its size
abbrev pub minus_part : ℤ → ℤ
minus_part z = pos (unsigned_abs z)

abbrev pub plus_part : ℤ → ℤ
plus_part z = z +ℤ minus_part z

-- by column: the average wins, then the plus parts of the average payments, then their minus parts
abbrev pub averages : GeneralSetting → (ℕ → List ℕ → ℤ) → (ℕ → List ℕ → ℤ) → ℕ → ℤ
averages s win pay column =
    if nat_lt column (pairs_of s) then mean s win column
    else (if nat_lt column (2 * pairs_of s) then plus_part (mean s pay (column - pairs_of s))
    else minus_part (mean s pay (column - 2 * pairs_of s)))

-- ---- the point of a mechanism

-- how often agent i has the item, and what it pays, at the report t: it has it at outcome i + 1
abbrev pub win_in : GeneralSetting → Mechanism → ℕ → List ℕ → ℤ
win_in s m i t = chance_of s m t (i + 1)

abbrev pub paid_in : GeneralSetting → Mechanism → ℕ → List ℕ → ℤ
paid_in s m i t = pay_of s m i t

abbrev pub point_of : GeneralSetting → Mechanism → ℕ → ℤ
point_of s m = averages s (win_in s m) (paid_in s m)
