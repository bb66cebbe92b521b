-- When a general setting is the sale of one item to agents whose types are independent, and who know what it is worth to
-- them. Outcome 0 keeps the item, and at outcome i + 1 it goes to agent i, counted from 0.
use Rattle.std.specs.Prelude.{◌≡◌, ◌≢◌, ℕ, ◌+◌, ◌-◌, ◌<◌, ◌≤◌, ℤ, pos, ◌*ℤ◌, ◌≤ℤ◌, true, false, List, slice_index}
use Rattle.md_space.specs.Profiles.{IsProfile}
use Rattle.md_setting.specs.declared.kinds.Truth.TheVariants.{Bayes}
use Rattle.md_setting.specs.declared.kinds.Rational.TheVariants.{Interim}
use Rattle.md_setting.specs.Setting.{GeneralSetting}
use Rattle.md_setting.specs.Meaning.{agent_count, outcome_count, sizes_of, utility_of, outside_of, weight_of, marginal_of, total_of}
use Rattle.md_asym_sale.specs.Products.{product_below}
use Rattle.md_asym_sale.specs.Values.{pairs_of}

-- at outcome i + 1 agent i has the item: it is worth no less than nothing to it, by its own type alone, and the outcome is
-- worth nothing to all others
pub record GoesTo (s : GeneralSetting) (i : ℕ) : Type 0 where
  pub nonneg : (t : List ℕ) → IsProfile (sizes_of s) t → pos 0 ≤ℤ utility_of s i t (i + 1)
  pub own : (t u : List ℕ) → IsProfile (sizes_of s) t → IsProfile (sizes_of s) u → slice_index t i ≡ slice_index u i
      → utility_of s i t (i + 1) ≡ utility_of s i u (i + 1)
  pub others : (j : ℕ) (t : List ℕ) → j < agent_count s → j ≢ i → IsProfile (sizes_of s) t → utility_of s j t (i + 1) ≡ pos 0

-- the agents' types are independent at a profile: its weight, over that of all profiles, is the product of how likely each
-- agent's type is
abbrev pub IsIndependentAt : GeneralSetting → List ℕ → Type 0
IsIndependentAt s t =
    weight_of s t *ℤ product_below (agent_count s - 1) (λ _. total_of s) ≡ product_below (agent_count s) (λ i. marginal_of s i (slice_index t i))

-- agents are truthful, and lose nothing by taking part, on average over the others' types
pub record IsInterim (s : GeneralSetting) : Type 0 where
  pub truth : s.truth ≡ Bayes
  pub rational : s.rational ≡ Interim

-- agents pay, and payments may add to less than nothing
pub record IsPaid (s : GeneralSetting) : Type 0 where
  pub payments : s.payments ≡ true
  pub no_deficit : s.no_deficit ≡ false

-- the nine conditions of a sale
pub record IsSale (s : GeneralSetting) : Type 0 where
  -- there is an outcome for each agent, and one more
  pub one_more : outcome_count s ≡ agent_count s + 1
  -- it is worth nothing to anyone that the item is kept
  pub kept : (i : ℕ) (t : List ℕ) → i < agent_count s → IsProfile (sizes_of s) t → utility_of s i t 0 ≡ pos 0
  -- each agent has an outcome at which it has the item
  pub sold : (i : ℕ) → i < agent_count s → GoesTo s i
  pub interim : IsInterim s
  -- no type has anything without taking part
  pub outside : (i a : ℕ) → i < agent_count s → a < slice_index (sizes_of s) i → outside_of s i a ≡ pos 0
  pub paid : IsPaid s
  -- the designer does not want payments to be small
  pub revenue : pos 0 ≤ℤ s.revenue
  -- all agents together have few types
  pub few_types : pairs_of s ≤ 12
  pub independent : (t : List ℕ) → IsProfile (sizes_of s) t → IsIndependentAt s t
