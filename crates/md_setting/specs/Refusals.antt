-- Why a setting as written is refused.
use Rattle.std.specs.Prelude.{ℕ, zero, suc, ℤ, pos, negsuc, unsigned_abs, Bool, true, false, not, ◌&&◌, ◌||◌, List, [], ◌∷◌, map, length, Option, None, Some, is_some, if◌then◌else◌, ◌==◌, nat_le, slice_index}
use Rattle.std.specs.List.{list_all, list_any}
use Rattle.std.specs.Str.{bytes_eq}
use Rattle.md_space.specs.Profiles.{profile_count}
use Rattle.md_space.specs.AllProfiles.{profiles_of}
use Rattle.md_space.specs.Sizes.{refusal_of as space_refusal_of}
use Rattle.md_setting.specs.declared.refusal.BuildRefusal.{BuildRefusal}
use Rattle.md_setting.specs.declared.refusal.BuildRefusal.TheVariants.{BadName, DoubleName, Sizes, Shape, OutOfRange, ZeroWeight, WeightTotal, TooManyRows}
use Rattle.md_setting.specs.Setting.{Agent, GeneralSetting}
use Rattle.md_setting.specs.Meaning.{sizes_of, agent_count, outcome_count, marginal_of, total_of, value_of}
use Rattle.md_setting.specs.Rows.{row_count, cell_count}

-- p holds at each place below n
abbrev pub all_below : ℕ → (ℕ → Bool) → Bool
all_below zero p = true
all_below (suc n) p = all_below n p && p n

-- a letter, a digit or an underscore of ASCII
abbrev pub is_name_byte : ℕ → Bool
is_name_byte b =
    (nat_le 48 b && nat_le b 57) || (nat_le 65 b && nat_le b 90) || (nat_le 97 b && nat_le b 122) || (b == 95)

-- 1 to 32 of these
abbrev pub is_name : List ℕ → Bool
is_name text = nat_le 1 (length text) && nat_le (length text) 32 && list_all is_name_byte text

abbrev pub has_named_types : Agent → Bool
has_named_types agent = is_name agent.name && list_all is_name agent.types

unfoldable pub has_good_names : GeneralSetting → Bool
has_good_names s = list_all has_named_types s.agents && list_all is_name s.outcomes

-- no text stands twice
abbrev pub are_apart : List (List ℕ) → Bool
are_apart [] = true
are_apart (text ∷ others) = not (list_any (bytes_eq text) others) && are_apart others

unfoldable pub has_own_names : GeneralSetting → Bool
has_own_names s =
    are_apart (map (λ agent. agent.name) s.agents) && are_apart s.outcomes && list_all (λ agent. are_apart agent.types) s.agents

-- 1 to 6 agents of 1 to 16 types, 1 to 16 outcomes, and at most 1,024 profiles
unfoldable pub has_good_sizes : GeneralSetting → Bool
has_good_sizes s = not (is_some (space_refusal_of (sizes_of s))) && nat_le 1 (outcome_count s) && nat_le (outcome_count s) 16

-- there are so many lists, each with a number for each outcome
abbrev pub has_rows : ℕ → ℕ → List (List ℤ) → Bool
has_rows count outcomes rows = (length rows == count) && list_all (λ row. length row == outcomes) rows

-- utilities that depend on all types run over the profiles and the outcomes
abbrev pub has_at_shape : ℕ → ℕ → Option (List (List ℤ)) → Bool
has_at_shape profiles outcomes None = true
has_at_shape profiles outcomes (Some at) = has_rows profiles outcomes at

-- an agent's lists run over its types, and its utilities over the outcomes too; beside a joint prior it has no weights, and
-- beside utilities that depend on all types none by its own
unfoldable pub has_agent_shape : Bool → ℕ → ℕ → Agent → Bool
has_agent_shape has_prior profiles outcomes agent =
    (length agent.weights == (if has_prior then 0 else length agent.types))
    && (length agent.outside == length agent.types)
    && has_rows (if is_some agent.at then 0 else length agent.types) outcomes agent.utility
    && has_at_shape profiles outcomes agent.at

-- a prior runs over the profiles
abbrev pub has_prior_shape : Option (List ℤ) → ℕ → Bool
has_prior_shape None profiles = true
has_prior_shape (Some prior) profiles = length prior == profiles

unfoldable pub has_good_shape : GeneralSetting → Bool
has_good_shape s =
    list_all (has_agent_shape (is_some s.prior) (profile_count (sizes_of s)) (outcome_count s)) s.agents
    && has_prior_shape s.prior (profile_count (sizes_of s))
    && (length s.values == outcome_count s)

-- a number is at most the limit in size
abbrev pub is_small : ℕ → ℤ → Bool
is_small limit z = nat_le (unsigned_abs z) limit

-- a weight is 0 to 1,000,000
abbrev pub is_weight : ℤ → Bool
is_weight (pos n) = nat_le n 1000000
is_weight (negsuc n) = false

-- each utility is at most 1,000,000 in size
abbrev pub has_small_rows : List (List ℤ) → Bool
has_small_rows rows = list_all (list_all (is_small 1000000)) rows

abbrev pub has_small_at : Option (List (List ℤ)) → Bool
has_small_at None = true
has_small_at (Some at) = has_small_rows at

unfoldable pub has_small_numbers : Agent → Bool
has_small_numbers agent =
    list_all is_weight agent.weights
    && list_all (is_small 1000000) agent.outside
    && has_small_rows agent.utility
    && has_small_at agent.at

abbrev pub has_small_prior : Option (List ℤ) → Bool
has_small_prior None = true
has_small_prior (Some prior) = list_all is_weight prior

-- what each outcome is worth to the designer is at most 10,000,000 in size at each profile
unfoldable pub has_small_values : GeneralSetting → Bool
has_small_values s =
    list_all (λ t. all_below (outcome_count s) (λ o. is_small 10000000 (value_of s t o))) (profiles_of (sizes_of s))

-- each number that is written is within its limit
unfoldable pub has_small_lists : GeneralSetting → Bool
has_small_lists s =
    list_all has_small_numbers s.agents
    && has_small_prior s.prior
    && list_all (is_small 1000000) s.values
    && is_small 1000 s.welfare
    && is_small 1000 s.revenue

abbrev pub is_in_range : GeneralSetting → Bool
is_in_range s = has_small_lists s && has_small_values s

-- each type of each agent has a weight in all
unfoldable pub has_all_weights : GeneralSetting → Bool
has_all_weights s =
    all_below (agent_count s) (λ i. all_below (slice_index (sizes_of s) i) (λ a. not (unsigned_abs (marginal_of s i a) == 0)))

unfoldable pub has_small_total : GeneralSetting → Bool
has_small_total s = is_small 1000000 (total_of s)

unfoldable pub has_few_rows : GeneralSetting → Bool
has_few_rows s = nat_le (row_count s) 4096 && nat_le (cell_count s) 4000000

-- the first reason to refuse a setting
abbrev pub refusal_of : GeneralSetting → Option BuildRefusal
refusal_of s =
    if not (has_good_names s) then Some BadName
    else (if not (has_own_names s) then Some DoubleName
    else (if not (has_good_sizes s) then Some Sizes
    else (if not (has_good_shape s) then Some Shape
    else (if not (is_in_range s) then Some OutOfRange
    else (if not (has_all_weights s) then Some ZeroWeight
    else (if not (has_small_total s) then Some WeightTotal
    else (if not (has_few_rows s) then Some TooManyRows else None)))))))
