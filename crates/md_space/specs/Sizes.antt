-- Which lists of numbers of types make a space, and why another is refused.
use Rattle.std.specs.Prelude.{ℕ, ◌<◌, ◌≤◌, Bool, ◌||◌, List, length, Option, Some, None, All, if◌then◌else◌, nat_lt, ◌==◌}
use Rattle.std.specs.List.{list_any}
use Rattle.md_space.specs.Profiles.{profile_count}
use Rattle.md_space.specs.declared.refusal.SpaceRefusal.{SpaceRefusal}
use Rattle.md_space.specs.declared.refusal.SpaceRefusal.TheVariants.{Empty, TooManyTypes, TooManyProfiles}

-- there is no agent, or an agent has no type
abbrev pub is_empty : List ℕ → Bool
is_empty sizes = (length sizes == 0) || list_any (λ n. n == 0) sizes

-- there are more than 6 agents, or an agent has more than 16 types
abbrev pub has_many_types : List ℕ → Bool
has_many_types sizes = nat_lt 6 (length sizes) || list_any (λ n. nat_lt 16 n) sizes

-- there are more than 1,024 profiles
abbrev pub has_many_profiles : List ℕ → Bool
has_many_profiles sizes = nat_lt 1024 (profile_count sizes)

-- the first reason to refuse the sizes
abbrev pub refusal_of : List ℕ → Option SpaceRefusal
refusal_of sizes =
    if is_empty sizes then Some Empty
    else (if has_many_types sizes then Some TooManyTypes
    else (if has_many_profiles sizes then Some TooManyProfiles else None))

-- the sizes of a space: 1 to 6 agents with 1 to 16 types, and at most 1,024 profiles
pub record IsSpace (sizes : List ℕ) : Type 0 where
  pub some_agent : 0 < length sizes
  pub few_agents : length sizes ≤ 6
  pub some_type : All (λ n. 0 < n) sizes
  pub few_types : All (λ n. n ≤ 16) sizes
  pub few_profiles : profile_count sizes ≤ 1024
