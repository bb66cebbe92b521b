-- What is kept of a setting as written, read as what the setting says.
use Rattle.std.proofs.Common.{◌≡◌, ℕ, ◌<◌, ◌≤◌, ℤ, pos, List, [], map, length, get_or, None, Some, ap, sym, ◌∙◌, subst, arith, slice_index}
use Rattle.std.proofs.lemmas.List.{length-map, get_or-map}
use Rattle.md_math.specs.Lists.{number_at, list_to}
use Rattle.md_math.specs.Sizes.{IsWithin}
use Rattle.md_math.proofs.Builders.{length-list_to, get_or-list_to}
use Rattle.md_space.specs.Profiles.{profile_count, profile_at}
use Rattle.md_space.proofs.Ranks.{profile_at-IsProfile}
use Rattle.md_setting.specs.Setting.{Agent, GeneralSetting}
use Rattle.md_setting.specs.Meaning.{agent_at, agent_count, outcome_count, nobody, sizes_of, weight_of, value_of}
use Rattle.md_setting.specs.Names.{agent_names, type_names, place_of}
use Rattle.md_setting.specs.Shaped.{IsShaped}
use Rattle.md_setting.proofs.NumberLaws.{IsNamed, named_at}

-- the weight that is kept at a rank
pub record IsKeptWeight (s : GeneralSetting) (weights : List ℤ) (r : ℕ) : Type 0 where
  pub inside : r < length weights
  pub value : number_at weights r ≡ weight_of s (profile_at (sizes_of s) r)
  pub size : IsWithin 1000000 (number_at weights r)
  pub small : IsWithin 1000000 (weight_of s (profile_at (sizes_of s) r))

kept_weight_of : (s : GeneralSetting) (weights : List ℤ) (r : ℕ) → IsShaped s → weights ≡ list_to (profile_count (sizes_of s)) (λ r. weight_of s (profile_at (sizes_of s) r)) →
    r < profile_count (sizes_of s) → IsKeptWeight s weights r
kept_weight_of s weights r shaped e h =
    let value : number_at weights r ≡ weight_of s (profile_at (sizes_of s) r) =
    ap (λ l. number_at l r) e ∙ get_or-list_to (profile_count (sizes_of s)) (λ r. weight_of s (profile_at (sizes_of s) r)) r (pos 0) h in
    let small : IsWithin 1000000 (weight_of s (profile_at (sizes_of s) r)) = (shaped.weight (profile_at (sizes_of s) r) (profile_at-IsProfile (sizes_of s) r h)).within in
    record {
      inside = omega (arith, ap length e, length-list_to (profile_count (sizes_of s)) (λ r. weight_of s (profile_at (sizes_of s) r)));
      value = value;
      size = subst (IsWithin 1000000) (sym value) small;
      small = small;
    }

pub kept_weight : (s v : GeneralSetting) (weights : List ℤ) (r : ℕ) → s ≡ v → IsShaped s → weights ≡ list_to (profile_count (sizes_of s)) (λ r. weight_of s (profile_at (sizes_of s) r)) →
    r < profile_count (sizes_of v) → IsKeptWeight v weights r
kept_weight s v weights r same shaped e h =
    kept_weight_of v weights r (subst IsShaped same shaped) (subst (λ u. weights ≡ list_to (profile_count (sizes_of u)) (λ r. weight_of u (profile_at (sizes_of u) r))) same e) h

-- a value within the limits, at a rank
pub small_value : (s v : GeneralSetting) (r o : ℕ) → s ≡ v → IsShaped s → r < profile_count (sizes_of v) → o < outcome_count v → IsWithin 10000000 (value_of v (profile_at (sizes_of v) r) o)
small_value s v r o same shaped h k = (subst IsShaped same shaped).value (profile_at (sizes_of v) r) o (profile_at-IsProfile (sizes_of v) r h) k

-- ---- names

-- the place of an agent's name
pub named_agent : (s v : GeneralSetting) (names : List (List ℕ)) (name : List ℕ) (k : ℕ) → s ≡ v → names ≡ agent_names s → place_of names name ≡ Some k → IsNamed (agent_names v) name k
named_agent s v names name k same e h = named_at (agent_names v) name k (ap (λ l. place_of l name) (sym (e ∙ ap agent_names same)) ∙ h)

pub found_agent : (s : GeneralSetting) (name : List ℕ) (k : ℕ) → IsNamed (agent_names s) name k → (k < agent_count s) × (name ≡ (agent_at s k).name)
found_agent s name k h =
    let inside : k < agent_count s = omega (arith, h.inside, length-map s.agents (λ (a : Agent). a.name)) in
    (inside, h.is ∙ get_or-map (λ (a : Agent). a.name) s.agents k nobody [] inside)

pub no_agent : (s v : GeneralSetting) (names : List (List ℕ)) (name : List ℕ) → s ≡ v → names ≡ agent_names s → place_of names name ≡ None → place_of (agent_names v) name ≡ None
no_agent s v names name same e h = ap (λ l. place_of l name) (sym (e ∙ ap agent_names same)) ∙ h

pub named_outcome : (s v : GeneralSetting) (names : List (List ℕ)) (name : List ℕ) (k : ℕ) → s ≡ v → names ≡ s.outcomes → place_of names name ≡ Some k → IsNamed v.outcomes name k
named_outcome s v names name k same e h = named_at v.outcomes name k (ap (λ l. place_of l name) (sym (e ∙ ap (λ u. u.outcomes) same)) ∙ h)

pub no_outcome : (s v : GeneralSetting) (names : List (List ℕ)) (name : List ℕ) → s ≡ v → names ≡ s.outcomes → place_of names name ≡ None → place_of v.outcomes name ≡ None
no_outcome s v names name same e h = ap (λ l. place_of l name) (sym (e ∙ ap (λ u. u.outcomes) same)) ∙ h

-- the names of an agent's types, among those of all agents
types_at : (s v : GeneralSetting) (types : List (List (List ℕ))) (i : ℕ) (d : List (List ℕ)) → s ≡ v → types ≡ map (λ agent. agent.types) s.agents → i < agent_count v → get_or types i d ≡ type_names v i
types_at s v types i d same e h =
    ap (λ l. get_or l i d) (e ∙ ap (λ u. map (λ agent. agent.types) u.agents) same) ∙ get_or-map (λ (a : Agent). a.types) v.agents i nobody d h

pub named_type : (s v : GeneralSetting) (types : List (List (List ℕ))) (i : ℕ) (names : List (List ℕ)) (name : List ℕ) (k : ℕ) → s ≡ v → types ≡ map (λ agent. agent.types) s.agents → i < agent_count v
    → names ≡ get_or types i names → place_of names name ≡ Some k → IsNamed (type_names v i) name k
named_type s v types i names name k same e h at found = named_at (type_names v i) name k (ap (λ l. place_of l name) (sym (at ∙ types_at s v types i names same e h)) ∙ found)

pub no_type : (s v : GeneralSetting) (types : List (List (List ℕ))) (i : ℕ) (names : List (List ℕ)) (name : List ℕ) → s ≡ v → types ≡ map (λ agent. agent.types) s.agents → i < agent_count v
    → names ≡ get_or types i names → place_of names name ≡ None → place_of (type_names v i) name ≡ None
no_type s v types i names name same e h at found = ap (λ l. place_of l name) (sym (at ∙ types_at s v types i names same e h)) ∙ found

pub found_type : (s : GeneralSetting) (i : ℕ) (name : List ℕ) (k : ℕ) → i < agent_count s → IsNamed (type_names s i) name k → (k < slice_index (sizes_of s) i) × (name ≡ get_or (type_names s i) k [])
found_type s i name k h named =
    let size : slice_index (sizes_of s) i ≡ length (type_names s i) = get_or-map (λ (a : Agent). length a.types) s.agents i nobody 0 h in
    (omega (arith, size, named.inside), named.is)

-- an agent has few types
pub few_types : (s v : GeneralSetting) (i k : ℕ) → s ≡ v → IsShaped s → i < agent_count v → k < slice_index (sizes_of v) i → k < 16
few_types s v i k same shaped h l =
    let agents : length (sizes_of v) ≡ agent_count v = length-map v.agents (λ (a : Agent). length a.types) in
    let few : slice_index (sizes_of v) i ≤ 16 = (subst IsShaped same shaped).listed.space.few_types i 0 (omega (arith, agents, h)) in
    omega (arith, few, l)
