-- Tests over what is written are tests over what it says.
use Rattle.std.proofs.Common.{◌≡◌, ℕ, ℤ, Bool, List, [], ◌∷◌, map, length, Vec, String, string_bytes, vec_len, ◌==◌, ◌&&◌, refl, ap, ◌∙◌, arith, is_some, if◌then◌else◌, Option, None, Some}
use Rattle.std.specs.Option.{option_map}
use Rattle.std.specs.declared.alloc.Global.{Global}
use Rattle.std.specs.List.{list_all}
use Rattle.std.proofs.lemmas.List.Folds.{list_all-map}
use Rattle.std.proofs.lemmas.List.{length-map}
use Rattle.std.proofs.lemmas.Simd.{map-map}
use Rattle.md_space.specs.Profiles.{profile_count}
use Rattle.md_setting.specs.declared.raw.RawAgent.{RawAgent}
use Rattle.md_setting.specs.declared.raw.RawSetting.{RawSetting}
use Rattle.md_setting.specs.Setting.{Agent, names_of, lists_of, written_agent, written}
use Rattle.md_setting.specs.Meaning.{sizes_of}
use Rattle.md_setting.specs.Refusals.{is_name, has_good_names, has_named_types, has_own_names, are_apart, has_good_shape, has_agent_shape, has_rows, has_at_shape, has_prior_shape}

pub all_names : (texts : List (String Global)) → list_all is_name (names_of texts) ≡ list_all (λ text. is_name (string_bytes text)) texts
all_names texts = list_all-map is_name string_bytes texts

pub same_len : (row : Vec ℤ Global) → vec_len row ≡ length row.items
same_len row = omega arith

both : (a b x y : Bool) → a ≡ b → x ≡ y → (a && x) ≡ (b && y)
both a b x y e f = cc

pub all_long : (rows : List (Vec ℤ Global)) (columns : ℕ) →
    list_all (λ row. length row == columns) (lists_of rows) ≡ list_all (λ row. vec_len row == columns) rows
all_long [] columns = refl
all_long (row ∷ rows) columns =
    both (length row.items == columns) (vec_len row == columns) _ _ (ap (λ n. n == columns) (rw (same_len row) refl)) (all_long rows columns)

pub all_agents : (p : Agent → Bool) (agents : List RawAgent) → list_all p (map written_agent agents) ≡ list_all (λ agent. p (written_agent agent)) agents
all_agents p agents = list_all-map p written_agent agents

pub good_names : (raw : RawSetting) →
    has_good_names (written raw)
    ≡ (list_all (λ agent. has_named_types (written_agent agent)) raw.agents.items && list_all (λ text. is_name (string_bytes text)) raw.outcomes.items)
unfolding has_good_names
good_names raw = both _ _ _ _ (all_agents has_named_types raw.agents.items) (all_names raw.outcomes.items)

pub own_names : (raw : RawSetting) →
    has_own_names (written raw)
    ≡ (are_apart (map (λ agent. (written_agent agent).name) raw.agents.items) && are_apart (names_of raw.outcomes.items) && list_all (λ agent. are_apart (written_agent agent).types) raw.agents.items)
unfolding has_own_names
own_names raw =
    both _ _ _ _
    (ap (λ names. are_apart names && are_apart (names_of raw.outcomes.items)) (map-map (λ (agent : Agent). agent.name) written_agent raw.agents.items))
    (all_agents (λ agent. are_apart agent.types) raw.agents.items)

is_some-items : (prior : Option (Vec ℤ Global)) → is_some (option_map (λ weights. weights.items) prior) ≡ is_some prior
is_some-items None = refl
is_some-items (Some weights) = refl

pub good_shape : (raw : RawSetting) →
    has_good_shape (written raw)
    ≡ (list_all (λ agent. has_agent_shape (is_some raw.prior) (profile_count (sizes_of (written raw))) (vec_len raw.outcomes) (written_agent agent)) raw.agents.items
    && has_prior_shape (option_map (λ weights. weights.items) raw.prior) (profile_count (sizes_of (written raw)))
    && (vec_len raw.values == vec_len raw.outcomes))
unfolding has_good_shape
good_shape raw =
    let outcomes : length (names_of raw.outcomes.items) ≡ vec_len raw.outcomes = length-map raw.outcomes.items string_bytes ∙ omega arith in
    let values : length raw.values.items ≡ vec_len raw.values = omega arith in
    rw (
      all_agents (has_agent_shape (is_some (option_map (λ weights. weights.items) raw.prior)) (profile_count (sizes_of (written raw))) (length (names_of raw.outcomes.items))) raw.agents.items,
      is_some-items raw.prior,
      outcomes,
      values,
    ) refl

pub all_rows : (rows : List (Vec ℤ Global)) (count columns : ℕ) →
    has_rows count columns (lists_of rows) ≡ ((length rows == count) && list_all (λ row. vec_len row == columns) rows)
all_rows rows count columns =
    both _ _ _ _ (ap (λ n. n == count) (length-map rows (λ (row : Vec ℤ Global). row.items))) (all_long rows columns)

has_at : (at : Option (Vec (Vec ℤ Global) Global)) → is_some (option_map (λ rows. lists_of rows.items) at) ≡ is_some at
has_at None = refl
has_at (Some rows) = refl

pub agent_shape : (agent : RawAgent) (has_prior : Bool) (profiles outcomes : ℕ) →
    has_agent_shape has_prior profiles outcomes (written_agent agent)
    ≡ ((vec_len agent.weights == (if has_prior then 0 else vec_len agent.types))
    && (vec_len agent.outside == vec_len agent.types)
    && ((length agent.utility.items == (if is_some agent.at then 0 else vec_len agent.types)) && list_all (λ row. vec_len row == outcomes) agent.utility.items)
    && has_at_shape profiles outcomes (option_map (λ rows. lists_of rows.items) agent.at))
unfolding has_agent_shape
agent_shape agent has_prior profiles outcomes =
    let types : length (names_of agent.types.items) ≡ vec_len agent.types = length-map agent.types.items string_bytes ∙ omega arith in
    rw (types, has_at agent.at, same_len agent.weights, same_len agent.outside, all_rows agent.utility.items (if is_some agent.at then 0 else vec_len agent.types) outcomes) refl
