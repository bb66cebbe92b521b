-- The tests of a setting's sizes.
use Rattle.std.proofs.Common.{◌≡◌, ℕ, Bool, true, false, not, ◌&&◌, ◌||◌, List, [], ◌∷◌, map, length, vec_len, refl, ◌∙◌, arith, is_some, None, Some, if◌then◌else◌, nat_lt, nat_le, string_bytes}
use Rattle.std.specs.List.{list_all, list_any}
use Rattle.std.proofs.lemmas.Bool.Decides.{nat_tests}
use Rattle.std.proofs.lemmas.List.{length-map}
use Rattle.std.proofs.lemmas.Simd.{map-map}
use Rattle.md_space.specs.Sizes.{refusal_of, is_empty, has_many_profiles}
use Rattle.md_space.specs.declared.refusal.SpaceRefusal.{SpaceRefusal}
use Rattle.md_space.specs.declared.refusal.SpaceRefusal.TheVariants.{Empty, TooManyTypes, TooManyProfiles}
use Rattle.md_setting.specs.declared.raw.RawAgent.{RawAgent}
use Rattle.md_setting.specs.declared.raw.RawSetting.{RawSetting}
use Rattle.md_setting.specs.Setting.{Agent, written, written_agent, names_of}
use Rattle.md_setting.specs.Meaning.{sizes_of}
use Rattle.md_setting.specs.Refusals.{has_good_sizes}

written_sizes : (agents : List RawAgent) → map (λ agent. length (written_agent agent).types) agents ≡ map (λ agent. vec_len agent.types) agents
written_sizes [] = refl
written_sizes (agent ∷ agents) =
    let here : length (names_of agent.types.items) ≡ vec_len agent.types = length-map agent.types.items string_bytes ∙ omega arith in
    rw (here, written_sizes agents) refl

pub sizes_written : (raw : RawSetting) → sizes_of (written raw) ≡ map (λ agent. vec_len agent.types) raw.agents.items
sizes_written raw = map-map (λ (a : Agent). length a.types) written_agent raw.agents.items ∙ written_sizes raw.agents.items

pub good_sizes : (raw : RawSetting) →
    has_good_sizes (written raw)
    ≡ (not (is_some (refusal_of (sizes_of (written raw)))) && nat_le 1 (vec_len raw.outcomes) && nat_le (vec_len raw.outcomes) 16)
unfolding has_good_sizes
good_sizes raw =
    let outcomes : length (names_of raw.outcomes.items) ≡ vec_len raw.outcomes = length-map raw.outcomes.items string_bytes ∙ omega arith in
    rw outcomes refl

many : (agents : List RawAgent) → list_all (λ agent. nat_le (vec_len agent.types) 16) agents ≡ false →
    list_any (λ n. nat_lt 16 n) (map (λ agent. vec_len agent.types) agents) ≡ true
many [] h = cc
many (agent ∷ agents) h = step (vec_len agent.types) _ _ h (many agents)
  where
    step : (n : ℕ) (a b : Bool) → (nat_le n 16 && a) ≡ false → (a ≡ false → b ≡ true) → (nat_lt 16 n || b) ≡ true
    step n a b h f = grind (arith, nat_tests)

refused_types : (sizes : List ℕ) → list_any (λ n. nat_lt 16 n) sizes ≡ true → is_some (refusal_of sizes) ≡ true
refused_types sizes h = choose Empty TooManyTypes TooManyProfiles (is_empty sizes) (nat_lt 6 (length sizes)) (list_any (λ n. nat_lt 16 n) sizes) (has_many_profiles sizes) h
  where
    choose : (x y z : SpaceRefusal) (a b c d : Bool) → c ≡ true → is_some (if a then Some x else (if (b || c) then Some y else (if d then Some z else None))) ≡ true
    choose x y z true b c d h = refl
    choose x y z false true c d h = refl
    choose x y z false false true d h = refl
    choose x y z false false false d h = cc

pub many_types : (raw : RawSetting) → list_all (λ agent. nat_le (vec_len agent.types) 16) raw.agents.items ≡ false →
    is_some (refusal_of (sizes_of (written raw))) ≡ true
many_types raw h = rw (sizes_written raw) (refused_types (map (λ agent. vec_len agent.types) raw.agents.items) (many raw.agents.items h))

pub ruleset size_tests = (sizes_written, good_sizes, many_types)
