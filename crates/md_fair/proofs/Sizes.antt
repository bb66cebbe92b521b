-- How large the average of an agent can become, and how many rows and columns the fair program has.
use Rattle.std.proofs.Common.{◌≡◌, ℕ, ◌+◌, ◌*◌, ◌^◌, ◌<◌, ◌≤◌, ℤ, ◌*ℤ◌, [], length, ap, ◌∙◌, arith, mul-le-mul, le_refl, refl, length-append}
use Rattle.std.proofs.lemmas.List.{length-map}
use Rattle.md_math.specs.Sizes.{IsWithin}
use Rattle.md_math.specs.Sums.{sum_to}
use Rattle.md_math.proofs.Builders.{length-list_to}
use Rattle.md_math.proofs.SizeLaws.{sum_to-within, IsWithin-*ℤ, IsWithin-wider}
use Rattle.md_space.specs.Profiles.{profile_count, profile_at}
use Rattle.md_space.proofs.Ranks.{profile_at-IsProfile}
use Rattle.md_space.proofs.InOrder.{total_by-profiles}
use Rattle.md_setting.specs.Setting.{GeneralSetting}
use Rattle.md_setting.specs.Meaning.{agent_count, sizes_of, weight_of}
use Rattle.md_setting.specs.Rows.{column_count, row_count as setting_rows}
use Rattle.md_setting.specs.Shaped.{IsShaped}
use Rattle.md_mech.specs.Accepted.{IsAccepted}
use Rattle.md_mech.specs.declared.mechanism.Mechanism.{Mechanism}
use Rattle.md_mech.specs.Rows.{conditions_of}
use Rattle.md_mech.specs.Utility.{expected_utility}
use Rattle.md_mech.proofs.AverageLaws.{utility-within}
use Rattle.md_mech.proofs.CountLaws.{conditions-length}
use Rattle.md_lp.specs.Program.{Program, row_count}
use Rattle.md_forms.specs.Built.{HasRoom as HasRoomFor, Extends}
use Rattle.md_forms.proofs.BuiltLaws.{grown, rows-count}
use Rattle.md_rows.specs.Built.{HasRoom}
use Rattle.md_rows.specs.ProgramOf.{form_of, forms_of}
use Rattle.md_fair.specs.FairProgram.{agent_form, agent_forms, fair_forms, level_in, IsFairProgram}
use Rattle.md_fair.specs.Mean.{mean_of}

-- what agent i gets at the profile of a rank, by weight
abbrev pub mean_term : GeneralSetting → Mechanism → ℕ → ℕ → ℤ
mean_term s m i r = weight_of s (profile_at (sizes_of s) r) *ℤ expected_utility s m i (profile_at (sizes_of s) r) (profile_at (sizes_of s) r)

pub mean-by_rank : (s : GeneralSetting) (m : Mechanism) (i : ℕ) → mean_of s m i ≡ sum_to (profile_count (sizes_of s)) (mean_term s m i)
mean-by_rank s m i = total_by-profiles (sizes_of s) (λ t. weight_of s t *ℤ expected_utility s m i t t)

-- what the first profiles add to it
pub mean-within : (s : GeneralSetting) (m : Mechanism) (i k : ℕ) → IsAccepted s m → IsShaped s → k ≤ profile_count (sizes_of s) → IsWithin (2 ^ 120) (sum_to k (mean_term s m i))
mean-within s m i k accepted shaped fits =
    let few : k ≤ 1024 = omega (arith, fits, shaped.listed.space.few_profiles) in
    IsWithin-wider (k * (1000000 * 2 ^ 90)) (2 ^ 120) (sum_to k (mean_term s m i)) (omega (arith, mul-le-mul few (le_refl (1000000 * 2 ^ 90))))
    (sum_to-within k (1000000 * 2 ^ 90) (mean_term s m i)
    (λ r l. IsWithin-*ℤ 1000000 (2 ^ 90) (weight_of s (profile_at (sizes_of s) r)) (expected_utility s m i (profile_at (sizes_of s) r) (profile_at (sizes_of s) r))
    (shaped.weight (profile_at (sizes_of s) r) (profile_at-IsProfile (sizes_of s) r (omega (arith, l, fits)))).within
    (utility-within s m i (profile_at (sizes_of s) r) (profile_at (sizes_of s) r) accepted shaped)))

-- ---- rows and columns

pub agents-few : (s : GeneralSetting) → IsShaped s → agent_count s ≤ 6
agents-few s shaped = omega (arith, shaped.listed.space.few_agents, length-map s.agents (λ a. length a.types))

pub some-agent : (s : GeneralSetting) → IsShaped s → 0 < agent_count s
some-agent s shaped = omega (arith, shaped.listed.space.some_agent, length-map s.agents (λ a. length a.types))

forms-length : (s : GeneralSetting) → length (forms_of s (conditions_of s)) ≡ setting_rows s
forms-length s = length-map (conditions_of s) (form_of s) ∙ conditions-length s

-- a program with two columns more and no row has room for the setting's conditions
pub own-room : (s : GeneralSetting) (p : Program) → IsShaped s → p.columns ≡ column_count s + 2 → p.rows ≡ [] → HasRoom s (conditions_of s) p
own-room s p shaped columns none = record {
  columns = omega (arith, columns);
  room = record { room = omega (arith, ap length none, forms-length s, shaped.few_rows) };
}

-- and then for the agents
pub agents-room : (s : GeneralSetting) (old mid : Program) → IsShaped s → old.rows ≡ [] → Extends (forms_of s (conditions_of s)) old mid → HasRoomFor (agent_forms s) mid
agents-room s old mid shaped none p = record {
  room = omega (
    arith,
    ap length none,
    grown (forms_of s (conditions_of s)) old mid p,
    forms-length s,
    shaped.few_rows,
    agents-few s shaped,
    length-list_to (agent_count s) (agent_form s),
  );
}

pub forms-count : (s : GeneralSetting) → length (fair_forms s) ≡ setting_rows s + agent_count s
forms-count s = length-append (forms_of s (conditions_of s)) (agent_forms s) ∙ rw (forms-length s, length-list_to (agent_count s) (agent_form s)) refl

pub fair-count : (s : GeneralSetting) (p : Program) → IsFairProgram s p → row_count p ≡ setting_rows s + agent_count s
fair-count s p is = rows-count (column_count s + 2) (fair_forms s) (level_in s) p is ∙ forms-count s
