-- A mechanism that is given by functions of the reported profile has the chances and payments that they give.
use Rattle.std.proofs.Common.{◌≡◌, ℕ, ◌<◌, ℤ, pos, ◌≤ℤ◌, false, List, ap, ◌∙◌, subst, sym}
use Rattle.md_math.specs.Lists.{list_to}
use Rattle.md_math.specs.Sums.{sum_to}
use Rattle.md_math.proofs.Builders.{length-list_to, length-up_to, get_or-list_to, get_or-up_to}
use Rattle.md_math.proofs.SumLaws.{sum_to-same}
use Rattle.md_space.specs.Profiles.{IsProfile, profile_count, profile_at, rank_of}
use Rattle.md_space.proofs.Ranks.{rank_of-below, profile_at-rank_of}
use Rattle.md_setting.specs.Setting.{GeneralSetting}
use Rattle.md_setting.specs.Meaning.{agent_count, outcome_count, sizes_of}
use Rattle.md_mech.specs.Mechanism.{chance_of, pay_of, IsMechanism}
use Rattle.md_mech.specs.ByProfiles.{mechanism_by}

pub chance_of-mechanism_by : (s : GeneralSetting) (den : ℤ) (chance : List ℕ → ℕ → ℤ) (pay : ℕ → List ℕ → ℤ) (t : List ℕ) (o : ℕ) → IsProfile (sizes_of s) t → o < outcome_count s
    → chance_of s (mechanism_by s den chance pay) t o ≡ chance t o
chance_of-mechanism_by s den chance pay t o p h =
    let r = rank_of (sizes_of s) t in
    get_or-up_to (profile_count (sizes_of s)) (outcome_count s) r o (λ r. list_to (outcome_count s) (chance (profile_at (sizes_of s) r))) (pos 0)
    (λ k b. length-list_to (outcome_count s) (chance (profile_at (sizes_of s) k))) (rank_of-below (sizes_of s) t p) h
    ∙ get_or-list_to (outcome_count s) (chance (profile_at (sizes_of s) r)) o (pos 0) h
    ∙ ap (λ u. chance u o) (profile_at-rank_of (sizes_of s) t p)

pub pay_of-mechanism_by : (s : GeneralSetting) (den : ℤ) (chance : List ℕ → ℕ → ℤ) (pay : ℕ → List ℕ → ℤ) (t : List ℕ) (i : ℕ) → IsProfile (sizes_of s) t → i < agent_count s
    → pay_of s (mechanism_by s den chance pay) i t ≡ pay i t
pay_of-mechanism_by s den chance pay t i p h =
    let r = rank_of (sizes_of s) t in
    get_or-up_to (profile_count (sizes_of s)) (agent_count s) r i (λ r. list_to (agent_count s) (λ i. pay i (profile_at (sizes_of s) r))) (pos 0)
    (λ k b. length-list_to (agent_count s) (λ i. pay i (profile_at (sizes_of s) k))) (rank_of-below (sizes_of s) t p) h
    ∙ get_or-list_to (agent_count s) (λ i. pay i (profile_at (sizes_of s) r)) i (pos 0) h
    ∙ ap (pay i) (profile_at-rank_of (sizes_of s) t p)

-- what the functions must be for a mechanism
pub record AreLotteries (s : GeneralSetting) (den : ℤ) (chance : List ℕ → ℕ → ℤ) (pay : ℕ → List ℕ → ℤ) : Type 0 where
  pub positive : pos 1 ≤ℤ den
  pub not_negative : (t : List ℕ) (o : ℕ) → IsProfile (sizes_of s) t → o < outcome_count s → pos 0 ≤ℤ chance t o
  pub whole : (t : List ℕ) → IsProfile (sizes_of s) t → sum_to (outcome_count s) (chance t) ≡ den
  pub no_payment : s.payments ≡ false → (t : List ℕ) (i : ℕ) → IsProfile (sizes_of s) t → i < agent_count s → pay i t ≡ pos 0

pub IsMechanism-mechanism_by : (s : GeneralSetting) (den : ℤ) (chance : List ℕ → ℕ → ℤ) (pay : ℕ → List ℕ → ℤ) → AreLotteries s den chance pay → IsMechanism s (mechanism_by s den chance pay)
IsMechanism-mechanism_by s den chance pay h = record {
  den = h.positive;
  chance_count = length-up_to (profile_count (sizes_of s)) (outcome_count s) (λ r. list_to (outcome_count s) (chance (profile_at (sizes_of s) r))) (λ k b. length-list_to (outcome_count s) (chance (profile_at (sizes_of s) k)));
  pay_count = length-up_to (profile_count (sizes_of s)) (agent_count s) (λ r. list_to (agent_count s) (λ i. pay i (profile_at (sizes_of s) r))) (λ k b. length-list_to (agent_count s) (λ i. pay i (profile_at (sizes_of s) k)));
  not_negative = λ t o p l. subst (λ z. pos 0 ≤ℤ z) (sym (chance_of-mechanism_by s den chance pay t o p l)) (h.not_negative t o p l);
  whole = λ t p. sum_to-same (outcome_count s) (chance_of s (mechanism_by s den chance pay) t) (chance t) (λ o l. chance_of-mechanism_by s den chance pay t o p l) ∙ h.whole t p;
  no_payment = λ off t i p l. pay_of-mechanism_by s den chance pay t i p l ∙ h.no_payment off t i p l;
}
