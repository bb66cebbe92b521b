-- What conditions measure of a mechanism is what its point says.
use Rattle.std.proofs.Common.{◌≡◌, ℕ, ◌<◌, ℤ, pos, ◌*ℤ◌, List, [], ◌∷◌, get_or, All, refl, sym, ap, ◌∙◌, inl, inr}
use Rattle.std.specs.Prelude.{slice_index, ◌==◌}
use lib.IntN.{*ℤ_comm}
use Rattle.std.proofs.lemmas.Bool.{cases_Bool}
use Rattle.std.proofs.lemmas.List.Elements.{All-nil}
use Rattle.md_math.specs.Sums.{sum_to}
use Rattle.md_math.proofs.SumLaws.{sum_to-same}
use Rattle.md_math.proofs.TotalLaws.{total_by-same}
use Rattle.md_space.specs.Profiles.{IsProfile}
use Rattle.md_space.specs.AllProfiles.{profiles_of}
use Rattle.md_space.proofs.InOrder.{All-profiles_of}
use Rattle.md_space.proofs.Ranks.{profile_at-IsProfile}
use Rattle.md_setting.specs.Setting.{GeneralSetting}
use Rattle.md_setting.specs.Meaning.{agent_count, outcome_count, sizes_of, utility_of, weight_of}
use Rattle.md_mech.specs.declared.mechanism.Mechanism.{Mechanism}
use Rattle.md_mech.specs.Mechanism.{chance_of, pay_of}
use Rattle.md_mech.specs.Utility.{expected_utility}
use Rattle.md_mech.proofs.RowLaws.{all-by_profile, all-one}
use Rattle.md_question.proofs.SameForms.{IsSameForm}
use Rattle.md_rows.specs.Columns.{chance_column, payment_in}
use Rattle.md_rows.specs.Points.{mechanism_of}
use Rattle.md_rows.specs.Sides.{utility_in}
use Rattle.md_rows.proofs.PointLaws.{Agrees, agrees-mechanism_of}
use Rattle.md_require.specs.declared.condition.Measured.{Measured}
use Rattle.md_require.specs.declared.condition.Measured.TheVariants as measured
use Rattle.md_require.specs.Amounts.{Amount, revenue, welfare, utility, chance, chance_at, payment_at, amount_of, amounts_of, payment_where, weighted}
use Rattle.md_require.specs.Places.{IsIn}
use Rattle.md_require.specs.declared.amount.Amount.{Amount as Code}
use Rattle.md_require.specs.declared.amount.Amount.TheVariants as code
use Rattle.md_require.specs.Named.{IsInside, named}
use Rattle.md_require.specs.RequireProgram.{amount_in}

-- ---- places

-- the agent, the profile and the outcome of an amount are there
abbrev pub IsPlaced : GeneralSetting → Amount → Type 0
IsPlaced s revenue = Unit {0}
IsPlaced s welfare = Unit {0}
IsPlaced s (utility i) = i < agent_count s
IsPlaced s (chance o) = o < outcome_count s
IsPlaced s (chance_at t o) = IsProfile (sizes_of s) t × (o < outcome_count s)
IsPlaced s (payment_at i t) = (i < agent_count s) × IsProfile (sizes_of s) t

payment-where_placed : (s : GeneralSetting) (i a : ℕ) (t : List ℕ) → i < agent_count s → IsProfile (sizes_of s) t → All (IsPlaced s) (payment_where i a t)
payment-where_placed s i a t agent p = elim (cases_Bool (slice_index t i == a)) [
  | inl here ↦ rw here (all-one (IsPlaced s) (payment_at i t) (agent, p))
  | inr away ↦ rw away (All-nil (IsPlaced s))
]

pub amounts-placed : (s : GeneralSetting) (m : Measured) → IsIn s m → All (IsPlaced s) (amounts_of s m)
amounts-placed s measured.Revenue h = all-one (IsPlaced s) revenue tt
amounts-placed s measured.Welfare h = all-one (IsPlaced s) welfare tt
amounts-placed s (measured.Utility agent) h = all-one (IsPlaced s) (utility agent) h
amounts-placed s (measured.Chance outcome) h = all-one (IsPlaced s) (chance outcome) h
amounts-placed s (measured.ChanceAt rank outcome) h = all-one (IsPlaced s) (chance_at _ outcome) (profile_at-IsProfile (sizes_of s) rank h.0, h.1)
amounts-placed s (measured.Payment agent) h = all-by_profile s (IsPlaced s) (λ t. payment_at agent t ∷ []) (λ t p. all-one (IsPlaced s) (payment_at agent t) (h, p))
amounts-placed s (measured.PaymentAs agent kind) h = all-by_profile s (IsPlaced s) (payment_where agent kind) (λ t p. payment-where_placed s agent kind t h.0 p)

pub inside-placed : (s : GeneralSetting) (amount : Code) → IsInside s amount → IsPlaced s (named s amount)
inside-placed s code.Revenue h = tt
inside-placed s code.Welfare h = tt
inside-placed s (code.Utility agent) h = h
inside-placed s (code.Chance outcome) h = h
inside-placed s (code.ChanceAt rank outcome) h = (profile_at-IsProfile (sizes_of s) rank h.0, h.1)
inside-placed s (code.PaymentAt rank agent) h = (h.1, profile_at-IsProfile (sizes_of s) rank h.0)

-- ---- amounts by numbers for the columns

weighted-same : (s : GeneralSetting) (f g : List ℕ → ℤ) → ((t : List ℕ) → IsProfile (sizes_of s) t → f t ≡ g t) → weighted s f ≡ weighted s g
weighted-same s f g same =
    total_by-same (λ t. weight_of s t *ℤ f t) (λ t. weight_of s t *ℤ g t) (profiles_of (sizes_of s))
    (λ k d l. ap (λ z. weight_of s (get_or (profiles_of (sizes_of s)) k d) *ℤ z) (same (get_or (profiles_of (sizes_of s)) k d) (All-profiles_of (sizes_of s) k d l)))

module _ (s : GeneralSetting) (x : ℕ → ℤ) (m : Mechanism) (a : Agrees s x m) where
  -- what an agent has of the lottery of a profile
  lottery-agrees : (i : ℕ) (t : List ℕ) → IsProfile (sizes_of s) t
      → sum_to (outcome_count s) (λ o. utility_of s i t o *ℤ x (chance_column s t o)) ≡ sum_to (outcome_count s) (λ o. chance_of s m t o *ℤ utility_of s i t o)
  lottery-agrees i t p =
      sum_to-same (outcome_count s) (λ o. utility_of s i t o *ℤ x (chance_column s t o)) (λ o. chance_of s m t o *ℤ utility_of s i t o)
      (λ o l. *ℤ_comm (utility_of s i t o) (x (chance_column s t o)) ∙ ap (λ z. z *ℤ utility_of s i t o) (a.chance t o p l))

  utility-agrees : (i : ℕ) (t : List ℕ) → i < agent_count s → IsProfile (sizes_of s) t → utility_in s x i t t ≡ expected_utility s m i t t
  utility-agrees i t agent p = rw (lottery-agrees i t p, a.pay i t agent p) refl

  pub amount-agrees : (amount : Amount) → IsPlaced s amount → amount_in s x amount ≡ amount_of s m amount
  amount-agrees revenue h =
      weighted-same s (λ t. sum_to (agent_count s) (λ i. payment_in s x i t)) (λ t. sum_to (agent_count s) (λ i. pay_of s m i t))
      (λ t p. sum_to-same (agent_count s) (λ i. payment_in s x i t) (λ i. pay_of s m i t) (λ i l. a.pay i t l p))
  amount-agrees welfare h =
      weighted-same s (λ t. sum_to (agent_count s) (λ i. sum_to (outcome_count s) (λ o. utility_of s i t o *ℤ x (chance_column s t o))))
      (λ t. sum_to (agent_count s) (λ i. sum_to (outcome_count s) (λ o. chance_of s m t o *ℤ utility_of s i t o)))
      (λ t p. sum_to-same (agent_count s) (λ i. sum_to (outcome_count s) (λ o. utility_of s i t o *ℤ x (chance_column s t o)))
      (λ i. sum_to (outcome_count s) (λ o. chance_of s m t o *ℤ utility_of s i t o)) (λ i l. lottery-agrees i t p))
  amount-agrees (utility i) h = weighted-same s (λ t. utility_in s x i t t) (λ t. expected_utility s m i t t) (λ t p. utility-agrees i t h p)
  amount-agrees (chance o) h = weighted-same s (λ t. x (chance_column s t o)) (λ t. chance_of s m t o) (λ t p. a.chance t o p h)
  amount-agrees (chance_at t o) h = a.chance t o h.0 h.1
  amount-agrees (payment_at i t) h = a.pay i t h.0 h.1

-- they depend on the chances and the payments alone, however each payment is split
pub amount-same : (s : GeneralSetting) (x y : ℕ → ℤ) (amount : Amount) → IsSameForm s x y → IsPlaced s amount → amount_in s x amount ≡ amount_in s y amount
amount-same s x y amount same placed =
    amount-agrees s x (mechanism_of s (pos 1) y) there amount placed ∙ sym (amount-agrees s y (mechanism_of s (pos 1) y) here amount placed)
  where
    here : Agrees s y (mechanism_of s (pos 1) y)
    here = agrees-mechanism_of s (pos 1) y

    there : Agrees s x (mechanism_of s (pos 1) y)
    there = record {
      chance = λ t o p l. same.chance t o p l ∙ here.chance t o p l;
      pay = λ i t l p. same.pay i t l p ∙ here.pay i t l p;
    }
