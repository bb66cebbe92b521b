-- What the agents of a sale have of a mechanism: what the item is worth to them as often as they have it, less what they pay.
use Rattle.std.proofs.Common.{◌≡◌, ◌≢◌, ℕ, zero, suc, ◌+◌, ◌<◌, ℤ, pos, ◌-ℤ◌, ◌*ℤ◌, ◌==◌, Bool, true, false, if◌then◌else◌, List, sym, ap, ◌∙◌, subst, arith}
use Rattle.std.specs.Prelude.{slice_index}
use lib.IntN.{*ℤ_comm}
use Rattle.md_math.proofs.Ring.{linear, ring, *ℤ-zero, zero-*ℤ}
use Rattle.md_math.proofs.SumLaws.{sum_to-single}
use Rattle.md_math.proofs.TotalLaws.{total_by-sub, total_by-*ℤ}
use Rattle.md_space.specs.AllProfiles.{profiles_of}
use Rattle.md_space.specs.ByType.{where_type}
use Rattle.md_space.specs.Profiles.{IsProfile}
use Rattle.md_space.proofs.TypeSums.{total-same, total_given-same}
use Rattle.md_setting.specs.Setting.{GeneralSetting}
use Rattle.md_setting.specs.Meaning.{agent_count, outcome_count, sizes_of, utility_of, weight_of, outside_of, marginal_of}
use Rattle.md_setting.specs.Shaped.{IsShaped}
use Rattle.md_mech.specs.declared.mechanism.Mechanism.{Mechanism}
use Rattle.md_mech.specs.Mechanism.{chance_of, pay_of}
use Rattle.md_mech.specs.Utility.{expected_utility, weighted_given}
use Rattle.md_asym_sale.specs.Sale.{IsSale}
use Rattle.md_asym_sale.specs.Values.{own_value}
use Rattle.md_asym_sale.proofs.SaleLaws.{value-own}
use Rattle.md_asym_laws.specs.Averages.{win_in, paid_in}

-- ---- one profile

-- an outcome at which an agent has not the item is worth nothing to it
worth-nothing : (s : GeneralSetting) (i : ℕ) (t : List ℕ) (o : ℕ) → IsSale s → i < agent_count s → IsProfile (sizes_of s) t → o < outcome_count s → o ≢ i + 1 → utility_of s i t o ≡ pos 0
worth-nothing s i t zero sale h p b d = sale.kept i t h p
worth-nothing s i t (suc k) sale h p b d =
    let next : suc k ≡ k + 1 = omega arith in
    subst (λ o. utility_of s i t o ≡ pos 0) (sym next)
    ((sale.sold k (omega (arith, b, sale.one_more))).others i t h (λ e. d (let same : suc k ≡ i + 1 = omega (arith, e) in same)) p)

-- what agent i with the type a has where it wins and pays so much
abbrev pub gain_at : GeneralSetting → (ℕ → List ℕ → ℤ) → (ℕ → List ℕ → ℤ) → ℕ → ℕ → List ℕ → ℤ
gain_at s win pay i a t = own_value s i a *ℤ win i t -ℤ pay i t

utility-at : (s : GeneralSetting) (m : Mechanism) (i : ℕ) (t r : List ℕ) → IsSale s → IsShaped s → i < agent_count s → IsProfile (sizes_of s) t
    → expected_utility s m i t r ≡ gain_at s (win_in s m) (paid_in s m) i (slice_index t i) r
utility-at s m i t r sale shaped h p =
    ap (λ z. z -ℤ pay_of s m i r)
    (sum_to-single (outcome_count s) (i + 1) (λ o. chance_of s m r o *ℤ utility_of s i t o) (omega (arith, h, sale.one_more))
    (λ o c d. ap (λ z. chance_of s m r o *ℤ z) (worth-nothing s i t o sale h p c d) ∙ *ℤ-zero (chance_of s m r o))
    ∙ ap (λ z. chance_of s m r (i + 1) *ℤ z) (value-own s i t sale shaped h p)
    ∙ *ℤ_comm (chance_of s m r (i + 1)) (own_value s i (slice_index t i)))

-- ---- all profiles

-- over the profiles in which an agent has a type, where it reports as r says
pub utility-given : (s : GeneralSetting) (m : Mechanism) (i a : ℕ) (r : List ℕ → List ℕ) → IsSale s → IsShaped s → i < agent_count s
    → weighted_given s i a (λ t. expected_utility s m i t (r t)) ≡ weighted_given s i a (λ t. gain_at s (win_in s m) (paid_in s m) i a (r t))
utility-given s m i a r sale shaped h =
    total_given-same (sizes_of s) i a (λ t. weight_of s t *ℤ expected_utility s m i t (r t)) (λ t. weight_of s t *ℤ gain_at s (win_in s m) (paid_in s m) i a (r t))
    (λ t p e. ap (λ z. weight_of s t *ℤ z) (utility-at s m i t (r t) sale shaped h p ∙ ap (λ k. gain_at s (win_in s m) (paid_in s m) i k (r t)) e))

-- by what it wins and pays over these
pub gain-given : (s : GeneralSetting) (win pay : ℕ → List ℕ → ℤ) (i a b : ℕ) → weighted_given s i b (gain_at s win pay i a) ≡ own_value s i a *ℤ weighted_given s i b (win i) -ℤ weighted_given s i b (pay i)
gain-given s win pay i a b =
    let v = own_value s i a in
    let won = where_type i b (λ t. weight_of s t *ℤ win i t) in
    let paid = where_type i b (λ t. weight_of s t *ℤ pay i t) in
    total-same (sizes_of s) (where_type i b (λ t. weight_of s t *ℤ gain_at s win pay i a t)) (λ t. v *ℤ won t -ℤ paid t) (λ t p. split (slice_index t i == b) (weight_of s t) v (win i t) (pay i t))
    ∙ total_by-sub (λ t. v *ℤ won t) paid (profiles_of (sizes_of s))
    ∙ ap (λ z. z -ℤ weighted_given s i b (pay i)) (total_by-*ℤ v won (profiles_of (sizes_of s)))
  where
    split : (c : Bool) (w v x y : ℤ) → (if c then w *ℤ (v *ℤ x -ℤ y) else pos 0) ≡ v *ℤ (if c then w *ℤ x else pos 0) -ℤ (if c then w *ℤ y else pos 0)
    split true w v x y = simp ring (omega (arith, linear))
    split false w v x y = (let none : v *ℤ pos 0 ≡ pos 0 = *ℤ-zero v in omega (arith, linear, none))

-- without taking part no type has anything
pub nothing-outside : (s : GeneralSetting) (m : Mechanism) (i a : ℕ) → IsSale s → i < agent_count s → a < slice_index (sizes_of s) i → (m.den *ℤ outside_of s i a) *ℤ marginal_of s i a ≡ pos 0
nothing-outside s m i a sale h l =
    ap (λ z. (m.den *ℤ z) *ℤ marginal_of s i a) (sale.outside i a h l)
    ∙ ap (λ z. z *ℤ marginal_of s i a) (*ℤ-zero m.den)
    ∙ zero-*ℤ (marginal_of s i a)
