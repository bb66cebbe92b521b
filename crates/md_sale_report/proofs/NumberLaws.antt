-- The own numbers of odds and payments have these odds and payments, and a report can be about them.
use Rattle.std.proofs.Common.{◌≡◌, ℕ, zero, suc, ◌+◌, ℤ, pos, neg_ℤ, ◌*ℤ◌, ◌≤ℤ◌, List, ap, ◌∙◌, arith}
use Rattle.std.specs.Prelude.{slice_index}
use Rattle.std.proofs.lemmas.Int.{ints}
use lib.IntN.{*ℤ_comm}
use Rattle.md_math.specs.Lists.{list_to, up_to, number_at}
use Rattle.md_math.specs.Sizes.{IsWithin, AllWithin}
use Rattle.md_math.proofs.Builders.{All-list_to, All-up_to, length-list_to, length-up_to}
use Rattle.md_math.proofs.Ring.{linear}
use Rattle.md_math.proofs.SizeLaws.{AllWithin-number_at, IsWithin-from_bounds, IsWithin-zero}
use Rattle.md_border.specs.declared.interim.Interim.{Interim}
use Rattle.md_space.specs.Profiles.{IsProfile, profile_count, profile_at}
use Rattle.md_space.proofs.TypeSums.{total_given-same, total_given-*ℤ}
use Rattle.md_setting.specs.Setting.{GeneralSetting}
use Rattle.md_setting.specs.Meaning.{agent_count, outcome_count, sizes_of, weight_of, marginal_of}
use Rattle.md_mech.specs.Accepted.{number_limit}
use Rattle.md_mech.specs.Mechanism.{chance_of, pay_of}
use Rattle.md_mech.specs.Utility.{weighted_given}
use Rattle.md_mech.proofs.ByProfileLaws.{chance_of-mechanism_by, pay_of-mechanism_by}
use Rattle.md_asym_sale.specs.Pairs.{pair_number}
use Rattle.md_asym_sale.specs.Sale.{IsSale}
use Rattle.md_asym_laws.specs.Odds.{HasPairOdds, HasPairPays}
use Rattle.md_asym_tables.specs.Odds.{AreOdds}
use Rattle.md_report.specs.Numbers.{AreNumbers}
use Rattle.md_sale_report.specs.OwnNumbers.{own_number, own_chance, own_numbers}

-- ---- their odds and payments

-- over the profiles in which an agent has a type, a number that is that of its type
constant : (s : GeneralSetting) (f : List ℕ → ℤ) (numbers : List ℤ) (den : ℤ) (i a : ℕ) → ((t : List ℕ) → IsProfile (sizes_of s) t → f t ≡ own_number s numbers i t)
    → den *ℤ weighted_given s i a f ≡ den *ℤ (marginal_of s i a *ℤ number_at numbers (pair_number (sizes_of s) i a))
constant s f numbers den i a same =
    let x = number_at numbers (pair_number (sizes_of s) i a) in
    ap (λ z. den *ℤ z)
    (total_given-same (sizes_of s) i a (λ t. weight_of s t *ℤ f t) (λ t. x *ℤ weight_of s t)
    (λ t p e. ap (λ z. weight_of s t *ℤ z) (same t p ∙ ap (λ k. number_at numbers (pair_number (sizes_of s) i k)) e) ∙ *ℤ_comm (weight_of s t) x)
    ∙ total_given-*ℤ (sizes_of s) i a x (weight_of s)
    ∙ *ℤ_comm x (marginal_of s i a))

pub own-odds : (s : GeneralSetting) (interim : Interim) → IsSale s → HasPairOdds s (own_numbers s interim) interim.den (number_at interim.odds)
own-odds s interim sale = record {
  wins = λ i a h l. constant s (λ t. chance_of s (own_numbers s interim) t (i + 1)) interim.odds interim.den i a
      (λ t p.
      chance_of-mechanism_by s interim.den (own_chance s interim.odds) (own_number s interim.pays) t (i + 1) p (omega (arith, h, sale.one_more))
      ∙ ap (own_chance s interim.odds t) (let e : i + 1 ≡ suc i = omega arith in e));
}

pub own-pays : (s : GeneralSetting) (interim : Interim) → HasPairPays s (own_numbers s interim) interim.den (number_at interim.pays)
own-pays s interim = record {
  paid = λ i a h l. constant s (λ t. pay_of s (own_numbers s interim) i t) interim.pays interim.den i a
      (λ t p. pay_of-mechanism_by s interim.den (own_chance s interim.odds) (own_number s interim.pays) t i p h);
}

-- ---- their sizes

-- each number of lists that are put one after another
listed : (limit n k : ℕ) (f : ℕ → ℕ → ℤ) → ((r o : ℕ) → IsWithin limit (f r o)) → AllWithin limit (up_to n (λ r. list_to k (f r)))
listed limit n k f each = record {
  at = λ j h. All-up_to (IsWithin limit) n (λ r. list_to k (f r)) (λ r b. All-list_to (IsWithin limit) k (f r) (λ o l. each r o)) j (pos 0) h;
}

odds-within : (s : GeneralSetting) (den : ℤ) (odds : List ℤ) → AreOdds s den odds → AllWithin number_limit odds
odds-within s den odds are = record { at = λ k h. at (number_at odds k) den (are.each k (omega (arith, h, are.one_each))) are.den_size }
  where
    at : (z d : ℤ) → (pos 0 ≤ℤ z) × (z ≤ℤ d) → d ≤ℤ pos number_limit → IsWithin number_limit z
    at z d (low, high) small = IsWithin-from_bounds number_limit z (omega (arith, ints, linear, low)) (omega (arith, linear, high, small))

pub own-fit : (s : GeneralSetting) (interim : Interim) → AreOdds s interim.den interim.odds → AllWithin number_limit interim.pays → AreNumbers s (own_numbers s interim)
own-fit s interim are small = record {
  den = are.den_positive;
  chance_count = length-up_to (profile_count (sizes_of s)) (outcome_count s) (λ r. list_to (outcome_count s) (own_chance s interim.odds (profile_at (sizes_of s) r)))
      (λ k b. length-list_to (outcome_count s) (own_chance s interim.odds (profile_at (sizes_of s) k)));
  pay_count = length-up_to (profile_count (sizes_of s)) (agent_count s) (λ r. list_to (agent_count s) (λ i. own_number s interim.pays i (profile_at (sizes_of s) r)))
      (λ k b. length-list_to (agent_count s) (λ i. own_number s interim.pays i (profile_at (sizes_of s) k)));
  den_size = IsWithin-from_bounds number_limit interim.den (up interim.den are.den_positive) are.den_size;
  chance_size = listed number_limit (profile_count (sizes_of s)) (outcome_count s) (λ r. own_chance s interim.odds (profile_at (sizes_of s) r)) (λ r o. chance-within (profile_at (sizes_of s) r) o);
  pay_size = listed number_limit (profile_count (sizes_of s)) (agent_count s) (λ r i. own_number s interim.pays i (profile_at (sizes_of s) r))
      (λ r i. AllWithin-number_at number_limit interim.pays (pair_number (sizes_of s) i (slice_index (profile_at (sizes_of s) r) i)) small);
}
  where
    up : (z : ℤ) → pos 1 ≤ℤ z → neg_ℤ (pos number_limit) ≤ℤ z
    up z h = omega (arith, ints, linear, h)

    chance-within : (t : List ℕ) (o : ℕ) → IsWithin number_limit (own_chance s interim.odds t o)
    chance-within t zero = IsWithin-zero number_limit
    chance-within t (suc i) = AllWithin-number_at number_limit interim.odds (pair_number (sizes_of s) i (slice_index t i)) (odds-within s interim.den interim.odds are)
