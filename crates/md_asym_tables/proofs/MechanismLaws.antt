-- The mechanism of a profile table is a mechanism of the sale, and has the odds whose demands are the masses.
use Rattle.std.proofs.Common.{◌≡◌, ℕ, zero, suc, ◌+◌, ◌<◌, ℤ, pos, ◌+ℤ◌, ◌-ℤ◌, ◌*ℤ◌, ◌≤ℤ◌, ◌<ℤ◌, Bool, true, false, ◌==◌, if◌then◌else◌, List, refl, sym, ap, ap₂, ◌∙◌, subst, arith}
use Rattle.std.specs.Prelude.{slice_index}
use Rattle.std.proofs.lemmas.Int.{ints}
use lib.IntN.{*ℤ_comm}
use Rattle.md_math.specs.Lists.{number_at}
use Rattle.md_math.specs.Sums.{sum_to, total_by}
use Rattle.md_math.proofs.Order.{*ℤ-le, le_from_lt, nonneg-*ℤ, positive-*ℤ}
use Rattle.md_math.proofs.Ring.{linear, ring}
use Rattle.md_math.proofs.SumLaws.{sum_to-same, sum_to-*ℤ, sum_to-front}
use Rattle.md_space.specs.AllProfiles.{profiles_of}
use Rattle.md_space.specs.ByType.{where_type}
use Rattle.md_space.specs.Profiles.{IsProfile, profile_count, profile_at, rank_of}
use Rattle.md_space.proofs.InOrder.{total_by-profiles}
use Rattle.md_space.proofs.Ranks.{profile_at-rank_of, rank_of-below, rank_of-profile_at}
use Rattle.md_space.proofs.TypeSums.{total_given-same, total_given-*ℤ}
use Rattle.md_setting.specs.Setting.{GeneralSetting}
use Rattle.md_setting.specs.Meaning.{agent_count, outcome_count, sizes_of, weight_of, marginal_of}
use Rattle.md_setting.specs.Shaped.{IsShaped}
use Rattle.md_mech.specs.Mechanism.{chance_of, pay_of, IsMechanism}
use Rattle.md_mech.specs.Utility.{weighted_given}
use Rattle.md_mech.proofs.ByProfileLaws.{chance_of-mechanism_by, pay_of-mechanism_by, IsMechanism-mechanism_by}
use Rattle.md_mech.proofs.WholeLaws.{stays_nonneg}
use Rattle.md_asym_sale.specs.Pairs.{pair_number}
use Rattle.md_asym_sale.specs.Sale.{IsSale}
use Rattle.md_asym_sale.specs.Sides.{demand_at}
use Rattle.md_asym_sale.proofs.PairLaws.{agent-of, kind-of, number-below}
use Rattle.md_asym_sale.proofs.SaleLaws.{in-sizes}
use Rattle.md_asym_tables.specs.Mechanisms.{weight_at, all_weights, other_weights, win_of, whole_of, lottery_of, payment_of, mechanism_of}
use Rattle.md_asym_tables.specs.Odds.{HasOdds, HasPays}
use Rattle.md_asym_tables.specs.PairNets.{cap_at}
use Rattle.md_asym_tables.specs.Tables.{IsProfileTable, Implements, mass_at, mass_where, mass_of}
use Rattle.md_asym_tables.proofs.WeightLaws.{all-positive, others-positive, others-all}

-- ---- a mechanism

win-nonneg : (s : GeneralSetting) (den : ℤ) (y : List ℤ) (t : List ℕ) (i : ℕ) → IsSale s → IsShaped s → IsProfileTable s den y → IsProfile (sizes_of s) t → i < agent_count s → pos 0 ≤ℤ win_of s y t i
win-nonneg s den y t i sale shaped table p b =
    let r = rank_of (sizes_of s) t in
    nonneg-*ℤ (mass_at s y r i) (other_weights s r) (table.nonneg r i (rank_of-below (sizes_of s) t p) b) (le_from_lt (pos 0) (other_weights s r) (others-positive s r sale shaped))

-- the agents get the item no more often than the whole
wins-le : (s : GeneralSetting) (den : ℤ) (y : List ℤ) (t : List ℕ) → IsSale s → IsShaped s → IsProfileTable s den y → IsProfile (sizes_of s) t → sum_to (agent_count s) (win_of s y t) ≤ℤ whole_of s den
wins-le s den y t sale shaped table p =
    let r = rank_of (sizes_of s) t in
    let b = rank_of-below (sizes_of s) t p in
    let o = other_weights s r in
    let given : sum_to (agent_count s) (win_of s y t) ≡ o *ℤ sum_to (agent_count s) (mass_at s y r) =
    sum_to-same (agent_count s) _ (λ i. o *ℤ mass_at s y r i) (λ i c. *ℤ_comm (mass_at s y r i) o) ∙ sum_to-*ℤ (agent_count s) o (mass_at s y r) in
    let whole : o *ℤ cap_at s den r ≡ whole_of s den = parts o den (weight_at s r) ∙ ap (λ z. den *ℤ z) (others-all s r b) in
    subst (λ z. z ≤ℤ whole_of s den) (sym given)
    (subst (λ z. (o *ℤ sum_to (agent_count s) (mass_at s y r)) ≤ℤ z) whole
    (*ℤ-le o (sum_to (agent_count s) (mass_at s y r)) (cap_at s den r) (le_from_lt (pos 0) o (others-positive s r sale shaped)) (table.inside r b)))
  where
    parts : (o d w : ℤ) → o *ℤ (d *ℤ w) ≡ d *ℤ (o *ℤ w)
    parts o d w = simp ring

pub mechanism-of_table : (s : GeneralSetting) (den : ℤ) (y pays : List ℤ) → IsSale s → IsShaped s → pos 1 ≤ℤ den → IsProfileTable s den y → IsMechanism s (mechanism_of s den y pays)
mechanism-of_table s den y pays sale shaped positive table =
    IsMechanism-mechanism_by s (whole_of s den) (lottery_of s den y) (payment_of s pays)
    (record {
      positive = some (whole_of s den) (positive-*ℤ den (all_weights s) (above den positive) (all-positive s sale shaped));
      not_negative = λ t o p l. chances t o p l;
      whole = λ t p. ap (λ n. sum_to n (lottery_of s den y t)) sale.one_more ∙ all t;
      no_payment = λ off t i p l. off_is_on sale.paid.payments off;
    })
  where
    above : (z : ℤ) → pos 1 ≤ℤ z → pos 0 <ℤ z
    above z l = omega (arith, ints, l)

    some : (z : ℤ) → pos 0 <ℤ z → pos 1 ≤ℤ z
    some z l = omega (arith, ints, l)

    off_is_on : {P : Type 0} {b : Bool} → b ≡ true → b ≡ false → P
    off_is_on e f = cc

    chances : (t : List ℕ) (o : ℕ) → IsProfile (sizes_of s) t → o < outcome_count s → pos 0 ≤ℤ lottery_of s den y t o
    chances t zero p l = stays_nonneg _ _ (wins-le s den y t sale shaped table p)
    chances t (suc i) p l = win-nonneg s den y t i sale shaped table p (omega (arith, l, sale.one_more))

    back : (w s : ℤ) → (w -ℤ s) +ℤ s ≡ w
    back w s = omega (arith, linear)

    all : (t : List ℕ) → sum_to (agent_count s + 1) (lottery_of s den y t) ≡ whole_of s den
    all t =
        let n = agent_count s in
        let more : sum_to (n + 1) (lottery_of s den y t) ≡ lottery_of s den y t 0 +ℤ sum_to n (λ i. lottery_of s den y t (i + 1)) =
        ap (λ k. sum_to k (lottery_of s den y t)) (let e : n + 1 ≡ suc n = omega arith in e) ∙ sum_to-front n (lottery_of s den y t) in
        let agents : sum_to n (λ i. lottery_of s den y t (i + 1)) ≡ sum_to n (win_of s y t) =
        sum_to-same n _ (win_of s y t) (λ i b. ap (lottery_of s den y t) (let e : i + 1 ≡ suc i = omega arith in e)) in
        more ∙ ap (λ z. (whole_of s den -ℤ sum_to n (win_of s y t)) +ℤ z) agents ∙ back (whole_of s den) (sum_to n (win_of s y t))

-- ---- the odds

-- the masses of a pair are those of its agent at the profiles in which it has the type
mass-given : (s : GeneralSetting) (y : List ℤ) (i a : ℕ) → i < agent_count s → a < slice_index (sizes_of s) i
    → total_by (where_type i a (λ t. mass_at s y (rank_of (sizes_of s) t) i)) (profiles_of (sizes_of s)) ≡ mass_of s y (pair_number (sizes_of s) i a)
mass-given s y i a b l =
    total_by-profiles (sizes_of s) (where_type i a (λ t. mass_at s y (rank_of (sizes_of s) t) i))
    ∙ sum_to-same (profile_count (sizes_of s)) _ (mass_where s y (pair_number (sizes_of s) i a)) (λ r c.
    ap (λ q. if slice_index (profile_at (sizes_of s) r) i == a then mass_at s y q i else pos 0) (rank_of-profile_at (sizes_of s) r c)
    ∙ sym (ap₂ (λ j k. if slice_index (profile_at (sizes_of s) r) j == k then mass_at s y r j else pos 0) (agent-of (sizes_of s) i a (in-sizes s i b) l) (kind-of (sizes_of s) i a (in-sizes s i b) l)))

-- what an agent with a type wins in the mechanism over all profiles, by weight
wins-weighted : (s : GeneralSetting) (den : ℤ) (y pays : List ℤ) (i a : ℕ) → IsSale s → i < agent_count s → a < slice_index (sizes_of s) i
    → weighted_given s i a (λ t. chance_of s (mechanism_of s den y pays) t (i + 1)) ≡ all_weights s *ℤ mass_of s y (pair_number (sizes_of s) i a)
wins-weighted s den y pays i a sale b l =
    total_given-same (sizes_of s) i a _ (λ t. all_weights s *ℤ mass_at s y (rank_of (sizes_of s) t) i) (λ t p e. at t p)
    ∙ total_given-*ℤ (sizes_of s) i a (all_weights s) (λ t. mass_at s y (rank_of (sizes_of s) t) i)
    ∙ ap (λ z. all_weights s *ℤ z) (mass-given s y i a b l)
  where
    parts : (w y o : ℤ) → w *ℤ (y *ℤ o) ≡ (o *ℤ w) *ℤ y
    parts w y o = simp ring

    at : (t : List ℕ) → IsProfile (sizes_of s) t → weight_of s t *ℤ chance_of s (mechanism_of s den y pays) t (i + 1) ≡ all_weights s *ℤ mass_at s y (rank_of (sizes_of s) t) i
    at t p =
        let r = rank_of (sizes_of s) t in
        ap (λ z. weight_of s t *ℤ z)
        (chance_of-mechanism_by s (whole_of s den) (lottery_of s den y) (payment_of s pays) t (i + 1) p (omega (arith, sale.one_more, b))
        ∙ ap (lottery_of s den y t) (let f : i + 1 ≡ suc i = omega arith in f))
        ∙ parts (weight_of s t) (mass_at s y r i) (other_weights s r)
        ∙ ap (λ w. (other_weights s r *ℤ w) *ℤ mass_at s y r i) (sym (ap (weight_of s) (profile_at-rank_of (sizes_of s) t p)))
        ∙ ap (λ z. z *ℤ mass_at s y r i) (others-all s r (rank_of-below (sizes_of s) t p))

pub odds-of_table : (s : GeneralSetting) (den : ℤ) (odds y pays : List ℤ) → IsSale s → Implements s odds y → HasOdds s (mechanism_of s den y pays) den odds
odds-of_table s den odds y pays sale exact = record { wins = at }
  where
    parts : (d k m q : ℤ) → d *ℤ (k *ℤ (m *ℤ q)) ≡ (d *ℤ k) *ℤ (m *ℤ q)
    parts d k m q = simp ring

    at : (i a : ℕ) → i < agent_count s → a < slice_index (sizes_of s) i
        → den *ℤ weighted_given s i a (λ t. chance_of s (mechanism_of s den y pays) t (i + 1)) ≡ whole_of s den *ℤ (marginal_of s i a *ℤ number_at odds (pair_number (sizes_of s) i a))
    at i a b l =
        let pair = pair_number (sizes_of s) i a in
        ap (λ z. den *ℤ z)
        (wins-weighted s den y pays i a sale b l
        ∙ ap (λ z. all_weights s *ℤ z)
        (exact.exact pair (number-below (sizes_of s) i a (in-sizes s i b) l)
        ∙ ap₂ (λ j k. marginal_of s j k *ℤ number_at odds pair) (agent-of (sizes_of s) i a (in-sizes s i b) l) (kind-of (sizes_of s) i a (in-sizes s i b) l)))
        ∙ parts den (all_weights s) (marginal_of s i a) (number_at odds pair)

-- ---- the payments

-- an agent with a type pays the same at each profile
pub pays-of_table : (s : GeneralSetting) (den : ℤ) (y pays : List ℤ) → HasPays s (mechanism_of s den y pays) den pays
pays-of_table s den y pays = record { paid = at }
  where
    parts : (d o g q : ℤ) → d *ℤ ((q *ℤ o) *ℤ g) ≡ (d *ℤ o) *ℤ (g *ℤ q)
    parts d o g q = simp ring

    at : (i a : ℕ) → i < agent_count s → a < slice_index (sizes_of s) i
        → den *ℤ weighted_given s i a (λ t. pay_of s (mechanism_of s den y pays) i t) ≡ whole_of s den *ℤ (marginal_of s i a *ℤ number_at pays (pair_number (sizes_of s) i a))
    at i a b l =
        let paid = number_at pays (pair_number (sizes_of s) i a) *ℤ all_weights s in
        ap (λ z. den *ℤ z)
        (total_given-same (sizes_of s) i a _ (λ t. paid *ℤ weight_of s t)
        (λ t p e.
        ap (λ z. weight_of s t *ℤ z)
        (pay_of-mechanism_by s (whole_of s den) (lottery_of s den y) (payment_of s pays) t i p b
        ∙ ap (λ k. number_at pays (pair_number (sizes_of s) i k) *ℤ all_weights s) e)
        ∙ *ℤ_comm (weight_of s t) paid)
        ∙ total_given-*ℤ (sizes_of s) i a paid (weight_of s))
        ∙ parts den (all_weights s) (marginal_of s i a) (number_at pays (pair_number (sizes_of s) i a))
