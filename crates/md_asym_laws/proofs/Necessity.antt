-- Border's condition is necessary: the pairs of a set win no more often, over all profiles, than the item can go to one of them.
use Rattle.std.proofs.Common.{◌≡◌, ℕ, suc, ◌+◌, ◌<◌, ℤ, pos, ◌+ℤ◌, ◌*ℤ◌, ◌≤ℤ◌, Bool, true, false, if◌then◌else◌, List, get_or, sym, ap, ◌∙◌, subst, arith, inl, inr}
use Rattle.std.specs.Prelude.{slice_index}
use lib.IntN.{*ℤ_comm}
use Rattle.md_math.specs.Sets.{member}
use Rattle.md_math.specs.Sums.{sum_to, total_by}
use Rattle.md_math.proofs.BoundedTests.{true_or_false}
use Rattle.md_math.proofs.Order.{*ℤ-le, le_from_lt, nonneg-*ℤ, ≤ℤ_trans}
use Rattle.md_math.proofs.Ring.{linear, ring, *ℤ-zero, *ℤ_assoc, zero-*ℤ, one-*ℤ}
use Rattle.md_math.proofs.SumLaws.{sum_to-same, sum_to-zero, sum_to-le, sum_to-*ℤ, sum_to-front}
use Rattle.md_math.proofs.TotalLaws.{total_by-le, total_by-*ℤ}
use Rattle.md_space.specs.AllProfiles.{profiles_of}
use Rattle.md_space.specs.Profiles.{IsProfile}
use Rattle.md_space.proofs.InOrder.{All-profiles_of}
use Rattle.md_setting.specs.Setting.{GeneralSetting}
use Rattle.md_setting.specs.Meaning.{agent_count, sizes_of, weight_of}
use Rattle.md_setting.specs.Shaped.{IsShaped}
use Rattle.md_mech.specs.declared.mechanism.Mechanism.{Mechanism}
use Rattle.md_mech.specs.Mechanism.{chance_of, IsMechanism}
use Rattle.md_mech.proofs.CountLaws.{agents-length}
use Rattle.md_flow.specs.Over.{any_below}
use Rattle.md_flow.proofs.AnyBelow.{any_below-false}
use Rattle.md_asym_sale.specs.Pairs.{pair_number}
use Rattle.md_asym_sale.specs.Sale.{IsSale}
use Rattle.md_asym_sale.specs.Sides.{has_some, right_of, demands_in}
use Rattle.md_asym_sale.specs.Values.{pairs_of, marginal_at}
use Rattle.md_asym_sale.proofs.PairSums.{by_pairs}
use Rattle.md_asym_laws.specs.Averages.{all_marginals, other_marginals, given_at, averages, win_in}
use Rattle.md_asym_laws.proofs.MeanLaws.{others-all, all-positive, averages-win}

-- 1 for the pairs of a set, and 0 for all others
abbrev pub counts_in : ℕ → ℕ → ℤ
counts_in set p = if member set p then pos 1 else pos 0

-- how often the agents whose pairs at a profile are in a set win there, by its weight
abbrev pub wins_in : GeneralSetting → (ℕ → List ℕ → ℤ) → ℕ → List ℕ → ℤ
wins_in s win set t = sum_to (agent_count s) (λ i. counts_in set (pair_number (sizes_of s) i (slice_index t i)) *ℤ (weight_of s t *ℤ win i t))

-- ---- demands and wins

-- what the pairs of a set ask for by the averages is what their agents win over all profiles, so often
pub averaged-demands : (s : GeneralSetting) (win pay : ℕ → List ℕ → ℤ) (set : ℕ) → demands_in s (averages s win pay) set ≡ all_marginals s *ℤ total_by (wins_in s win set) (profiles_of (sizes_of s))
averaged-demands s win pay set =
    let all = all_marginals s in
    sum_to-same (pairs_of s) _ (λ p. all *ℤ (counts_in set p *ℤ given_at s win p))
    (λ p h.
    ap (λ z. if member set p then z else pos 0)
    (ap (λ z. marginal_at s p *ℤ z) (averages-win s win pay p h)
    ∙ parts (marginal_at s p) (other_marginals s p) (given_at s win p)
    ∙ ap (λ z. z *ℤ given_at s win p) (others-all s p h))
    ∙ chosen (member set p) all (given_at s win p))
    ∙ sum_to-*ℤ (pairs_of s) all (λ p. counts_in set p *ℤ given_at s win p)
    ∙ ap (λ z. all *ℤ z)
    (by_pairs (sizes_of s) (counts_in set) (λ i t. weight_of s t *ℤ win i t)
    ∙ ap (λ n. total_by (λ t. sum_to n (λ i. counts_in set (pair_number (sizes_of s) i (slice_index t i)) *ℤ (weight_of s t *ℤ win i t))) (profiles_of (sizes_of s))) (agents-length s))
  where
    parts : (m o g : ℤ) → m *ℤ (o *ℤ g) ≡ (o *ℤ m) *ℤ g
    parts m o g = simp ring

    chosen : (b : Bool) (k g : ℤ) → (if b then k *ℤ g else pos 0) ≡ k *ℤ ((if b then pos 1 else pos 0) *ℤ g)
    chosen true k g = ap (λ z. k *ℤ z) (sym (one-*ℤ g))
    chosen false k g = sym (ap (λ z. k *ℤ z) (zero-*ℤ g) ∙ *ℤ-zero k)

-- ---- one profile

-- The agents that pass a test win at a profile no more often than the whole, and not where there is none.
wins-at : (n : ℕ) (test : ℕ → Bool) (w whole : ℤ) (chance : ℕ → ℤ) → pos 0 ≤ℤ w → ((o : ℕ) → o < n + 1 → pos 0 ≤ℤ chance o) → sum_to (n + 1) chance ≡ whole
    → sum_to n (λ i. (if test i then pos 1 else pos 0) *ℤ (w *ℤ chance (i + 1))) ≤ℤ (whole *ℤ (if any_below n test then w else pos 0))
wins-at n test w whole chance heavy chances all = elim (true_or_false (any_below n test)) [
  | inl some ↦ rw some (≤ℤ_trans _ (sum_to n (λ i. w *ℤ chance (i + 1))) (whole *ℤ w) (sum_to-le n _ (λ i. w *ℤ chance (i + 1)) (λ i b. at_most (test i) _ (nonneg-*ℤ w (chance (i + 1)) heavy (chances (i + 1) (omega (arith, b)))))) most)
  | inr none ↦ rw none (nothing none)
]
  where
    at_most : (b : Bool) (z : ℤ) → pos 0 ≤ℤ z → ((if b then pos 1 else pos 0) *ℤ z) ≤ℤ z
    at_most true z h = (let e : pos 1 *ℤ z ≡ z = one-*ℤ z in omega (arith, linear, e))
    at_most false z h = (let e : pos 0 *ℤ z ≡ pos 0 = zero-*ℤ z in omega (arith, linear, e, h))

    winners : sum_to n (λ i. chance (i + 1)) ≤ℤ whole
    winners =
        let first : pos 0 ≤ℤ chance 0 = chances 0 (omega arith) in
        let more : sum_to (n + 1) chance ≡ chance 0 +ℤ sum_to n (λ i. chance (i + 1)) = ap (λ k. sum_to k chance) (let e : n + 1 ≡ suc n = omega arith in e) ∙ sum_to-front n chance in
        omega (arith, linear, first, more, all)

    most : sum_to n (λ i. w *ℤ chance (i + 1)) ≤ℤ (whole *ℤ w)
    most =
        subst (λ z. z ≤ℤ (whole *ℤ w)) (sym (sum_to-*ℤ n w (λ i. chance (i + 1))))
        (subst (λ z. (w *ℤ sum_to n (λ i. chance (i + 1))) ≤ℤ z) (*ℤ_comm w whole) (*ℤ-le w _ whole heavy winners))

    nothing : any_below n test ≡ false → sum_to n (λ i. (if test i then pos 1 else pos 0) *ℤ (w *ℤ chance (i + 1))) ≤ℤ (whole *ℤ pos 0)
    nothing none =
        let zero_sum : sum_to n (λ i. (if test i then pos 1 else pos 0) *ℤ (w *ℤ chance (i + 1))) ≡ pos 0 =
        sum_to-zero n _ (λ i b. ap (λ c. (if c then pos 1 else pos 0) *ℤ (w *ℤ chance (i + 1))) (any_below-false n test none i b) ∙ zero-*ℤ (w *ℤ chance (i + 1))) in
        omega (arith, linear, zero_sum, *ℤ-zero whole)

-- ---- all profiles

-- in a mechanism the pairs of a set win no more often than the item can go to one of them
pub won-le : (s : GeneralSetting) (m : Mechanism) (set : ℕ) → IsSale s → IsShaped s → IsMechanism s m → total_by (wins_in s (win_in s m) set) (profiles_of (sizes_of s)) ≤ℤ (m.den *ℤ right_of s set)
won-le s m set sale shaped mechanism =
    subst (λ z. total_by (wins_in s (win_in s m) set) (profiles_of (sizes_of s)) ≤ℤ z)
    (total_by-*ℤ m.den (λ t. if has_some s set t then weight_of s t else pos 0) (profiles_of (sizes_of s)))
    (total_by-le (wins_in s (win_in s m) set) (λ t. m.den *ℤ (if has_some s set t then weight_of s t else pos 0)) (profiles_of (sizes_of s))
    (λ k d l. at (get_or (profiles_of (sizes_of s)) k d) (All-profiles_of (sizes_of s) k d l)))
  where
    at : (t : List ℕ) → IsProfile (sizes_of s) t → wins_in s (win_in s m) set t ≤ℤ (m.den *ℤ (if has_some s set t then weight_of s t else pos 0))
    at t p =
        wins-at (agent_count s) (λ i. member set (pair_number (sizes_of s) i (slice_index t i))) (weight_of s t) m.den (chance_of s m t) (shaped.weight t p).nonneg
        (λ o b. mechanism.not_negative t o p (omega (arith, b, sale.one_more)))
        (ap (λ k. sum_to k (chance_of s m t)) (sym sale.one_more) ∙ mechanism.whole t p)

-- so its averages keep the cut of each set
pub averaged-cut : (s : GeneralSetting) (m : Mechanism) (pay : ℕ → List ℕ → ℤ) (set : ℕ) → IsSale s → IsShaped s → IsMechanism s m
    → demands_in s (averages s (win_in s m) pay) set ≤ℤ ((all_marginals s *ℤ m.den) *ℤ right_of s set)
averaged-cut s m pay set sale shaped mechanism =
    let all = all_marginals s in
    let won = total_by (wins_in s (win_in s m) set) (profiles_of (sizes_of s)) in
    subst (λ z. z ≤ℤ ((all *ℤ m.den) *ℤ right_of s set)) (sym (averaged-demands s (win_in s m) pay set))
    (subst (λ z. (all *ℤ won) ≤ℤ z) (sym (*ℤ_assoc all m.den (right_of s set)))
    (*ℤ-le all won (m.den *ℤ right_of s set) (le_from_lt (pos 0) all (all-positive s shaped)) (won-le s m set sale shaped mechanism)))
