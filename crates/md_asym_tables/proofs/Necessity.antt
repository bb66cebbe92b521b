-- Where some mechanism of a sale has the odds, no set of pairs asks for more than there is.
use Rattle.std.proofs.Common.{◌≡◌, ℕ, suc, ◌+◌, ◌<◌, ℤ, pos, ◌+ℤ◌, ◌-ℤ◌, ◌*ℤ◌, ◌≤ℤ◌, ◌<ℤ◌, Bool, true, false, if◌then◌else◌, List, length, get_or, refl, sym, ap, ap₂, ◌∙◌, subst, arith, inl, inr}
use Rattle.std.specs.Prelude.{slice_index}
use Rattle.std.proofs.lemmas.Int.{ints}
use lib.IntN.{*ℤ_comm}
use Rattle.md_math.specs.Lists.{number_at}
use Rattle.md_math.specs.Sets.{member}
use Rattle.md_math.specs.Sums.{sum_to, total_by}
use Rattle.md_math.proofs.BoundedTests.{true_or_false}
use Rattle.md_math.proofs.Order.{*ℤ-le, le_from_*ℤ, nonneg-*ℤ, chosen-le, chosen-times}
use Rattle.md_math.proofs.Ring.{linear, *ℤ-zero, zero-*ℤ, one-*ℤ, *ℤ_left_comm}
use Rattle.md_math.proofs.SumLaws.{sum_to-same, sum_to-zero, sum_to-le, sum_to-*ℤ, sum_to-front}
use Rattle.md_math.proofs.TotalLaws.{total_by-le, total_by-*ℤ}
use Rattle.md_space.specs.AllProfiles.{profiles_of}
use Rattle.md_space.specs.Profiles.{IsProfile}
use Rattle.md_space.proofs.InOrder.{All-profiles_of}
use Rattle.md_space.proofs.TypeSums.{total-same}
use Rattle.md_lp.proofs.WorstLaws.{worst-over}
use Rattle.md_setting.specs.Setting.{GeneralSetting}
use Rattle.md_setting.specs.Meaning.{agent_count, outcome_count, sizes_of, weight_of, marginal_of}
use Rattle.md_setting.specs.Shaped.{IsShaped}
use Rattle.md_mech.specs.declared.mechanism.Mechanism.{Mechanism}
use Rattle.md_mech.specs.Mechanism.{chance_of, IsMechanism}
use Rattle.md_mech.specs.Utility.{weighted_given}
use Rattle.md_mech.proofs.CountLaws.{agents-length}
use Rattle.md_flow.specs.Over.{any_below}
use Rattle.md_flow.proofs.AnyBelow.{any_below-false}
use Rattle.md_asym_sale.specs.Pairs.{pair_number, agent_of, kind_of}
use Rattle.md_asym_sale.specs.Sale.{IsSale}
use Rattle.md_asym_sale.specs.Sides.{has_some, right_of, demand_at, demands_in}
use Rattle.md_asym_sale.specs.Values.{pairs_of, marginal_at}
use Rattle.md_asym_sale.proofs.PairLaws.{pair-in}
use Rattle.md_asym_sale.proofs.PairSums.{by_pairs, number-of}
use Rattle.md_asym_tables.specs.Odds.{HasOdds, IsWorstSet, excess_of}

-- ---- sums over sets of pairs

-- how often, and over all profiles by weight, agents with pairs in a set have of f
abbrev pub had_in : GeneralSetting → ℕ → (ℕ → List ℕ → ℤ) → ℤ
had_in s set f =
    total_by (λ t. sum_to (agent_count s) (λ i. if member set (pair_number (sizes_of s) i (slice_index t i)) then weight_of s t *ℤ f i t else pos 0)) (profiles_of (sizes_of s))

as_factor : (b : Bool) (z : ℤ) → (if b then z else pos 0) ≡ (if b then pos 1 else pos 0) *ℤ z
as_factor true z = sym (one-*ℤ z)
as_factor false z = sym (zero-*ℤ z)

-- what the pairs of the set have, each over the profiles in which its agent has its type
pub had-by_pairs : (s : GeneralSetting) (set : ℕ) (f : ℕ → List ℕ → ℤ)
    → sum_to (pairs_of s) (λ p. if member set p then weighted_given s (agent_of (sizes_of s) p) (kind_of (sizes_of s) p) (f (agent_of (sizes_of s) p)) else pos 0) ≡ had_in s set f
had-by_pairs s set f =
    sum_to-same (pairs_of s) _ (λ p. in_set p *ℤ weighted_given s (agent_of (sizes_of s) p) (kind_of (sizes_of s) p) (f (agent_of (sizes_of s) p))) (λ p b. as_factor (member set p) _)
    ∙ by_pairs (sizes_of s) in_set (λ i t. weight_of s t *ℤ f i t)
    ∙ ap (λ n. total_by (λ t. sum_to n (λ i. in_set (pair_number (sizes_of s) i (slice_index t i)) *ℤ (weight_of s t *ℤ f i t))) (profiles_of (sizes_of s))) (agents-length s)
    ∙ total-same (sizes_of s) _ _ (λ t p. sum_to-same (agent_count s) _ _ (λ i b. sym (as_factor (member set (pair_number (sizes_of s) i (slice_index t i))) (weight_of s t *ℤ f i t))))
  where
    in_set : ℕ → ℤ
    in_set p = if member set p then pos 1 else pos 0

-- ---- one item at each profile

-- how often the agents have the item is at most the whole
winners-le : (n : ℕ) (whole : ℤ) (chance : ℕ → ℤ) → pos 0 ≤ℤ chance 0 → sum_to (n + 1) chance ≡ whole → sum_to n (λ i. chance (i + 1)) ≤ℤ whole
winners-le n whole chance h e =
    let front : sum_to (n + 1) chance ≡ chance 0 +ℤ sum_to n (λ i. chance (i + 1)) = ap (λ k. sum_to k chance) (let f : n + 1 ≡ suc n = omega arith in f) ∙ sum_to-front n chance in
    less (chance 0) (sum_to n (λ i. chance (i + 1))) (sum_to (n + 1) chance) whole h front e
  where
    less : (c w all whole : ℤ) → pos 0 ≤ℤ c → all ≡ c +ℤ w → all ≡ whole → w ≤ℤ whole
    less c w all whole l e f = omega (arith, linear, l, e, f)

had-at : (n : ℕ) (test : ℕ → Bool) (w whole : ℤ) (chance : ℕ → ℤ) → pos 0 ≤ℤ w → ((o : ℕ) → o < n + 1 → pos 0 ≤ℤ chance o) → sum_to (n + 1) chance ≡ whole
    → sum_to n (λ i. if test i then w *ℤ chance (i + 1) else pos 0) ≤ℤ (whole *ℤ (if any_below n test then w else pos 0))
had-at n test w whole chance heavy nonneg all = elim (true_or_false (any_below n test)) [
  | inl some ↦
      rw some
      (subst (λ z. sum_to n (λ i. if test i then w *ℤ chance (i + 1) else pos 0) ≤ℤ z) (*ℤ_comm w whole)
      (trans _ (w *ℤ sum_to n (λ i. chance (i + 1))) (w *ℤ whole)
      (subst (λ z. sum_to n (λ i. if test i then w *ℤ chance (i + 1) else pos 0) ≤ℤ z) (sum_to-*ℤ n w (λ i. chance (i + 1)))
      (sum_to-le n _ (λ i. w *ℤ chance (i + 1)) (λ i b. chosen-le (test i) (w *ℤ chance (i + 1)) (nonneg-*ℤ w (chance (i + 1)) heavy (nonneg (i + 1) (omega (arith, b)))))))
      (*ℤ-le w _ whole heavy (winners-le n whole chance (nonneg 0 (omega arith)) all))))
  | inr none ↦
      rw none
      (nothing _ (whole *ℤ pos 0) (sum_to-zero n _ (λ i b. ap (λ t. if t then w *ℤ chance (i + 1) else pos 0) (any_below-false n test none i b))) (*ℤ-zero whole))
]
  where
    trans : (a b c : ℤ) → a ≤ℤ b → b ≤ℤ c → a ≤ℤ c
    trans a b c l m = omega (arith, ints, l, m)

    nothing : (a b : ℤ) → a ≡ pos 0 → b ≡ pos 0 → a ≤ℤ b
    nothing a b e f = omega (arith, ints, e, f)

-- agents with pairs in a set have the item no more often than there are profiles with some of these
pub had-le : (s : GeneralSetting) (m : Mechanism) (set : ℕ) → IsSale s → IsShaped s → IsMechanism s m → had_in s set (λ i t. chance_of s m t (i + 1)) ≤ℤ (m.den *ℤ right_of s set)
had-le s m set sale shaped h =
    subst (λ z. had_in s set (λ i t. chance_of s m t (i + 1)) ≤ℤ z)
    (total_by-*ℤ m.den (λ t. if has_some s set t then weight_of s t else pos 0) (profiles_of (sizes_of s)))
    (total_by-le _ (λ t. m.den *ℤ (if has_some s set t then weight_of s t else pos 0)) (profiles_of (sizes_of s)) (λ k d l. at (get_or (profiles_of (sizes_of s)) k d) (All-profiles_of (sizes_of s) k d l)))
  where
    at : (t : List ℕ) → IsProfile (sizes_of s) t
        → sum_to (agent_count s) (λ i. if member set (pair_number (sizes_of s) i (slice_index t i)) then weight_of s t *ℤ chance_of s m t (i + 1) else pos 0)
        ≤ℤ (m.den *ℤ (if has_some s set t then weight_of s t else pos 0))
    at t p =
        had-at (agent_count s) (λ i. member set (pair_number (sizes_of s) i (slice_index t i))) (weight_of s t) m.den (chance_of s m t) (shaped.weight t p).nonneg
        (λ o b. h.not_negative t o p (omega (arith, b, sale.one_more)))
        (ap (λ k. sum_to k (chance_of s m t)) (sym sale.one_more) ∙ h.whole t p)

-- ---- Border's condition

-- the demand of a pair is how often its agent has the item with its type
pub demand-had : (s : GeneralSetting) (m : Mechanism) (den : ℤ) (odds : List ℤ) (p : ℕ) → HasOdds s m den odds → p < pairs_of s
    → m.den *ℤ demand_at s (number_at odds) p ≡ den *ℤ weighted_given s (agent_of (sizes_of s) p) (kind_of (sizes_of s) p) (λ t. chance_of s m t (agent_of (sizes_of s) p + 1))
demand-had s m den odds p has b =
    let (agent, kind) = pair-in (sizes_of s) p b in
    ap (λ q. m.den *ℤ (marginal_at s p *ℤ number_at odds q)) (sym (number-of (sizes_of s) p b))
    ∙ sym (has.wins (agent_of (sizes_of s) p) (kind_of (sizes_of s) p) (omega (arith, agent, agents-length s)) kind)

pub demands-had : (s : GeneralSetting) (m : Mechanism) (den : ℤ) (odds : List ℤ) (set : ℕ) → HasOdds s m den odds
    → m.den *ℤ demands_in s (number_at odds) set ≡ den *ℤ had_in s set (λ i t. chance_of s m t (i + 1))
demands-had s m den odds set has =
    let won = λ (p : ℕ). weighted_given s (agent_of (sizes_of s) p) (kind_of (sizes_of s) p) (λ t. chance_of s m t (agent_of (sizes_of s) p + 1)) in
    sym (sum_to-*ℤ (pairs_of s) m.den (λ p. if member set p then demand_at s (number_at odds) p else pos 0))
    ∙ sum_to-same (pairs_of s) _ (λ p. den *ℤ (if member set p then won p else pos 0))
    (λ p b. chosen-times (member set p) m.den (demand_at s (number_at odds) p) ∙ ap (λ z. if member set p then z else pos 0) (demand-had s m den odds p has b) ∙ sym (chosen-times (member set p) den (won p)))
    ∙ sum_to-*ℤ (pairs_of s) den (λ p. if member set p then won p else pos 0)
    ∙ ap (λ z. den *ℤ z) (had-by_pairs s set (λ i t. chance_of s m t (i + 1)))

pub border : (s : GeneralSetting) (m : Mechanism) (den : ℤ) (odds : List ℤ) (set : ℕ) → IsSale s → IsShaped s → pos 1 ≤ℤ den → IsMechanism s m → HasOdds s m den odds
    → excess_of s den odds set ≤ℤ pos 0
border s m den odds set sale shaped positive mechanism has =
    let won = had_in s set (λ i t. chance_of s m t (i + 1)) in
    let at_most : (den *ℤ won) ≤ℤ (den *ℤ (m.den *ℤ right_of s set)) = *ℤ-le den won (m.den *ℤ right_of s set) (some den positive) (had-le s m set sale shaped mechanism) in
    let both : (m.den *ℤ demands_in s (number_at odds) set) ≤ℤ (m.den *ℤ (den *ℤ right_of s set)) =
    subst (λ z. z ≤ℤ (m.den *ℤ (den *ℤ right_of s set))) (sym (demands-had s m den odds set has))
    (subst (λ z. (den *ℤ won) ≤ℤ z) (*ℤ_left_comm den m.den (right_of s set)) at_most) in
    negative (demands_in s (number_at odds) set) (den *ℤ right_of s set) (le_from_*ℤ m.den (demands_in s (number_at odds) set) (den *ℤ right_of s set) (above m.den mechanism.den) both)
  where
    some : (z : ℤ) → pos 1 ≤ℤ z → pos 0 ≤ℤ z
    some z l = omega (arith, ints, l)

    above : (z : ℤ) → pos 1 ≤ℤ z → pos 0 <ℤ z
    above z l = omega (arith, ints, l)

    negative : (x y : ℤ) → x ≤ℤ y → (x -ℤ y) ≤ℤ pos 0
    negative x y l = omega (arith, linear, l)

pub no_mechanism : (s : GeneralSetting) (m : Mechanism) (den : ℤ) (odds : List ℤ) (set : ℕ) → IsSale s → IsShaped s → pos 1 ≤ℤ den → IsWorstSet s den odds set → IsMechanism s m → HasOdds s m den odds → ⊥
no_mechanism s m den odds set sale shaped positive worst mechanism has = worst-over (pairs_of s) (excess_of s den odds) set worst (border s m den odds set sale shaped positive mechanism has)
