-- The cost that is written down is what the pairs add to the objective.
use Rattle.std.proofs.Common.{◌≡◌, ℕ, ◌+◌, ◌*◌, ◌<◌, ◌≤◌, ◌^◌, unsigned_abs, mul-le-mul, ℤ, pos, ◌+ℤ◌, ◌-ℤ◌, ◌*ℤ◌, neg_ℤ, ◌++◌, length, sym, ap, ap₂, ◌∙◌, subst, arith, length-append}
use Rattle.std.proofs.lemmas.List.{get_or_append_left}
use Rattle.std.proofs.lemmas.List.Elements.{All-append, All-get_or}
use Rattle.md_math.specs.Lists.{number_at}
use Rattle.md_math.specs.Sizes.{IsWithin, AllWithin}
use Rattle.md_math.specs.Sums.{sum_to, dot}
use Rattle.md_math.proofs.Builders.{length-list_to, get_or-list_to, All-list_to, number_at-behind}
use Rattle.md_math.proofs.Ring.{linear, *ℤ-+ℤ, *ℤ_assoc, both-parts}
use Rattle.md_math.proofs.SizeLaws.{IsWithin-*ℤ, IsWithin-wider}
use Rattle.md_math.proofs.SumLaws.{sum_to-same, sum_to-+ℤ, sum_to-join}
use Rattle.md_setting.specs.Setting.{GeneralSetting}
use Rattle.md_setting.specs.Meaning.{sizes_of}
use Rattle.md_setting.specs.Shaped.{IsShaped}
use Rattle.md_setting.proofs.MarginalLaws.{marginal-small}
use Rattle.md_lp.specs.Program.{Program}
use Rattle.md_lp.specs.Divided.{IsDivisorFor, HasDividedCost}
use Rattle.md_forms.specs.Forms.{unit}
use Rattle.md_forms.specs.ProgramOf.{HasCostOf}
use Rattle.md_forms.proofs.BuiltLaws.{divisor-below}
use Rattle.md_forms.proofs.OneProgram.{unit-dot}
use Rattle.md_mech.proofs.CountLaws.{agents-length}
use Rattle.md_asym_sale.specs.Costs.{odds_cost, odds_costs, pay_cost, pay_costs, written_cost}
use Rattle.md_asym_sale.specs.ProgramOf.{column_count}
use Rattle.md_asym_sale.specs.Forms.{pay_in, cost_of}
use Rattle.md_asym_sale.specs.Pairs.{agent_of, kind_of}
use Rattle.md_asym_sale.specs.Sale.{IsSale}
use Rattle.md_asym_sale.specs.Values.{pairs_of, marginal_at, surplus_at}
use Rattle.md_asym_sale.proofs.PairLaws.{pair-in}
use Rattle.md_asym_sale.proofs.SaleLaws.{surplus-within}

-- ---- the list

three : (k : ℕ) → 3 * k ≡ (k + k) + k
three k = omega arith

both-length : (s : GeneralSetting) → length (odds_costs s ++ pay_costs s (pos 1)) ≡ pairs_of s + pairs_of s
both-length s =
    length-append (odds_costs s) (pay_costs s (pos 1)) ∙ ap₂ (λ m n. m + n) (length-list_to (pairs_of s) (odds_cost s)) (length-list_to (pairs_of s) (pay_cost s (pos 1)))

pub cost-length : (s : GeneralSetting) → length (written_cost s) ≡ column_count s
cost-length s =
    length-append (odds_costs s ++ pay_costs s (pos 1)) (pay_costs s (neg_ℤ (pos 1)))
    ∙ ap₂ (λ m n. m + n) (both-length s) (length-list_to (pairs_of s) (pay_cost s (neg_ℤ (pos 1)))) ∙ sym (three (pairs_of s))

odds-number : (s : GeneralSetting) (v : ℕ) → v < pairs_of s → number_at (written_cost s) v ≡ odds_cost s v
odds-number s v h =
    get_or_append_left (odds_costs s ++ pay_costs s (pos 1)) (pay_costs s (neg_ℤ (pos 1))) (pos 0) v (omega (arith, h, both-length s))
    ∙ get_or_append_left (odds_costs s) (pay_costs s (pos 1)) (pos 0) v (omega (arith, h, length-list_to (pairs_of s) (odds_cost s)))
    ∙ get_or-list_to (pairs_of s) (odds_cost s) v (pos 0) h

plus-number : (s : GeneralSetting) (v : ℕ) → v < pairs_of s → number_at (written_cost s) (pairs_of s + v) ≡ pay_cost s (pos 1) v
plus-number s v h =
    get_or_append_left (odds_costs s ++ pay_costs s (pos 1)) (pay_costs s (neg_ℤ (pos 1))) (pos 0) (pairs_of s + v) (omega (arith, h, both-length s))
    ∙ number_at-behind (odds_costs s) (pay_costs s (pos 1)) (pairs_of s) v (length-list_to (pairs_of s) (odds_cost s))
    ∙ get_or-list_to (pairs_of s) (pay_cost s (pos 1)) v (pos 0) h

minus-number : (s : GeneralSetting) (v : ℕ) → v < pairs_of s → number_at (written_cost s) ((pairs_of s + pairs_of s) + v) ≡ pay_cost s (neg_ℤ (pos 1)) v
minus-number s v h =
    number_at-behind (odds_costs s ++ pay_costs s (pos 1)) (pay_costs s (neg_ℤ (pos 1))) (pairs_of s + pairs_of s) v (both-length s)
    ∙ get_or-list_to (pairs_of s) (pay_cost s (neg_ℤ (pos 1))) v (pos 0) h

-- ---- the sum

one-value : (w s q r p m : ℤ) → ((w *ℤ s) *ℤ q +ℤ (pos 1 *ℤ (w *ℤ r)) *ℤ p) +ℤ (neg_ℤ (pos 1) *ℤ (w *ℤ r)) *ℤ m ≡ w *ℤ (s *ℤ q +ℤ r *ℤ (p -ℤ m))
one-value w s q r p m = omega (arith, linear, both-parts w r p m, *ℤ_assoc w s q, *ℤ-+ℤ w (s *ℤ q) (r *ℤ (p -ℤ m)))

pub written-cost : (s : GeneralSetting) (x : ℕ → ℤ) → dot (column_count s) (number_at (written_cost s)) x ≡ cost_of s x
written-cost s x =
    ap (λ n. sum_to n all) (three k)
    ∙ sum_to-join (k + k) k all
    ∙ ap (λ z. z +ℤ sum_to k (λ v. all ((k + k) + v))) (sum_to-join k k all ∙ sym (sum_to-+ℤ k all (λ v. all (k + v))))
    ∙ sym (sum_to-+ℤ k (λ v. all v +ℤ all (k + v)) (λ v. all ((k + k) + v)))
    ∙ sum_to-same k (λ v. (all v +ℤ all (k + v)) +ℤ all ((k + k) + v)) (λ v. marginal_at s v *ℤ (surplus_at s v *ℤ x v +ℤ s.revenue *ℤ pay_in s x v)) at
  where
    k : ℕ
    k = pairs_of s

    all : ℕ → ℤ
    all j = number_at (written_cost s) j *ℤ x j

    at : (v : ℕ) → v < k → (all v +ℤ all (k + v)) +ℤ all ((k + k) + v) ≡ marginal_at s v *ℤ (surplus_at s v *ℤ x v +ℤ s.revenue *ℤ pay_in s x v)
    at v h =
        let place : (k + k) + v ≡ 2 * k + v = omega arith in
        ap₂ (λ y z. y +ℤ z) (ap₂ (λ y z. y *ℤ x v +ℤ z *ℤ x (k + v)) (odds-number s v h) (plus-number s v h)) (ap₂ (λ y j. y *ℤ x j) (minus-number s v h) place)
        ∙ one-value (marginal_at s v) (surplus_at s v) (x v) s.revenue (x (k + v)) (x (2 * k + v))

-- ---- its numbers

-- each number of the written cost is the cost at its column
written-number : (s : GeneralSetting) (j : ℕ) → j < column_count s → number_at (written_cost s) j ≡ cost_of s (unit j)
written-number s j h = sym (unit-dot (column_count s) j (number_at (written_cost s)) h) ∙ written-cost s (unit j)

odds-within : (s : GeneralSetting) (p : ℕ) → IsSale s → IsShaped s → p < pairs_of s → IsWithin (2 ^ 44) (odds_cost s p)
odds-within s p sale shaped h =
    let (agent, kind) = pair-in (sizes_of s) p h in
    let surplus : IsWithin 11000000 (surplus_at s p) = surplus-within s (agent_of (sizes_of s) p) (kind_of (sizes_of s) p) sale shaped (omega (arith, agent, agents-length s)) kind in
    IsWithin-wider (1000000 * 11000000) (2 ^ 44) (odds_cost s p) (omega arith) (IsWithin-*ℤ 1000000 11000000 (marginal_at s p) (surplus_at s p) (marginal-small s (agent_of (sizes_of s) p) (kind_of (sizes_of s) p) shaped) surplus)

pay-within : (s : GeneralSetting) (sign : ℤ) (p : ℕ) → IsShaped s → p < pairs_of s → IsWithin 1 sign → IsWithin (2 ^ 44) (pay_cost s sign p)
pay-within s sign p shaped h small =
    IsWithin-wider (1 * (1000000 * 1000)) (2 ^ 44) (pay_cost s sign p) (omega arith)
    (IsWithin-*ℤ 1 (1000000 * 1000) sign (marginal_at s p *ℤ s.revenue) small
    (IsWithin-*ℤ 1000000 1000 (marginal_at s p) s.revenue (marginal-small s (agent_of (sizes_of s) p) (kind_of (sizes_of s) p) shaped) shaped.small.revenue))

pub cost-within : (s : GeneralSetting) → IsSale s → IsShaped s → AllWithin (2 ^ 44) (written_cost s)
cost-within s sale shaped = record {
  at = λ k l. All-get_or (IsWithin (2 ^ 44)) (written_cost s) k (pos 0) l
      (All-append (IsWithin (2 ^ 44)) (odds_costs s ++ pay_costs s (pos 1)) (pay_costs s (neg_ℤ (pos 1)))
      (All-append (IsWithin (2 ^ 44)) (odds_costs s) (pay_costs s (pos 1))
      (All-list_to (IsWithin (2 ^ 44)) (pairs_of s) (odds_cost s) (λ v h. odds-within s v sale shaped h))
      (All-list_to (IsWithin (2 ^ 44)) (pairs_of s) (pay_cost s (pos 1)) (λ v h. pay-within s (pos 1) v shaped h (record { within = omega arith }))))
      (All-list_to (IsWithin (2 ^ 44)) (pairs_of s) (pay_cost s (neg_ℤ (pos 1))) (λ v h. pay-within s (neg_ℤ (pos 1)) v shaped h (record { within = omega arith }))));
}

-- the program with the written cost, divided
pub has-cost : (s : GeneralSetting) (p : Program) → HasDividedCost (column_count s) (written_cost s) p → HasCostOf (column_count s) (cost_of s) p
has-cost s p h = record {
  factor = divisor-below (column_count s) (number_at (written_cost s)) (λ j. cost_of s (unit j)) p.factor (λ k l. written-number s k l)
      (subst (λ n. IsDivisorFor n (number_at (written_cost s)) p.factor) (cost-length s) h.divisor);
  cost_is = λ x. sym (written-cost s x) ∙ h.cost_is x;
}

-- ---- sizes

-- a weight times the factor of the payments, with a sign
pub pay-fits : (sign m r p : ℤ) → IsWithin 1 sign → IsWithin 1000000 m → IsWithin 1000 r → p ≡ m *ℤ r → unsigned_abs sign * unsigned_abs p < 2 ^ 126
pay-fits sign m r p one weight factor e =
    let paid : IsWithin (1000000 * 1000) p = subst (IsWithin (1000000 * 1000)) (sym e) (IsWithin-*ℤ 1000000 1000 m r weight factor) in
    let both : unsigned_abs sign * unsigned_abs p ≤ 1 * (1000000 * 1000) = mul-le-mul one.within paid.within in
    omega (arith, both)
