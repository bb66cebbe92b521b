-- The cost that is written down is what a bidder adds to the objective.
use Rattle.std.proofs.Common.{◌≡◌, ℕ, ◌+◌, ◌*◌, ◌<◌, ◌^◌, ℤ, pos, ◌+ℤ◌, ◌-ℤ◌, ◌*ℤ◌, neg_ℤ, ◌++◌, length, sym, ap, ap₂, ◌∙◌, subst, arith, length-append}
use Rattle.std.specs.Prelude.{slice_index}
use Rattle.std.proofs.lemmas.List.{get_or_append_left}
use Rattle.std.proofs.lemmas.List.Elements.{All-append, All-get_or}
use Rattle.md_math.specs.Lists.{number_at}
use Rattle.md_math.specs.Sizes.{IsWithin, AllWithin}
use Rattle.md_math.specs.Sums.{sum_to, dot}
use Rattle.md_math.proofs.Builders.{length-list_to, get_or-list_to, All-list_to, number_at-behind}
use Rattle.md_math.proofs.Ring.{linear, *ℤ-+ℤ, *ℤ_assoc, both-parts}
use Rattle.md_math.proofs.SizeLaws.{IsWithin-*ℤ, IsWithin-wider}
use Rattle.md_math.proofs.SumLaws.{sum_to-same, sum_to-+ℤ, sum_to-join}
use Rattle.md_setting.specs.Auction.{SymmetricAuction, value_count}
use Rattle.md_setting.specs.AuctionShaped.{IsAuction}
use Rattle.md_lp.specs.Program.{Program}
use Rattle.md_lp.specs.Divided.{IsDivisorFor, HasDividedCost}
use Rattle.md_forms.specs.Forms.{unit}
use Rattle.md_forms.specs.ProgramOf.{HasCostOf}
use Rattle.md_forms.proofs.BuiltLaws.{divisor-below}
use Rattle.md_forms.proofs.OneProgram.{unit-dot}
use Rattle.md_border.specs.Worth.{surplus_of}
use Rattle.md_border.proofs.WorthLaws.{surplus-within, revenue-within}
use Rattle.md_reduced.specs.Costs.{odds_cost, odds_costs, pay_cost, pay_costs, written_cost}
use Rattle.md_reduced.specs.ProgramOf.{column_count}
use Rattle.md_reduced.specs.Sides.{pay_in, cost_of}

-- ---- the list

three : (k : ℕ) → 3 * k ≡ (k + k) + k
three k = omega arith

both-length : (a : SymmetricAuction) → length (odds_costs a ++ pay_costs a (pos 1)) ≡ value_count a + value_count a
both-length a =
    length-append (odds_costs a) (pay_costs a (pos 1)) ∙ ap₂ (λ m n. m + n) (length-list_to (value_count a) (odds_cost a)) (length-list_to (value_count a) (pay_cost a (pos 1)))

pub cost-length : (a : SymmetricAuction) → length (written_cost a) ≡ column_count a
cost-length a =
    length-append (odds_costs a ++ pay_costs a (pos 1)) (pay_costs a (neg_ℤ (pos 1)))
    ∙ ap₂ (λ m n. m + n) (both-length a) (length-list_to (value_count a) (pay_cost a (neg_ℤ (pos 1)))) ∙ sym (three (value_count a))

odds-number : (a : SymmetricAuction) (v : ℕ) → v < value_count a → number_at (written_cost a) v ≡ odds_cost a v
odds-number a v h =
    get_or_append_left (odds_costs a ++ pay_costs a (pos 1)) (pay_costs a (neg_ℤ (pos 1))) (pos 0) v (omega (arith, h, both-length a))
    ∙ get_or_append_left (odds_costs a) (pay_costs a (pos 1)) (pos 0) v (omega (arith, h, length-list_to (value_count a) (odds_cost a)))
    ∙ get_or-list_to (value_count a) (odds_cost a) v (pos 0) h

plus-number : (a : SymmetricAuction) (v : ℕ) → v < value_count a → number_at (written_cost a) (value_count a + v) ≡ pay_cost a (pos 1) v
plus-number a v h =
    get_or_append_left (odds_costs a ++ pay_costs a (pos 1)) (pay_costs a (neg_ℤ (pos 1))) (pos 0) (value_count a + v) (omega (arith, h, both-length a))
    ∙ number_at-behind (odds_costs a) (pay_costs a (pos 1)) (value_count a) v (length-list_to (value_count a) (odds_cost a))
    ∙ get_or-list_to (value_count a) (pay_cost a (pos 1)) v (pos 0) h

minus-number : (a : SymmetricAuction) (v : ℕ) → v < value_count a → number_at (written_cost a) ((value_count a + value_count a) + v) ≡ pay_cost a (neg_ℤ (pos 1)) v
minus-number a v h =
    number_at-behind (odds_costs a ++ pay_costs a (pos 1)) (pay_costs a (neg_ℤ (pos 1))) (value_count a + value_count a) v (both-length a)
    ∙ get_or-list_to (value_count a) (pay_cost a (neg_ℤ (pos 1))) v (pos 0) h

-- ---- the sum

one-value : (w s q r p m : ℤ) → ((w *ℤ s) *ℤ q +ℤ (pos 1 *ℤ (w *ℤ r)) *ℤ p) +ℤ (neg_ℤ (pos 1) *ℤ (w *ℤ r)) *ℤ m ≡ w *ℤ (s *ℤ q +ℤ r *ℤ (p -ℤ m))
one-value w s q r p m = omega (arith, linear, both-parts w r p m, *ℤ_assoc w s q, *ℤ-+ℤ w (s *ℤ q) (r *ℤ (p -ℤ m)))

pub written-cost : (a : SymmetricAuction) (x : ℕ → ℤ) → dot (column_count a) (number_at (written_cost a)) x ≡ cost_of a x
written-cost a x =
    ap (λ n. sum_to n all) (three k)
    ∙ sum_to-join (k + k) k all
    ∙ ap (λ z. z +ℤ sum_to k (λ v. all ((k + k) + v))) (sum_to-join k k all ∙ sym (sum_to-+ℤ k all (λ v. all (k + v))))
    ∙ sym (sum_to-+ℤ k (λ v. all v +ℤ all (k + v)) (λ v. all ((k + k) + v)))
    ∙ sum_to-same k (λ v. (all v +ℤ all (k + v)) +ℤ all ((k + k) + v)) (λ v. pos (slice_index a.weights v) *ℤ (surplus_of a v *ℤ x v +ℤ a.revenue *ℤ pay_in a x v)) at
  where
    k : ℕ
    k = value_count a

    all : ℕ → ℤ
    all j = number_at (written_cost a) j *ℤ x j

    at : (v : ℕ) → v < k → (all v +ℤ all (k + v)) +ℤ all ((k + k) + v) ≡ pos (slice_index a.weights v) *ℤ (surplus_of a v *ℤ x v +ℤ a.revenue *ℤ pay_in a x v)
    at v h =
        let place : (k + k) + v ≡ 2 * k + v = omega arith in
        ap₂ (λ y z. y +ℤ z) (ap₂ (λ y z. y *ℤ x v +ℤ z *ℤ x (k + v)) (odds-number a v h) (plus-number a v h)) (ap₂ (λ y j. y *ℤ x j) (minus-number a v h) place)
        ∙ one-value (pos (slice_index a.weights v)) (surplus_of a v) (x v) a.revenue (x (k + v)) (x (2 * k + v))

-- ---- its numbers

-- each number of the written cost is the cost at its column
written-number : (a : SymmetricAuction) (j : ℕ) → j < column_count a → number_at (written_cost a) j ≡ cost_of a (unit j)
written-number a j h = sym (unit-dot (column_count a) j (number_at (written_cost a)) h) ∙ written-cost a (unit j)

pub weight-within : (a : SymmetricAuction) (v : ℕ) → IsAuction a → v < value_count a → IsWithin 1000000 (pos (slice_index a.weights v))
weight-within a v shaped h = record { within = (shaped.weight v h).1 }

odds-within : (a : SymmetricAuction) (v : ℕ) → IsAuction a → v < value_count a → IsWithin (2 ^ 44) (odds_cost a v)
odds-within a v shaped h =
    IsWithin-wider (1000000 * 11000000) (2 ^ 44) (odds_cost a v) (omega arith)
    (IsWithin-*ℤ 1000000 11000000 (pos (slice_index a.weights v)) (surplus_of a v) (weight-within a v shaped h) (surplus-within a v shaped h))

pay-within : (a : SymmetricAuction) (sign : ℤ) (v : ℕ) → IsAuction a → v < value_count a → IsWithin 1 sign → IsWithin (2 ^ 44) (pay_cost a sign v)
pay-within a sign v shaped h small =
    IsWithin-wider (1 * (1000000 * 1000)) (2 ^ 44) (pay_cost a sign v) (omega arith)
    (IsWithin-*ℤ 1 (1000000 * 1000) sign (pos (slice_index a.weights v) *ℤ a.revenue) small
    (IsWithin-*ℤ 1000000 1000 (pos (slice_index a.weights v)) a.revenue (weight-within a v shaped h) (revenue-within a shaped)))

pub cost-within : (a : SymmetricAuction) → IsAuction a → AllWithin (2 ^ 44) (written_cost a)
cost-within a shaped = record {
  at = λ k l. All-get_or (IsWithin (2 ^ 44)) (written_cost a) k (pos 0) l
      (All-append (IsWithin (2 ^ 44)) (odds_costs a ++ pay_costs a (pos 1)) (pay_costs a (neg_ℤ (pos 1)))
      (All-append (IsWithin (2 ^ 44)) (odds_costs a) (pay_costs a (pos 1))
      (All-list_to (IsWithin (2 ^ 44)) (value_count a) (odds_cost a) (λ v h. odds-within a v shaped h))
      (All-list_to (IsWithin (2 ^ 44)) (value_count a) (pay_cost a (pos 1)) (λ v h. pay-within a (pos 1) v shaped h (record { within = omega arith }))))
      (All-list_to (IsWithin (2 ^ 44)) (value_count a) (pay_cost a (neg_ℤ (pos 1))) (λ v h. pay-within a (neg_ℤ (pos 1)) v shaped h (record { within = omega arith }))));
}

-- the program with the written cost, divided
pub has-cost : (a : SymmetricAuction) (p : Program) → HasDividedCost (column_count a) (written_cost a) p → HasCostOf (column_count a) (cost_of a) p
has-cost a p h = record {
  factor = divisor-below (column_count a) (number_at (written_cost a)) (λ j. cost_of a (unit j)) p.factor (λ k l. written-number a k l)
      (subst (λ n. IsDivisorFor n (number_at (written_cost a)) p.factor) (cost-length a) h.divisor);
  cost_is = λ x. sym (written-cost a x) ∙ h.cost_is x;
}
