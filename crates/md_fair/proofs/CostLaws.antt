-- The cost that is written down is the level.
use Rattle.std.proofs.Common.{◌≡◌, ℕ, ◌+◌, ◌<◌, ◌^◌, ℤ, pos, ◌+ℤ◌, ◌-ℤ◌, ◌*ℤ◌, neg_ℤ, [], ◌∷◌, length, sym, ap, ◌∙◌, subst, arith, length-append}
use Rattle.std.proofs.lemmas.List.{get_or_append_left}
use Rattle.std.proofs.lemmas.List.Elements.{All-append, All-get_or}
use Rattle.md_math.specs.Lists.{number_at, list_to}
use Rattle.md_math.specs.Sizes.{IsWithin, AllWithin}
use Rattle.md_math.specs.Sums.{sum_to, dot}
use Rattle.md_math.proofs.Builders.{length-list_to, get_or-list_to, All-list_to, number_at-behind}
use Rattle.md_math.proofs.Ring.{linear, ring, zero-*ℤ}
use Rattle.md_math.proofs.SizeLaws.{IsWithin-zero}
use Rattle.md_math.proofs.SumLaws.{sum_to-zero, sum_to-more}
use Rattle.md_setting.specs.Setting.{GeneralSetting}
use Rattle.md_setting.specs.Rows.{column_count}
use Rattle.md_lp.specs.Program.{Program}
use Rattle.md_lp.specs.Divided.{IsDivisorFor, HasDividedCost}
use Rattle.md_forms.specs.Forms.{unit}
use Rattle.md_forms.specs.ProgramOf.{HasCostOf}
use Rattle.md_forms.proofs.BuiltLaws.{divisor-below}
use Rattle.md_forms.proofs.OneProgram.{unit-dot}
use Rattle.md_forms.proofs.PointLaws.{all-one}
use Rattle.md_fair.specs.Costs.{written_cost}
use Rattle.md_fair.specs.FairProgram.{level_in}

pub cost-length : (s : GeneralSetting) → length (written_cost s) ≡ column_count s + 2
cost-length s = length-append (list_to (column_count s) (λ _. pos 0)) (pos 1 ∷ neg_ℤ (pos 1) ∷ []) ∙ ap (λ n. n + 2) (length-list_to (column_count s) (λ _. pos 0))

own-number : (s : GeneralSetting) (j : ℕ) → j < column_count s → number_at (written_cost s) j ≡ pos 0
own-number s j l =
    get_or_append_left (list_to (column_count s) (λ _. pos 0)) (pos 1 ∷ neg_ℤ (pos 1) ∷ []) (pos 0) j (rw (length-list_to {X = ℤ} (column_count s) (λ _. pos 0)) l)
    ∙ get_or-list_to (column_count s) (λ _. pos 0) j (pos 0) l

plus-number : (s : GeneralSetting) → number_at (written_cost s) (column_count s) ≡ pos 1
plus-number s =
    let start : column_count s ≡ column_count s + 0 = omega arith in
    ap (number_at (written_cost s)) start
    ∙ number_at-behind (list_to (column_count s) (λ _. pos 0)) (pos 1 ∷ neg_ℤ (pos 1) ∷ []) (column_count s) 0 (length-list_to (column_count s) (λ _. pos 0))

minus-number : (s : GeneralSetting) → number_at (written_cost s) (column_count s + 1) ≡ neg_ℤ (pos 1)
minus-number s = number_at-behind (list_to (column_count s) (λ _. pos 0)) (pos 1 ∷ neg_ℤ (pos 1) ∷ []) (column_count s) 1 (length-list_to (column_count s) (λ _. pos 0))

written-cost : (s : GeneralSetting) (x : ℕ → ℤ) → dot (column_count s + 2) (number_at (written_cost s)) x ≡ level_in s x
written-cost s x =
    let n = column_count s in
    let two : n + 2 ≡ (n + 1) + 1 = omega arith in
    let f = λ (j : ℕ). number_at (written_cost s) j *ℤ x j in
    let own : sum_to n f ≡ pos 0 = sum_to-zero n f (λ j l. ap (λ z. z *ℤ x j) (own-number s j l) ∙ zero-*ℤ (x j)) in
    let plus : f n ≡ pos 1 *ℤ x n = ap (λ z. z *ℤ x n) (plus-number s) in
    let minus : f (n + 1) ≡ neg_ℤ (pos 1) *ℤ x (n + 1) = ap (λ z. z *ℤ x (n + 1)) (minus-number s) in
    ap (λ k. sum_to k f) two ∙ sum_to-more (n + 1) f ∙ ap (λ z. z +ℤ f (n + 1)) (sum_to-more n f) ∙ rw (own, plus, minus) (level (x n) (x (n + 1)))
  where
    level : (p q : ℤ) → (pos 0 +ℤ pos 1 *ℤ p) +ℤ neg_ℤ (pos 1) *ℤ q ≡ p -ℤ q
    level p q = simp ring (omega (arith, linear))

written-number : (s : GeneralSetting) (j : ℕ) → j < column_count s + 2 → number_at (written_cost s) j ≡ level_in s (unit j)
written-number s j h = sym (unit-dot (column_count s + 2) j (number_at (written_cost s)) h) ∙ written-cost s (unit j)

pub cost-within : (s : GeneralSetting) → AllWithin (2 ^ 44) (written_cost s)
cost-within s = record {
  at = λ k l. All-get_or (IsWithin (2 ^ 44)) (written_cost s) k (pos 0) l
      (All-append (IsWithin (2 ^ 44)) (list_to (column_count s) (λ _. pos 0)) (pos 1 ∷ neg_ℤ (pos 1) ∷ [])
      (All-list_to (IsWithin (2 ^ 44)) (column_count s) (λ _. pos 0) (λ j b. IsWithin-zero (2 ^ 44)))
      (All-append (IsWithin (2 ^ 44)) (pos 1 ∷ []) (neg_ℤ (pos 1) ∷ [])
      (all-one (IsWithin (2 ^ 44)) (pos 1) (record { within = omega arith })) (all-one (IsWithin (2 ^ 44)) (neg_ℤ (pos 1)) (record { within = omega arith }))));
}

-- the program with the written cost
pub has-cost : (s : GeneralSetting) (p : Program) → HasDividedCost (column_count s + 2) (written_cost s) p → HasCostOf (column_count s + 2) (level_in s) p
has-cost s p h = record {
  factor = divisor-below (column_count s + 2) (number_at (written_cost s)) (λ j. level_in s (unit j)) p.factor (λ k l. written-number s k l)
      (subst (λ n. IsDivisorFor n (number_at (written_cost s)) p.factor) (cost-length s) h.divisor);
  cost_is = λ x. sym (written-cost s x) ∙ h.cost_is x;
}
