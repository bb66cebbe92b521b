-- The cost that is written down is the designer's objective.
use Rattle.std.proofs.Common.{◌≡◌, ℕ, ◌+◌, ◌-◌, ◌*◌, ◌<◌, ◌^◌, Bool, true, false, ℤ, pos, ◌+ℤ◌, ◌-ℤ◌, ◌*ℤ◌, neg_ℤ, List, ◌++◌, length, All, refl, sym, ap, ◌∙◌, subst, arith, length-append}
use Rattle.std.proofs.lemmas.List.{length-map, get_or_append_left, get_or-append_right}
use Rattle.std.proofs.lemmas.List.Elements.{All-append, All-nil, All-get_or}
use Rattle.md_math.specs.Lists.{number_at, list_to, up_to}
use Rattle.md_math.specs.Sizes.{IsWithin, AllWithin}
use Rattle.md_math.specs.Sums.{sum_to, dot}
use Rattle.md_math.proofs.Builders.{length-list_to, get_or-list_to, All-list_to, length-up_to, All-up_to, get_or-up_to}
use Rattle.md_math.proofs.Ring.{linear, *ℤ-+ℤ, *ℤ-neg_ℤ, neg_ℤ-*ℤ, *ℤ_assoc, one-*ℤ, both-parts, *ℤ-zero}
use Rattle.md_math.proofs.SizeLaws.{IsWithin-*ℤ, IsWithin-wider}
use Rattle.md_math.proofs.SumLaws.{sum_to-same, sum_to-zero, sum_to-+ℤ, sum_to-*ℤ, sum_to-swap, sum_to-join, sum_to-nested}
use Rattle.md_space.specs.Profiles.{profile_count, profile_at}
use Rattle.md_space.proofs.InOrder.{total_by-profiles}
use Rattle.md_space.proofs.Ranks.{profile_at-IsProfile}
use Rattle.md_setting.specs.Setting.{GeneralSetting}
use Rattle.md_setting.specs.Meaning.{agent_count, outcome_count, sizes_of, weight_of, value_of}
use Rattle.md_setting.specs.Rows.{column_count, payment_columns}
use Rattle.md_setting.specs.Shaped.{IsShaped}
use Rattle.md_lp.specs.Program.{Program}
use Rattle.md_lp.specs.Divided.{IsDivisorFor, HasDividedCost}
use Rattle.md_forms.specs.Forms.{unit}
use Rattle.md_forms.specs.ProgramOf.{HasCostOf}
use Rattle.md_forms.proofs.BuiltLaws.{divisor-below}
use Rattle.md_forms.proofs.OneProgram.{unit-dot}
use Rattle.md_rows.specs.Columns.{chance_column, plus_column, minus_column, first_plus, first_minus, payment_in}
use Rattle.md_rows.specs.Sides.{objective_in, cost_in}
use Rattle.md_rows.specs.ProgramOf.{cost_of}
use Rattle.md_rows.specs.Costs.{chance_costs_at, chance_costs, revenue_cost, revenue_costs_of, revenue_costs, payment_costs, written_cost}
use Rattle.md_rows.proofs.FormLaws.{chance-at_rank, plus-at_rank, minus-at_rank, payment-on, payment-off}

-- ---- sums over lists of costs

-- the costs of a list that begins at a column, each times the number of its column
abbrev pub costs_at : List ℤ → ℕ → (ℕ → ℤ) → ℤ
costs_at xs start x = sum_to (length xs) (λ j. number_at xs j *ℤ x (start + j))

costs-append : (xs ys : List ℤ) (start : ℕ) (x : ℕ → ℤ) → costs_at (xs ++ ys) start x ≡ costs_at xs start x +ℤ costs_at ys (start + length xs) x
costs-append xs ys start x =
    ap (λ n. sum_to n (λ j. number_at (xs ++ ys) j *ℤ x (start + j))) (length-append xs ys)
    ∙ sum_to-join (length xs) (length ys) (λ j. number_at (xs ++ ys) j *ℤ x (start + j))
    ∙ rw (left, right) refl
  where
    left : sum_to (length xs) (λ j. number_at (xs ++ ys) j *ℤ x (start + j)) ≡ costs_at xs start x
    left = sum_to-same (length xs) (λ j. number_at (xs ++ ys) j *ℤ x (start + j)) (λ j. number_at xs j *ℤ x (start + j))
        (λ j l. ap (λ z. z *ℤ x (start + j)) (get_or_append_left xs ys (pos 0) j l))

    right : sum_to (length ys) (λ j. number_at (xs ++ ys) (length xs + j) *ℤ x (start + (length xs + j))) ≡ costs_at ys (start + length xs) x
    right = sum_to-same (length ys) (λ j. number_at (xs ++ ys) (length xs + j) *ℤ x (start + (length xs + j))) (λ j. number_at ys j *ℤ x ((start + length xs) + j))
        (λ j l.
        let back : length xs + j - length xs ≡ j = omega arith in
        let same : start + (length xs + j) ≡ (start + length xs) + j = omega arith in
        rw (same, get_or-append_right xs ys (length xs) (length xs + j) (pos 0) refl (omega arith), back) refl)

-- the costs of rows of one width
costs-nested : (m w : ℕ) (f : ℕ → ℕ → ℤ) (start : ℕ) (x : ℕ → ℤ)
    → costs_at (up_to m (λ r. list_to w (f r))) start x ≡ sum_to m (λ r. sum_to w (λ o. f r o *ℤ x (start + (r * w + o))))
costs-nested m w f start x =
    ap (λ n. sum_to n (λ j. number_at xs j *ℤ x (start + j))) (length-up_to m w (λ r. list_to w (f r)) long)
    ∙ sum_to-nested m w (λ j. number_at xs j *ℤ x (start + j))
    ∙ sum_to-same m (λ r. sum_to w (λ o. number_at xs (r * w + o) *ℤ x (start + (r * w + o)))) (λ r. sum_to w (λ o. f r o *ℤ x (start + (r * w + o))))
    (λ r h. sum_to-same w (λ o. number_at xs (r * w + o) *ℤ x (start + (r * w + o))) (λ o. f r o *ℤ x (start + (r * w + o)))
    (λ o l. ap (λ z. z *ℤ x (start + (r * w + o))) (get_or-up_to m w r o (λ k. list_to w (f k)) (pos 0) long h l ∙ get_or-list_to w (f r) o (pos 0) l)))
  where
    xs : List ℤ
    xs = up_to m (λ r. list_to w (f r))

    long : (k : ℕ) → k < m → length (list_to w (f k)) ≡ w
    long k h = length-list_to w (f k)

-- ---- the written cost

agents-length : (s : GeneralSetting) → length (sizes_of s) ≡ agent_count s
agents-length s = length-map s.agents (λ agent. length agent.types)

chance-length : (s : GeneralSetting) → length (chance_costs s) ≡ first_plus s
chance-length s = length-up_to (profile_count (sizes_of s)) (outcome_count s) (chance_costs_at s) (λ r h. length-list_to (outcome_count s) (λ o. weight_of s (profile_at (sizes_of s) r) *ℤ value_of s (profile_at (sizes_of s) r) o))

revenue-length : (s : GeneralSetting) (sign : ℤ) → length (revenue_costs s sign) ≡ agent_count s * profile_count (sizes_of s)
revenue-length s sign = length-up_to (agent_count s) (profile_count (sizes_of s)) (λ _. revenue_costs_of s sign) (λ i h. length-list_to (profile_count (sizes_of s)) (revenue_cost s sign))

payment-length : (on : Bool) (s : GeneralSetting) → length (payment_costs on s) ≡ payment_columns on (sizes_of s)
payment-length true s =
    length-append (revenue_costs s (pos 1)) (revenue_costs s (neg_ℤ (pos 1)))
    ∙ rw (revenue-length s (pos 1), revenue-length s (neg_ℤ (pos 1)), agents-length s) (omega arith)
payment-length false s = refl

pub cost-length : (s : GeneralSetting) → length (written_cost s) ≡ column_count s
cost-length s = length-append (chance_costs s) (payment_costs s.payments s) ∙ rw (chance-length s, payment-length s.payments s) refl

-- the chances' part, by profile
chances-part : (s : GeneralSetting) (x : ℕ → ℤ)
    → costs_at (chance_costs s) 0 x
    ≡ sum_to (profile_count (sizes_of s)) (λ r. weight_of s (profile_at (sizes_of s) r) *ℤ sum_to (outcome_count s) (λ o. value_of s (profile_at (sizes_of s) r) o *ℤ x (chance_column s (profile_at (sizes_of s) r) o)))
chances-part s x =
    costs-nested n (outcome_count s) (λ r o. w r *ℤ value_of s (at r) o) 0 x
    ∙ sum_to-same n (λ r. sum_to (outcome_count s) (λ o. (w r *ℤ value_of s (at r) o) *ℤ x (0 + (r * outcome_count s + o)))) (λ r. w r *ℤ sum_to (outcome_count s) (λ o. value_of s (at r) o *ℤ x (chance_column s (at r) o)))
    (λ r h. sum_to-same (outcome_count s) (λ o. (w r *ℤ value_of s (at r) o) *ℤ x (0 + (r * outcome_count s + o))) (λ o. w r *ℤ (value_of s (at r) o *ℤ x (chance_column s (at r) o)))
    (λ o l.
    let same : 0 + (r * outcome_count s + o) ≡ chance_column s (at r) o = omega (arith, chance-at_rank s r o h) in
    rw same (*ℤ_assoc (w r) (value_of s (at r) o) (x (chance_column s (at r) o))))
    ∙ sum_to-*ℤ (outcome_count s) (w r) (λ o. value_of s (at r) o *ℤ x (chance_column s (at r) o)))
  where
    n : ℕ
    n = profile_count (sizes_of s)

    at : ℕ → List ℕ
    at r = profile_at (sizes_of s) r

    w : ℕ → ℤ
    w r = weight_of s (profile_at (sizes_of s) r)

-- one part of the payments, by agent and profile
revenue-part : (s : GeneralSetting) (sign : ℤ) (start : ℕ) (x : ℕ → ℤ)
    → costs_at (revenue_costs s sign) start x ≡ sum_to (agent_count s) (λ i. sum_to (profile_count (sizes_of s)) (λ r. revenue_cost s sign r *ℤ x (start + (i * profile_count (sizes_of s) + r))))
revenue-part s sign start x = costs-nested (agent_count s) (profile_count (sizes_of s)) (λ _. revenue_cost s sign) start x

payments-part : (on : Bool) (s : GeneralSetting) (x : ℕ → ℤ) → s.payments ≡ on
    → costs_at (payment_costs on s) (first_plus s) x
    ≡ sum_to (profile_count (sizes_of s)) (λ r. weight_of s (profile_at (sizes_of s) r) *ℤ (s.revenue *ℤ sum_to (agent_count s) (λ i. payment_in s x i (profile_at (sizes_of s) r))))
payments-part false s x off =
    sym (sum_to-zero (profile_count (sizes_of s)) (λ r. weight_of s (profile_at (sizes_of s) r) *ℤ (s.revenue *ℤ sum_to (agent_count s) (λ i. payment_in s x i (profile_at (sizes_of s) r))))
    (λ r h. ap (λ z. weight_of s (profile_at (sizes_of s) r) *ℤ (s.revenue *ℤ z)) (sum_to-zero (agent_count s) (λ i. payment_in s x i (profile_at (sizes_of s) r)) (λ i l. payment-off s x i (profile_at (sizes_of s) r) off))
    ∙ ap (λ z. weight_of s (profile_at (sizes_of s) r) *ℤ z) (*ℤ-zero s.revenue) ∙ *ℤ-zero (weight_of s (profile_at (sizes_of s) r))))
payments-part true s x on =
    costs-append (revenue_costs s (pos 1)) (revenue_costs s (neg_ℤ (pos 1))) (first_plus s) x
    ∙ ap (λ z. z +ℤ costs_at (revenue_costs s (neg_ℤ (pos 1))) (first_plus s + length (revenue_costs s (pos 1))) x) (revenue-part s (pos 1) (first_plus s) x)
    ∙ ap (λ k. sum_to (agent_count s) (λ i. sum_to n (plus_at i)) +ℤ costs_at (revenue_costs s (neg_ℤ (pos 1))) (first_plus s + k) x) (revenue-length s (pos 1))
    ∙ ap (λ z. sum_to (agent_count s) (λ i. sum_to n (plus_at i)) +ℤ z) (revenue-part s (neg_ℤ (pos 1)) (first_minus s) x)
    ∙ sym (sum_to-+ℤ (agent_count s) (λ i. sum_to n (plus_at i)) (λ i. sum_to n (minus_at i)))
    ∙ sum_to-same (agent_count s) (λ i. sum_to n (plus_at i) +ℤ sum_to n (minus_at i)) (λ i. sum_to n (whole_at i))
    (λ i l. sym (sum_to-+ℤ n (plus_at i) (minus_at i)) ∙ sum_to-same n (λ r. plus_at i r +ℤ minus_at i r) (whole_at i) (λ r h. at i r h))
    ∙ sum_to-swap (agent_count s) n whole_at
    ∙ sum_to-same n (λ r. sum_to (agent_count s) (λ i. whole_at i r)) (λ r. w r *ℤ (s.revenue *ℤ sum_to (agent_count s) (λ i. payment_in s x i (profile_at (sizes_of s) r))))
    (λ r h. sum_to-*ℤ (agent_count s) (w r) (λ i. s.revenue *ℤ payment_in s x i (profile_at (sizes_of s) r))
    ∙ ap (λ z. w r *ℤ z) (sum_to-*ℤ (agent_count s) s.revenue (λ i. payment_in s x i (profile_at (sizes_of s) r))))
  where
    n : ℕ
    n = profile_count (sizes_of s)

    w : ℕ → ℤ
    w r = weight_of s (profile_at (sizes_of s) r)

    plus_at : ℕ → ℕ → ℤ
    plus_at i r = revenue_cost s (pos 1) r *ℤ x (first_plus s + (i * profile_count (sizes_of s) + r))

    minus_at : ℕ → ℕ → ℤ
    minus_at i r = revenue_cost s (neg_ℤ (pos 1)) r *ℤ x (first_minus s + (i * profile_count (sizes_of s) + r))

    whole_at : ℕ → ℕ → ℤ
    whole_at i r = weight_of s (profile_at (sizes_of s) r) *ℤ (s.revenue *ℤ payment_in s x i (profile_at (sizes_of s) r))

    at : (i r : ℕ) → r < n → plus_at i r +ℤ minus_at i r ≡ whole_at i r
    at i r h =
        rw (sym (plus-at_rank s i r h), sym (minus-at_rank s i r h))
        (both-parts (w r) s.revenue (x (plus_column s i (profile_at (sizes_of s) r))) (x (minus_column s i (profile_at (sizes_of s) r)))
        ∙ ap (λ z. w r *ℤ (s.revenue *ℤ z)) (sym (payment-on s x i (profile_at (sizes_of s) r) on)))

-- the written cost at numbers for the columns is the objective
pub written-cost : (s : GeneralSetting) (x : ℕ → ℤ) → dot (column_count s) (number_at (written_cost s)) x ≡ cost_in s x
written-cost s x =
    ap (λ n. dot n (number_at (written_cost s)) x) (sym (cost-length s))
    ∙ sum_to-same (length (written_cost s)) (λ j. number_at (written_cost s) j *ℤ x j) (λ j. number_at (written_cost s) j *ℤ x (0 + j))
    (λ j l. let same : j ≡ 0 + j = omega arith in ap (λ k. number_at (written_cost s) j *ℤ x k) same)
    ∙ costs-append (chance_costs s) (payment_costs s.payments s) 0 x
    ∙ rw (start, chances-part s x, payments-part s.payments s x refl) refl
    ∙ sym (sum_to-+ℤ n (λ r. w r *ℤ values r) (λ r. w r *ℤ (s.revenue *ℤ pays r)))
    ∙ sum_to-same n (λ r. w r *ℤ values r +ℤ w r *ℤ (s.revenue *ℤ pays r)) (λ r. w r *ℤ objective_in s x (profile_at (sizes_of s) r)) (λ r h. sym (*ℤ-+ℤ (w r) (values r) (s.revenue *ℤ pays r)))
    ∙ sym (total_by-profiles (sizes_of s) (λ t. weight_of s t *ℤ objective_in s x t))
  where
    n : ℕ
    n = profile_count (sizes_of s)

    start : 0 + length (chance_costs s) ≡ first_plus s
    start = omega (arith, chance-length s)

    w : ℕ → ℤ
    w r = weight_of s (profile_at (sizes_of s) r)

    values : ℕ → ℤ
    values r = sum_to (outcome_count s) (λ o. value_of s (profile_at (sizes_of s) r) o *ℤ x (chance_column s (profile_at (sizes_of s) r) o))

    pays : ℕ → ℤ
    pays r = sum_to (agent_count s) (λ i. payment_in s x i (profile_at (sizes_of s) r))

-- ---- its numbers

-- each number of the written cost is the cost at its column
pub written-number : (s : GeneralSetting) (j : ℕ) → j < column_count s → number_at (written_cost s) j ≡ cost_of s j
written-number s j h = sym (unit-dot (column_count s) j (number_at (written_cost s)) h) ∙ written-cost s (unit j)

within-product : (w v : ℤ) → IsWithin 1000000 w → IsWithin 10000000 v → IsWithin (2 ^ 44) (w *ℤ v)
within-product w v p q = IsWithin-wider (1000000 * 10000000) (2 ^ 44) (w *ℤ v) (omega arith) (IsWithin-*ℤ 1000000 10000000 w v p q)

revenue-within : (s : GeneralSetting) (sign : ℤ) (r : ℕ) → IsShaped s → r < profile_count (sizes_of s) → IsWithin 1 sign → IsWithin (2 ^ 44) (revenue_cost s sign r)
revenue-within s sign r shaped h small =
    IsWithin-wider (1 * (1000000 * 1000)) (2 ^ 44) (revenue_cost s sign r) (omega arith)
    (IsWithin-*ℤ 1 (1000000 * 1000) sign (weight_of s (profile_at (sizes_of s) r) *ℤ s.revenue) small
    (IsWithin-*ℤ 1000000 1000 (weight_of s (profile_at (sizes_of s) r)) s.revenue (shaped.weight (profile_at (sizes_of s) r) (profile_at-IsProfile (sizes_of s) r h)).within shaped.small.revenue))

payments-within : (on : Bool) (s : GeneralSetting) → IsShaped s → All (IsWithin (2 ^ 44)) (payment_costs on s)
payments-within true s shaped = All-append (IsWithin (2 ^ 44)) (revenue_costs s (pos 1)) (revenue_costs s (neg_ℤ (pos 1))) (of (pos 1) (record { within = omega arith })) (of (neg_ℤ (pos 1)) (record { within = omega arith }))
  where
    of : (sign : ℤ) → IsWithin 1 sign → All (IsWithin (2 ^ 44)) (revenue_costs s sign)
    of sign small =
        All-up_to (IsWithin (2 ^ 44)) (agent_count s) (λ _. revenue_costs_of s sign)
        (λ i l. All-list_to (IsWithin (2 ^ 44)) (profile_count (sizes_of s)) (revenue_cost s sign) (λ r h. revenue-within s sign r shaped h small))
payments-within false s shaped = All-nil (IsWithin (2 ^ 44))

pub cost-within : (s : GeneralSetting) → IsShaped s → AllWithin (2 ^ 44) (written_cost s)
cost-within s shaped = record {
  at = λ k l. All-get_or (IsWithin (2 ^ 44)) (written_cost s) k (pos 0) l
      (All-append (IsWithin (2 ^ 44)) (chance_costs s) (payment_costs s.payments s)
      (All-up_to (IsWithin (2 ^ 44)) (profile_count (sizes_of s)) (chance_costs_at s)
      (λ r h. All-list_to (IsWithin (2 ^ 44)) (outcome_count s) (λ o. weight_of s (profile_at (sizes_of s) r) *ℤ value_of s (profile_at (sizes_of s) r) o)
      (λ o b. within-product (weight_of s (profile_at (sizes_of s) r)) (value_of s (profile_at (sizes_of s) r) o)
      (shaped.weight (profile_at (sizes_of s) r) (profile_at-IsProfile (sizes_of s) r h)).within (shaped.value (profile_at (sizes_of s) r) o (profile_at-IsProfile (sizes_of s) r h) b))))
      (payments-within s.payments s shaped));
}

-- the program with the written cost, divided
pub has-cost : (s : GeneralSetting) (p : Program) → HasDividedCost (column_count s) (written_cost s) p → HasCostOf (column_count s) (cost_in s) p
has-cost s p h = record {
  factor = divisor-below (column_count s) (number_at (written_cost s)) (cost_of s) p.factor (λ k l. written-number s k l) (subst (λ n. IsDivisorFor n (number_at (written_cost s)) p.factor) (cost-length s) h.divisor);
  cost_is = λ x. sym (written-cost s x) ∙ h.cost_is x;
}
