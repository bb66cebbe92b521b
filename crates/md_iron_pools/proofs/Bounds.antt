-- How large the sums of weights and of virtual values can become.
use Rattle.std.proofs.Common.{◌≡◌, ℕ, ◌+◌, ◌*◌, ◌^◌, ◌<◌, ◌≤◌, ℤ, pos, ◌-ℤ◌, ◌*ℤ◌, ◌≤ℤ◌, ◌<ℤ◌, inl, inr, sym, ap, subst, ◌∙◌, arith, mul-le-mul, le_refl}
use Rattle.std.specs.Prelude.{slice_index}
use Rattle.std.proofs.lemmas.Bool.{cases_lt}
use Rattle.std.proofs.lemmas.Int.{ints}
use Rattle.std.proofs.lemmas.List.{get_or_past}
use Rattle.md_math.specs.Lists.{number_at}
use Rattle.md_math.specs.Sizes.{IsWithin}
use Rattle.md_math.specs.Sums.{sum_to}
use Rattle.md_math.proofs.Order.{same_number, nonneg-*ℤ}
use Rattle.md_math.proofs.ProductLaws.{sum-places}
use Rattle.md_math.proofs.Ring.{zero-*ℤ}
use Rattle.md_math.proofs.SizeLaws.{IsWithin-wider, IsWithin-zero, IsWithin-+ℤ, IsWithin-sub, IsWithin-*ℤ, IsWithin-difference, sum_to-within}
use Rattle.md_setting.specs.Auction.{SymmetricAuction, value_count, total_weight}
use Rattle.md_setting.specs.AuctionShaped.{IsAuction}
use Rattle.md_border.specs.Worth.{surplus_of}
use Rattle.md_border.proofs.WorthLaws.{surplus-within, revenue-within}
use Rattle.md_iron_values.specs.Weights.{weight_before}
use Rattle.md_iron_values.specs.Pools.{Pools, over_pool}
use Rattle.md_iron_values.specs.VirtualValues.{weight_to, weight_from, virtual_value, virtual_to, IsPooledAuction}
use Rattle.md_iron_values.proofs.WeightLaws.{weight_before-up, weight_before-less, pos-weight_before}
use Rattle.md_iron_pools.proofs.PooledTo.{IsRising}

-- ---- weights

pub weight_before-all : (a : SymmetricAuction) → IsAuction a → weight_before (slice_index a.weights) (value_count a) ≡ total_weight a.weights
weight_before-all a h =
    let whole : pos (total_weight a.weights) ≡ sum_to (value_count a) (λ k. pos (slice_index a.weights k)) =
    sum-places a.weights ∙ ap (λ n. sum_to n (λ k. pos (slice_index a.weights k))) h.one_each in
    same_number _ _ (pos-weight_before (slice_index a.weights) (value_count a) ∙ sym whole)

pub weight_before-le : (a : SymmetricAuction) (x : ℕ) → IsAuction a → x ≤ value_count a → weight_before (slice_index a.weights) x ≤ total_weight a.weights
weight_before-le a x h b = omega (arith, weight_before-up (slice_index a.weights) x (value_count a) b, weight_before-all a h)

pub weights-rise : (a : SymmetricAuction) → IsAuction a → IsRising (value_count a) (weight_to a)
weights-rise a h = record {
  some = λ x y l b. apart _ _ (weight_before-less (slice_index a.weights) x y l (λ i c. (h.weight i (omega (arith, c, b))).0));
}
  where
    apart : (m n : ℕ) → m < n → pos 0 <ℤ (pos n -ℤ pos m)
    apart m n l = omega (arith, ints)

pub weight-between : (a : SymmetricAuction) (x y : ℕ) → IsAuction a → x ≤ value_count a → y ≤ value_count a → IsWithin 1000000 (weight_to a y -ℤ weight_to a x)
weight-between a x y h b c = within _ _ (weight_before-le a x h b) (weight_before-le a y h c)
  where
    within : (m n : ℕ) → m ≤ total_weight a.weights → n ≤ total_weight a.weights → IsWithin 1000000 (pos n -ℤ pos m)
    within m n k l = record { within = omega (arith, ints, h.total) }

-- ---- virtual values

weight_from-within : (a : SymmetricAuction) (x : ℕ) → IsAuction a → x ≤ value_count a → (pos 0 ≤ℤ weight_from a x) × IsWithin 1000000 (weight_from a x)
weight_from-within a x h b = within _ (weight_before-le a x h b)
  where
    within : (m : ℕ) → m ≤ total_weight a.weights → (pos 0 ≤ℤ (pos (total_weight a.weights) -ℤ pos m)) × IsWithin 1000000 (pos (total_weight a.weights) -ℤ pos m)
    within m k = (omega (arith, ints), record { within = omega (arith, ints, h.total) })

value-within : (a : SymmetricAuction) (x : ℕ) → IsAuction a → x < value_count a → IsWithin 1000000 (number_at a.values x)
value-within a x h b = within _ (h.value x b)
  where
    within : (z : ℤ) → (pos 0 ≤ℤ z) × (z ≤ℤ pos 1000000) → IsWithin 1000000 z
    within z v = record { within = omega (arith, ints, v.0, v.1) }

pub past-values : (a : SymmetricAuction) (x : ℕ) → value_count a ≤ x → number_at a.values x ≡ pos 0
past-values a x b = get_or_past a.values x (pos 0) b

-- what is asked behind the last value is nothing
pub asked-past : (a : SymmetricAuction) (x : ℕ) → value_count a ≤ x → pos 0 ≡ number_at a.values x *ℤ weight_from a x
asked-past a x b = sym (ap (λ z. z *ℤ weight_from a x) (past-values a x b) ∙ zero-*ℤ (weight_from a x))

record IsAsked (z : ℤ) : Type 0 where
  nonneg : pos 0 ≤ℤ z
  within : IsWithin (10 ^ 12) z

asked : (a : SymmetricAuction) (x : ℕ) → IsAuction a → x ≤ value_count a → IsAsked (number_at a.values x *ℤ weight_from a x)
asked a x h b = elim (cases_lt x (value_count a)) [
  | inl l ↦ inside l (weight_from-within a x h b)
  | inr g ↦ subst IsAsked (asked-past a x g) (record { nonneg = omega (arith, ints); within = IsWithin-zero (10 ^ 12) })
]
  where
    inside : x < value_count a → (pos 0 ≤ℤ weight_from a x) × IsWithin 1000000 (weight_from a x) → IsAsked (number_at a.values x *ℤ weight_from a x)
    inside l w = record {
      nonneg = nonneg-*ℤ _ _ (h.value x l).0 w.0;
      within = IsWithin-wider (1000000 * 1000000) (10 ^ 12) _ (omega arith) (IsWithin-*ℤ 1000000 1000000 _ _ (value-within a x h l) w.1);
    }

pub asked-within : (a : SymmetricAuction) (x : ℕ) → IsAuction a → x ≤ value_count a → IsWithin (10 ^ 12) (number_at a.values x *ℤ weight_from a x)
asked-within a x h b = (asked a x h b).within

pub change-within : (a : SymmetricAuction) (j : ℕ) → IsAuction a → j < value_count a
    → IsWithin (10 ^ 12) (number_at a.values j *ℤ weight_from a j -ℤ number_at a.values (j + 1) *ℤ weight_from a (j + 1))
change-within a j h b =
    let here = asked a j h (omega (arith, b)) in
    let next = asked a (j + 1) h (omega (arith, b)) in
    IsWithin-difference (10 ^ 12) _ _ here.nonneg next.nonneg here.within next.within

pub virtual-within : (a : SymmetricAuction) (j : ℕ) → IsAuction a → j < value_count a → IsWithin (2 ^ 50) (virtual_value a j)
virtual-within a j h b =
    IsWithin-wider (1000000 * 11000000 + 1000 * 10 ^ 12) (2 ^ 50) _ (omega arith)
    (IsWithin-+ℤ (1000000 * 11000000) (1000 * 10 ^ 12) _ _
    (IsWithin-*ℤ 1000000 11000000 (pos (slice_index a.weights j)) (surplus_of a j) (record { within = (h.weight j b).1 }) (surplus-within a j h b))
    (IsWithin-*ℤ 1000 (10 ^ 12) a.revenue _ (revenue-within a h) (change-within a j h b)))

pub virtual_to-within : (a : SymmetricAuction) (x : ℕ) → IsAuction a → x ≤ value_count a → IsWithin (2 ^ 54) (virtual_to a x)
virtual_to-within a x h b =
    IsWithin-wider (x * 2 ^ 50) (2 ^ 54) _ (few (omega (arith, b, h.few_values)))
    (sum_to-within x (2 ^ 50) (virtual_value a) (λ j l. virtual-within a j h (omega (arith, l, b))))
  where
    few : x ≤ 12 → x * 2 ^ 50 ≤ 2 ^ 54
    few m = omega (arith, mul-le-mul m (le_refl (2 ^ 50)))

pub virtual-between : (a : SymmetricAuction) (x y : ℕ) → IsAuction a → x ≤ value_count a → y ≤ value_count a → IsWithin (2 ^ 55) (virtual_to a y -ℤ virtual_to a x)
virtual-between a x y h b c =
    IsWithin-wider (2 ^ 54 + 2 ^ 54) (2 ^ 55) _ (omega arith) (IsWithin-sub (2 ^ 54) (2 ^ 54) _ _ (virtual_to-within a y h c) (virtual_to-within a x h b))

pub gap-within : (a : SymmetricAuction) (s e x : ℕ) → IsAuction a → s ≤ value_count a → e ≤ value_count a → x ≤ value_count a
    → IsWithin (2 ^ 76) ((virtual_to a x -ℤ virtual_to a s) *ℤ (weight_to a e -ℤ weight_to a s) -ℤ (virtual_to a e -ℤ virtual_to a s) *ℤ (weight_to a x -ℤ weight_to a s))
gap-within a s e x h b c d =
    IsWithin-wider (2 ^ 55 * 1000000 + 2 ^ 55 * 1000000) (2 ^ 76) _ (omega arith)
    (IsWithin-sub (2 ^ 55 * 1000000) (2 ^ 55 * 1000000) _ _
    (IsWithin-*ℤ (2 ^ 55) 1000000 _ _ (virtual-between a s x h b d) (weight-between a s e h b c))
    (IsWithin-*ℤ (2 ^ 55) 1000000 _ _ (virtual-between a s e h b c) (weight-between a s x h b d)))

-- a pool has weight
pub pool-heavy : (a : SymmetricAuction) (pools : Pools) (j : ℕ) → IsAuction a → IsPooledAuction a pools → j < value_count a → pos 0 <ℤ over_pool (weight_to a) pools j
pool-heavy a pools j h p b =
    let place = p.place j b in
    (weights-rise a h).some (pools.first j) (pools.stop j) (omega (arith, place.0, place.1)) place.2
