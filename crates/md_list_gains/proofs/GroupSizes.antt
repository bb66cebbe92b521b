-- How large the sums of a group's weights, gains and benefits are.
use Rattle.std.proofs.Common.{◌≡◌, ℕ, zero, suc, ◌+◌, ◌*◌, ◌^◌, ◌<◌, ◌≤◌, ℤ, pos, ◌+ℤ◌, ◌-ℤ◌, ◌*ℤ◌, ◌≤ℤ◌, length, sym, ap, ◌∙◌, subst, arith, mul-le-mul, lit≤}
use Rattle.std.proofs.lemmas.Int.{ints}
use Rattle.md_math.specs.Lists.{number_at}
use Rattle.md_math.specs.Sizes.{IsWithin}
use Rattle.md_math.specs.Sums.{sum_to, total_by}
use Rattle.md_math.proofs.Ring.{linear, ring}
use Rattle.md_math.proofs.SizeLaws.{IsWithin-+ℤ, IsWithin-sub, IsWithin-*ℤ, IsWithin-difference, IsWithin-wider, sum_to-within}
use Rattle.md_math.proofs.SumLaws.{sum_to-nonneg}
use Rattle.md_math.proofs.TotalLaws.{total_by-places}
use Rattle.md_setting.specs.Grouped.{Group, GroupedAuction, group_at}
use Rattle.md_setting.specs.GroupedShaped.{IsGroup, IsSmallGroup, IsGroupedAuction}
use Rattle.md_list.specs.Gains.{weight_in, weight_from, gain_of, benefit_of}
use Rattle.md_list.specs.ByRule.{sums_of}
use Rattle.md_list_gains.specs.Surplus.{surplus_of, paid_from}

-- gains add up to surpluses, and to what all from the least value on pay, less what those from the end on do
pub gains-are : (a : GroupedAuction) (group : Group) (x : ℕ) → sum_to x (gain_of a group) ≡ sum_to x (λ v. weight_in group v *ℤ surplus_of a group v) +ℤ a.revenue *ℤ (paid_from group 0 -ℤ paid_from group x)
gains-are a group zero = start a.revenue (paid_from group 0)
  where
    start : (r p : ℤ) → pos 0 ≡ pos 0 +ℤ r *ℤ (p -ℤ p)
    start r p = simp ring (omega (arith, linear))
gains-are a group (suc x) =
    ap (λ z. z +ℤ gain_of a group x) (gains-are a group x)
    ∙ step a.revenue (sum_to x (λ v. weight_in group v *ℤ surplus_of a group v)) (weight_in group x *ℤ surplus_of a group x) (paid_from group 0) (paid_from group x) (paid_from group (suc x))
  where
    step : (r s t p q w : ℤ) → (s +ℤ r *ℤ (p -ℤ q)) +ℤ (t +ℤ r *ℤ (q -ℤ w)) ≡ (s +ℤ t) +ℤ r *ℤ (p -ℤ w)
    step r s t p q w = simp ring (omega (arith, linear))

module _ (a : GroupedAuction) (k : ℕ) (shaped : IsGroupedAuction a) (inside : k < length a.groups) where
  small : IsSmallGroup a (group_at a k)
  small = shaped.small k inside

  is-group : IsGroup (group_at a k)
  is-group = shaped.ordered.group k inside

  -- ---- one value

  pub value-within : (v : ℕ) → IsWithin 1000000 (number_at (group_at a k).values v)
  value-within v = small.value v

  pub weight-within : (v : ℕ) → IsWithin 1000000 (weight_in (group_at a k) v)
  weight-within v = record { within = small.weight v }

  pub revenue-within : IsWithin 1000 a.revenue
  revenue-within = record { within = omega (arith, ints, shaped.ordered.revenue, shaped.most_revenue) }

  -- what it is worth with the factor and the group's worth, and less what is kept
  pub worth-within : (v : ℕ) → IsWithin 11000000 (a.welfare *ℤ number_at (group_at a k).values v +ℤ (group_at a k).worth)
  worth-within v = IsWithin-+ℤ 10000000 1000000 (a.welfare *ℤ number_at (group_at a k).values v) (group_at a k).worth (small.gain v) small.worth

  pub surplus-within : (v : ℕ) → IsWithin 12000000 (surplus_of a (group_at a k) v)
  surplus-within v = IsWithin-sub 11000000 1000000 (a.welfare *ℤ number_at (group_at a k).values v +ℤ (group_at a k).worth) a.keep (worth-within v) shaped.keep

  pub own-within : (v : ℕ) → IsWithin (1000000 * 12000000) (weight_in (group_at a k) v *ℤ surplus_of a (group_at a k) v)
  own-within v = IsWithin-*ℤ 1000000 12000000 (weight_in (group_at a k) v) (surplus_of a (group_at a k) v) (weight-within v) (surplus-within v)

  pub benefit-within : (v : ℕ) → IsWithin (1000000 * 1000000) (benefit_of (group_at a k) v)
  benefit-within v = IsWithin-*ℤ 1000000 1000000 (weight_in (group_at a k) v) (number_at (group_at a k).values v) (weight-within v) (value-within v)

  -- ---- sums

  few : (x limit : ℕ) (f : ℕ → ℤ) → x ≤ length (group_at a k).values → ((v : ℕ) → IsWithin limit (f v)) → IsWithin (64 * limit) (sum_to x f)
  few x limit f b h = IsWithin-wider (x * limit) (64 * limit) (sum_to x f) (mul-le-mul (omega (arith, b, small.few_values)) (omega arith)) (sum_to-within x limit f (λ v l. h v))

  pub weights-within : (x : ℕ) → x ≤ length (group_at a k).values → IsWithin (64 * 1000000) (sums_of (weight_in (group_at a k)) x)
  weights-within x b = few x 1000000 (weight_in (group_at a k)) b weight-within

  pub benefits-within : (x : ℕ) → x ≤ length (group_at a k).values → IsWithin (64 * (1000000 * 1000000)) (sums_of (benefit_of (group_at a k)) x)
  benefits-within x b = few x (1000000 * 1000000) (benefit_of (group_at a k)) b benefit-within

  -- all weights together are those up to the end
  pub total-is : total_by pos (group_at a k).weights ≡ sums_of (weight_in (group_at a k)) (length (group_at a k).values)
  total-is = total_by-places pos (group_at a k).weights 0 ∙ ap (λ n. sum_to n (weight_in (group_at a k))) is-group.one_each

  pub total-within : IsWithin (64 * 1000000) (total_by pos (group_at a k).weights)
  total-within = subst (IsWithin (64 * 1000000)) (sym total-is) (weights-within (length (group_at a k).values) (omega arith))

  weights-nonneg : (x : ℕ) → pos 0 ≤ℤ sums_of (weight_in (group_at a k)) x
  weights-nonneg x = sum_to-nonneg x (weight_in (group_at a k)) (λ v b. omega (arith, ints))

  pub from-within : (x : ℕ) → x ≤ length (group_at a k).values → IsWithin (64 * 1000000) (weight_from (group_at a k) x)
  from-within x b =
      IsWithin-difference (64 * 1000000) (total_by pos (group_at a k).weights) (sums_of (weight_in (group_at a k)) x)
      (subst (λ z. pos 0 ≤ℤ z) (sym total-is) (weights-nonneg (length (group_at a k).values))) (weights-nonneg x) total-within (weights-within x b)

  pub paid-within : (x : ℕ) → x ≤ length (group_at a k).values → IsWithin (1000000 * (64 * 1000000)) (paid_from (group_at a k) x)
  paid-within x b = IsWithin-*ℤ 1000000 (64 * 1000000) (number_at (group_at a k).values x) (weight_from (group_at a k) x) (value-within x) (from-within x b)

  -- what a value and those above it pay, less what those above it do
  pub step-within : (x y : ℕ) → x ≤ length (group_at a k).values → y ≤ length (group_at a k).values
      → IsWithin (128 * 1000000000000) (paid_from (group_at a k) x -ℤ paid_from (group_at a k) y)
  step-within x y b c = IsWithin-sub (1000000 * (64 * 1000000)) (1000000 * (64 * 1000000)) (paid_from (group_at a k) x) (paid_from (group_at a k) y) (paid-within x b) (paid-within y c)

  pub revenues-within : (x y : ℕ) → x ≤ length (group_at a k).values → y ≤ length (group_at a k).values
      → IsWithin (1000 * (128 * 1000000000000)) (a.revenue *ℤ (paid_from (group_at a k) x -ℤ paid_from (group_at a k) y))
  revenues-within x y b c = IsWithin-*ℤ 1000 (128 * 1000000000000) a.revenue (paid_from (group_at a k) x -ℤ paid_from (group_at a k) y) revenue-within (step-within x y b c)

  pub gain-within : (v : ℕ) → v < length (group_at a k).values → IsWithin (2 ^ 57) (gain_of a (group_at a k) v)
  gain-within v b =
      IsWithin-wider (1000000 * 12000000 + 1000 * (128 * 1000000000000)) (2 ^ 57) (gain_of a (group_at a k) v) (lit≤ tt)
      (IsWithin-+ℤ (1000000 * 12000000) (1000 * (128 * 1000000000000)) (weight_in (group_at a k) v *ℤ surplus_of a (group_at a k) v) (a.revenue *ℤ (paid_from (group_at a k) v -ℤ paid_from (group_at a k) (suc v)))
      (own-within v) (revenues-within v (suc v) (omega (arith, b)) (omega (arith, b))))

  pub gains-within : (x : ℕ) → x ≤ length (group_at a k).values → IsWithin (2 ^ 57) (sums_of (gain_of a (group_at a k)) x)
  gains-within x b =
      subst (IsWithin (2 ^ 57)) (sym (gains-are a (group_at a k) x))
      (IsWithin-wider (64 * (1000000 * 12000000) + 1000 * (128 * 1000000000000)) (2 ^ 57) _ (lit≤ tt)
      (IsWithin-+ℤ (64 * (1000000 * 12000000)) (1000 * (128 * 1000000000000)) (sum_to x (λ v. weight_in (group_at a k) v *ℤ surplus_of a (group_at a k) v)) (a.revenue *ℤ (paid_from (group_at a k) 0 -ℤ paid_from (group_at a k) x))
      (few x (1000000 * 12000000) (λ v. weight_in (group_at a k) v *ℤ surplus_of a (group_at a k) v) b own-within) (revenues-within 0 x (omega arith) b)))
