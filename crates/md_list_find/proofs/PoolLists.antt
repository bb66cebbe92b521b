-- Lists of records with their sums: reserves and pools found by sums are those of the group, and a list grows by the rule.
use Rattle.std.proofs.Common.{◌≡◌, ℕ, zero, suc, ◌-◌, ◌<◌, ◌≤◌, ◌-ℤ◌, ◌*ℤ◌, List, [], ◌∷◌, length, map, insert, refl, sym, ap₂, subst, arith}
use Rattle.std.proofs.lemmas.List.{length-map}
use Rattle.md_math.specs.LexOrder.{IsPairNonNegative, IsPairPositive}
use Rattle.md_setting.specs.Grouped.{GroupedAuction, group_at}
use Rattle.md_setting.specs.GroupedShaped.{IsOrdered}
use Rattle.md_list.specs.Gains.{weight_in, gain_of, benefit_of}
use Rattle.md_list.specs.Valid.{rank_at}
use Rattle.md_list.specs.ByRule.{sums_of, IsReserve, IsPoolEnd, IsReserveOf, IsPoolEndOf, more_gain, more_benefit, BringsMore}
use Rattle.md_list_gains.specs.declared.sums.Sums.{Sums}
use Rattle.md_list_find.specs.declared.order.Pool.{Pool}
use Rattle.md_list_gains.specs.Places.{weight_to, gain_to, benefit_to, no_sums, more_gain_by, more_benefit_by}
use Rattle.md_list_find.specs.Places.{pool_at, IsPlaceFor}
use Rattle.md_list_gains.specs.GroupSums.{AreSumsOf}
use Rattle.md_list_find.specs.GroupSums.{rank_of, IsSummed, AreSummed}
use Rattle.md_list_find.specs.Listing.{BringsNoLess, IsListUpTo}
use Rattle.md_list_find.proofs.Insertions.{all-insert, map-insert}
use Rattle.md_list_find.proofs.Listings.{list-pool}
use Rattle.md_list_find.proofs.SameSums.{reserve-same, pool-same}

-- ---- one group

module _ (a : GroupedAuction) (k : ℕ) (places : List Sums) (sums : AreSumsOf a k places) where
  count-is : length places - 1 ≡ length (group_at a k).values
  count-is = omega (arith, sums.long)

  pub is-reserve : (reserve : ℕ) → IsReserve (length places - 1) (gain_to places) (benefit_to places) reserve → IsReserveOf a k reserve
  is-reserve reserve h =
      reserve-same (length (group_at a k).values) (gain_to places) (benefit_to places) (sums_of (gain_of a (group_at a k))) (sums_of (benefit_of (group_at a k))) reserve sums.gain sums.benefit
      (subst (λ n. IsReserve n (gain_to places) (benefit_to places) reserve) count-is h)

  pub is-pool_end : (first stop : ℕ) → IsPoolEnd (length places - 1) (weight_to places) (gain_to places) first stop → IsPoolEndOf a k first stop
  is-pool_end first stop h =
      pool-same (length (group_at a k).values) (weight_to places) (gain_to places) (sums_of (weight_in (group_at a k))) (sums_of (gain_of a (group_at a k))) first stop sums.weight sums.gain
      (subst (λ n. IsPoolEnd n (weight_to places) (gain_to places) first stop) count-is h)

-- ---- lists

pub rank-at : (pools : List Pool) (p : ℕ) → rank_at (map rank_of pools) p ≡ rank_of (pool_at pools p)
rank-at [] p = refl
rank-at (pool ∷ pools) zero = refl
rank-at (pool ∷ pools) (suc p) = rank-at pools p

module _ (a : GroupedAuction) where
  more-gain-is : (pool other : Pool) → IsSummed a pool → IsSummed a other → more_gain_by pool.sums other.sums ≡ more_gain a (rank_of pool) (rank_of other)
  more-gain-is pool other s t = ap₂ (λ u v. u -ℤ v) (ap₂ (λ u v. u *ℤ v) s.gain t.weight) (ap₂ (λ u v. u *ℤ v) t.gain s.weight)

  more-benefit-is : (pool other : Pool) → IsSummed a pool → IsSummed a other → more_benefit_by pool.sums other.sums ≡ more_benefit a (rank_of pool) (rank_of other)
  more-benefit-is pool other s t = ap₂ (λ u v. u -ℤ v) (ap₂ (λ u v. u *ℤ v) s.benefit t.weight) (ap₂ (λ u v. u *ℤ v) t.benefit s.weight)

  no-less-is : (pool other : Pool) → IsSummed a pool → IsSummed a other → IsPairNonNegative (more_gain_by pool.sums other.sums) (more_benefit_by pool.sums other.sums) → BringsNoLess a (rank_of pool) (rank_of other)
  no-less-is pool other s t h =
      subst (λ u. IsPairNonNegative u (more_benefit a (rank_of pool) (rank_of other))) (more-gain-is pool other s t)
      (subst (λ v. IsPairNonNegative (more_gain_by pool.sums other.sums) v) (more-benefit-is pool other s t) h)

  more-is : (pool other : Pool) → IsSummed a pool → IsSummed a other → IsPairPositive (more_gain_by pool.sums other.sums) (more_benefit_by pool.sums other.sums) → BringsMore a (rank_of pool) (rank_of other)
  more-is pool other s t h =
      subst (λ u. IsPairPositive u (more_benefit a (rank_of pool) (rank_of other))) (more-gain-is pool other s t)
      (subst (λ v. IsPairPositive (more_gain_by pool.sums other.sums) v) (more-benefit-is pool other s t) h)

  pub summed-insert : (pools : List Pool) (i : ℕ) (pool : Pool) → AreSummed a pools → IsSummed a pool → i ≤ length pools → AreSummed a (insert pools i pool)
  summed-insert pools i pool all new l = all-insert (record { group = 0; first = 0; stop = 0; sums = no_sums }) (IsSummed a) pools i pool all new l

  -- a pool that is put behind all that bring no less
  pub put-pool : IsOrdered a → (pools : List Pool) (i : ℕ) (pool : Pool) → pool.group < length a.groups → AreSummed a pools → IsSummed a pool
      → IsListUpTo a pool.group pool.first (map rank_of pools) → IsPoolEndOf a pool.group pool.first pool.stop → IsPlaceFor pools pool.sums i
      → IsListUpTo a pool.group pool.stop (map rank_of (insert pools i pool))
  put-pool ordered pools i pool inside all new h end place =
      subst (IsListUpTo a pool.group pool.stop) (sym (map-insert rank_of pools i pool))
      (list-pool a ordered pool.group pool.first pool.stop i (map rank_of pools) inside h end (omega (arith, place.inside, length-map pools rank_of))
      (λ q b. subst (λ rank. BringsNoLess a rank (rank_of pool)) (sym (rank-at pools q)) (no-less-is (pool_at pools q) pool (all q (omega (arith, b, place.inside))) new (place.before q b)))
      (λ b. subst (λ rank. BringsMore a (rank_of pool) rank) (sym (rank-at pools i)) (more-is pool (pool_at pools i) new (all i (omega (arith, b, length-map pools rank_of))) (place.behind (omega (arith, b, length-map pools rank_of))))))
