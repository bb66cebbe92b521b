-- What the list that is found promises, and how it grows.
use Rattle.std.proofs.Common.{◌≡◌, ℕ, suc, ◌-◌, ◌<◌, ◌≤◌, ◌^◌, pos, ◌-ℤ◌, ◌*ℤ◌, ◌<ℤ◌, List, [], length, map, insert, sym, ap, ap₂, ◌∙◌, subst, arith}
use Rattle.std.proofs.lemmas.List.{length-map}
use Rattle.std.proofs.lemmas.Simd.{map-map}
use Rattle.md_num.specs.declared.frac.Frac.{Frac}
use Rattle.md_setting.specs.Grouped.{GroupedAuction, group_at}
use Rattle.md_setting.specs.GroupedShaped.{IsOrdered}
use Rattle.md_list.specs.declared.ranked.Ranked.{Ranked}
use Rattle.md_list.specs.Lists.{ranks_of}
use Rattle.md_list.specs.Ranks.{Rank}
use Rattle.md_list.specs.Valid.{level_at, group_in}
use Rattle.md_list.specs.ByRule.{growth, IsReserve, IsPoolEnd, IsPoolByRule, IsVirtualValue, IsByRule}
use Rattle.md_list_laws.proofs.Pools.{weight-between}
use Rattle.md_list_gains.specs.declared.sums.Sums.{Sums}
use Rattle.md_list_gains.specs.Places.{AreWithin, weight_to, gain_to, benefit_to}
use Rattle.md_list_gains.specs.GroupSums.{AreSumsOf}
use Rattle.md_list_find.specs.declared.order.Pool.{Pool}
use Rattle.md_list_find.specs.GroupSums.{rank_of, ranked_of, IsSummed, AreListed, AreListedUpTo}
use Rattle.md_list_find.specs.Levels.{AreLevelsOf}
use Rattle.md_list_find.specs.Places.{pool_at, IsPlaceFor}
use Rattle.md_list_find.proofs.Listings.{list-none, list-group, list-whole, list-end}
use Rattle.md_list_find.proofs.PoolLists.{rank-at, is-reserve, is-pool_end, put-pool, summed-insert}

module _ (a : GroupedAuction) where
  pub listed-none : (pools : List Pool) → pools ≡ [] → AreListed a 0 pools
  listed-none pools e = subst (AreListed a 0) (sym e) (record { list = list-none a; summed = λ p b. absurd (omega (arith, b)) })

  -- ---- one group

  module _ (k : ℕ) (places : List Sums) (sums : AreSumsOf a k places) where
    pub listed-group : (reserve : ℕ) (pools : List Pool) → AreListed a k pools → IsReserve (length places - 1) (gain_to places) (benefit_to places) reserve → AreListedUpTo a k reserve pools
    listed-group reserve pools h is = record { list = list-group a k reserve (map rank_of pools) h.list (is-reserve a k places sums reserve is); summed = h.summed }

    pub listed-whole : (first : ℕ) (pools : List Pool) → AreListedUpTo a k first pools → length places - 1 ≤ first → first ≤ length (group_at a k).values → AreListed a (suc k) pools
    listed-whole first pools h l b = record { list = list-whole a k first (map rank_of pools) h.list (omega (arith, l, b, sums.long)); summed = h.summed }

    -- the sums of a pool
    pool-summed : (first stop : ℕ) (between : Sums) → first ≤ length (group_at a k).values → stop ≤ length (group_at a k).values
        → between.weight ≡ growth (weight_to places) first stop → between.gain ≡ growth (gain_to places) first stop → between.benefit ≡ growth (benefit_to places) first stop
        → AreWithin (2 ^ 59) between → IsSummed a (record { group = k; first = first; stop = stop; sums = between })
    pool-summed first stop between b c weight gain benefit size = record {
      weight = weight ∙ ap₂ (λ x y. x -ℤ y) (sums.weight stop c) (sums.weight first b);
      gain = gain ∙ ap₂ (λ x y. x -ℤ y) (sums.gain stop c) (sums.gain first b);
      benefit = benefit ∙ ap₂ (λ x y. x -ℤ y) (sums.benefit stop c) (sums.benefit first b);
      size = size;
    }

    pub listed-pool : IsOrdered a → k < length a.groups → (first stop i : ℕ) (between : Sums) (pools new : List Pool) → AreListedUpTo a k first pools
        → IsPoolEnd (length places - 1) (weight_to places) (gain_to places) first stop
        → between.weight ≡ growth (weight_to places) first stop → between.gain ≡ growth (gain_to places) first stop → between.benefit ≡ growth (benefit_to places) first stop
        → AreWithin (2 ^ 59) between → IsPlaceFor pools between i → new ≡ insert pools i (record { group = k; first = first; stop = stop; sums = between })
        → AreListedUpTo a k stop new
    listed-pool ordered inside first stop i between pools new h end weight gain benefit size place is =
        let pool : Pool = record { group = k; first = first; stop = stop; sums = between } in
        let summed : IsSummed a pool = pool-summed first stop between (omega (arith, end.some, end.inside, sums.long)) (omega (arith, end.inside, sums.long)) weight gain benefit size in
        subst (AreListedUpTo a k stop) (sym is)
        (record {
          list = put-pool a ordered pools i pool inside h.summed summed h.list (is-pool_end a k places sums first stop end) place;
          summed = summed-insert a pools i pool h.summed summed place.inside;
        })

  -- ---- the whole list

  module _ (ordered : IsOrdered a) (pools : List Pool) (h : AreListed a (length a.groups) pools) where
    inside : (p : ℕ) → p < length pools → p < length (map rank_of pools)
    inside p b = omega (arith, b, length-map pools rank_of)

    pub weight-positive : (p : ℕ) → p < length pools → pos 0 <ℤ (pool_at pools p).sums.weight
    weight-positive p b =
        let rank : Rank = rank_of (pool_at pools p) in
        let here : rank.group < length a.groups = subst (λ r. r.group < length a.groups) (rank-at pools p) (h.list.groups p (inside p b)) in
        let pool : IsPoolByRule a rank = subst (IsPoolByRule a) (rank-at pools p) (h.list.ranking.pool p (inside p b)) in
        subst (λ z. pos 0 <ℤ z) (sym (h.summed p b).weight) (weight-between (group_in a rank) (ordered.group rank.group here) rank.first rank.stop pool.some pool.inside)

    ranks-are : (list : List Pool) → ranks_of (map ranked_of list) ≡ map rank_of list
    ranks-are list = simp map-map

    pub found-by_rule : (ranks : List Ranked) (levels : List Frac) → ranks ≡ map ranked_of pools → AreLevelsOf pools (length pools) levels → IsByRule a (ranks_of ranks) levels
    found-by_rule ranks levels is values =
        subst (λ list. IsByRule a list levels) (sym (ap ranks_of is ∙ ranks-are pools))
        (list-end a (map rank_of pools) levels h.list (values.one_each ∙ sym (length-map pools rank_of))
        (λ p b. (let c : p < length pools = omega (arith, b, length-map pools rank_of) in
        subst (λ rank. IsVirtualValue a rank (level_at levels p)) (sym (rank-at pools p)) (value p c))))
      where
        value : (p : ℕ) → p < length pools → IsVirtualValue a (rank_of (pool_at pools p)) (level_at levels p)
        value p c =
            let sums = h.summed p c in
            record {
              positive = (values.each p c).short.least.positive;
              whole = ap (λ z. (level_at levels p).den *ℤ z) (sym sums.gain) ∙ (values.each p c).whole ∙ ap (λ z. (level_at levels p).num *ℤ z) sums.weight;
            }
