-- How a list by the rule grows: group by group, and pool by pool.
use Rattle.std.proofs.Common.{◌≡◌, ◌≢◌, ◌⊎◌, ℕ, zero, suc, ◌<◌, ◌≤◌, pos, ◌<ℤ◌, ◌==◌, if◌then◌else◌, List, [], ◌∷◌, length, insert, inl, inr, refl, sym, ap, subst, ◌∙◌, arith, eq-eqb, ne_eqb}
use Rattle.std.proofs.lemmas.Bool.{cases_eq, cases_lt}
use Rattle.md_math.proofs.Order.{lt_or_same_or_gt}
use Rattle.md_math.proofs.Ring.{linear}
use Rattle.md_num.specs.declared.frac.Frac.{Frac}
use Rattle.md_setting.specs.Grouped.{GroupedAuction, group_at}
use Rattle.md_setting.specs.GroupedShaped.{IsOrdered}
use Rattle.md_list.specs.Gains.{gain_of}
use Rattle.md_list.specs.Ranks.{Rank, left_after, GoDown}
use Rattle.md_list.specs.Valid.{rank_at, level_at, group_in, left_behind}
use Rattle.md_list.specs.ByRule.{IsReserveOf, IsPoolEndOf, IsPoolByRule, rank_weight, rank_gain, rank_benefit, more_gain, more_benefit, BringsMore, StandsBefore, IsVirtualValue, IsByRule}
use Rattle.md_list.proofs.PlaceLaws.{left-same, left-other}
use Rattle.md_list_laws.proofs.Pairs.{above-through}
use Rattle.md_list_laws.proofs.Pools.{weight-between, next-more}
use Rattle.md_list_find.specs.Listing.{BringsNoLess, IsListOf, IsListUpTo}
use Rattle.md_list_find.proofs.Insertions.{all-insert, neighbours-insert}

-- ---- where the records of groups end

left-agree : (ends ends' : ℕ → ℕ) (rank : Rank) (k : ℕ) → (rank.group ≢ k → ends k ≡ ends' k) → left_after ends rank k ≡ left_after ends' rank k
left-agree ends ends' rank k h = elim (cases_eq rank.group k) [
  | inl e ↦ left-same ends rank k e ∙ sym (left-same ends' rank k e)
  | inr d ↦ left-other ends rank k d ∙ h d ∙ sym (left-other ends' rank k d)
]

-- only groups with records matter
down-agree : (groups : ℕ) (ends ends' : ℕ → ℕ) (ranks : List Rank) → ((p : ℕ) → p < length ranks → ends (rank_at ranks p).group ≡ ends' (rank_at ranks p).group) → GoDown groups ends ranks → GoDown groups ends' ranks
down-agree groups ends ends' [] same down = tt
down-agree groups ends ends' (rank ∷ others) same down = (
  down.0,
  down.1,
  down.2 ∙ same 0 (omega arith),
  down-agree groups (left_after ends rank) (left_after ends' rank) others (λ p b. left-agree ends ends' rank (rank_at others p).group (λ d. same (suc p) (omega (arith, b)))) down.3,
)

behind-agree : (ends ends' : ℕ → ℕ) (ranks : List Rank) (k : ℕ) → ends k ≡ ends' k → left_behind ends ranks k ≡ left_behind ends' ranks k
behind-agree ends ends' [] k e = e
behind-agree ends ends' (rank ∷ others) k e = behind-agree (left_after ends rank) (left_after ends' rank) others k (left-agree ends ends' rank k (λ d. e))

-- the group k of a list goes on to another place
abbrev goes_to : (ℕ → ℕ) → ℕ → ℕ → ℕ → ℕ
goes_to ends k stop j = if k == j then stop else ends j

to-same : (ends : ℕ → ℕ) (k stop : ℕ) → goes_to ends k stop k ≡ stop
to-same ends k stop = ap (λ here. if here then stop else ends k) (eq-eqb k k refl)

to-other : (ends : ℕ → ℕ) (k stop j : ℕ) → k ≢ j → goes_to ends k stop j ≡ ends j
to-other ends k stop j d = ap (λ here. if here then stop else ends j) (ne_eqb k j d)

-- once the record that goes on is read, all is as before
to-after : (ends : ℕ → ℕ) (rank : Rank) (k j : ℕ) → rank.group ≡ k → ends k ≡ rank.first → left_after (goes_to ends k rank.stop) rank j ≡ ends j
to-after ends rank k j is here = elim (cases_eq rank.group j) [
  | inl e ↦ left-same (goes_to ends k rank.stop) rank j e ∙ sym here ∙ ap ends (sym is ∙ e)
  | inr d ↦ left-other (goes_to ends k rank.stop) rank j d ∙ to-other ends k rank.stop j (λ e. d (is ∙ e))
]

-- another group's record is read first
to-later : (ends : ℕ → ℕ) (rank : Rank) (k stop j : ℕ) → rank.group ≢ k → left_after (goes_to ends k stop) rank j ≡ goes_to (left_after ends rank) k stop j
to-later ends rank k stop j other = elim (cases_eq k j) [
  | inl e ↦
      left-other (goes_to ends k stop) rank j (λ f. other (f ∙ sym e)) ∙ ap (λ here. if here then stop else ends j) (eq-eqb k j e)
      ∙ sym (ap (λ here. if here then stop else left_after ends rank j) (eq-eqb k j e))
  | inr d ↦ left-agree (goes_to ends k stop) ends rank j (λ f. to-other ends k stop j d) ∙ sym (to-other (left_after ends rank) k stop j d)
]

module _ (groups : ℕ) (new : Rank) where
  down-insert : (ends : ℕ → ℕ) (ranks : List Rank) (i : ℕ) → GoDown groups ends ranks → new.group < groups → new.first < new.stop → ends new.group ≡ new.first
      → i ≤ length ranks → ((q : ℕ) → q < i → (rank_at ranks q).group ≢ new.group) → GoDown groups (goes_to ends new.group new.stop) (insert ranks i new)
  down-insert ends ranks zero down inside some here l others = (
    inside,
    some,
    sym (to-same ends new.group new.stop),
    down-agree groups ends (left_after (goes_to ends new.group new.stop) new) ranks (λ p b. sym (to-after ends new new.group (rank_at ranks p).group refl here)) down,
  )
  down-insert ends [] (suc i) down inside some here l others = absurd (omega (arith, l))
  down-insert ends (rank ∷ ranks) (suc i) down inside some here l others =
      let other : rank.group ≢ new.group = others 0 (omega arith) in
      let rest = down-insert (left_after ends rank) ranks i down.3 inside some (left-other ends rank new.group other ∙ here) (omega (arith, l)) (λ q b. others (suc q) (omega (arith, b))) in (
        down.0,
        down.1,
        down.2 ∙ sym (to-other ends new.group new.stop rank.group (λ e. other (sym e))),
        down-agree groups (goes_to (left_after ends rank) new.group new.stop) (left_after (goes_to ends new.group new.stop) rank) (insert ranks i new)
            (λ p b. sym (to-later ends rank new.group new.stop (rank_at (insert ranks i new) p).group other)) rest,
      )

  behind-insert : (ends : ℕ → ℕ) (ranks : List Rank) (i j : ℕ) → ends new.group ≡ new.first → i ≤ length ranks → ((q : ℕ) → q < i → (rank_at ranks q).group ≢ new.group)
      → left_behind ends ranks j ≡ left_behind (goes_to ends new.group new.stop) (insert ranks i new) j
  behind-insert ends ranks zero j here l others = behind-agree ends (left_after (goes_to ends new.group new.stop) new) ranks j (sym (to-after ends new new.group j refl here))
  behind-insert ends [] (suc i) j here l others = absurd (omega (arith, l))
  behind-insert ends (rank ∷ ranks) (suc i) j here l others =
      let other : rank.group ≢ new.group = others 0 (omega arith) in
      behind-insert (left_after ends rank) ranks i j (left-other ends rank new.group other ∙ here) (omega (arith, l)) (λ q b. others (suc q) (omega (arith, b)))
      ∙ behind-agree (goes_to (left_after ends rank) new.group new.stop) (left_after (goes_to ends new.group new.stop) rank) (insert ranks i new) j (sym (to-later ends rank new.group new.stop j other))

-- ---- groups

module _ (a : GroupedAuction) where
  pub list-none : IsListOf a 0 []
  list-none = record {
    ends = λ j. 0;
    ranking = record { form = tt; pool = λ p b. absurd (omega (arith, b)); order = λ p b. absurd (omega (arith, b)) };
    whole = λ j b. absurd (omega (arith, b));
    reserve = λ j b. absurd (omega (arith, b));
    groups = λ p b. absurd (omega (arith, b));
  }

  -- the next group begins at its reserve
  pub list-group : (k reserve : ℕ) (ranks : List Rank) → IsListOf a k ranks → IsReserveOf a k reserve → IsListUpTo a k reserve ranks
  list-group k reserve ranks h is = record {
    ends = goes_to h.ends k reserve;
    ranking = record {
      form = down-agree (length a.groups) h.ends (goes_to h.ends k reserve) ranks (λ p b. sym (to-other h.ends k reserve (rank_at ranks p).group (λ e. omega (arith, e, h.groups p b)))) h.ranking.form;
      pool = h.ranking.pool;
      order = h.ranking.order;
    };
    whole = λ j b. to-other h.ends k reserve j (λ e. omega (arith, e, b)) ∙ h.whole j b;
    here = to-same h.ends k reserve;
    reserve = λ j b. elim (cases_lt j k) [
      | inl l ↦ subst (IsReserveOf a j) (behind-agree h.ends (goes_to h.ends k reserve) ranks j (sym (to-other h.ends k reserve j (λ e. omega (arith, e, l))))) (h.reserve j l)
      | inr l ↦ (let e : k ≡ j = omega (arith, l, b) in subst (λ i. IsReserveOf a i (left_behind (goes_to h.ends k reserve) ranks i)) e (subst (IsReserveOf a k) (sym (none (goes_to h.ends k reserve) ranks h.groups ∙ to-same h.ends k reserve)) is))
    ];
    groups = λ p b. omega (arith, h.groups p b);
    above = λ p x b e. absurd (omega (arith, e, h.groups p b));
  }
    where
      none : (ends : ℕ → ℕ) (others : List Rank) → ((p : ℕ) → p < length others → (rank_at others p).group < k) → left_behind ends others k ≡ ends k
      none ends [] below = refl
      none ends (rank ∷ others) below =
          none (left_after ends rank) others (λ p b. below (suc p) (omega (arith, b))) ∙ left-other ends rank k (λ e. omega (arith, e, below 0 (omega arith)))

  -- a group ends behind its last value
  pub list-whole : (k first : ℕ) (ranks : List Rank) → IsListUpTo a k first ranks → first ≡ length (group_at a k).values → IsListOf a (suc k) ranks
  list-whole k first ranks h e = record {
    ends = h.ends;
    ranking = h.ranking;
    whole = λ j b. elim (cases_lt j k) [ inl l ↦ h.whole j l | inr l ↦ (let is : k ≡ j = omega (arith, l, b) in subst (λ i. h.ends i ≡ length (group_at a i).values) is (h.here ∙ e)) ];
    reserve = h.reserve;
    groups = h.groups;
  }

  -- the list of all groups
  pub list-end : (ranks : List Rank) (levels : List Frac) → IsListOf a (length a.groups) ranks → length levels ≡ length ranks
      → ((p : ℕ) → p < length ranks → IsVirtualValue a (rank_at ranks p) (level_at levels p)) → IsByRule a ranks levels
  list-end ranks levels h same level = record {
    form = form;
    reserve = λ k b. subst (IsReserveOf a k) (behind-agree h.ends (λ j. length (group_at a j).values) ranks k (h.whole k b)) (h.reserve k b);
    pool = h.ranking.pool;
    order = h.ranking.order;
    one_each = same;
    level = level;
  }
    where
      form : GoDown (length a.groups) (λ j. length (group_at a j).values) ranks
      form = down-agree (length a.groups) h.ends (λ j. length (group_at a j).values) ranks (λ p b. h.whole (rank_at ranks p).group (h.groups p b)) h.ranking.form

  -- ---- pools

  -- what brings no less than another, and not more, brings just as much
  no-less : (rank other : Rank) → BringsNoLess a rank other → BringsMore a rank other ⊎ ((more_gain a rank other ≡ pos 0) × (more_benefit a rank other ≡ pos 0))
  no-less rank other (inl l) = inl (inl l)
  no-less rank other (inr h) = elim (lt_or_same_or_gt (pos 0) (more_benefit a rank other)) [
    | inl l ↦ inl (inr (h.0, l))
    | inr (inl e) ↦ inr (h.0, sym e)
    | inr (inr l) ↦ absurd (omega (arith, linear, h.1, l))
  ]

  not-both : (rank other : Rank) → BringsNoLess a rank other → BringsMore a other rank → ⊥
  not-both rank other (inl l) (inl m) = omega (arith, linear, l, m)
  not-both rank other (inl l) (inr m) = omega (arith, linear, l, m.0)
  not-both rank other (inr l) (inl m) = omega (arith, linear, l.0, m)
  not-both rank other (inr l) (inr m) = omega (arith, linear, l.1, m.1)

  module _ (ordered : IsOrdered a) (k first stop i : ℕ) (ranks : List Rank) (inside : k < length a.groups) where
    abbrev new : Rank
    new = record { group = k; first = first; stop = stop }

    weight-positive : (rank : Rank) → rank.group < suc k → IsPoolByRule a rank → pos 0 <ℤ rank_weight a rank
    weight-positive rank b pool = weight-between (group_in a rank) (ordered.group rank.group (omega (arith, b, inside))) rank.first rank.stop pool.some pool.inside

    -- what begins where the new pool ends brings more than that pool, and more than what that one brings more than
    next-above : (x : ℕ) → IsPoolEndOf a k first stop → stop < x → x ≤ length (group_at a k).values → BringsMore a (record { group = k; first = stop; stop = x }) new
    next-above x pool l b = next-more (group_at a k) (ordered.group k inside) (gain_of a (group_at a k)) first stop x pool l b

    still-above : (x : ℕ) (rank : Rank) → rank.group < suc k → IsPoolByRule a rank → IsPoolEndOf a k first stop → stop < x → x ≤ length (group_at a k).values
        → BringsMore a new rank → BringsMore a (record { group = k; first = stop; stop = x }) rank
    still-above x rank b lower pool l m above =
        let next : Rank = record { group = k; first = stop; stop = x } in
        above-through (rank_gain a next) (rank_benefit a next) (rank_weight a next) (rank_gain a new) (rank_benefit a new) (rank_weight a new) (rank_gain a rank) (rank_benefit a rank) (rank_weight a rank)
        (weight-between (group_at a k) (ordered.group k inside) stop x l m) (weight-positive new (omega arith) pool) (weight-positive rank b lower) (next-above x pool l m) above

    -- One more pool of a group is put behind all records that bring no less.
    pub list-pool : IsListUpTo a k first ranks → IsPoolEndOf a k first stop → i ≤ length ranks → ((q : ℕ) → q < i → BringsNoLess a (rank_at ranks q) new)
        → (i < length ranks → BringsMore a new (rank_at ranks i)) → IsListUpTo a k stop (insert ranks i new)
    list-pool h pool l before behind = record {
      ends = goes_to h.ends k stop;
      ranking = record {
        form = down-insert (length a.groups) new h.ends ranks i h.ranking.form inside pool.some h.here l others;
        pool = all-insert none (IsPoolByRule a) ranks i new h.ranking.pool pool l;
        order = neighbours-insert none (StandsBefore a) ranks i new h.ranking.order l stands (λ c. inl (behind c));
      };
      whole = λ j b. to-other h.ends k stop j (λ e. omega (arith, e, b)) ∙ h.whole j b;
      here = to-same h.ends k stop;
      reserve = λ j b. subst (IsReserveOf a j) (behind-insert (length a.groups) new h.ends ranks i j h.here l others) (h.reserve j b);
      groups = all-insert none (λ rank. rank.group < suc k) ranks i new h.groups (omega arith) l;
      above = λ p x b e m c.
          all-insert none (λ rank. rank.group ≡ k → BringsMore a (record { group = k; first = stop; stop = x }) rank) ranks i new
          (λ q d same. still-above x (rank_at ranks q) (h.groups q d) (h.ranking.pool q d) pool m c (h.above q stop d same pool.some pool.inside)) (λ same. next-above x pool m c) l p b e;
    }
      where
        none : Rank
        none = record { group = 0; first = 0; stop = 0 }

        others : (q : ℕ) → q < i → (rank_at ranks q).group ≢ k
        others q b e = not-both (rank_at ranks q) new (before q b) (h.above q stop (omega (arith, b, l)) e pool.some pool.inside)

        stands : (p : ℕ) → i ≡ suc p → StandsBefore a (rank_at ranks p) new
        stands p e =
            let b : p < i = omega (arith, e) in
            elim (no-less (rank_at ranks p) new (before p b)) [
              | inl more ↦ inl more
              | inr same ↦ inr (same.0, same.1, lower (rank_at ranks p).group (others p b) (h.groups p (omega (arith, b, l))))
            ]
          where
            lower : (g : ℕ) → g ≢ k → g < suc k → g < k
            lower g d c = elim (cases_lt g k) [ inl m ↦ m | inr m ↦ absurd (d (omega (arith, m, c))) ]
