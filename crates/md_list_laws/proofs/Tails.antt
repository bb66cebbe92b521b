-- The values of one group in a list: from any value on, levels add up to at least the gains.
use Rattle.std.proofs.Common.{◌≡◌, ◌⊎◌, ℕ, zero, suc, ◌+◌, ◌-◌, ◌<◌, ◌≤◌, ℤ, pos, ◌+ℤ◌, ◌-ℤ◌, ◌*ℤ◌, ◌≤ℤ◌, Bool, true, false, if◌then◌else◌, List, [], ◌∷◌, length, inl, inr, refl, sym, ap, ap₂, ◌∙◌, subst, arith}
use Rattle.std.proofs.lemmas.Bool.{cases_lt, cases_eq}
use Rattle.md_math.specs.Sums.{sum_to}
use Rattle.md_math.proofs.Ring.{linear, ring, zero-*ℤ}
use Rattle.md_math.proofs.SumLaws.{sum_to-sub, sum_to-*ℤ}
use Rattle.md_list.specs.Ranks.{Rank, has_value, place_of, left_after, GoDown}
use Rattle.md_list.specs.Gains.{between}
use Rattle.md_list.specs.Valid.{rank_at, left_behind}
use Rattle.md_list.proofs.PlaceLaws.{has-inside, has-other, has-below, place-here, place-later, left-same, left-other}
use Rattle.md_list_laws.proofs.Levels.{excess}

-- ---- sums between two values

pub between-same : (f g : ℕ → ℤ) (x k : ℕ) → ((v : ℕ) → x ≤ v → v < x + k → f v ≡ g v) → between f x (x + k) ≡ between g x (x + k)
between-same f g x zero h = (let e : x + zero ≡ x = omega arith in rw e (none (sum_to x f) (sum_to x g)))
  where
    none : (a b : ℤ) → a -ℤ a ≡ b -ℤ b
    none a b = omega (arith, linear)
between-same f g x (suc k) h =
    let e : x + suc k ≡ suc (x + k) = omega arith in
    rw e (omega (arith, linear, between-same f g x k (λ v l b. h v l (omega (arith, b))), h (x + k) (omega arith) (omega arith)))

pub between-agree : (f g : ℕ → ℤ) (x y : ℕ) → x ≤ y → ((v : ℕ) → x ≤ v → v < y → f v ≡ g v) → between f x y ≡ between g x y
between-agree f g x y l h = (let e : x + (y - x) ≡ y = omega (arith, l) in subst (λ k. ((v : ℕ) → x ≤ v → v < k → f v ≡ g v) → between f x k ≡ between g x k) e (between-same f g x (y - x)) h)

-- where all have one level
pub between-level : (weight gain : ℕ → ℤ) (level den : ℤ) (x y : ℕ) → between (λ v. level *ℤ weight v -ℤ den *ℤ gain v) x y ≡ level *ℤ between weight x y -ℤ den *ℤ between gain x y
between-level weight gain level den x y = ap₂ (λ a b. a -ℤ b) (at y) (at x) ∙ parts level den (sum_to y weight) (sum_to x weight) (sum_to y gain) (sum_to x gain)
  where
    at : (n : ℕ) → sum_to n (λ v. level *ℤ weight v -ℤ den *ℤ gain v) ≡ level *ℤ sum_to n weight -ℤ den *ℤ sum_to n gain
    at n = sum_to-sub n (λ v. level *ℤ weight v) (λ v. den *ℤ gain v) ∙ ap₂ (λ a b. a -ℤ b) (sum_to-*ℤ n level weight) (sum_to-*ℤ n den gain)

    parts : (l d a b g h : ℤ) → (l *ℤ a -ℤ d *ℤ g) -ℤ (l *ℤ b -ℤ d *ℤ h) ≡ l *ℤ (a -ℤ b) -ℤ d *ℤ (g -ℤ h)
    parts l d a b g h = simp ring (omega (arith, linear))

-- ---- places

pub place-bounded : (ranks : List Rank) (k v : ℕ) → place_of ranks k v ≤ length ranks
place-bounded [] k v = omega arith
place-bounded (rank ∷ others) k v = by (has_value rank k v) (place-bounded others k v)
  where
    by : (b : Bool) → place_of others k v ≤ length others → (if b then 0 else suc (place_of others k v)) ≤ suc (length others)
    by true h = omega arith
    by false h = omega (arith, h)

-- ---- what is in excess from a value on

-- the level of a record is the average gain of all its values, and that of a lower part is no smaller
pub record HasLevel (weight gain : ℕ → ℕ → ℤ) (den : ℤ) (rank : Rank) (level : ℤ) : Type 0 where
  pub inside : (x : ℕ) → rank.first < x → x < rank.stop → (level *ℤ between (weight rank.group) rank.first x) ≤ℤ (den *ℤ between (gain rank.group) rank.first x)
  pub whole : level *ℤ between (weight rank.group) rank.first rank.stop ≡ den *ℤ between (gain rank.group) rank.first rank.stop

-- the excess of the values of a group, by the levels of their places in a list
abbrev pub listed_excess : (weight gain : ℕ → ℕ → ℤ) → (ℕ → ℤ) → ℤ → List Rank → ℕ → ℕ → ℤ
listed_excess weight gain level den ranks k = excess (weight k) (gain k) (λ v. level (place_of ranks k v)) den

-- From a value on the excess is not negative. It is 0, or the value has the place of the one below it, or it is the lowest value
-- and unlisted.
pub record IsTail (weight gain : ℕ → ℕ → ℤ) (level : ℕ → ℤ) (den : ℤ) (ranks : List Rank) (k stop x : ℕ) : Type 0 where
  pub nonneg : pos 0 ≤ℤ between (listed_excess weight gain level den ranks k) x stop
  pub begins : (between (listed_excess weight gain level den ranks k) x stop ≡ pos 0) ⊎ (((y : ℕ) × (x ≡ suc y) × (place_of ranks k x ≡ place_of ranks k y)) ⊎ ((x ≡ 0) × (place_of ranks k 0 ≡ length ranks)))

module _ (weight gain : ℕ → ℕ → ℤ) (den : ℤ) where
  -- values that the first record does not have
  later : (rank : Rank) (others : List Rank) (level : ℕ → ℤ) (k stop x : ℕ) → x < stop → ((v : ℕ) → v < stop → has_value rank k v ≡ false)
      → IsTail weight gain (λ p. level (suc p)) den others k stop x → IsTail weight gain level den (rank ∷ others) k stop x
  later rank others level k stop x b away tail = record { nonneg = subst (λ z. pos 0 ≤ℤ z) (sym same) tail.nonneg; begins = begins tail.begins }
    where
      place : (v : ℕ) → v < stop → place_of (rank ∷ others) k v ≡ suc (place_of others k v)
      place v l = place-later rank others k v (away v l)

      same : between (listed_excess weight gain level den (rank ∷ others) k) x stop ≡ between (listed_excess weight gain (λ p. level (suc p)) den others k) x stop
      same = between-agree _ _ x stop (omega (arith, b)) (λ v l c. ap (λ p. level p *ℤ weight k v -ℤ den *ℤ gain k v) (place v c))

      begins : (between (listed_excess weight gain (λ p. level (suc p)) den others k) x stop ≡ pos 0)
          ⊎ (((y : ℕ) × (x ≡ suc y) × (place_of others k x ≡ place_of others k y)) ⊎ ((x ≡ 0) × (place_of others k 0 ≡ length others)))
          → (between (listed_excess weight gain level den (rank ∷ others) k) x stop ≡ pos 0)
          ⊎ (((y : ℕ) × (x ≡ suc y) × (place_of (rank ∷ others) k x ≡ place_of (rank ∷ others) k y)) ⊎ ((x ≡ 0) × (place_of (rank ∷ others) k 0 ≡ suc (length others))))
      begins (inl e) = inl (same ∙ e)
      begins (inr (inl (y, e, d))) = inr (inl (y, e, place x b ∙ ap suc d ∙ sym (place y (omega (arith, b, e)))))
      begins (inr (inr (e, d))) = inr (inr (e, place 0 (omega (arith, b, e)) ∙ ap suc d))

  -- more values whose excess adds up to 0 change nothing
  longer : (ranks : List Rank) (level : ℕ → ℤ) (k first stop x : ℕ) → between (listed_excess weight gain level den ranks k) first stop ≡ pos 0
      → IsTail weight gain level den ranks k first x → IsTail weight gain level den ranks k stop x
  longer ranks level k first stop x none tail =
      let e = listed_excess weight gain level den ranks k in
      let join : between e x stop ≡ between e x first +ℤ between e first stop = joined (sum_to x e) (sum_to first e) (sum_to stop e) in
      let same : between e x stop ≡ between e x first = join ∙ ap (λ z. between e x first +ℤ z) none ∙ nothing (between e x first) in
      record {
        nonneg = subst (λ z. pos 0 ≤ℤ z) (sym same) tail.nonneg;
        begins = elim tail.begins [ inl d ↦ inl (same ∙ d) | inr d ↦ inr d ];
      }
    where
      joined : (x y z : ℤ) → z -ℤ x ≡ (y -ℤ x) +ℤ (z -ℤ y)
      joined x y z = omega (arith, linear)

      nothing : (z : ℤ) → z +ℤ pos 0 ≡ z
      nothing z = omega (arith, linear)

  -- values of the first record
  within : (rank : Rank) (others : List Rank) (level : ℕ → ℤ) (x : ℕ) → rank.first ≤ x → x < rank.stop → HasLevel weight gain den rank (level 0)
      → IsTail weight gain level den (rank ∷ others) rank.group rank.stop x
  within rank others level x l b has = elim (cases_lt rank.first x) [
    | inl above ↦ record {
      nonneg = subst (λ z. pos 0 ≤ℤ z) (sym same) (rest (sum_to rank.stop (weight rank.group)) (sum_to rank.first (weight rank.group)) (sum_to x (weight rank.group)) (sum_to rank.stop (gain rank.group)) (sum_to rank.first (gain rank.group)) (sum_to x (gain rank.group)) has.whole (has.inside x above b));
      begins = inr (inl (x - 1, omega (arith, above), place x l b ∙ sym (place (x - 1) (omega (arith, above)) (omega (arith, b)))));
    }
    | inr below ↦
        let first : rank.first ≡ x = omega (arith, l, below) in
        let none : between (listed_excess weight gain level den (rank ∷ others) rank.group) x rank.stop ≡ pos 0 = same ∙ subst (λ y. level 0 *ℤ between (weight rank.group) y rank.stop -ℤ den *ℤ between (gain rank.group) y rank.stop ≡ pos 0) first (nothing (level 0 *ℤ between (weight rank.group) rank.first rank.stop) (den *ℤ between (gain rank.group) rank.first rank.stop) has.whole) in
        record { nonneg = omega (arith, linear, none); begins = inl none }
  ]
    where
      place : (v : ℕ) → rank.first ≤ v → v < rank.stop → place_of (rank ∷ others) rank.group v ≡ 0
      place v m c = place-here rank others rank.group v (has-inside rank rank.group v refl m c)

      same : between (listed_excess weight gain level den (rank ∷ others) rank.group) x rank.stop ≡ level 0 *ℤ between (weight rank.group) x rank.stop -ℤ den *ℤ between (gain rank.group) x rank.stop
      same =
          between-agree (listed_excess weight gain level den (rank ∷ others) rank.group) (λ v. level 0 *ℤ weight rank.group v -ℤ den *ℤ gain rank.group v) x rank.stop (omega (arith, b)) (λ v m c. ap (λ p. level p *ℤ weight rank.group v -ℤ den *ℤ gain rank.group v) (place v (omega (arith, l, m)) c))
          ∙ between-level (weight rank.group) (gain rank.group) (level 0) den x rank.stop

      nothing : (a b : ℤ) → a ≡ b → a -ℤ b ≡ pos 0
      nothing a b e = omega (arith, linear, e)

      rest : (a b c s t u : ℤ) → level 0 *ℤ (a -ℤ b) ≡ den *ℤ (s -ℤ t) → (level 0 *ℤ (c -ℤ b)) ≤ℤ (den *ℤ (u -ℤ t)) → pos 0 ≤ℤ (level 0 *ℤ (a -ℤ c) -ℤ den *ℤ (s -ℤ u))
      rest a b c s t u whole inside =
          let e : level 0 *ℤ (a -ℤ c) ≡ level 0 *ℤ (a -ℤ b) -ℤ level 0 *ℤ (c -ℤ b) = parts (level 0) a b c in
          let d : den *ℤ (s -ℤ u) ≡ den *ℤ (s -ℤ t) -ℤ den *ℤ (u -ℤ t) = parts den s t u in
          omega (arith, linear, whole, inside, e, d)
        where
          parts : (l a b c : ℤ) → l *ℤ (a -ℤ c) ≡ l *ℤ (a -ℤ b) -ℤ l *ℤ (c -ℤ b)
          parts l a b c = simp ring (omega (arith, linear))

  -- unlisted values
  unlisted-tail : (level : ℕ → ℤ) (k stop x : ℕ) → level 0 ≡ pos 0 → (den *ℤ between (gain k) x stop) ≤ℤ pos 0 → IsTail weight gain level den [] k stop x
  unlisted-tail level k stop x ends less = record { nonneg = subst (λ z. pos 0 ≤ℤ z) (sym whole) (omega (arith, linear, less)); begins = begins x }
    where
      whole : between (listed_excess weight gain level den [] k) x stop ≡ pos 0 -ℤ den *ℤ between (gain k) x stop
      whole =
          between-level (weight k) (gain k) (level 0) den x stop
          ∙ ap (λ z. z -ℤ den *ℤ between (gain k) x stop) (ap (λ l. l *ℤ between (weight k) x stop) ends ∙ zero-*ℤ (between (weight k) x stop))

      begins : (x : ℕ) → (between (listed_excess weight gain level den [] k) x stop ≡ pos 0) ⊎ (((y : ℕ) × (x ≡ suc y) × (place_of [] k x ≡ place_of [] k y)) ⊎ ((x ≡ 0) × (place_of [] k 0 ≡ 0)))
      begins zero = inr (inr (refl, refl))
      begins (suc y) = inr (inl (y, refl, refl))

  -- the values of the first record have no excess together
  whole-rank : (rank : Rank) (others : List Rank) (level : ℕ → ℤ) → rank.first < rank.stop → HasLevel weight gain den rank (level 0)
      → between (listed_excess weight gain level den (rank ∷ others) rank.group) rank.first rank.stop ≡ pos 0
  whole-rank rank others level l has =
      between-agree _ (λ v. level 0 *ℤ weight rank.group v -ℤ den *ℤ gain rank.group v) rank.first rank.stop (omega (arith, l))
      (λ v m c. ap (λ p. level p *ℤ weight rank.group v -ℤ den *ℤ gain rank.group v) (place-here rank others rank.group v (has-inside rank rank.group v refl m c)))
      ∙ between-level (weight rank.group) (gain rank.group) (level 0) den rank.first rank.stop
      ∙ nothing (level 0 *ℤ between (weight rank.group) rank.first rank.stop) (den *ℤ between (gain rank.group) rank.first rank.stop) has.whole
    where
      nothing : (a b : ℤ) → a ≡ b → a -ℤ b ≡ pos 0
      nothing a b e = omega (arith, linear, e)

  -- the values of the first record's group
  own-tail : (rank : Rank) (others : List Rank) (level : ℕ → ℤ) → rank.first < rank.stop → HasLevel weight gain den rank (level 0) → (x : ℕ) → x < rank.stop
      → (x < rank.first → IsTail weight gain (λ p. level (suc p)) den others rank.group rank.first x) → IsTail weight gain level den (rank ∷ others) rank.group rank.stop x
  own-tail rank others level some has x b below = elim (cases_lt x rank.first) [
    | inr l ↦ within rank others level x l b has
    | inl l ↦
        longer (rank ∷ others) level rank.group rank.first rank.stop x (whole-rank rank others level some has)
        (later rank others level rank.group rank.first x l (λ v c. has-below rank rank.group v c) (below l))
  ]

  pub tails : (groups : ℕ) (ranks : List Rank) (left : ℕ → ℕ) (level : ℕ → ℤ) → GoDown groups left ranks
      → ((p : ℕ) → p < length ranks → HasLevel weight gain den (rank_at ranks p) (level p)) → level (length ranks) ≡ pos 0
      → (k : ℕ) → ((v : ℕ) → v < left_behind left ranks k → (den *ℤ between (gain k) v (left_behind left ranks k)) ≤ℤ pos 0)
      → (x : ℕ) → x < left k → IsTail weight gain level den ranks k (left k) x
  tails groups [] left level down has ends k rest x b = unlisted-tail level k (left k) x ends (rest x b)
  tails groups (rank ∷ others) left level down has ends k rest x b =
      let before : (y : ℕ) → y < left_after left rank k → IsTail weight gain (λ p. level (suc p)) den others k (left_after left rank k) y =
      tails groups others (left_after left rank) (λ p. level (suc p)) down.3 (λ p c. has (suc p) (omega (arith, c))) ends k rest in
      elim (cases_eq rank.group k) [
        | inl own ↦
            let stop : rank.stop ≡ left k = down.2 ∙ ap left own in
            let after : left_after left rank k ≡ rank.first = left-same left rank k own in
            subst (λ n. IsTail weight gain level den (rank ∷ others) k n x) stop
            (subst (λ g. IsTail weight gain level den (rank ∷ others) g rank.stop x) own
            (own-tail rank others level down.1 (has 0 (omega arith)) x (omega (arith, stop, b))
            (λ l. subst (λ g. IsTail weight gain (λ p. level (suc p)) den others g rank.first x) (sym own)
            (subst (λ n. IsTail weight gain (λ p. level (suc p)) den others k n x) after (before x (omega (arith, l, after)))))))
        | inr other ↦
            let after : left_after left rank k ≡ left k = left-other left rank k other in
            later rank others level k (left k) x b (λ v c. has-other rank k v other)
            (subst (λ n. IsTail weight gain (λ p. level (suc p)) den others k n x) after (before x (omega (arith, b, after))))
      ]
