-- Pools of the first places, to which one more pool is added.
use Rattle.std.proofs.Common.{◌≡◌, ◌⊎◌, inl, inr, ℕ, ◌+◌, ◌-◌, ◌<◌, ◌≤◌, ℤ, pos, ◌-ℤ◌, ◌*ℤ◌, ◌≤ℤ◌, ◌<ℤ◌, arith, sym, subst, ◌∙◌}
use Rattle.std.proofs.lemmas.Bool.{cases_lt}
use Rattle.md_math.proofs.Ring.{linear}
use Rattle.md_iron_values.specs.Pools.{Pools, IsLow, IsPooled}
use Rattle.md_iron_pools.proofs.ChordLaws.{between, rise-from_IsLow, positive-from_rise}

-- the last of the places 0 to k where the sums are least
pub record IsReserve (k : ℕ) (sums : ℕ → ℤ) (z : ℕ) : Type 0 where
  pub inside : z ≤ k
  pub least : (x : ℕ) → x ≤ k → sums z ≤ℤ sums x
  pub last : (x : ℕ) → z < x → x ≤ k → sums z <ℤ sums x

-- each place has a positive weight
pub record IsRising (k : ℕ) (weights : ℕ → ℤ) : Type 0 where
  pub some : (x y : ℕ) → x < y → y ≤ k → pos 0 <ℤ between weights x y

-- the places before n are pooled, by chords that are lowest up to k
pub record IsPooledTo (k : ℕ) (weights sums : ℕ → ℤ) (z n : ℕ) (first stop : ℕ → ℕ) : Type 0 where
  pub place : (j : ℕ) → j < n → (first j ≤ j) × (j < stop j) × (stop j ≤ n)
  pub join : (j : ℕ) → j + 1 < n → ((stop j ≡ j + 1) × (first (j + 1) ≡ j + 1)) ⊎ ((first (j + 1) ≡ first j) × (stop (j + 1) ≡ stop j))
  pub alone : (j : ℕ) → j < z → (first j ≡ j) × (stop j ≡ j + 1)
  pub low : (j x : ℕ) → z ≤ j → j < n → first j ≤ x → x ≤ k → IsLow weights sums (first j) (stop j) x
  pub rise : (j : ℕ) → z ≤ j → j + 1 < n → stop j ≡ j + 1
      → (between sums (first j) (stop j) *ℤ between weights (first (j + 1)) (stop (j + 1))) ≤ℤ (between sums (first (j + 1)) (stop (j + 1)) *ℤ between weights (first j) (stop j))
  pub positive : (j : ℕ) → z ≤ j → j < n → pos 0 <ℤ between sums (first j) (stop j)

-- the pool from n up to e has the lowest chord
pub record IsLowest (k : ℕ) (weights sums : ℕ → ℤ) (n e : ℕ) : Type 0 where
  pub behind : n < e
  pub inside : e ≤ k
  pub low : (x : ℕ) → n ≤ x → x ≤ k → IsLow weights sums n e x

-- the places before n are as they were, and those from n up to e are one pool
pub record IsExtended (n e : ℕ) (first stop first' stop' : ℕ → ℕ) : Type 0 where
  pub kept : (j : ℕ) → j < n → (first' j ≡ first j) × (stop' j ≡ stop j)
  pub new : (j : ℕ) → n ≤ j → j < e → (first' j ≡ n) × (stop' j ≡ e)

-- ---- the mean of the new pool is positive

-- the facts of the last pool before place n, if that one wins
record IsLast (k : ℕ) (weights sums : ℕ → ℤ) (n s : ℕ) : Type 0 where
  before : s < n
  low : (x : ℕ) → s ≤ x → x ≤ k → IsLow weights sums s n x
  positive : pos 0 <ℤ between sums s n

last_pool : (k : ℕ) (weights sums : ℕ → ℤ) (z m : ℕ) (first stop : ℕ → ℕ) → IsPooledTo k weights sums z (m + 1) first stop → z ≤ m → IsLast k weights sums (m + 1) (first m)
last_pool k weights sums z m first stop h l =
    let inside : m < m + 1 = omega arith in
    let p = h.place m inside in
    let end : stop m ≡ m + 1 = omega (arith, p.1, p.2) in
    record {
      before = omega (arith, p.0);
      low = λ x b c. subst (λ e. IsLow weights sums (first m) e x) end (h.low m x l inside b c);
      positive = subst (λ e. pos 0 <ℤ between sums (first m) e) end (h.positive m l inside);
    }

next-positive : (k : ℕ) (weights sums : ℕ → ℤ) (n e s : ℕ) → IsRising k weights → IsLast k weights sums n s → IsLowest k weights sums n e → pos 0 <ℤ between sums n e
next-positive k weights sums n e s rising last new =
    positive-from_rise (between sums s n) (between weights s n) (between sums n e) (between weights n e) last.positive
    (rising.some s n last.before (omega (arith, new.behind, new.inside))) (rising.some n e new.behind new.inside)
    (rise-from_IsLow weights sums s n e (last.low e (omega (arith, last.before, new.behind)) new.inside))

above : (x y : ℤ) → x <ℤ y → pos 0 <ℤ (y -ℤ x)
above x y h = omega (arith, linear)

new-positive : (k : ℕ) (weights sums : ℕ → ℤ) (z n e : ℕ) (first stop : ℕ → ℕ) → IsRising k weights → IsReserve k sums z → z ≤ n
    → IsPooledTo k weights sums z n first stop → IsLowest k weights sums n e → pos 0 <ℤ between sums n e
new-positive k weights sums z n e first stop rising reserve l h new = elim (cases_lt z n) [
  | inl below ↦ behind_last (n_is below)
  | inr g ↦ subst (λ s. pos 0 <ℤ between sums s e) (z_is g) (above (sums z) (sums e) (reserve.last e (omega (arith, l, new.behind)) new.inside))
]
  where
    z_is : n ≤ z → z ≡ n
    z_is g = omega (arith, l)

    n_is : z < n → (m : ℕ) × (z ≤ m) × (n ≡ m + 1)
    n_is below = (n - 1, omega arith, omega arith)

    behind_last : (m : ℕ) × (z ≤ m) × (n ≡ m + 1) → pos 0 <ℤ between sums n e
    behind_last w =
        next-positive k weights sums n e (first w.0) rising
        (subst (λ i. IsLast k weights sums i (first w.0)) (sym w.2) (last_pool k weights sums z w.0 first stop (subst (λ i. IsPooledTo k weights sums z i first stop) w.2 h) w.1))
        new

-- ---- one more pool

-- for each field of the record: what is true of the places before n stays, and what is true of the new pool joins it
record IsAdded (k : ℕ) (weights sums : ℕ → ℤ) (z n e : ℕ) (first stop first' stop' : ℕ → ℕ) : Type 0 where
  old : IsPooledTo k weights sums z n first stop
  new : IsLowest k weights sums n e
  reserve : z ≤ n
  extended : IsExtended n e first stop first' stop'

place_more : (k : ℕ) (weights sums : ℕ → ℤ) (z n e : ℕ) (first stop first' stop' : ℕ → ℕ) → IsAdded k weights sums z n e first stop first' stop'
    → (j : ℕ) → j < e → (first' j ≤ j) × (j < stop' j) × (stop' j ≤ e)
place_more k weights sums z n e first stop first' stop' h j b = elim (cases_lt j n) [
  | inl l ↦ old (h.extended.kept j l) (h.old.place j l)
  | inr g ↦ new g (h.extended.new j g b)
]
  where
    old : (first' j ≡ first j) × (stop' j ≡ stop j) → (first j ≤ j) × (j < stop j) × (stop j ≤ n) → (first' j ≤ j) × (j < stop' j) × (stop' j ≤ e)
    old s p = (omega (arith, s.0, p.0), omega (arith, s.1, p.1), omega (arith, s.1, p.2, h.new.behind))

    new : n ≤ j → (first' j ≡ n) × (stop' j ≡ e) → (first' j ≤ j) × (j < stop' j) × (stop' j ≤ e)
    new g s = (omega (arith, s.0, g), omega (arith, s.1, b), omega (arith, s.1))

join_more : (k : ℕ) (weights sums : ℕ → ℤ) (z n e : ℕ) (first stop first' stop' : ℕ → ℕ) → IsAdded k weights sums z n e first stop first' stop'
    → (j : ℕ) → j + 1 < e → ((stop' j ≡ j + 1) × (first' (j + 1) ≡ j + 1)) ⊎ ((first' (j + 1) ≡ first' j) × (stop' (j + 1) ≡ stop' j))
join_more k weights sums z n e first stop first' stop' h j b = elim (cases_lt (j + 1) n) [
  | inl l ↦ old (h.extended.kept j (omega (arith, l))) (h.extended.kept (j + 1) l) (h.old.join j l)
  | inr g ↦ elim (cases_lt j n) [
    | inl l ↦ seam l g (h.extended.kept j l) (h.extended.new (j + 1) g b) (h.old.place j l)
    | inr o ↦ new (h.extended.new j o (omega (arith, b))) (h.extended.new (j + 1) g b)
  ]
]
  where
    old : (first' j ≡ first j) × (stop' j ≡ stop j) → (first' (j + 1) ≡ first (j + 1)) × (stop' (j + 1) ≡ stop (j + 1)) → ((stop j ≡ j + 1) × (first (j + 1) ≡ j + 1)) ⊎ ((first (j + 1) ≡ first j) × (stop (j + 1) ≡ stop j)) → ((stop' j ≡ j + 1) × (first' (j + 1) ≡ j + 1)) ⊎ ((first' (j + 1) ≡ first' j) × (stop' (j + 1) ≡ stop' j))
    old s t (inl w) = inl (s.1 ∙ w.0, t.0 ∙ w.1)
    old s t (inr w) = inr (t.0 ∙ w.0 ∙ sym s.0, t.1 ∙ w.1 ∙ sym s.1)

    seam : j < n → n ≤ j + 1 → (first' j ≡ first j) × (stop' j ≡ stop j) → (first' (j + 1) ≡ n) × (stop' (j + 1) ≡ e) → (first j ≤ j) × (j < stop j) × (stop j ≤ n) → ((stop' j ≡ j + 1) × (first' (j + 1) ≡ j + 1)) ⊎ ((first' (j + 1) ≡ first' j) × (stop' (j + 1) ≡ stop' j))
    seam l g s t p = inl (omega (arith, s.1, p.1, p.2, l, g), omega (arith, t.0, l, g))

    new : (first' j ≡ n) × (stop' j ≡ e) → (first' (j + 1) ≡ n) × (stop' (j + 1) ≡ e) → ((stop' j ≡ j + 1) × (first' (j + 1) ≡ j + 1)) ⊎ ((first' (j + 1) ≡ first' j) × (stop' (j + 1) ≡ stop' j))
    new s t = inr (t.0 ∙ sym s.0, t.1 ∙ sym s.1)

alone_more : (k : ℕ) (weights sums : ℕ → ℤ) (z n e : ℕ) (first stop first' stop' : ℕ → ℕ) → IsAdded k weights sums z n e first stop first' stop'
    → (j : ℕ) → j < z → (first' j ≡ j) × (stop' j ≡ j + 1)
alone_more k weights sums z n e first stop first' stop' h j b = both (h.extended.kept j (omega (arith, b, h.reserve))) (h.old.alone j b)
  where
    both : (first' j ≡ first j) × (stop' j ≡ stop j) → (first j ≡ j) × (stop j ≡ j + 1) → (first' j ≡ j) × (stop' j ≡ j + 1)
    both s t = (s.0 ∙ t.0, s.1 ∙ t.1)

low_more : (k : ℕ) (weights sums : ℕ → ℤ) (z n e : ℕ) (first stop first' stop' : ℕ → ℕ) → IsAdded k weights sums z n e first stop first' stop'
    → (j x : ℕ) → z ≤ j → j < e → first' j ≤ x → x ≤ k → IsLow weights sums (first' j) (stop' j) x
low_more k weights sums z n e first stop first' stop' h j x l b c d = elim (cases_lt j n) [
  | inl o ↦ by_names (first j) (stop j) (h.extended.kept j o) (λ m. h.old.low j x l o m d)
  | inr g ↦ by_names n e (h.extended.new j g b) (λ m. h.new.low x m d)
]
  where
    by_names : (s t : ℕ) → (first' j ≡ s) × (stop' j ≡ t) → (s ≤ x → IsLow weights sums s t x) → IsLow weights sums (first' j) (stop' j) x
    by_names s t same low = rw (same.0, same.1) (low (omega (arith, same.0, c)))

positive_more : (k : ℕ) (weights sums : ℕ → ℤ) (z n e : ℕ) (first stop first' stop' : ℕ → ℕ) → IsRising k weights → IsReserve k sums z → IsAdded k weights sums z n e first stop first' stop'
    → (j : ℕ) → z ≤ j → j < e → pos 0 <ℤ between sums (first' j) (stop' j)
positive_more k weights sums z n e first stop first' stop' rising reserve h j l b = elim (cases_lt j n) [
  | inl o ↦ by_names (first j) (stop j) (h.extended.kept j o) (h.old.positive j l o)
  | inr g ↦ by_names n e (h.extended.new j g b) (new-positive k weights sums z n e first stop rising reserve h.reserve h.old h.new)
]
  where
    by_names : (s t : ℕ) → (first' j ≡ s) × (stop' j ≡ t) → pos 0 <ℤ between sums s t → pos 0 <ℤ between sums (first' j) (stop' j)
    by_names s t same above = rw (same.0, same.1) above

rise_more : (k : ℕ) (weights sums : ℕ → ℤ) (z n e : ℕ) (first stop first' stop' : ℕ → ℕ) → IsAdded k weights sums z n e first stop first' stop'
    → (j : ℕ) → z ≤ j → j + 1 < e → stop' j ≡ j + 1
    → (between sums (first' j) (stop' j) *ℤ between weights (first' (j + 1)) (stop' (j + 1))) ≤ℤ (between sums (first' (j + 1)) (stop' (j + 1)) *ℤ between weights (first' j) (stop' j))
rise_more k weights sums z n e first stop first' stop' h j l b end = elim (cases_lt (j + 1) n) [
  | inl o ↦ by_names (first j) (stop j) (first (j + 1)) (stop (j + 1)) (h.extended.kept j (omega (arith, o))) (h.extended.kept (j + 1) o)
      (h.old.rise j l o (old_end (h.extended.kept j (omega (arith, o)))))
  | inr g ↦ elim (cases_lt j n) [
    | inl o ↦ by_names (first j) n n e (seam_names o g (h.extended.kept j o) (h.old.place j o)) (h.extended.new (j + 1) g b)
        (rise-from_IsLow weights sums (first j) n e (seam o g (h.old.place j o) (h.old.low j e l o)))
    | inr o ↦ absurd (omega (arith, end, b, (h.extended.new j o (omega (arith, b))).1))
  ]
]
  where
    old_end : (first' j ≡ first j) × (stop' j ≡ stop j) → stop j ≡ j + 1
    old_end s = sym s.1 ∙ end

    seam_names : j < n → n ≤ j + 1 → (first' j ≡ first j) × (stop' j ≡ stop j) → (first j ≤ j) × (j < stop j) × (stop j ≤ n) → (first' j ≡ first j) × (stop' j ≡ n)
    seam_names o g s p = (s.0, omega (arith, s.1, p.1, p.2, o, g))

    seam : j < n → n ≤ j + 1 → (first j ≤ j) × (j < stop j) × (stop j ≤ n) → (first j ≤ e → e ≤ k → IsLow weights sums (first j) (stop j) e) → IsLow weights sums (first j) n e
    seam o g p low =
        let same : stop j ≡ n = omega (arith, p.1, p.2, o, g) in
        subst (λ t. IsLow weights sums (first j) t e) same (low (omega (arith, p.0, b)) h.new.inside)

    by_names : (s t u v : ℕ) → (first' j ≡ s) × (stop' j ≡ t) → (first' (j + 1) ≡ u) × (stop' (j + 1) ≡ v)
        → (between sums s t *ℤ between weights u v) ≤ℤ (between sums u v *ℤ between weights s t)
        → (between sums (first' j) (stop' j) *ℤ between weights (first' (j + 1)) (stop' (j + 1))) ≤ℤ (between sums (first' (j + 1)) (stop' (j + 1)) *ℤ between weights (first' j) (stop' j))
    by_names s t u v same other above = rw (same.0, same.1, other.0, other.1) above

pub IsPooledTo-more : (k : ℕ) (weights sums : ℕ → ℤ) (z n e : ℕ) (first stop first' stop' : ℕ → ℕ) → IsRising k weights → IsReserve k sums z → z ≤ n
    → IsPooledTo k weights sums z n first stop → IsLowest k weights sums n e → IsExtended n e first stop first' stop' → IsPooledTo k weights sums z e first' stop'
IsPooledTo-more k weights sums z n e first stop first' stop' rising reserve l old new extended =
    let h : IsAdded k weights sums z n e first stop first' stop' = record { old = old; new = new; reserve = l; extended = extended } in
    record {
      place = place_more k weights sums z n e first stop first' stop' h;
      join = join_more k weights sums z n e first stop first' stop' h;
      alone = alone_more k weights sums z n e first stop first' stop' h;
      low = low_more k weights sums z n e first stop first' stop' h;
      rise = rise_more k weights sums z n e first stop first' stop' h;
      positive = positive_more k weights sums z n e first stop first' stop' rising reserve h;
    }

-- ---- the start and the end

-- places that are all alone, before any pool that wins
pub IsPooledTo-start : (k : ℕ) (weights sums : ℕ → ℤ) (z : ℕ) (first stop : ℕ → ℕ) → ((j : ℕ) → j < z → (first j ≡ j) × (stop j ≡ j + 1)) → IsPooledTo k weights sums z z first stop
IsPooledTo-start k weights sums z first stop h = record {
  place = λ j b. (omega (arith, (h j b).0), omega (arith, (h j b).1), omega (arith, (h j b).1, b));
  join = λ j b. inl ((h j (omega (arith, b))).1, (h (j + 1) b).0);
  alone = h;
  low = λ j x l b c d. absurd (omega (arith, l, b));
  rise = λ j l b e. absurd (omega (arith, l, b));
  positive = λ j l b. absurd (omega (arith, l, b));
}

pub IsPooled-end : (k : ℕ) (weights sums : ℕ → ℤ) (n : ℕ) (pools : Pools) → n ≡ k → IsReserve k sums pools.reserve
    → IsPooledTo k weights sums pools.reserve n pools.first pools.stop → IsPooled k weights sums pools
IsPooled-end k weights sums n pools e reserve h = whole (subst (λ i. IsPooledTo k weights sums pools.reserve i pools.first pools.stop) e h)
  where
    whole : IsPooledTo k weights sums pools.reserve k pools.first pools.stop → IsPooled k weights sums pools
    whole p = record {
      inside = reserve.inside;
      least = reserve.least;
      place = p.place;
      join = p.join;
      alone = p.alone;
      low = λ j x l b c d. p.low j x l b c (omega (arith, d, (p.place j b).2));
      rise = p.rise;
      positive = p.positive;
    }
