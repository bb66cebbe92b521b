-- Sums over the values of groups by their places in a list: those with one place are the values of its record.
use Rattle.std.proofs.Common.{◌≡◌, ◌≢◌, ◌⊎◌, ℕ, zero, suc, ◌<◌, ◌≤◌, ◌==◌, ℤ, pos, ◌+ℤ◌, ◌-ℤ◌, ◌*ℤ◌, Bool, true, false, ◌&&◌, nat_le, nat_lt, if◌then◌else◌, List, [], ◌∷◌, length, inl, inr, refl, sym, ap, ap₂, ◌∙◌, subst, arith, lt-ltb, le-ltb, ltb-true, leb-true, eqb-true, eq-eqb, ne_eqb}
use Rattle.std.proofs.lemmas.Bool.{cases_Bool, cases_lt, cases_eq, and_parts}
use Rattle.md_math.specs.Sums.{sum_to}
use Rattle.md_math.proofs.Ring.{linear}
use Rattle.md_math.proofs.SumLaws.{sum_to-same, sum_to-zero, sum_to-+ℤ, sum_to-swap, sum_to-single, sum_to-at}
use Rattle.md_list.specs.Gains.{between}
use Rattle.md_list.specs.Ranks.{Rank, has_value, place_of, GoDown}
use Rattle.md_list.specs.Valid.{rank_at, over_rank}
use Rattle.md_list.proofs.PlaceLaws.{place-in}
use Rattle.md_list_laws.proofs.Inside.{IsInside, ranks-inside}

-- ---- the record at the place of a value

place-has : (ranks : List Rank) (k v : ℕ) → place_of ranks k v < length ranks → has_value (rank_at ranks (place_of ranks k v)) k v ≡ true
place-has [] k v b = absurd (omega (arith, b))
place-has (rank ∷ others) k v b = by (has_value rank k v) refl (λ l. place-has others k v l) b
  where
    by : (c : Bool) → has_value rank k v ≡ c → (place_of others k v < length others → has_value (rank_at others (place_of others k v)) k v ≡ true)
        → (if c then 0 else suc (place_of others k v)) < suc (length others) → has_value (rank_at (rank ∷ others) (if c then 0 else suc (place_of others k v))) k v ≡ true
    by true e rest l = e
    by false e rest l = rest (omega (arith, l))

-- the value is one of the record
pub record IsOf (rank : Rank) (k v : ℕ) : Type 0 where
  pub group : rank.group ≡ k
  pub from : rank.first ≤ v
  pub to : v < rank.stop

pub place-of : (ranks : List Rank) (k v c : ℕ) → c < length ranks → place_of ranks k v ≡ c → IsOf (rank_at ranks c) k v
place-of ranks k v c b e =
    let rank = rank_at ranks c in
    let has : has_value rank k v ≡ true = subst (λ p. p < length ranks → has_value (rank_at ranks p) k v ≡ true) e (place-has ranks k v) b in
    let (front, to) = and_parts (rank.group == k && nat_le rank.first v) (nat_lt v rank.stop) has in
    let (group, from) = and_parts (rank.group == k) (nat_le rank.first v) front in
    record { group = eqb-true rank.group k group; from = leb-true rank.first v from; to = ltb-true v rank.stop to }

-- ---- sums over one group

-- the places up to one are those before it, and it
pub one-more : (c p : ℕ) (x : ℤ) → (if nat_lt p (suc c) then x else pos 0) ≡ (if nat_lt p c then x else pos 0) +ℤ (if p == c then x else pos 0)
one-more c p x = elim (cases_eq p c) [
  | inl e ↦ rw (lt-ltb p (suc c) (omega (arith, e)), le-ltb p c (omega (arith, e)), eq-eqb p c e) (omega (arith, linear))
  | inr d ↦ elim (cases_lt p c) [
    | inl b ↦ rw (lt-ltb p (suc c) (omega (arith, b)), lt-ltb p c b, ne_eqb p c d) (omega (arith, linear))
    | inr b ↦ rw (le-ltb p (suc c) (omega (arith, b, d)), le-ltb p c b, ne_eqb p c d) (omega (arith, linear))
  ]
]

-- the sum over the first values of some
sum-below : (n m : ℕ) (f : ℕ → ℤ) → m ≤ n → sum_to n (λ v. if nat_lt v m then f v else pos 0) ≡ sum_to m f
sum-below zero m f l = (let e : m ≡ 0 = omega (arith, l) in rw e refl)
sum-below (suc n) m f l = elim (cases_lt n m) [
  | inl b ↦
      let e : m ≡ suc n = omega (arith, b, l) in
      sum_to-same (suc n) _ f (λ v c. ap (λ (t : Bool). if t then f v else pos 0) (lt-ltb v m (omega (arith, c, e)))) ∙ ap (λ k. sum_to k f) (sym e)
  | inr b ↦
      ap₂ (λ y (t : Bool). y +ℤ (if t then f n else pos 0)) (sum-below n m f b) (le-ltb n m b) ∙ alone (sum_to m f)
]
  where
    alone : (z : ℤ) → z +ℤ pos 0 ≡ z
    alone z = omega (arith, linear)

-- the sum over the values from one up to, and without, another
sum-between : (n first stop : ℕ) (f : ℕ → ℤ) (test : ℕ → Bool) → first ≤ stop → stop ≤ n → ((v : ℕ) → first ≤ v → v < stop → test v ≡ true) → ((v : ℕ) → v < first → test v ≡ false)
    → ((v : ℕ) → stop ≤ v → test v ≡ false) → sum_to n (λ v. if test v then f v else pos 0) ≡ between f first stop
sum-between n first stop f test l m inside below above =
    let whole : sum_to n (λ v. if nat_lt v stop then f v else pos 0) ≡ sum_to n (λ v. if nat_lt v first then f v else pos 0) +ℤ sum_to n (λ v. if test v then f v else pos 0) =
    sum_to-same n _ (λ v. (if nat_lt v first then f v else pos 0) +ℤ (if test v then f v else pos 0)) (λ v b. one v (cases_lt v first) (cases_lt v stop))
    ∙ sum_to-+ℤ n (λ v. if nat_lt v first then f v else pos 0) (λ v. if test v then f v else pos 0) in
    omega (arith, linear, whole, sum-below n stop f m, sum-below n first f (omega (arith, l, m)))
  where
    three : (p q t : Bool) (x : ℤ) → (q ≡ true × p ≡ true × t ≡ false) ⊎ ((q ≡ true × p ≡ false × t ≡ true) ⊎ (q ≡ false × p ≡ false × t ≡ false)) → (if q then x else pos 0) ≡ (if p then x else pos 0) +ℤ (if t then x else pos 0)
    three p q t x (inl (d, e, h)) = rw (d, e, h) (omega (arith, linear))
    three p q t x (inr (inl (d, e, h))) = rw (d, e, h) (omega (arith, linear))
    three p q t x (inr (inr (d, e, h))) = rw (d, e, h) (omega (arith, linear))

    one : (v : ℕ) → (v < first) ⊎ (first ≤ v) → (v < stop) ⊎ (stop ≤ v) → (if nat_lt v stop then f v else pos 0) ≡ (if nat_lt v first then f v else pos 0) +ℤ (if test v then f v else pos 0)
    one v (inl b) c = three (nat_lt v first) (nat_lt v stop) (test v) (f v) (inl (lt-ltb v stop (omega (arith, b, l)), lt-ltb v first b, below v b))
    one v (inr b) (inl c) = three (nat_lt v first) (nat_lt v stop) (test v) (f v) (inr (inl (lt-ltb v stop c, le-ltb v first b, inside v b c)))
    one v (inr b) (inr c) = three (nat_lt v first) (nat_lt v stop) (test v) (f v) (inr (inr (le-ltb v stop c, le-ltb v first b, above v c)))

module _ (groups : ℕ) (size : ℕ → ℕ) (ranks : List Rank) (down : GoDown groups size ranks) where
  at-place : (c k v : ℕ) → c < length ranks → (rank_at ranks c).group ≡ k → (rank_at ranks c).first ≤ v → v < (rank_at ranks c).stop → place_of ranks k v ≡ c
  at-place c k v b e l h = subst (λ g. place_of ranks g v ≡ c) e (place-in groups size ranks down c v b l h)

  -- the values of a group with one place
  pub sum-at_place : (c k : ℕ) (f : ℕ → ℤ) → c < length ranks → sum_to (size k) (λ v. if place_of ranks k v == c then f v else pos 0) ≡ (if (rank_at ranks c).group == k then over_rank f (rank_at ranks c) else pos 0)
  sum-at_place c k f b =
      let rank = rank_at ranks c in
      let inside : IsInside groups size rank = ranks-inside groups size size ranks down (λ j. omega arith) c b in
      elim (cases_eq rank.group k) [
        | inl e ↦
            sum-between (size k) rank.first rank.stop f (λ v. place_of ranks k v == c) (omega (arith, inside.some)) (subst (λ j. rank.stop ≤ size j) e inside.stop)
            (λ v l h. eq-eqb (place_of ranks k v) c (at-place c k v b e l h))
            (λ v h. ne_eqb (place_of ranks k v) c (λ d. omega (arith, h, (place-of ranks k v c b d).from)))
            (λ v h. ne_eqb (place_of ranks k v) c (λ d. omega (arith, h, (place-of ranks k v c b d).to)))
            ∙ sym (ap (λ (t : Bool). if t then over_rank f rank else pos 0) (eq-eqb rank.group k e))
        | inr d ↦
            sum_to-zero (size k) _ (λ v h. ap (λ (t : Bool). if t then f v else pos 0) (ne_eqb (place_of ranks k v) c (λ e. d (place-of ranks k v c b e).group)))
            ∙ sym (ap (λ (t : Bool). if t then over_rank f rank else pos 0) (ne_eqb rank.group k d))
      ]

  -- ---- sums over all groups

  by-place : (place : ℕ) (f : ℕ → ℤ) → place ≤ length ranks → f (length ranks) ≡ pos 0 → f place ≡ sum_to (length ranks) (λ c. if place == c then f c else pos 0)
  by-place place f l none = elim (cases_lt place (length ranks)) [
    | inl b ↦
        sym
        (sum_to-single (length ranks) place (λ c. if place == c then f c else pos 0) b (λ c h d. ap (λ (t : Bool). if t then f c else pos 0) (ne_eqb place c (λ e. d (sym e))))
        ∙ ap (λ (t : Bool). if t then f place else pos 0) (eq-eqb place place refl))
    | inr b ↦
        let e : place ≡ length ranks = omega (arith, l, b) in
        ap f e ∙ none ∙ sym (sum_to-zero (length ranks) _ (λ c h. ap (λ (t : Bool). if t then f c else pos 0) (ne_eqb place c (λ d. omega (arith, h, e, d)))))
  ]

  -- What depends on a value and on its place, over all values of all groups, is a sum over the records: values behind them add nothing.
  pub sum-by_place : (f : ℕ → ℕ → ℕ → ℤ) → ((k v : ℕ) → place_of ranks k v ≤ length ranks) → ((k v : ℕ) → f k v (length ranks) ≡ pos 0)
      → sum_to groups (λ k. sum_to (size k) (λ v. f k v (place_of ranks k v))) ≡ sum_to (length ranks) (λ c. over_rank (λ v. f (rank_at ranks c).group v c) (rank_at ranks c))
  sum-by_place f bounded none =
      sum_to-same groups _ (λ k. sum_to (length ranks) (λ c. if (rank_at ranks c).group == k then over_rank (λ v. f k v c) (rank_at ranks c) else pos 0))
      (λ k b.
      sum_to-same (size k) _ (λ v. sum_to (length ranks) (λ c. if place_of ranks k v == c then f k v c else pos 0)) (λ v h. by-place (place_of ranks k v) (f k v) (bounded k v) (none k v))
      ∙ sum_to-swap (size k) (length ranks) (λ v c. if place_of ranks k v == c then f k v c else pos 0)
      ∙ sum_to-same (length ranks) _ _ (λ c h. sum-at_place c k (λ v. f k v c) h))
      ∙ sum_to-swap groups (length ranks) (λ k c. if (rank_at ranks c).group == k then over_rank (λ v. f k v c) (rank_at ranks c) else pos 0)
      ∙ sum_to-same (length ranks) _ _ (λ c h. one c h)
    where
      one : (c : ℕ) → c < length ranks
          → sum_to groups (λ k. if (rank_at ranks c).group == k then over_rank (λ v. f k v c) (rank_at ranks c) else pos 0) ≡ over_rank (λ v. f (rank_at ranks c).group v c) (rank_at ranks c)
      one c h =
          let k = (rank_at ranks c).group in
          sum_to-single groups k _ (ranks-inside groups size size ranks down (λ j. omega arith) c h).group
          (λ j b d. ap (λ (t : Bool). if t then over_rank (λ v. f j v c) (rank_at ranks c) else pos 0) (ne_eqb k j (λ e. d (sym e))))
          ∙ ap (λ (t : Bool). if t then over_rank (λ v. f k v c) (rank_at ranks c) else pos 0) (eq-eqb k k refl)
