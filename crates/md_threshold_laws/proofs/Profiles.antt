-- Who wins at a profile: at each draw as many bidders of a pool as units go to it, and each of them at as many draws.
use Rattle.std.proofs.Common.{◌≡◌, ◌⊎◌, ℕ, zero, suc, ◌+◌, ◌-◌, ◌*◌, ◌/◌, ◌<◌, ◌≤◌, min, Bool, true, false, ◌&&◌, ◌==◌, nat_lt, nat_le, if◌then◌else◌, ℤ, pos, ◌+ℤ◌, ◌≤ℤ◌, List, length, refl, sym, ap, ap₂, ◌∙◌, arith, inl, inr, eqb-true, eq-eqb}
use Rattle.std.specs.Prelude.{slice_index}
use Rattle.std.proofs.lemmas.Bool.{cases_lt, le-leb, lt-leb, and_parts}
use Rattle.std.proofs.lemmas.Int.{ints}
use Rattle.md_math.specs.Sums.{sum_to}
use Rattle.md_math.proofs.BoundedTests.{true_or_false}
use Rattle.md_math.proofs.Ring.{linear}
use Rattle.md_math.proofs.SumLaws.{sum_to-same, sum_to-zero, sum_to-+ℤ}
use Rattle.md_iron_values.specs.Pools.{Pools, IsPooled}
use Rattle.md_iron_values.proofs.PoolLaws.{reserve-begins}
use Rattle.md_threshold_laws.specs.Rule.{buys, is_ahead, is_beside, count_to, ahead, beside, units_for, draw_count, chance, place_of, comes_to, wins_at}
use Rattle.md_threshold_laws.proofs.Counts.{count-same, count-none, count-most, count-before, count-parts, sum-by_count}
use Rattle.md_threshold_laws.proofs.Circles.{places-sum, draws-sum}
use Rattle.md_threshold_laws.proofs.PoolPlaces.{buys-false, next-begins, beside-below, beside-within, beside-behind, ahead-before, ahead-behind}

-- ---- the bidders of a pool

-- what is so of a value that is in the pool of another one
pub record AreAlike (pools : Pools) (x w : ℕ) : Type 0 where
  pub buys_one : buys pools x ≡ true
  pub buys_other : buys pools w ≡ true
  pub first : pools.first w ≡ pools.first x

pub alike : (pools : Pools) (x w : ℕ) → is_beside pools x w ≡ true → AreAlike pools x w
alike pools x w h =
    let both = and_parts (buys pools x && buys pools w) (pools.first w == pools.first x) h in
    let each = and_parts (buys pools x) (buys pools w) both.0 in
    record { buys_one = each.0; buys_other = each.1; first = eqb-true (pools.first w) (pools.first x) both.1 }

pub beside-same : (pools : Pools) (x w v : ℕ) → AreAlike pools x w → is_beside pools w v ≡ is_beside pools x v
beside-same pools x w v are = ap₂ (λ s f. (s && buys pools v) && (pools.first v == f)) (are.buys_other ∙ sym are.buys_one) are.first

pub ahead-same : (pools : Pools) (x w v : ℕ) → AreAlike pools x w → is_ahead pools w v ≡ is_ahead pools x v
ahead-same pools x w v are = ap (λ f. buys pools v && nat_lt f (pools.first v)) are.first

pub beside-count : (pools : Pools) (t : List ℕ) (x w : ℕ) → AreAlike pools x w → beside pools t w ≡ beside pools t x
beside-count pools t x w are = count-same (length t) _ _ (λ i b. beside-same pools x w (slice_index t i) are)

pub ahead-count : (pools : Pools) (t : List ℕ) (x w : ℕ) → AreAlike pools x w → ahead pools t w ≡ ahead pools t x
ahead-count pools t x w are = count-same (length t) _ _ (λ i b. ahead-same pools x w (slice_index t i) are)

pub units-same : (units : ℕ) (pools : Pools) (t : List ℕ) (x w : ℕ) → AreAlike pools x w → units_for units pools t w ≡ units_for units pools t x
units-same units pools t x w are = ap₂ (λ m a. min m (units - a)) (beside-count pools t x w are) (ahead-count pools t x w are)

pub place-same : (pools : Pools) (t : List ℕ) (i x : ℕ) → AreAlike pools x (slice_index t i) → place_of pools t i ≡ count_to i (λ k. is_beside pools x (slice_index t k))
place-same pools t i x are = count-same i _ _ (λ k b. beside-same pools x (slice_index t i) (slice_index t k) are)

-- 1 where a bidder wins at a draw
abbrev pub won : ℕ → Pools → List ℕ → ℕ → ℕ → ℤ
won units pools t draw i = if wins_at units pools t draw i then pos 1 else pos 0

-- at a draw as many of them win as units go to the pool
pub pool-wins : (units : ℕ) (pools : Pools) (t : List ℕ) (draw x : ℕ) → sum_to (length t) (λ i. if is_beside pools x (slice_index t i) then won units pools t draw i else pos 0) ≡ pos (units_for units pools t x)
pool-wins units pools t draw x =
    sum_to-same (length t) _ (λ i. if test i then comes (count_to i test) else pos 0) (λ i b. one i (true_or_false (test i)))
    ∙ sum-by_count (length t) test comes
    ∙ places-sum (beside pools t x) (units_for units pools t x) draw (omega arith)
  where
    test : ℕ → Bool
    test i = is_beside pools x (slice_index t i)

    comes : ℕ → ℤ
    comes place = if comes_to (beside pools t x) (units_for units pools t x) draw place then pos 1 else pos 0

    one : (i : ℕ) → (test i ≡ true) ⊎ (test i ≡ false) → (if test i then won units pools t draw i else pos 0) ≡ (if test i then comes (count_to i test) else pos 0)
    one i (inl h) =
        let are = alike pools x (slice_index t i) h in
        let m : beside pools t (slice_index t i) ≡ beside pools t x = beside-count pools t x (slice_index t i) are in
        let u : units_for units pools t (slice_index t i) ≡ units_for units pools t x = units-same units pools t x (slice_index t i) are in
        let place : place_of pools t i ≡ count_to i test = place-same pools t i x are in
        ap (λ z. if test i then z else pos 0)
        (ap₂ (λ y z. if comes_to y z draw (place_of pools t i) then pos 1 else pos 0) m u
        ∙ ap (λ z. if comes_to (beside pools t x) (units_for units pools t x) draw z then pos 1 else pos 0) place)
    one i (inr h) = rw h refl

-- ---- a bidder that does not buy, and one that does

pub none-beside : (pools : Pools) (t : List ℕ) (v : ℕ) → buys pools v ≡ false → beside pools t v ≡ 0
none-beside pools t v h = count-none (length t) _ (λ i b. ap (λ s. (s && buys pools (slice_index t i)) && (pools.first (slice_index t i) == pools.first v)) h)

pub none-won : (units : ℕ) (pools : Pools) (t : List ℕ) (draw i : ℕ) → buys pools (slice_index t i) ≡ false → won units pools t draw i ≡ pos 0
none-won units pools t draw i h =
    let m : beside pools t (slice_index t i) ≡ 0 = none-beside pools t (slice_index t i) h in
    let none : units_for units pools t (slice_index t i) ≡ 0 = omega (arith, m) in
    ap (λ u. if comes_to (beside pools t (slice_index t i)) u draw (place_of pools t i) then pos 1 else pos 0) none

pub itself : (pools : Pools) (v : ℕ) → buys pools v ≡ true → is_beside pools v v ≡ true
itself pools v h = rw (h, eq-eqb (pools.first v) (pools.first v) refl) refl

pub place-below : (pools : Pools) (t : List ℕ) (i : ℕ) → i < length t → buys pools (slice_index t i) ≡ true → place_of pools t i < beside pools t (slice_index t i)
place-below pools t i b h = count-before (length t) i (λ k. is_beside pools (slice_index t i) (slice_index t k)) b (itself pools (slice_index t i) h)

pub some-draws : 0 < draw_count
unfolding draw_count
some-draws = omega arith

-- the numbers from 1 to 12 divide the number of draws
pub divides : (m : ℕ) → 0 < m → m ≤ 12 → draw_count / m * m ≡ draw_count
unfolding draw_count
divides zero b l = absurd (omega (arith, b))
divides (suc zero) b l = refl
divides (suc (suc zero)) b l = refl
divides (suc (suc (suc zero))) b l = refl
divides (suc (suc (suc (suc zero)))) b l = refl
divides (suc (suc (suc (suc (suc zero))))) b l = refl
divides (suc (suc (suc (suc (suc (suc zero)))))) b l = refl
divides (suc (suc (suc (suc (suc (suc (suc zero))))))) b l = refl
divides (suc (suc (suc (suc (suc (suc (suc (suc zero)))))))) b l = refl
divides (suc (suc (suc (suc (suc (suc (suc (suc (suc zero))))))))) b l = refl
divides (suc (suc (suc (suc (suc (suc (suc (suc (suc (suc zero)))))))))) b l = refl
divides (suc (suc (suc (suc (suc (suc (suc (suc (suc (suc (suc zero))))))))))) b l = refl
divides (suc (suc (suc (suc (suc (suc (suc (suc (suc (suc (suc (suc zero)))))))))))) b l = refl
divides (suc (suc (suc (suc (suc (suc (suc (suc (suc (suc (suc (suc (suc m))))))))))))) b l = absurd (omega (arith, l))

-- over all draws each bidder wins by exactly its chance
pub wins-chance : (units : ℕ) (pools : Pools) (t : List ℕ) (i : ℕ) → length t ≤ 12 → i < length t → sum_to draw_count (λ draw. won units pools t draw i) ≡ pos (chance units pools t (slice_index t i))
wins-chance units pools t i few b = elim (true_or_false (buys pools (slice_index t i))) [
  | inl h ↦
      let place = place-below pools t i b h in
      draws-sum (beside pools t (slice_index t i)) (units_for units pools t (slice_index t i)) (place_of pools t i) (draw_count / beside pools t (slice_index t i)) draw_count place (omega arith)
      (divides (beside pools t (slice_index t i)) (omega (arith, place)) (omega (arith, few, count-most (length t) (λ k. is_beside pools (slice_index t i) (slice_index t k)))))
  | inr h ↦
      let m : beside pools t (slice_index t i) ≡ 0 = none-beside pools t (slice_index t i) h in
      let none : units_for units pools t (slice_index t i) ≡ 0 = omega (arith, m) in
      sum_to-zero draw_count (won_at i) (λ draw c. none-won units pools t draw i h)
      ∙ sym (ap (λ u. pos (u * (draw_count / beside pools t (slice_index t i)))) none ∙ nothing (draw_count / beside pools t (slice_index t i)))
]
  where
    won_at : ℕ → ℕ → ℤ
    won_at i draw = won units pools t draw i

    nothing : (n : ℕ) → pos (0 * n) ≡ pos 0
    nothing n = ap (λ k. pos k) (let e : 0 * n ≡ 0 = omega arith in e)

-- ---- the bidders of a pool and of all higher ones

-- how many bidders have a value from one on
abbrev pub from : List ℕ → ℕ → ℕ
from t x = count_to (length t) (λ i. nat_le x (slice_index t i))

not-leb : (x v : ℕ) → v < x → nat_le x v ≡ false
not-leb x v l = lt-leb x v l

module _ (kinds : ℕ) (weight sum : ℕ → ℤ) (pools : Pools) (p : IsPooled kinds weight sum pools) where
  -- a value from the beginning of a pool on is in the pool, or in a higher one
  parted : (x v : ℕ) (z : ℤ) → pools.first x ≡ x → pools.reserve ≤ x → x < kinds → v < kinds
      → (if nat_le x v then z else pos 0) ≡ (if is_beside pools x v then z else pos 0) +ℤ (if nat_le (pools.stop x) v then z else pos 0)
  parted x v z e g c b = (let (low, high, inside) = p.place x c in elim (cases_lt v x) [
    | inl l ↦ rw (not-leb x v l, beside-below kinds weight sum pools p x v e l b, not-leb (pools.stop x) v (omega (arith, l, high))) (omega (arith, linear))
    | inr l ↦ elim (cases_lt v (pools.stop x)) [
      | inl h ↦ rw (le-leb x v l, beside-within kinds weight sum pools p x v e g l h b, not-leb (pools.stop x) v h) (omega (arith, linear))
      | inr h ↦ rw (le-leb x v l, beside-behind kinds weight sum pools p x v e c h b, le-leb (pools.stop x) v h) (omega (arith, linear))
    ]
  ])

  parted-count : (x v : ℕ) → pools.first x ≡ x → pools.reserve ≤ x → x < kinds → v < kinds
      → (if is_beside pools x v then 1 else 0) + (if nat_le (pools.stop x) v then 1 else 0) ≡ (if nat_le x v then 1 else 0)
  parted-count x v e g c b = (let (low, high, inside) = p.place x c in elim (cases_lt v x) [
    | inl l ↦ rw (not-leb x v l, beside-below kinds weight sum pools p x v e l b, not-leb (pools.stop x) v (omega (arith, l, high))) refl
    | inr l ↦ elim (cases_lt v (pools.stop x)) [
      | inl h ↦ rw (le-leb x v l, beside-within kinds weight sum pools p x v e g l h b, not-leb (pools.stop x) v h) refl
      | inr h ↦ rw (le-leb x v l, beside-behind kinds weight sum pools p x v e c h b, le-leb (pools.stop x) v h) refl
    ]
  ])

  ahead-from : (x v : ℕ) → pools.first x ≡ x → pools.reserve ≤ x → x < kinds → v < kinds → is_ahead pools x v ≡ nat_le (pools.stop x) v
  ahead-from x v e g c b = elim (cases_lt v (pools.stop x)) [
    | inl h ↦ ahead-before kinds weight sum pools p x v e h b ∙ sym (not-leb (pools.stop x) v h)
    | inr h ↦ ahead-behind kinds weight sum pools p x v e g c h b ∙ sym (le-leb (pools.stop x) v h)
  ]

  module _ (units : ℕ) (t : List ℕ) (below : (i : ℕ) → i < length t → slice_index t i < kinds) where
    -- as many of them win at a draw as the units can go to
    win-from : (fuel draw x : ℕ) → kinds ≤ x + fuel → pools.first x ≡ x → pools.reserve ≤ x → x < kinds
        → sum_to (length t) (λ i. if nat_le x (slice_index t i) then won units pools t draw i else pos 0) ≡ pos (min units (from t x))
    win-from zero draw x f e g c = absurd (omega (arith, f, c))
    win-from (suc fuel) draw x f e g c =
        let (low, high, inside) = p.place x c in
        let n = length t in
        let split : sum_to (length t) (λ i. if nat_le x (slice_index t i) then won units pools t draw i else pos 0)
        ≡ sum_to (length t) (λ i. if is_beside pools x (slice_index t i) then won units pools t draw i else pos 0) +ℤ sum_to (length t) (λ i. if nat_le (pools.stop x) (slice_index t i) then won units pools t draw i else pos 0) =
        sum_to-same n _ _ (λ i b. parted x (slice_index t i) (won units pools t draw i) e g c (below i b))
        ∙ sum_to-+ℤ n (λ i. if is_beside pools x (slice_index t i) then won units pools t draw i else pos 0) (λ i. if nat_le (pools.stop x) (slice_index t i) then won units pools t draw i else pos 0) in
        let counts : beside pools t x + from t (pools.stop x) ≡ from t x = count-parts n _ _ _ (λ i b. parted-count x (slice_index t i) e g c (below i b)) in
        let higher : ahead pools t x ≡ from t (pools.stop x) = count-same n _ _ (λ i b. ahead-from x (slice_index t i) e g c (below i b)) in
        let rest : sum_to (length t) (λ i. if nat_le (pools.stop x) (slice_index t i) then won units pools t draw i else pos 0) ≡ pos (min units (from t (pools.stop x))) = elim (cases_lt (pools.stop x) kinds) [
          | inl l ↦ win-from fuel draw (pools.stop x) (omega (arith, f, high)) (next-begins kinds weight sum pools p x e c l) (omega (arith, g, high)) l
          | inr l ↦
              let none : from t (pools.stop x) ≡ 0 = count-none n _ (λ i b. not-leb (pools.stop x) (slice_index t i) (omega (arith, l, below i b))) in
              sum_to-zero n _ (λ i b. ap (λ s. if s then won units pools t draw i else pos 0) (not-leb (pools.stop x) (slice_index t i) (omega (arith, l, below i b))))
              ∙ ap (λ k. pos k) (let e0 : 0 ≡ min units (from t (pools.stop x)) = omega (arith, none) in e0)
        ] in
        added (beside pools t x) (ahead pools t x) (from t (pools.stop x)) (from t x) _ _ _ higher counts split (pool-wins units pools t draw x) rest
      where
        added : (m a h n : ℕ) (whole first rest : ℤ) → a ≡ h → m + h ≡ n → whole ≡ first +ℤ rest → first ≡ pos (min m (units - a)) → rest ≡ pos (min units h) → whole ≡ pos (min units n)
        added m a h n whole first rest e f s k l = omega (arith, ints, e, f, s, k, l)

    pub wins-from : (draw x : ℕ) → pools.first x ≡ x → pools.reserve ≤ x → x < kinds
        → sum_to (length t) (λ i. if nat_le x (slice_index t i) then won units pools t draw i else pos 0) ≡ pos (min units (from t x))
    wins-from draw x e g c = win-from kinds draw x (omega arith) e g c

    -- no more bidders win than there are units
    pub wins-all : (draw : ℕ) → sum_to (length t) (won units pools t draw) ≤ℤ pos units
    wins-all draw = elim (cases_lt pools.reserve kinds) [
      | inl l ↦ enough _ (from t pools.reserve) (sum_to-same (length t) _ _ (λ i b. only i) ∙ wins-from draw pools.reserve (reserve-begins kinds weight sum pools p l) (omega arith) l)
      | inr l ↦ enough _ 0 (sum_to-zero (length t) _ (λ i b. none-won units pools t draw i (buys-false pools (slice_index t i) (omega (arith, l, below i b)))) ∙ ap (λ k. pos k) (let e : 0 ≡ min units 0 = omega arith in e))
    ]
      where
        enough : (z : ℤ) (n : ℕ) → z ≡ pos (min units n) → z ≤ℤ pos units
        enough z n e = omega (arith, ints, e)

        only : (i : ℕ) → won units pools t draw i ≡ (if nat_le pools.reserve (slice_index t i) then won units pools t draw i else pos 0)
        only i = elim (cases_lt (slice_index t i) pools.reserve) [
          | inl h ↦ none-won units pools t draw i (buys-false pools (slice_index t i) h) ∙ sym (ap (λ s. if s then won units pools t draw i else pos 0) (not-leb pools.reserve (slice_index t i) h))
          | inr h ↦ sym (ap (λ s. if s then won units pools t draw i else pos 0) (le-leb pools.reserve (slice_index t i) h))
        ]
