-- A bidder's chance, where the others' values stay: it is 0 below the reserve, the same within a pool, and never lower at a higher value.
use Rattle.std.proofs.Common.{◌≡◌, ℕ, suc, ◌+◌, ◌-◌, ◌*◌, ◌/◌, ◌<◌, ◌≤◌, min, Bool, true, false, ◌&&◌, ◌==◌, nat_lt, if◌then◌else◌, ℤ, ◌≢◌, List, length, refl, sym, ap, ap₂, ◌∙◌, subst, arith, inl, inr, lt-ltb, le-ltb, eq-eqb, ne_eqb}
use Rattle.std.specs.Prelude.{slice_index}
use Rattle.std.proofs.lemmas.Bool.{cases_lt, cases_eq}
use Rattle.std.proofs.lemmas.List.{length-set, get_or-set_same, get_or-set_other}
use native.Mathlib.Nat.{mul-le-mul_right}
use Rattle.md_math.proofs.BoundedTests.{true_or_false}
use Rattle.md_space.specs.Profiles.{replaced}
use Rattle.md_iron_values.specs.Pools.{Pools, IsPooled}
use Rattle.md_iron_values.proofs.PoolLaws.{next-pool}
use Rattle.md_threshold_laws.specs.Rule.{buys, is_ahead, is_beside, count_to, ahead, beside, units_for, draw_count, chance, chance_with}
use Rattle.md_threshold_laws.proofs.Counts.{count-same, count-most, count-two, count-at}
use Rattle.md_threshold_laws.proofs.PoolPlaces.{buys-true, buys-false}
use Rattle.md_threshold_laws.proofs.Profiles.{AreAlike, alike, beside-same, ahead-same, itself, none-beside, divides}

-- ---- the others

-- how many bidders but one have values that pass a test
abbrev pub others : List ℕ → ℕ → (ℕ → Bool) → ℕ
others t i test = count_to (length t) (λ k. if k == i then false else test (slice_index t k))

-- with a value in the place of this one's
count-replaced : (t : List ℕ) (i v : ℕ) (test : ℕ → Bool) → i < length t → count_to (length (replaced t i v)) (λ k. test (slice_index (replaced t i v) k)) ≡ others t i test + (if test v then 1 else 0)
count-replaced t i v test b =
    ap (λ n. count_to n (λ k. test (slice_index (replaced t i v) k))) (length-set t i v)
    ∙ count-at (length t) i (λ k. test (slice_index (replaced t i v) k)) b
    ∙ ap₂ (λ x u. x + (if test u then 1 else 0)) (count-same (length t) _ _ (λ k l. other k)) (get_or-set_same t i v 0 b)
  where
    other : (k : ℕ) → (if k == i then false else test (slice_index (replaced t i v) k)) ≡ (if k == i then false else test (slice_index t k))
    other k = elim (cases_eq k i) [
      | inl e ↦ rw (eq-eqb k i e) refl
      | inr d ↦ rw (ne_eqb k i d) (ap test (get_or-set_other t i k v 0 d))
    ]

not-ahead : (pools : Pools) (v : ℕ) → is_ahead pools v v ≡ false
not-ahead pools v = ap (λ s. buys pools v && s) (le-ltb (pools.first v) (pools.first v) (omega arith)) ∙ and-false (buys pools v)
  where
    and-false : (b : Bool) → (b && false) ≡ false
    and-false true = refl
    and-false false = refl

pub ahead-with : (pools : Pools) (t : List ℕ) (i v : ℕ) → i < length t → ahead pools (replaced t i v) v ≡ others t i (is_ahead pools v)
ahead-with pools t i v b =
    count-replaced t i v (is_ahead pools v) b ∙ ap (λ s. others t i (is_ahead pools v) + (if s then 1 else 0)) (not-ahead pools v) ∙ plus (others t i (is_ahead pools v))
  where
    plus : (n : ℕ) → n + 0 ≡ n
    plus n = omega arith

pub beside-with : (pools : Pools) (t : List ℕ) (i v : ℕ) → i < length t → buys pools v ≡ true → beside pools (replaced t i v) v ≡ others t i (is_beside pools v) + 1
beside-with pools t i v b h = count-replaced t i v (is_beside pools v) b ∙ ap (λ s. others t i (is_beside pools v) + (if s then 1 else 0)) (itself pools v h)

-- ---- below the reserve, and within a pool

pub chance-none : (units : ℕ) (pools : Pools) (t : List ℕ) (i v : ℕ) → v < pools.reserve → chance_with units pools t i v ≡ 0
chance-none units pools t i v l =
    let m : beside pools (replaced t i v) v ≡ 0 = none-beside pools (replaced t i v) v (buys-false pools v l) in
    let none : units_for units pools (replaced t i v) v ≡ 0 = omega (arith, m) in
    ap (λ u. u * (draw_count / beside pools (replaced t i v) v)) none ∙ nothing (draw_count / beside pools (replaced t i v) v)
  where
    nothing : (n : ℕ) → 0 * n ≡ 0
    nothing n = omega arith

others-same : (t : List ℕ) (i : ℕ) (r s : ℕ → Bool) → ((w : ℕ) → r w ≡ s w) → others t i r ≡ others t i s
others-same t i r s h = count-same (length t) _ _ (λ k b. ap (λ x. if k == i then false else x) (h (slice_index t k)))

pub chance-alike : (units : ℕ) (pools : Pools) (t : List ℕ) (i v w : ℕ) → i < length t → AreAlike pools v w → chance_with units pools t i w ≡ chance_with units pools t i v
chance-alike units pools t i v w b are =
    ap₂ (λ m a. min m (units - a) * (draw_count / m))
    (beside-with pools t i w b are.buys_other ∙ ap (λ n. n + 1) (others-same t i _ _ (λ u. beside-same pools v w u are)) ∙ sym (beside-with pools t i v b are.buys_one))
    (ahead-with pools t i w b ∙ others-same t i _ _ (λ u. ahead-same pools v w u are) ∙ sym (ahead-with pools t i v b))

-- ---- from a pool to the next one

-- with one bidder more in the higher pool, and all of its bidders ahead of the lower one
chance-more : (units m a n c draws : ℕ) → c + n ≤ a + 1 → draws / m * m ≡ draws → draws / n * n ≡ draws → min m (units - a) * (draws / m) ≤ min n (units - c) * (draws / n)
chance-more units m a n c draws h e f = elim (cases_lt a units) [
  | inl l ↦
      let all : min n (units - c) ≡ n = omega (arith, h, l) in
      let some : min m (units - a) ≤ m = omega arith in
      let most : min m (units - a) * (draws / m) ≤ m * (draws / m) = mul-le-mul_right (draws / m) some in
      subst (λ x. min m (units - a) * (draws / m) ≤ x * (draws / n)) (sym all) (omega (arith, most, e, f))
  | inr l ↦
      let none : min m (units - a) ≡ 0 = omega (arith, l) in
      subst (λ x. x * (draws / m) ≤ min n (units - c) * (draws / n)) (sym none) (omega arith)
]

-- a bidder that is beside or ahead of the higher pool is ahead of the lower one
pub higher : (pools : Pools) (v x w : ℕ) → pools.first v < pools.first x → (if is_beside pools x w then 1 else 0) + (if is_ahead pools x w then 1 else 0) ≤ (if is_ahead pools v w then 1 else 0)
higher pools v x w l = elim (true_or_false (buys pools w)) [
  | inl h ↦ elim (cases_lt (pools.first v) (pools.first w)) [
    | inl m ↦
        let one : is_ahead pools v w ≡ true = rw (h, lt-ltb (pools.first v) (pools.first w) m) refl in
        subst (λ s. (if is_beside pools x w then 1 else 0) + (if is_ahead pools x w then 1 else 0) ≤ (if s then 1 else 0)) (sym one) (apart m)
    | inr m ↦
        let other : pools.first w ≢ pools.first x = (λ e. omega (arith, e, l, m)) in
        let first : is_beside pools x w ≡ false = ap (λ s. (buys pools x && buys pools w) && s) (ne_eqb (pools.first w) (pools.first x) other) ∙ and-false (buys pools x && buys pools w) in
        let second : is_ahead pools x w ≡ false = ap (λ s. buys pools w && s) (le-ltb (pools.first x) (pools.first w) (omega (arith, l, m))) ∙ and-false (buys pools w) in
        rw (first, second) (omega arith)
  ]
  | inr h ↦
      let first : is_beside pools x w ≡ false = ap (λ s. (buys pools x && s) && (pools.first w == pools.first x)) h ∙ ap (λ s. s && (pools.first w == pools.first x)) (and-false (buys pools x)) in
      let second : is_ahead pools x w ≡ false = ap (λ s. s && nat_lt (pools.first x) (pools.first w)) h in
      rw (first, second) (omega arith)
]
  where
    and-false : (b : Bool) → (b && false) ≡ false
    and-false true = refl
    and-false false = refl

    at_most_one : (s r : Bool) → (s ≡ true → r ≡ false) → (if s then 1 else 0) + (if r then 1 else 0) ≤ 1
    at_most_one true r g = rw (g refl) (omega arith)
    at_most_one false true g = omega arith
    at_most_one false false g = omega arith

    apart : pools.first v < pools.first w → (if is_beside pools x w then 1 else 0) + (if is_ahead pools x w then 1 else 0) ≤ 1
    apart m = at_most_one (is_beside pools x w) (is_ahead pools x w) (λ g. (let are = alike pools x w g in ap (λ s. buys pools w && s) (le-ltb (pools.first x) (pools.first w) (omega (arith, are.first))) ∙ and-false (buys pools w)))

others-two : (t : List ℕ) (i : ℕ) (r s u : ℕ → Bool) → ((w : ℕ) → (if r w then 1 else 0) + (if s w then 1 else 0) ≤ (if u w then 1 else 0)) → others t i r + others t i s ≤ others t i u
others-two t i r s u h = count-two (length t) _ _ _ (λ k b. one k)
  where
    one : (k : ℕ) → (if (if k == i then false else r (slice_index t k)) then 1 else 0) + (if (if k == i then false else s (slice_index t k)) then 1 else 0) ≤ (if (if k == i then false else u (slice_index t k)) then 1 else 0)
    one k = elim (true_or_false (k == i)) [
      | inl e ↦ rw e (omega arith)
      | inr e ↦ rw e (h (slice_index t k))
    ]

few-beside : (pools : Pools) (t : List ℕ) (i v : ℕ) → length t ≤ 12 → beside pools (replaced t i v) v ≤ 12
few-beside pools t i v few = omega (arith, few, length-set t i v, count-most (length (replaced t i v)) (λ k. is_beside pools v (slice_index (replaced t i v) k)))

-- at most all draws
pub chance-most : (units : ℕ) (pools : Pools) (t : List ℕ) (v : ℕ) → length t ≤ 12 → chance units pools t v ≤ draw_count
chance-most units pools t v few = elim (cases_lt 0 (beside pools t v)) [
  | inl b ↦
      let most : units_for units pools t v * (draw_count / beside pools t v) ≤ beside pools t v * (draw_count / beside pools t v) = mul-le-mul_right (draw_count / beside pools t v) (let h : units_for units pools t v ≤ beside pools t v = omega arith in h) in
      omega (arith, most, divides (beside pools t v) b (omega (arith, few, count-most (length t) (λ k. is_beside pools v (slice_index t k)))))
  | inr n ↦
      let none : units_for units pools t v ≡ 0 = omega (arith, n) in
      subst (λ u. u * (draw_count / beside pools t v) ≤ draw_count) (sym none) (omega arith)
]

pub chance-rises : (kinds : ℕ) (weight sum : ℕ → ℤ) (pools : Pools) → IsPooled kinds weight sum pools → (units : ℕ) (t : List ℕ) (i v : ℕ) → length t ≤ 12 → i < length t → suc v < kinds
    → chance_with units pools t i v ≤ chance_with units pools t i (suc v)
chance-rises kinds weight sum pools p units t i v few b h = elim (cases_lt v pools.reserve) [
  | inl l ↦ omega (arith, chance-none units pools t i v l)
  | inr g ↦ elim (next-pool kinds weight sum pools p v h) [
    | inl e ↦
        let (low, high, inside) = p.place v (omega (arith, h)) in
        let buy : buys pools v ≡ true = buys-true pools v g in
        let buy_next : buys pools (suc v) ≡ true = buys-true pools (suc v) (omega (arith, g)) in
        let m = beside-with pools t i v b buy in
        let n = beside-with pools t i (suc v) b buy_next in
        let above = others-two t i (is_beside pools (suc v)) (is_ahead pools (suc v)) (is_ahead pools v) (λ w. higher pools v (suc v) w (omega (arith, e.1, low))) in
        chance-more units (beside pools (replaced t i v) v) (ahead pools (replaced t i v) v) (beside pools (replaced t i (suc v)) (suc v)) (ahead pools (replaced t i (suc v)) (suc v)) draw_count
        (omega (arith, above, n, ahead-with pools t i v b, ahead-with pools t i (suc v) b))
        (divides (beside pools (replaced t i v) v) (omega (arith, m)) (few-beside pools t i v few))
        (divides (beside pools (replaced t i (suc v)) (suc v)) (omega (arith, n)) (few-beside pools t i (suc v) few))
    | inr e ↦
        let (buy, first, stop) = e in
        let are : AreAlike pools v (suc v) = record { buys_one = buys-true pools v g; buys_other = buys-true pools (suc v) (omega (arith, g)); first = first } in
        omega (arith, chance-alike units pools t i v (suc v) b are)
  ]
]
