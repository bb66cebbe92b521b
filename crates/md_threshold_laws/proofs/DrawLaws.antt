-- Who wins at a draw is told by what the number of bidders in the pool that is split leaves of it.
use Rattle.std.proofs.Common.{◌≡◌, ◌⊎◌, ℕ, zero, suc, ◌+◌, ◌-◌, ◌*◌, ◌/◌, ◌%◌, ◌<◌, ◌≤◌, Bool, true, false, not, ◌&&◌, ◌||◌, ◌==◌, nat_lt, if◌then◌else◌, ℤ, pos, ◌*ℤ◌, List, length, refl, sym, ap, ap₂, ◌∙◌, arith, inl, inr, lt-ltb, eq-eqb}
use Rattle.std.specs.Prelude.{slice_index}
use Rattle.std.specs.Bool.{beq}
use Rattle.std.proofs.lemmas.Bool.{cases_lt, cases_order, and_parts, ltb-true}
use Rattle.std.proofs.lemmas.Int.{ints}
use Rattle.std.proofs.lemmas.Nat.{mod-mul-add}
use Rattle.std.proofs.Math.IntN.{pos-*ℤ-pos}
use native.Mathlib.Nat.{mod-add-mod}
use Rattle.md_math.specs.Lists.{list_to}
use Rattle.md_math.specs.Sums.{sum_to}
use Rattle.md_math.proofs.BoundedTests.{true_or_false}
use Rattle.md_math.proofs.Order.{same_number}
use Rattle.md_math.proofs.Ring.{ring}
use Rattle.md_math.proofs.SumLaws.{sum_to-same, sum_to-nested, sum_to-constant}
use Rattle.md_flow.specs.Over.{any_below}
use Rattle.md_winners.specs.Sets.{holds, size}
use Rattle.md_winners.proofs.Stretches.{picks, picks_in}
use Rattle.md_iron_values.specs.Pools.{Pools}
use Rattle.md_threshold_laws.specs.Rule.{buys, is_beside, count_to, ahead, beside, units_for, draw_count, chance, place_of, comes_to, wins_at, is_split, draws_at}
use Rattle.md_threshold_laws.specs.Lotteries.{has_just, draws_of}
use Rattle.md_threshold_laws.proofs.Counts.{count-same, count-most, count-two}
use Rattle.md_threshold_laws.proofs.Circles.{comes-picks, run}
use Rattle.md_threshold_laws.proofs.Profiles.{alike, beside-count, units-same, none-beside, place-below, divides, wins-chance}
use Rattle.md_threshold_laws.proofs.ChanceLaws.{higher}
use Rattle.md_threshold_laws.proofs.LotteryLaws.{size-list}

-- ---- one circle

any-same : (n : ℕ) (s t : ℕ → Bool) → ((i : ℕ) → i < n → s i ≡ t i) → any_below n s ≡ any_below n t
any-same zero s t h = refl
any-same (suc n) s t h = ap₂ (λ x y. x || y) (any-same n s t (λ i b. h i (omega (arith, b)))) (h n (omega arith))

-- a draw does what it leaves
comes-again : (m u d p : ℕ) → comes_to m u d p ≡ comes_to m u (d % m) p
comes-again m u d p = any-same u _ _ (λ e b. ap (λ r. r == p) (sym (mod-add-mod d m e)))

-- as many units as bidders come to each place
comes-all : (m d p : ℕ) → p < m → comes_to m m d p ≡ true
comes-all m d p b =
    let once : m ≡ 1 * m = omega arith in
    let one : picks_in m p d m ≡ pos 1 =
    sum_to-same m _ (λ j. picks m p (j + d)) (λ j c. ap (picks m p) (let e : d + j ≡ j + d = omega arith in e))
    ∙ ap (λ n. sum_to n (λ j. picks m p (j + d))) once ∙ run m p 1 d b in
    chosen (comes_to m m d p) (comes-picks m m d p b (omega arith) ∙ one)
  where
    chosen : (s : Bool) → (if s then pos 1 else pos 0) ≡ pos 1 → s ≡ true
    chosen true e = refl
    chosen false e = absurd (omega (arith, ints, e))

-- ---- the pool that is split

-- some bidders of the pool win, and not all
record IsSplit (units : ℕ) (pools : Pools) (t : List ℕ) (v : ℕ) : Type 0 where
  some : 0 < units - ahead pools t v
  less : units - ahead pools t v < beside pools t v
  buy : buys pools v ≡ true

split : (units : ℕ) (pools : Pools) (t : List ℕ) (v : ℕ) → is_split units pools t v ≡ true → IsSplit units pools t v
split units pools t v h =
    let both = and_parts (nat_lt 0 (units_for units pools t v)) (nat_lt (units_for units pools t v) (beside pools t v)) h in
    let some : 0 < units_for units pools t v = ltb-true 0 (units_for units pools t v) both.0 in
    let less : units_for units pools t v < beside pools t v = ltb-true (units_for units pools t v) (beside pools t v) both.1 in
    record {
      some = omega (arith, some);
      less = omega (arith, less);
      buy = elim (true_or_false (buys pools v)) [
        | inl h ↦ h
        | inr h ↦ absurd (omega (arith, some, none-beside pools t v h))
      ];
    }

-- the bidders of a higher pool are ahead of a lower one, with all that are ahead of them
all-ahead : (pools : Pools) (t : List ℕ) (v w : ℕ) → pools.first v < pools.first w → beside pools t w + ahead pools t w ≤ ahead pools t v
all-ahead pools t v w l = count-two (length t) _ _ _ (λ i b. higher pools v w (slice_index t i) l)

-- so only one pool is split
one-split : (units : ℕ) (pools : Pools) (t : List ℕ) (v w : ℕ) → IsSplit units pools t v → IsSplit units pools t w → is_beside pools w v ≡ true
one-split units pools t v w s r = elim (cases_order (pools.first v) (pools.first w)) [
  | inl e ↦ rw (r.buy, s.buy, eq-eqb (pools.first v) (pools.first w) e) refl
  | inr (inl l) ↦ absurd (omega (arith, all-ahead pools t v w l, s.some, s.less, r.some, r.less))
  | inr (inr l) ↦ absurd (omega (arith, all-ahead pools t w v l, s.some, s.less, r.some, r.less))
]

split-same : (units : ℕ) (pools : Pools) (t : List ℕ) (v w : ℕ) → is_split units pools t w ≡ true → is_split units pools t v ≡ is_beside pools w v
split-same units pools t v w h = elim (true_or_false (is_beside pools w v)) [
  | inl b ↦
      let are = alike pools w v b in
      ap₂ (λ u m. nat_lt 0 u && nat_lt u m) (units-same units pools t w v are) (beside-count pools t w v are) ∙ h ∙ sym b
  | inr b ↦ elim (true_or_false (is_split units pools t v)) [
    | inl s ↦ absurd (clash (sym (one-split units pools t v w (split units pools t v s) (split units pools t w h)) ∙ b))
    | inr s ↦ s ∙ sym b
  ]
]
  where
    clash : true ≡ false → ⊥
    clash e = cc

split-count : (units : ℕ) (pools : Pools) (t : List ℕ) (w : ℕ) → is_split units pools t w ≡ true → draws_at units pools t ≡ beside pools t w
split-count units pools t w h =
    let same : count_to (length t) (λ i. is_split units pools t (slice_index t i)) ≡ beside pools t w = count-same (length t) _ _ (λ i b. split-same units pools t (slice_index t i) w h) in
    let is = split units pools t w h in
    let less = is.less in
    omega (arith, same, less)

-- ---- who wins

pub wins-again : (units : ℕ) (pools : Pools) (t : List ℕ) (draw i : ℕ) → i < length t → wins_at units pools t draw i ≡ wins_at units pools t (draw % draws_at units pools t) i
wins-again units pools t draw i b = elim (cases_lt 0 u) [
  | inl some ↦ elim (cases_lt u m) [
    | inl less ↦
        let is : is_split units pools t v ≡ true = rw (lt-ltb 0 u some, lt-ltb u m less) refl in
        comes-again m u draw place ∙ ap (λ n. comes_to m u (draw % n) place) (sym (split-count units pools t v is))
    | inr all ↦
        let same : u ≡ m = omega (arith, all) in
        let buy : buys pools v ≡ true = buying some (true_or_false (buys pools v)) in
        let below : place < m = place-below pools t i b buy in
        ap (λ n. comes_to m n draw place) same ∙ comes-all m draw place below
        ∙ sym (ap (λ n. comes_to m n (draw % draws_at units pools t) place) same ∙ comes-all m (draw % draws_at units pools t) place below)
  ]
  | inr none ↦
      let nothing : u ≡ 0 = omega (arith, none) in
      ap (λ n. comes_to m n draw place) nothing ∙ sym (ap (λ n. comes_to m n (draw % draws_at units pools t) place) nothing)
]
  where
    v : ℕ
    v = slice_index t i

    u : ℕ
    u = units_for units pools t v

    m : ℕ
    m = beside pools t v

    place : ℕ
    place = place_of pools t i

    buying : 0 < u → (buys pools v ≡ true) ⊎ (buys pools v ≡ false) → buys pools v ≡ true
    buying some (inl h) = h
    buying some (inr h) = absurd (omega (arith, some, none-beside pools t v h))

-- ---- how often a set wins

just-again : (n : ℕ) (s r : ℕ → Bool) (set : List Bool) → ((i : ℕ) → i < n → s i ≡ r i) → has_just n s set ≡ has_just n r set
just-again n s r set h = ap not (any-same n _ _ (λ i b. ap (λ x. not (beq x (holds set i))) (h i b)))

few-draws : (units : ℕ) (pools : Pools) (t : List ℕ) → length t ≤ 12 → draws_at units pools t ≤ 12
few-draws units pools t few = omega (arith, few, count-most (length t) (λ i. is_split units pools t (slice_index t i)))

-- each of the draws that differ stands for as many
pub set-draws : (units : ℕ) (pools : Pools) (t : List ℕ) (set : List Bool) → length t ≤ 12
    → draws_of (length t) draw_count (wins_at units pools t) set ≡ draw_count / draws_at units pools t * draws_of (length t) (draws_at units pools t) (wins_at units pools t) set
set-draws units pools t set few =
    let m = draws_at units pools t in
    let c = draw_count / draws_at units pools t in
    let whole : c * m ≡ draw_count = divides (draws_at units pools t) (omega arith) (few-draws units pools t few) in
    same_number _ _
    (size-list draw_count test
    ∙ ap (λ n. sum_to n (λ d. if test d then pos 1 else pos 0)) (sym whole)
    ∙ sum_to-nested c m (λ d. if test d then pos 1 else pos 0)
    ∙ sum_to-same c _ (λ _. sum_to m (λ d. if test d then pos 1 else pos 0)) (λ i b. sum_to-same m _ _ (λ j l. ap (λ s. if s then pos 1 else pos 0) (again i j l)))
    ∙ sum_to-constant c (sum_to m (λ d. if test d then pos 1 else pos 0))
    ∙ ap (λ z. pos c *ℤ z) (sym (size-list m test))
    ∙ pos-*ℤ-pos c (size (list_to m test)))
  where
    test : ℕ → Bool
    test draw = has_just (length t) (wins_at units pools t draw) set

    again : (i j : ℕ) → j < draws_at units pools t → test (i * draws_at units pools t + j) ≡ test j
    again i j l =
        just-again (length t) _ _ set (λ k b. wins-again units pools t (i * draws_at units pools t + j) k b ∙ ap (λ d. wins_at units pools t d k) (mod-mul-add i (draws_at units pools t) j l))

-- and each bidder wins among them as often as its chance says
pub wins-draws : (units : ℕ) (pools : Pools) (t : List ℕ) (i : ℕ) → length t ≤ 12 → i < length t
    → pos draw_count *ℤ sum_to (draws_at units pools t) (λ draw. if wins_at units pools t draw i then pos 1 else pos 0) ≡ pos (draws_at units pools t) *ℤ pos (chance units pools t (slice_index t i))
wins-draws units pools t i few b =
    let m = draws_at units pools t in
    let c = draw_count / draws_at units pools t in
    let whole : c * m ≡ draw_count = divides (draws_at units pools t) (omega arith) (few-draws units pools t few) in
    let all : pos c *ℤ sum_to m won_at ≡ pos (chance units pools t (slice_index t i)) =
    sym (sum_to-constant c (sum_to m won_at))
    ∙ sym (sum_to-same c _ (λ _. sum_to m won_at) (λ k l. sum_to-same m _ _ (λ j h. ap (λ s. if s then pos 1 else pos 0) (again k j h))))
    ∙ sym (sum_to-nested c m won_at)
    ∙ ap (λ n. sum_to n won_at) whole
    ∙ wins-chance units pools t i few b in
    ap (λ z. z *ℤ sum_to m won_at) (ap (λ n. pos n) (sym whole) ∙ sym (pos-*ℤ-pos c m)) ∙ turned (pos c) (pos m) (sum_to m won_at) ∙ ap (λ z. pos m *ℤ z) all
  where
    won_at : ℕ → ℤ
    won_at draw = if wins_at units pools t draw i then pos 1 else pos 0

    again : (k j : ℕ) → j < draws_at units pools t → wins_at units pools t (k * draws_at units pools t + j) i ≡ wins_at units pools t j i
    again k j l = wins-again units pools t (k * draws_at units pools t + j) i b ∙ ap (λ d. wins_at units pools t d i) (mod-mul-add k (draws_at units pools t) j l)

    turned : (x y z : ℤ) → (x *ℤ y) *ℤ z ≡ y *ℤ (x *ℤ z)
    turned x y z = simp ring
