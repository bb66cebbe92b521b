-- The rule of a list serves bidders by their places. No other way to give slots gets more for the bidders with the first places.
use Rattle.std.proofs.Common.{◌≡◌, ◌≢◌, ℕ, zero, suc, ◌-◌, ◌<◌, ◌≤◌, ℤ, pos, ◌+ℤ◌, ◌-ℤ◌, ◌*ℤ◌, ◌≤ℤ◌, Bool, true, false, ◌&&◌, nat_lt, nat_le, if◌then◌else◌, List, length, inl, inr, refl, sym, ap, ap₂, ◌∙◌, subst, arith, lt-ltb, le-ltb, ltb-true, le-leb, leb-true}
use Rattle.std.specs.Prelude.{slice_index}
use Rattle.std.proofs.lemmas.Bool.{cases_lt, cases_eq, lt-leb, and_parts}
use Rattle.std.proofs.lemmas.Int.{ints}
use Rattle.std.proofs.lemmas.List.{get_or_past}
use Rattle.md_math.specs.Sums.{sum_to}
use Rattle.md_math.proofs.Order.{*ℤ-le}
use Rattle.md_math.proofs.Ring.{linear, ring, *ℤ-zero}
use Rattle.md_math.proofs.SumLaws.{sum_to-same, sum_to-zero, sum_to-swap, sum_to-*ℤ, sum_to-le}
use Rattle.md_bidders.specs.Assignments.{amount_of}
use Rattle.md_setting.specs.Grouped.{GroupedAuction, bidder_count}
use Rattle.md_list.specs.Ranks.{Rank}
use Rattle.md_list.specs.Rule.{place_at, is_before, count_to, before, slot_at, amount_at}
use Rattle.md_list.proofs.AmountLaws.{GoesFirst, first-decides, first-itself, before-apart}
use Rattle.md_list.proofs.CountLaws.{count-same, count-le, count-less}
use Rattle.md_list_laws.proofs.Counts.{pos-count_to, by-own_keys, most-by_keys}

-- ---- the first places

abbrev pub slot_amount : List ℕ → ℕ → ℤ
slot_amount slots h = pos (slice_index slots h)

-- all who go before a bidder with one of the first places have one of them, too
before-below : (a : GroupedAuction) (ranks : List Rank) (t : List ℕ) (r i : ℕ) → i < bidder_count a → nat_lt (place_at a ranks t i) r ≡ true
    → before a ranks t i < count_to (bidder_count a) (λ j. nat_lt (place_at a ranks t j) r)
before-below a ranks t r i b e =
    let place = place_at a ranks t in
    count-less (bidder_count a) i (is_before a ranks t i) (λ j. nat_lt (place j) r) b
    (λ j c d. lt-ltb (place j) r (earlier (place j) j (place i) i (ltb-true (place i) r e) ((first-decides (place j) j (place i) i).0 d))) (first-itself (place i) i) e
  where
    earlier : (q j p i : ℕ) → p < r → GoesFirst q j p i → q < r
    earlier q j p i l (inl f) = omega (arith, l, f)
    earlier q j p i l (inr f) = omega (arith, l, f.0)

before-own : (a : GroupedAuction) (ranks : List Rank) (t : List ℕ) (i j : ℕ) → i < bidder_count a → j < bidder_count a → before a ranks t i ≡ before a ranks t j → i ≡ j
before-own a ranks t i j b c e = elim (cases_eq i j) [ inl same ↦ same | inr d ↦ absurd (before-apart a ranks t i j b c d e) ]

-- what a slot, counted from 1, brings where that with so many before it brings f, and 0 where there is none
abbrev pub brings : (ℕ → ℤ) → ℕ → ℤ
brings f zero = pos 0
brings f (suc h) = f h

served-slot : (f : ℕ → ℤ) (slots : ℕ) (b : Bool) (h : ℕ) → ((g : ℕ) → slots ≤ g → f g ≡ pos 0) → b ≡ true → brings f (if b && nat_lt h slots then suc h else 0) ≡ f h
served-slot f slots true h none e = elim (cases_lt h slots) [
  | inl l ↦ ap (λ (t : Bool). brings f (if t then suc h else 0)) (lt-ltb h slots l)
  | inr l ↦ ap (λ (t : Bool). brings f (if t then suc h else 0)) (le-ltb h slots l) ∙ sym (none h l)
]
served-slot f slots false h none e = cc

-- together the bidders with the first places get the first slots
pub served-below : (a : GroupedAuction) (ranks : List Rank) (t : List ℕ) (f : ℕ → ℤ) (r : ℕ) → ((h : ℕ) → length a.slots ≤ h → f h ≡ pos 0) → r ≤ length ranks
    → sum_to (bidder_count a) (λ i. if nat_lt (place_at a ranks t i) r then brings f (slot_at a ranks t i) else pos 0)
    ≡ sum_to (count_to (bidder_count a) (λ j. nat_lt (place_at a ranks t j) r)) f
served-below a ranks t f r none l =
    let n = bidder_count a in
    let test = λ (i : ℕ). nat_lt (place_at a ranks t i) r in
    sum_to-same n _ (λ i. if test i then f (before a ranks t i) else pos 0) (λ i b. one i (test i) refl)
    ∙ by-own_keys n (count_to n test) test (before a ranks t) f (λ i j b c e d. before-own a ranks t i j b c) (λ i b e. before-below a ranks t r i b e) (sym (pos-count_to n test))
  where
    one : (i : ℕ) (b : Bool) → nat_lt (place_at a ranks t i) r ≡ b → (if b then brings f (slot_at a ranks t i) else pos 0) ≡ (if b then f (before a ranks t i) else pos 0)
    one i true e =
        served-slot f (length a.slots) (nat_lt (place_at a ranks t i) (length ranks)) (before a ranks t i) none
        (lt-ltb (place_at a ranks t i) (length ranks) (let p = ltb-true (place_at a ranks t i) r e in omega (arith, l, p)))
    one i false e = refl

pub brings-amount : (slots : List ℕ) (slot : ℕ) → brings (slot_amount slots) slot ≡ pos (amount_of slots slot)
brings-amount slots zero = refl
brings-amount slots (suc h) = refl

pub served-first : (a : GroupedAuction) (ranks : List Rank) (t : List ℕ) (r : ℕ) → r < length ranks
    → sum_to (bidder_count a) (λ i. if nat_le (place_at a ranks t i) r then pos (amount_at a ranks t i) else pos 0)
    ≡ sum_to (count_to (bidder_count a) (λ j. nat_le (place_at a ranks t j) r)) (slot_amount a.slots)
served-first a ranks t r l =
    let n = bidder_count a in
    sum_to-same n _ (λ i. if nat_lt (place_at a ranks t i) (suc r) then brings (slot_amount a.slots) (slot_at a ranks t i) else pos 0)
    (λ i b. ap₂ (λ (t : Bool) z. if t then z else pos 0) (sym (lt-suc (place_at a ranks t i) r)) (sym (brings-amount a.slots (slot_at a ranks t i))))
    ∙ served-below a ranks t (slot_amount a.slots) (suc r) (λ h b. ap (λ m. pos m) (get_or_past a.slots h 0 b)) (omega (arith, l))
    ∙ ap (λ m. sum_to m (slot_amount a.slots)) (count-same n _ _ (λ i b. lt-suc (place_at a ranks t i) r))
  where
    lt-suc : (p r : ℕ) → nat_lt p (suc r) ≡ nat_le p r
    lt-suc p r = elim (cases_lt r p) [
      | inl h ↦ le-ltb p (suc r) (omega (arith, h)) ∙ sym (lt-leb p r h)
      | inr h ↦ lt-ltb p (suc r) (omega (arith, h)) ∙ sym (le-leb p r h)
    ]

slot-falls : (slots : List ℕ) → ((h : ℕ) → suc h < length slots → slice_index slots (suc h) ≤ slice_index slots h) → (h : ℕ) → slot_amount slots (suc h) ≤ℤ slot_amount slots h
slot-falls slots falling h = elim (cases_lt (suc h) (length slots)) [
  | inl l ↦ omega (arith, ints, falling h l)
  | inr l ↦ omega (arith, ints, get_or_past slots (suc h) 0 l)
]

-- which of them have a slot
abbrev has_slot : (ℕ → Bool) → (ℕ → ℕ) → ℕ → Bool
has_slot test slot i = test i && nat_lt 0 (slot i)

has-some : (test : ℕ → Bool) (slot : ℕ → ℕ) (i : ℕ) → has_slot test slot i ≡ true → 0 < slot i
has-some test slot i e = ltb-true 0 (slot i) (and_parts (test i) (nat_lt 0 (slot i)) e).1

slotted-amount : (slots : List ℕ) (b : Bool) (h : ℕ) → (if b && nat_lt 0 h then slot_amount slots (h - 1) else pos 0) ≡ (if b then pos (amount_of slots h) else pos 0)
slotted-amount slots false h = refl
slotted-amount slots true zero = refl
slotted-amount slots true (suc h) =
    ap (λ (t : Bool). if t then slot_amount slots (suc h - 1) else pos 0) (lt-ltb 0 (suc h) (omega arith))
    ∙ ap (slot_amount slots) (let e : suc h - 1 ≡ h = omega arith in e)

-- no way to give slots gets them more
pub most-first : (slots : List ℕ) (n : ℕ) (test : ℕ → Bool) (slot : ℕ → ℕ) → ((h : ℕ) → suc h < length slots → slice_index slots (suc h) ≤ slice_index slots h)
    → ((i : ℕ) → slot i ≤ length slots) → ((i j : ℕ) → i ≢ j → slot i ≡ slot j → slot i ≡ 0)
    → sum_to n (λ i. if test i then pos (amount_of slots (slot i)) else pos 0) ≤ℤ sum_to (count_to n test) (slot_amount slots)
most-first slots n test slot falling few apart =
    let some = has_slot test slot in
    subst (λ z. z ≤ℤ sum_to (count_to n test) (slot_amount slots)) (sum_to-same n (λ i. if some i then slot_amount slots (slot i - 1) else pos 0) _ (λ i b. slotted-amount slots (test i) (slot i)))
    (most-by_keys n (length slots) (count_to n test) some (λ i. slot i - 1) (slot_amount slots) (slot-falls slots falling) (λ h. omega (arith, ints))
    (λ i j b c e d same. own i j (has-some test slot i e) (has-some test slot j d) same)
    (λ i b e. (let s : 0 < slot i = has-some test slot i e in let l : slot i ≤ length slots = few i in omega (arith, s, l)))
    (subst (λ z. z ≤ℤ pos (count_to n test)) (pos-count_to n some)
    (let le : count_to n some ≤ count_to n test = count-le n some test (λ j b e. (and_parts (test j) (nat_lt 0 (slot j)) e).0) in omega (arith, ints, le))))
  where
    own : (i j : ℕ) → 0 < slot i → 0 < slot j → slot i - 1 ≡ slot j - 1 → i ≡ j
    own i j s r e = elim (cases_eq i j) [
      | inl k ↦ k
      | inr k ↦
          let same : slot i ≡ slot j = omega (arith, e, s, r) in
          let none : slot i ≡ 0 = apart i j k same in
          absurd (omega (arith, none, s))
    ]

-- ---- levels of places

-- one bidder's term, by the steps in which levels fall
by-steps : (level : ℕ → ℤ) (x : ℤ) (places place : ℕ) → place ≤ places
    → sum_to places (λ p. (level p -ℤ level (suc p)) *ℤ (if nat_le place p then x else pos 0)) ≡ (level place -ℤ level places) *ℤ x
by-steps level x zero place b =
    let same : place ≡ 0 = omega (arith, b) in
    sym (ap (λ k. (level k -ℤ level 0) *ℤ x) same ∙ none (level 0) x)
  where
    none : (l x : ℤ) → (l -ℤ l) *ℤ x ≡ pos 0
    none l x = simp ring (omega (arith, linear))
by-steps level x (suc m) place b = elim (cases_lt m place) [
  | inl l ↦
      let same : place ≡ suc m = omega (arith, b, l) in
      sum_to-zero (suc m) _ (λ p c. ap (λ (t : Bool). (level p -ℤ level (suc p)) *ℤ (if t then x else pos 0)) (lt-leb place p (omega (arith, same, c))) ∙ *ℤ-zero (level p -ℤ level (suc p)))
      ∙ sym (ap (λ k. (level k -ℤ level (suc m)) *ℤ x) same ∙ none (level (suc m)) x)
  | inr l ↦
      ap₂ (λ y z. y +ℤ z) (by-steps level x m place l) (ap (λ (t : Bool). (level m -ℤ level (suc m)) *ℤ (if t then x else pos 0)) (le-leb place m l))
      ∙ parts (level place) (level m) (level (suc m)) x
]
  where
    none : (l x : ℤ) → (l -ℤ l) *ℤ x ≡ pos 0
    none l x = simp ring (omega (arith, linear))

    parts : (a b c x : ℤ) → (a -ℤ b) *ℤ x +ℤ (b -ℤ c) *ℤ x ≡ (a -ℤ c) *ℤ x
    parts a b c x = simp ring (omega (arith, linear))

by-levels : (level : ℕ → ℤ) (places n : ℕ) (place : ℕ → ℕ) (x : ℕ → ℤ) → ((i : ℕ) → i < n → place i ≤ places) → level places ≡ pos 0
    → sum_to n (λ i. level (place i) *ℤ x i) ≡ sum_to places (λ p. (level p -ℤ level (suc p)) *ℤ sum_to n (λ i. if nat_le (place i) p then x i else pos 0))
by-levels level places n place x inside ends =
    sum_to-same n _ (λ i. sum_to places (λ p. (level p -ℤ level (suc p)) *ℤ (if nat_le (place i) p then x i else pos 0)))
    (λ i b. ap (λ z. z *ℤ x i) (less (level (place i)) (level places) ends) ∙ sym (by-steps level (x i) places (place i) (inside i b)))
    ∙ sum_to-swap n places (λ i p. (level p -ℤ level (suc p)) *ℤ (if nat_le (place i) p then x i else pos 0))
    ∙ sum_to-same places _ _ (λ p b. sum_to-*ℤ n (level p -ℤ level (suc p)) (λ i. if nat_le (place i) p then x i else pos 0))
  where
    less : (l z : ℤ) → z ≡ pos 0 → l ≡ l -ℤ z
    less l z e = omega (arith, linear, e)

-- If x gives no more than y to the bidders with the first places, however many places these are, it gives no more by levels that
-- never rise.
pub levels-le : (level : ℕ → ℤ) (places n : ℕ) (place : ℕ → ℕ) (x y : ℕ → ℤ) → ((i : ℕ) → i < n → place i ≤ places) → level places ≡ pos 0 → ((p : ℕ) → p < places → level (suc p) ≤ℤ level p)
    → ((p : ℕ) → p < places → sum_to n (λ i. if nat_le (place i) p then x i else pos 0) ≤ℤ sum_to n (λ i. if nat_le (place i) p then y i else pos 0))
    → sum_to n (λ i. level (place i) *ℤ x i) ≤ℤ sum_to n (λ i. level (place i) *ℤ y i)
levels-le level places n place x y inside ends falls less =
    subst (λ z. z ≤ℤ sum_to n (λ i. level (place i) *ℤ y i)) (sym (by-levels level places n place x inside ends))
    (subst (λ z. sum_to places (λ p. (level p -ℤ level (suc p)) *ℤ sum_to n (λ i. if nat_le (place i) p then x i else pos 0)) ≤ℤ z) (sym (by-levels level places n place y inside ends))
    (sum_to-le places _ _ (λ p b. *ℤ-le (level p -ℤ level (suc p)) _ _ (let f : level (suc p) ≤ℤ level p = falls p b in omega (arith, linear, f)) (less p b))))
