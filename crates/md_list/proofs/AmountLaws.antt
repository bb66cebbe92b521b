-- Who gets which slot. No two bidders get the same one. What a bidder gets, where the others stay as they are, depends only on the
-- place of its value, and is no less where the value stands earlier.
use Rattle.std.proofs.Common.{◌≡◌, ◌≢◌, ◌⊎◌, ℕ, zero, suc, ◌<◌, ◌≤◌, ◌==◌, Bool, true, false, ◌&&◌, ◌||◌, nat_lt, if◌then◌else◌, List, length, Decides, sym, ap, ap₂, subst, ◌∙◌, inl, inr, arith}
use Rattle.std.specs.Prelude.{slice_index}
use Rattle.std.proofs.lemmas.Bool.{cases_lt, cases_eq, cases_Bool, and_from, and_parts, and_left, eq-eqb, ne_eqb, lt-ltb, le-ltb, ltb-true, false_from_ne_true}
use Rattle.std.proofs.lemmas.Bool.Decides.{Decides-eqb, Decides-ltb, Decides-and, Decides-or}
use Rattle.std.proofs.lemmas.List.{get_or-set_same, get_or-set_other, get_or_past}
use Rattle.md_math.proofs.Builders.{length-list_to, get_or-list_to}
use Rattle.md_space.specs.Profiles.{replaced}
use Rattle.md_setting.specs.Grouped.{GroupedAuction, bidder_count, group_of, group_at, value_count}
use Rattle.md_bidders.specs.Assignments.{amount_of, amount_in}
use Rattle.md_setting.specs.GroupedShaped.{IsOrdered}
use Rattle.md_bidders.proofs.AssignmentLaws.{IsAssignment}
use Rattle.md_list.specs.Ranks.{Rank, place_of, IsList}
use Rattle.md_list.specs.Rule.{place_at, is_before, count_to, before, slot_at, assigned, amount_at, amount_with}
use Rattle.md_list.specs.Mechanisms.{SlotsDiffer}
use Rattle.md_list.specs.Valid.{rank_at, unlisted}
use Rattle.md_list.proofs.CountLaws.{count-same, count-le, count-less}
use Rattle.md_list.proofs.PlaceLaws.{place-falls, place-in, place-none}

-- ---- the order of bidders

-- whether bidder j, whose value has the place q, goes before bidder i, whose value has the place p
abbrev pub goes_first : ℕ → ℕ → ℕ → ℕ → Bool
goes_first q j p i = nat_lt q p || (q == p && nat_lt j i)

abbrev pub GoesFirst : ℕ → ℕ → ℕ → ℕ → Type 0
GoesFirst q j p i = (q < p) ⊎ ((q ≡ p) × (j < i))

pub first-decides : (q j p i : ℕ) → Decides (goes_first q j p i) (GoesFirst q j p i)
first-decides q j p i =
    Decides-or (nat_lt q p) (q == p && nat_lt j i) (Decides-ltb q p) (Decides-and (q == p) (nat_lt j i) (Decides-eqb q p) (Decides-ltb j i))

pub first-trans : (r k q j p i : ℕ) → GoesFirst r k q j → GoesFirst q j p i → GoesFirst r k p i
first-trans r k q j p i (inl a) (inl b) = inl (omega (arith, a, b))
first-trans r k q j p i (inl a) (inr b) = inl (omega (arith, a, b.0))
first-trans r k q j p i (inr a) (inl b) = inl (omega (arith, a.0, b))
first-trans r k q j p i (inr a) (inr b) = inr (a.0 ∙ b.0, omega (arith, a.1, b.1))

pub first-itself : (p i : ℕ) → goes_first p i p i ≡ false
first-itself p i = false_from_ne_true (goes_first p i p i) (λ e. never ((first-decides p i p i).0 e))
  where
    never : GoesFirst p i p i → ⊥
    never (inl a) = omega (arith, a)
    never (inr a) = omega (arith, a.1)

pub first-one : (q j p i : ℕ) → j ≢ i → GoesFirst q j p i ⊎ GoesFirst p i q j
first-one q j p i d = elim (cases_lt q p) [
  | inl a ↦ inl (inl a)
  | inr a ↦ elim (cases_lt p q) [
    | inl b ↦ inr (inl b)
    | inr b ↦ elim (cases_lt j i) [
      | inl c ↦ inl (inr (omega (arith, a, b), c))
      | inr c ↦ inr (inr (omega (arith, a, b), omega (arith, c, d)))
    ]
  ]
]

-- whoever goes before a bidder goes before it also where its place is a later one
first-later : (q j p r i : ℕ) → p ≤ r → goes_first q j p i ≡ true → goes_first q j r i ≡ true
first-later q j p r i l e = (first-decides q j r i).1 (later ((first-decides q j p i).0 e))
  where
    later : GoesFirst q j p i → GoesFirst q j r i
    later (inl a) = inl (omega (arith, a, l))
    later (inr a) = elim (cases_lt p r) [
      | inl b ↦ inl (omega (arith, a.0, b))
      | inr b ↦ inr (omega (arith, a.0, l, b), a.1)
    ]

-- ---- slots by the place of a value and the number of bidders before

abbrev pub slot_by : ℕ → ℕ → ℕ → ℕ → ℕ
slot_by ranks slots place ahead = if nat_lt place ranks && nat_lt ahead slots then suc ahead else 0

-- a slot that is given
pub record IsGiven (ranks slots place ahead : ℕ) : Type 0 where
  pub place_below : place < ranks
  pub ahead_below : ahead < slots
  pub is : slot_by ranks slots place ahead ≡ suc ahead

pub given-or-none : (ranks slots place ahead : ℕ) → IsGiven ranks slots place ahead ⊎ (slot_by ranks slots place ahead ≡ 0)
given-or-none ranks slots place ahead = elim (cases_Bool (nat_lt place ranks && nat_lt ahead slots)) [
  | inl e ↦
      let both = and_parts (nat_lt place ranks) (nat_lt ahead slots) e in
      inl (record { place_below = ltb-true place ranks both.0; ahead_below = ltb-true ahead slots both.1; is = ap (λ b. if b then suc ahead else 0) e })
  | inr e ↦ inr (ap (λ b. if b then suc ahead else 0) e)
]

pub given : (ranks slots place ahead : ℕ) → place < ranks → ahead < slots → slot_by ranks slots place ahead ≡ suc ahead
given ranks slots place ahead l h = ap (λ b. if b then suc ahead else 0) (and_from (nat_lt place ranks) (nat_lt ahead slots) (lt-ltb place ranks l) (lt-ltb ahead slots h))

not-given : (ranks slots place ahead : ℕ) → ranks ≤ place → slot_by ranks slots place ahead ≡ 0
not-given ranks slots place ahead l = ap (λ b. if b then suc ahead else 0) (and_left (nat_lt place ranks) (nat_lt ahead slots) (le-ltb place ranks l))

pub slot-most : (ranks slots place ahead : ℕ) → slot_by ranks slots place ahead ≤ slots
slot-most ranks slots place ahead = elim (given-or-none ranks slots place ahead) [
  | inl g ↦ omega (arith, g.ahead_below, g.is)
  | inr e ↦ omega (arith, e)
]

slot-apart : (ranks slots p h q g : ℕ) → h ≢ g → slot_by ranks slots p h ≡ slot_by ranks slots q g → slot_by ranks slots p h ≡ 0
slot-apart ranks slots p h q g d e = elim (given-or-none ranks slots p h) [
  | inl x ↦ elim (given-or-none ranks slots q g) [
    | inl y ↦ absurd (d (let same : h ≡ g = omega (arith, x.is, y.is, e) in same))
    | inr y ↦ e ∙ y
  ]
  | inr x ↦ x
]

-- amounts of slots do not rise
amounts-fall : (slots : List ℕ) → ((h : ℕ) → suc h < length slots → slice_index slots (suc h) ≤ slice_index slots h) → (h g : ℕ) → h ≤ g → g < length slots → slice_index slots g ≤ slice_index slots h
amounts-fall slots falling h zero l b = (let e : h ≡ 0 = omega (arith, l) in rw e (omega arith))
amounts-fall slots falling h (suc g) l b = elim (cases_lt h (suc g)) [
  | inl c ↦ omega (arith, amounts-fall slots falling h g (omega (arith, c)) (omega (arith, b)), falling g b)
  | inr c ↦ (let e : h ≡ suc g = omega (arith, l, c) in rw e (omega arith))
]

-- an earlier place and fewer bidders before make an amount that is no less
amount-more : (slots : List ℕ) → ((h : ℕ) → suc h < length slots → slice_index slots (suc h) ≤ slice_index slots h) → (ranks p q h g : ℕ) → p ≤ q → h ≤ g
    → amount_of slots (slot_by ranks (length slots) q g) ≤ amount_of slots (slot_by ranks (length slots) p h)
amount-more slots falling ranks p q h g l m = elim (given-or-none ranks (length slots) q g) [
  | inl x ↦
      let is : slot_by ranks (length slots) p h ≡ suc h = given ranks (length slots) p h (omega (arith, x.place_below, l)) (omega (arith, x.ahead_below, m)) in
      rw (x.is, is) (amounts-fall slots falling h g m x.ahead_below)
  | inr e ↦ rw e (omega arith)
]

-- ---- at a profile

before-less : (a : GroupedAuction) (ranks : List Rank) (t : List ℕ) (i j : ℕ) → i < bidder_count a → is_before a ranks t j i ≡ true → before a ranks t i < before a ranks t j
before-less a ranks t i j b h =
    let p = place_at a ranks t in
    count-less (bidder_count a) i (is_before a ranks t i) (is_before a ranks t j) b
    (λ k c e. (first-decides (p k) k (p j) j).1 (first-trans (p k) k (p i) i (p j) j ((first-decides (p k) k (p i) i).0 e) ((first-decides (p i) i (p j) j).0 h)))
    (first-itself (p i) i) h

pub before-apart : (a : GroupedAuction) (ranks : List Rank) (t : List ℕ) (i j : ℕ) → i < bidder_count a → j < bidder_count a → i ≢ j → before a ranks t i ≢ before a ranks t j
before-apart a ranks t i j b c d e =
    let p = place_at a ranks t in
    elim (first-one (p i) i (p j) j d) [
      | inl f ↦ omega (arith, before-less a ranks t i j b ((first-decides (p i) i (p j) j).1 f), e)
      | inr f ↦ omega (arith, before-less a ranks t j i c ((first-decides (p j) j (p i) i).1 f), e)
    ]

-- no slot goes to two bidders
pub slots-differ : (a : GroupedAuction) (ranks : List Rank) → SlotsDiffer a ranks
slots-differ a ranks t i j b c d e =
    slot-apart (length ranks) (length a.slots) (place_at a ranks t i) (before a ranks t i) (place_at a ranks t j) (before a ranks t j) (before-apart a ranks t i j b c d) e

pub assigned-at : (a : GroupedAuction) (ranks : List Rank) (t : List ℕ) (i : ℕ) → i < bidder_count a → slice_index (assigned a ranks t) i ≡ slot_at a ranks t i
assigned-at a ranks t i b = get_or-list_to (bidder_count a) (slot_at a ranks t) i 0 b

assigned-past : (a : GroupedAuction) (ranks : List Rank) (t : List ℕ) (i : ℕ) → bidder_count a ≤ i → slice_index (assigned a ranks t) i ≡ 0
assigned-past a ranks t i b = get_or_past (assigned a ranks t) i 0 (omega (arith, b, length-list_to (bidder_count a) (slot_at a ranks t)))

-- the rule gives each bidder at most one slot, and no slot to two bidders
pub is-assigned : (a : GroupedAuction) (ranks : List Rank) (t : List ℕ) → IsAssignment a (assigned a ranks t)
is-assigned a ranks t = record {
  long = length-list_to (bidder_count a) (slot_at a ranks t);
  slot = λ i. elim (cases_lt i (bidder_count a)) [
    | inl b ↦ omega (arith, assigned-at a ranks t i b, slot-most (length ranks) (length a.slots) (place_at a ranks t i) (before a ranks t i))
    | inr b ↦ omega (arith, assigned-past a ranks t i b)
  ];
  apart = λ i j d e. apart i j d e (cases_lt i (bidder_count a)) (cases_lt j (bidder_count a));
}
  where
    apart : (i j : ℕ) → i ≢ j → slice_index (assigned a ranks t) i ≡ slice_index (assigned a ranks t) j → (i < bidder_count a) ⊎ (bidder_count a ≤ i) → (j < bidder_count a) ⊎ (bidder_count a ≤ j) → slice_index (assigned a ranks t) i ≡ 0
    apart i j d e (inr b) c = assigned-past a ranks t i b
    apart i j d e (inl b) (inr c) = e ∙ assigned-past a ranks t j c
    apart i j d e (inl b) (inl c) =
        assigned-at a ranks t i b
        ∙ slots-differ a ranks t i j b c d
        (sym (assigned-at a ranks t i b) ∙ e ∙ assigned-at a ranks t j c)

-- what a bidder gets in this way is what it gets by the rule
pub amount-assigned : (a : GroupedAuction) (ranks : List Rank) (t : List ℕ) (i : ℕ) → i < bidder_count a → amount_in a (assigned a ranks t) i ≡ amount_at a ranks t i
amount-assigned a ranks t i b = ap (amount_of a.slots) (assigned-at a ranks t i b)

-- ---- where the others stay

module _ (a : GroupedAuction) (ranks : List Rank) (t : List ℕ) (i : ℕ) where
  -- how many of the others go before bidder i where its value has the place p
  abbrev pub before_at : ℕ → ℕ
  before_at p = count_to (bidder_count a) (λ j. if j == i then false else goes_first (place_at a ranks t j) j p i)

  -- what it gets where its value has the place p
  abbrev pub amount_by_place : ℕ → ℕ
  amount_by_place p = amount_of a.slots (slot_by (length ranks) (length a.slots) p (before_at p))

  before-later : (p q : ℕ) → p ≤ q → before_at p ≤ before_at q
  before-later p q l = count-le (bidder_count a) _ _ (λ j b. one j (j == i))
    where
      one : (j : ℕ) (itself : Bool) → (if itself then false else goes_first (place_at a ranks t j) j p i) ≡ true → (if itself then false else goes_first (place_at a ranks t j) j q i) ≡ true
      one j true e = e
      one j false e = first-later (place_at a ranks t j) j p q i l e

  place-replaced : (v : ℕ) → i < length t → place_at a ranks (replaced t i v) i ≡ place_of ranks (group_of a i) v
  place-replaced v b = ap (place_of ranks (group_of a i)) (get_or-set_same t i v 0 b)

  place-others : (v j : ℕ) → j ≢ i → place_at a ranks (replaced t i v) j ≡ place_at a ranks t j
  place-others v j d = ap (place_of ranks (group_of a j)) (get_or-set_other t i j v 0 d)

  before-replaced : (v : ℕ) → i < length t → before a ranks (replaced t i v) i ≡ before_at (place_of ranks (group_of a i) v)
  before-replaced v b = count-same (bidder_count a) _ _ (λ j c. one j)
    where
      one : (j : ℕ) → is_before a ranks (replaced t i v) i j ≡ (if j == i then false else goes_first (place_at a ranks t j) j (place_of ranks (group_of a i) v) i)
      one j = elim (cases_eq j i) [
        | inl e ↦
            ap (λ k. goes_first (place_at a ranks (replaced t i v) k) k (place_at a ranks (replaced t i v) i) i) e
            ∙ first-itself (place_at a ranks (replaced t i v) i) i
            ∙ sym (ap (λ here. if here then false else goes_first (place_at a ranks t j) j (place_of ranks (group_of a i) v) i) (eq-eqb j i e))
        | inr d ↦
            ap₂ (λ q p. goes_first q j p i) (place-others v j d) (place-replaced v b)
            ∙ sym (ap (λ here. if here then false else goes_first (place_at a ranks t j) j (place_of ranks (group_of a i) v) i) (ne_eqb j i d))
      ]

  pub slot-by_place : (v : ℕ) → i < length t → slot_at a ranks (replaced t i v) i ≡ slot_by (length ranks) (length a.slots) (place_of ranks (group_of a i) v) (before_at (place_of ranks (group_of a i) v))
  slot-by_place v b = ap₂ (λ p h. slot_by (length ranks) (length a.slots) p h) (place-replaced v b) (before-replaced v b)

  -- values at one place get one slot
  pub slot-alike : (v w : ℕ) → i < length t → place_of ranks (group_of a i) v ≡ place_of ranks (group_of a i) w → slot_at a ranks (replaced t i v) i ≡ slot_at a ranks (replaced t i w) i
  slot-alike v w b e = slot-by_place v b ∙ ap (λ p. slot_by (length ranks) (length a.slots) p (before_at p)) e ∙ sym (slot-by_place w b)

  -- a value behind all records gets none
  pub slot-none : (v : ℕ) → i < length t → length ranks ≤ place_of ranks (group_of a i) v → slot_at a ranks (replaced t i v) i ≡ 0
  slot-none v b l = slot-by_place v b ∙ not-given (length ranks) (length a.slots) (place_of ranks (group_of a i) v) (before_at (place_of ranks (group_of a i) v)) l

  pub amount-by_place : (v : ℕ) → i < length t → amount_with a ranks t i v ≡ amount_by_place (place_of ranks (group_of a i) v)
  amount-by_place v b = ap (amount_of a.slots) (slot-by_place v b)

  -- values at one place get one amount
  pub amount-alike : (v w : ℕ) → i < length t → place_of ranks (group_of a i) v ≡ place_of ranks (group_of a i) w → amount_with a ranks t i v ≡ amount_with a ranks t i w
  amount-alike v w b e = ap (amount_of a.slots) (slot-alike v w b e)

  -- a value behind all records gets nothing
  pub amount-none : (v : ℕ) → i < length t → length ranks ≤ place_of ranks (group_of a i) v → amount_with a ranks t i v ≡ 0
  amount-none v b l = ap (amount_of a.slots) (slot-none v b l)

  amount-later : IsOrdered a → (p q : ℕ) → p ≤ q → amount_by_place q ≤ amount_by_place p
  amount-later ordered p q l = amount-more a.slots ordered.falling (length ranks) p q (before_at p) (before_at q) l (before-later p q l)

  -- a higher value gets no less
  pub amount-rises : IsOrdered a → IsList a ranks → (v w : ℕ) → i < length t → v ≤ w → w < value_count a i → amount_with a ranks t i v ≤ amount_with a ranks t i w
  amount-rises ordered is v w b l h =
      let place = place-falls (length a.groups) (λ k. length (group_at a k).values) ranks is (group_of a i) v w l h in
      omega (arith, amount-by_place v b, amount-by_place w b, amount-later ordered (place_of ranks (group_of a i) w) (place_of ranks (group_of a i) v) place)

  -- the values of a record get one amount
  pub amount-in_rank : IsList a ranks → (p v w : ℕ) → i < length t → p < length ranks → (rank_at ranks p).group ≡ group_of a i
      → (rank_at ranks p).first ≤ v → v < (rank_at ranks p).stop → (rank_at ranks p).first ≤ w → w < (rank_at ranks p).stop
      → amount_with a ranks t i v ≡ amount_with a ranks t i w
  amount-in_rank is p v w b c e l h m k =
      let left = λ (g : ℕ). length (group_at a g).values in
      let at_v : place_of ranks (group_of a i) v ≡ p = subst (λ g. place_of ranks g v ≡ p) e (place-in (length a.groups) left ranks is p v c l h) in
      let at_w : place_of ranks (group_of a i) w ≡ p = subst (λ g. place_of ranks g w ≡ p) e (place-in (length a.groups) left ranks is p w c m k) in
      amount-alike v w b (at_v ∙ sym at_w)

  -- the values of no record get nothing
  pub amount-unlisted : IsList a ranks → (v : ℕ) → i < length t → v < unlisted a ranks (group_of a i) → amount_with a ranks t i v ≡ 0
  amount-unlisted is v b h =
      let place = place-none (length a.groups) (λ g. length (group_at a g).values) ranks is (group_of a i) v h in
      amount-none v b (omega (arith, place))
