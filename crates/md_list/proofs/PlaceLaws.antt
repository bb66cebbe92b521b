-- Where values stand in a list of the right form: a higher value of a group stands no later, the values of a record stand at its
-- place, and the values of no record stand behind all records.
use Rattle.std.proofs.Common.{◌≡◌, ◌≢◌, ℕ, zero, suc, ◌<◌, ◌≤◌, ◌==◌, true, false, ◌&&◌, nat_le, nat_lt, if◌then◌else◌, List, [], ◌∷◌, length, refl, ap, subst, ◌∙◌, inl, inr, arith}
use Rattle.std.proofs.lemmas.Bool.{cases_lt, cases_eq, and_left, and_right, eq-eqb, ne_eqb, le-leb, lt-leb, lt-ltb}
use Rattle.md_list.specs.Ranks.{Rank, has_value, place_of, left_after, GoDown}
use Rattle.md_list.specs.Valid.{rank_at, left_behind}

-- ---- one record

pub has-inside : (rank : Rank) (k v : ℕ) → rank.group ≡ k → rank.first ≤ v → v < rank.stop → has_value rank k v ≡ true
has-inside rank k v e l b = rw (eq-eqb rank.group k e, le-leb rank.first v l, lt-ltb v rank.stop b) refl

pub has-other : (rank : Rank) (k v : ℕ) → rank.group ≢ k → has_value rank k v ≡ false
has-other rank k v d = and_left (rank.group == k && nat_le rank.first v) (nat_lt v rank.stop) (and_left (rank.group == k) (nat_le rank.first v) (ne_eqb rank.group k d))

pub has-below : (rank : Rank) (k v : ℕ) → v < rank.first → has_value rank k v ≡ false
has-below rank k v b = and_left (rank.group == k && nat_le rank.first v) (nat_lt v rank.stop) (and_right (rank.group == k) (nat_le rank.first v) (lt-leb rank.first v b))

pub place-here : (rank : Rank) (others : List Rank) (k v : ℕ) → has_value rank k v ≡ true → place_of (rank ∷ others) k v ≡ 0
place-here rank others k v e = ap (λ here. if here then 0 else suc (place_of others k v)) e

pub place-later : (rank : Rank) (others : List Rank) (k v : ℕ) → has_value rank k v ≡ false → place_of (rank ∷ others) k v ≡ suc (place_of others k v)
place-later rank others k v e = ap (λ here. if here then 0 else suc (place_of others k v)) e

pub left-same : (left : ℕ → ℕ) (rank : Rank) (k : ℕ) → rank.group ≡ k → left_after left rank k ≡ rank.first
left-same left rank k e = ap (λ here. if here then rank.first else left k) (eq-eqb rank.group k e)

pub left-other : (left : ℕ → ℕ) (rank : Rank) (k : ℕ) → rank.group ≢ k → left_after left rank k ≡ left k
left-other left rank k d = ap (λ here. if here then rank.first else left k) (ne_eqb rank.group k d)

-- a record leaves no more values of a group
left-most : (groups : ℕ) (left : ℕ → ℕ) (rank : Rank) (others : List Rank) (k : ℕ) → GoDown groups left (rank ∷ others) → left_after left rank k ≤ left k
left-most groups left rank others k h = elim (cases_eq rank.group k) [
  | inl e ↦ omega (arith, left-same left rank k e, h.1, h.2, ap left e)
  | inr d ↦ omega (arith, left-other left rank k d)
]

-- a value that is left behind is not in the record
has-left : (left : ℕ → ℕ) (rank : Rank) (k v : ℕ) → v < left_after left rank k → has_value rank k v ≡ false
has-left left rank k v b = elim (cases_eq rank.group k) [
  | inl e ↦ has-below rank k v (subst (λ n. v < n) (left-same left rank k e) b)
  | inr d ↦ has-other rank k v d
]

-- ---- a list

-- a higher value of a group stands no later
pub place-falls : (groups : ℕ) (left : ℕ → ℕ) (ranks : List Rank) → GoDown groups left ranks → (k v w : ℕ) → v ≤ w → w < left k → place_of ranks k w ≤ place_of ranks k v
place-falls groups left [] h k v w l b = omega arith
place-falls groups left (rank ∷ others) h k v w l b = elim (cases_lt w (left_after left rank k)) [
  | inl c ↦
      let rest : place_of others k w ≤ place_of others k v = place-falls groups (left_after left rank) others h.3 k v w l c in
      omega (arith, rest, place-later rank others k w (has-left left rank k w c), place-later rank others k v (has-left left rank k v (omega (arith, l, c))))
  | inr c ↦ elim (cases_eq rank.group k) [
    | inl e ↦
        let from : rank.first ≤ w = subst (λ n. n ≤ w) (left-same left rank k e) c in
        let below : w < rank.stop = omega (arith, b, h.2, ap left e) in
        omega (arith, place-here rank others k w (has-inside rank k w e from below))
    | inr d ↦ absurd (omega (arith, b, c, left-other left rank k d))
  ]
]

-- a record ends where some of its group are left
stop-most : (groups : ℕ) (left : ℕ → ℕ) (ranks : List Rank) → GoDown groups left ranks → (p : ℕ) → p < length ranks → (rank_at ranks p).stop ≤ left (rank_at ranks p).group
stop-most groups left [] h p b = absurd (omega (arith, b))
stop-most groups left (rank ∷ others) h zero b = omega (arith, h.2)
stop-most groups left (rank ∷ others) h (suc p) b =
    omega (arith, stop-most groups (left_after left rank) others h.3 p (omega (arith, b)), left-most groups left rank others (rank_at others p).group h)

-- the values of a record stand at its place
pub place-in : (groups : ℕ) (left : ℕ → ℕ) (ranks : List Rank) → GoDown groups left ranks → (p v : ℕ) → p < length ranks
    → (rank_at ranks p).first ≤ v → v < (rank_at ranks p).stop → place_of ranks (rank_at ranks p).group v ≡ p
place-in groups left [] h p v b l c = absurd (omega (arith, b))
place-in groups left (rank ∷ others) h zero v b l c = place-here rank others rank.group v (has-inside rank rank.group v refl l c)
place-in groups left (rank ∷ others) h (suc p) v b l c =
    let k = (rank_at others p).group in
    let below : v < left_after left rank k = omega (arith, c, stop-most groups (left_after left rank) others h.3 p (omega (arith, b))) in
    place-later rank others k v (has-left left rank k v below) ∙ ap suc (place-in groups (left_after left rank) others h.3 p v (omega (arith, b)) l c)

pub behind-most : (groups : ℕ) (left : ℕ → ℕ) (ranks : List Rank) → GoDown groups left ranks → (k : ℕ) → left_behind left ranks k ≤ left k
behind-most groups left [] h k = omega arith
behind-most groups left (rank ∷ others) h k = omega (arith, behind-most groups (left_after left rank) others h.3 k, left-most groups left rank others k h)

-- the values of no record stand behind all records
pub place-none : (groups : ℕ) (left : ℕ → ℕ) (ranks : List Rank) → GoDown groups left ranks → (k v : ℕ) → v < left_behind left ranks k → place_of ranks k v ≡ length ranks
place-none groups left [] h k v b = refl
place-none groups left (rank ∷ others) h k v b =
    let below : v < left_after left rank k = omega (arith, b, behind-most groups (left_after left rank) others h.3 k) in
    place-later rank others k v (has-left left rank k v below) ∙ ap suc (place-none groups (left_after left rank) others h.3 k v b)
