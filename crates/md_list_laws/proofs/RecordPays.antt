-- Payments by records are payments by values: values of one record pay the same, and only the least of them adds a step.
use Rattle.std.proofs.Common.{◌≡◌, ◌≢◌, ◌⊎◌, ℕ, zero, suc, ◌<◌, ◌≤◌, ℤ, pos, ◌+ℤ◌, ◌-ℤ◌, ◌*ℤ◌, List, length, inl, inr, refl, sym, ap, ap₂, ◌∙◌, subst, arith}
use Rattle.std.proofs.lemmas.Bool.{cases_lt, cases_eq}
use Rattle.md_math.proofs.Ring.{linear, ring}
use Rattle.md_list.specs.Closed.{place_below, lower_place}
use Rattle.md_list.specs.Ranks.{Rank, place_of, GoDown}
use Rattle.md_list.specs.Rule.{pay_by}
use Rattle.md_list.specs.Valid.{rank_at}
use Rattle.md_list.proofs.PlaceLaws.{place-falls, place-in}
use Rattle.md_list_laws.proofs.Places.{IsOf, place-of}
use Rattle.md_list_laws.proofs.Tails.{place-bounded}

-- by record a payment: its least value for what it gets more than the next lower record of its group, and the payment of that one
pub record PaysByRecord (ranks : List Rank) (value : ℕ → ℕ → ℤ) (q p : ℕ → ℤ) : Type 0 where
  pub gets_none : q (length ranks) ≡ pos 0
  pub pays_none : p (length ranks) ≡ pos 0
  pub steps : (c : ℕ) → c < length ranks → p c ≡ value (rank_at ranks c).group (rank_at ranks c).first *ℤ (q c -ℤ q (lower_place ranks c)) +ℤ p (lower_place ranks c)

module _ (groups : ℕ) (size : ℕ → ℕ) (ranks : List Rank) (down : GoDown groups size ranks) (value : ℕ → ℕ → ℤ) (q p : ℕ → ℤ) (pays : PaysByRecord ranks value q p) where
  -- at the least value of a record
  step-at : (c k v : ℕ) → c < length ranks → (rank_at ranks c).group ≡ k → (rank_at ranks c).first ≡ v → p c ≡ value k v *ℤ (q c -ℤ q (place_below ranks k v)) +ℤ p (place_below ranks k v)
  step-at c k v b e f =
      subst (λ u. p c ≡ value k u *ℤ (q c -ℤ q (place_below ranks k u)) +ℤ p (place_below ranks k u)) f
      (subst (λ j. p c ≡ value j (rank_at ranks c).first *ℤ (q c -ℤ q (place_below ranks j (rank_at ranks c).first)) +ℤ p (place_below ranks j (rank_at ranks c).first)) e (pays.steps c b))

  -- a value with another place than the one below it is the least of its record
  least : (k v : ℕ) → suc v < size k → place_of ranks k (suc v) ≢ place_of ranks k v → (place_of ranks k (suc v) < length ranks) × ((rank_at ranks (place_of ranks k (suc v))).first ≡ suc v)
  least k v b d =
      let c = place_of ranks k (suc v) in
      let falls : c ≤ place_of ranks k v = place-falls groups size ranks down k v (suc v) (omega arith) b in
      let most : place_of ranks k v ≤ length ranks = place-bounded ranks k v in
      let inside : c < length ranks = omega (arith, falls, most, d) in
      let of : IsOf (rank_at ranks c) k (suc v) = place-of ranks k (suc v) c inside refl in (
        inside,
        elim (cases_lt v (rank_at ranks c).first) [
          | inl l ↦ omega (arith, l, of.from)
          | inr l ↦
              let same : place_of ranks k v ≡ c = subst (λ j. place_of ranks j v ≡ c) of.group (place-in groups size ranks down c v inside l (omega (arith, of.to))) in
              absurd (d (sym same))
        ],
      )

  pub pays-by_values : (k v : ℕ) → v < size k → pay_by (value k) (λ u. q (place_of ranks k u)) v ≡ p (place_of ranks k v)
  pays-by_values k zero b =
      let c = place_of ranks k 0 in
      elim (cases_lt c (length ranks)) [
        | inl l ↦
            let of : IsOf (rank_at ranks c) k 0 = place-of ranks k 0 c l refl in
            let first : (rank_at ranks c).first ≡ 0 = omega (arith, of.from) in
            one (value k 0) (q c) (p c) (q (length ranks)) (p (length ranks)) (step-at c k 0 l of.group first) pays.gets_none pays.pays_none
        | inr l ↦
            let e : c ≡ length ranks = omega (arith, l, place-bounded ranks k 0) in
            none (value k 0) (q c) (p c) (ap q e ∙ pays.gets_none) (ap p e ∙ pays.pays_none)
      ]
    where
      one : (v x y z w : ℤ) → y ≡ v *ℤ (x -ℤ z) +ℤ w → z ≡ pos 0 → w ≡ pos 0 → pos 0 +ℤ v *ℤ x ≡ y
      one v x y z w e f g = rw (e, f, g) (parts v x)
        where
          parts : (v x : ℤ) → pos 0 +ℤ v *ℤ x ≡ v *ℤ (x -ℤ pos 0) +ℤ pos 0
          parts v x = simp ring (omega (arith, linear))

      none : (v x y : ℤ) → x ≡ pos 0 → y ≡ pos 0 → pos 0 +ℤ v *ℤ x ≡ y
      none v x y e f = rw (e, f) (nothing v)
        where
          nothing : (v : ℤ) → pos 0 +ℤ v *ℤ pos 0 ≡ pos 0
          nothing v = simp ring (omega (arith, linear))
  pays-by_values k (suc v) b =
      let c = place_of ranks k (suc v) in
      let d = place_of ranks k v in
      ap (λ z. z +ℤ value k (suc v) *ℤ (q c -ℤ q d)) (pays-by_values k v (omega (arith, b)))
      ∙ elim (cases_eq c d) [
        | inl e ↦ still (value k (suc v)) (q c) (q d) (p c) (p d) (ap q e) (ap p e)
        | inr e ↦
            let (inside, first) = least k v b e in
            sym (step-at c k (suc v) inside (place-of ranks k (suc v) c inside refl).group first ∙ turned (value k (suc v) *ℤ (q c -ℤ q d)) (p d))
      ]
    where
      turned : (x y : ℤ) → x +ℤ y ≡ y +ℤ x
      turned x y = omega (arith, linear)

      still : (v x y z w : ℤ) → x ≡ y → z ≡ w → w +ℤ v *ℤ (x -ℤ y) ≡ z
      still v x y z w e f = rw (e, f) (none v y w)
        where
          none : (v y w : ℤ) → w +ℤ v *ℤ (y -ℤ y) ≡ w
          none v y w = simp ring (omega (arith, linear))
