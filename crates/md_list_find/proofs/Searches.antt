-- Searches for the reserve, and for the end of a pool, place by place.
use Rattle.std.proofs.Common.{◌≡◌, ◌⊎◌, inl, inr, ℕ, ◌+◌, ◌<◌, ◌≤◌, ℤ, pos, ◌-ℤ◌, ◌+ℤ◌, ◌*ℤ◌, ◌≤ℤ◌, ◌<ℤ◌, refl, subst, arith}
use Rattle.std.proofs.lemmas.Bool.{cases_lt}
use Rattle.md_math.specs.LexOrder.{IsPairNonNegative, IsPairPositive}
use Rattle.md_math.proofs.LexLaws.{IsPairNonNegative-from_positive, IsPairNonNegative-+ℤ}
use Rattle.md_math.proofs.Order.{*ℤ-le, *ℤ-lt, lt_from_*ℤ, le_from_same, le_from_lt}
use Rattle.md_math.proofs.Ring.{linear, ring}
use Rattle.md_list.specs.ByRule.{growth, IsReserve, IsPoolEnd}

last_or_before : (n x : ℕ) → x ≤ n + 1 → (x ≤ n) ⊎ (n + 1 ≡ x)
last_or_before n x b = elim (cases_lt n x) [ inl l ↦ inr (omega (arith, l, b)) | inr g ↦ inl g ]

-- ---- the reserve

none : (z : ℤ) → IsPairNonNegative (z -ℤ z) (z -ℤ z)
none z = inr (omega (arith, linear), omega (arith, linear))

nowhere : (gain benefit : ℕ → ℤ) (x : ℕ) → IsPairNonNegative (growth gain x x) (growth benefit x x)
nowhere gain benefit x = inr (omega (arith, linear), omega (arith, linear))

pub reserve-start : (gain benefit : ℕ → ℤ) → IsReserve 0 gain benefit 0
reserve-start gain benefit = record {
  inside = omega arith;
  least = λ x b. (let e : 0 ≡ x = omega (arith, b) in subst (λ y. IsPairNonNegative (growth gain 0 y) (growth benefit 0 y)) e (nowhere gain benefit 0));
  last = λ x l b. absurd (omega (arith, l, b));
}

pub reserve-kept : (n : ℕ) (gain benefit : ℕ → ℤ) (z : ℕ) → IsReserve n gain benefit z → IsPairPositive (growth gain z (n + 1)) (growth benefit z (n + 1)) → IsReserve (n + 1) gain benefit z
reserve-kept n gain benefit z h higher = record {
  inside = omega (arith, h.inside);
  least = λ x b. elim (last_or_before n x b) [
    | inl l ↦ h.least x l
    | inr e ↦ subst (λ y. IsPairNonNegative (growth gain z y) (growth benefit z y)) e (IsPairNonNegative-from_positive _ _ higher)
  ];
  last = λ x l b. elim (last_or_before n x b) [ inl m ↦ h.last x l m | inr e ↦ subst (λ y. IsPairPositive (growth gain z y) (growth benefit z y)) e higher ];
}

pub reserve-moved : (n : ℕ) (gain benefit : ℕ → ℤ) (z : ℕ) → IsReserve n gain benefit z → IsPairNonNegative (growth gain (n + 1) z) (growth benefit (n + 1) z)
    → IsReserve (n + 1) gain benefit (n + 1)
reserve-moved n gain benefit z h lower = record {
  inside = omega arith;
  least = λ x b. elim (last_or_before n x b) [
    | inl l ↦ rw (parts gain x, parts benefit x) (IsPairNonNegative-+ℤ _ _ _ _ lower (h.least x l))
    | inr e ↦ subst (λ y. IsPairNonNegative (growth gain (n + 1) y) (growth benefit (n + 1) y)) e (nowhere gain benefit (n + 1))
  ];
  last = λ x l b. absurd (omega (arith, l, b));
}
  where
    parts : (f : ℕ → ℤ) (x : ℕ) → growth f (n + 1) x ≡ growth f (n + 1) z +ℤ growth f z x
    parts f x = omega (arith, linear)

-- ---- the end of a pool

-- what is no greater than the slope of e is no greater than one that is at least that of e
through : (ae ax ay we wx wy : ℤ) → pos 0 <ℤ we → pos 0 <ℤ wx → pos 0 <ℤ wy → (ae *ℤ wy) ≤ℤ (ay *ℤ we) → (ax *ℤ we) <ℤ (ae *ℤ wx) → (ax *ℤ wy) <ℤ (ay *ℤ wx)
through ae ax ay we wx wy some x y h k =
    let first : (wy *ℤ (ax *ℤ we)) <ℤ (wy *ℤ (ae *ℤ wx)) = *ℤ-lt wy (ax *ℤ we) (ae *ℤ wx) y k in
    let second : (wx *ℤ (ae *ℤ wy)) ≤ℤ (wx *ℤ (ay *ℤ we)) = *ℤ-le wx (ae *ℤ wy) (ay *ℤ we) (le_from_lt (pos 0) wx x) h in
    let both : (we *ℤ (ax *ℤ wy)) <ℤ (we *ℤ (ay *ℤ wx)) = simp ring (omega (arith, linear, simp ring at first, simp ring at second)) in
    lt_from_*ℤ we (ax *ℤ wy) (ay *ℤ wx) some both

module _ (weight gain : ℕ → ℤ) (first : ℕ) where
  pub pool-start : IsPoolEnd (first + 1) weight gain first (first + 1)
  pool-start = record {
    some = omega arith;
    inside = omega arith;
    least = λ x l b. (let e : first + 1 ≡ x = omega (arith, l, b) in
        subst (λ y. (growth gain first (first + 1) *ℤ growth weight first y) ≤ℤ (growth gain first y *ℤ growth weight first (first + 1))) e (le_from_same _ _ refl));
    soonest = λ x l b. absurd (omega (arith, l, b));
  }

  pub pool-kept : (n stop : ℕ) → IsPoolEnd n weight gain first stop
      → (growth gain first stop *ℤ growth weight first (n + 1)) ≤ℤ (growth gain first (n + 1) *ℤ growth weight first stop) → IsPoolEnd (n + 1) weight gain first stop
  pool-kept n stop h higher = record {
    some = h.some;
    inside = omega (arith, h.inside);
    least = λ x l b. elim (last_or_before n x b) [
      | inl m ↦ h.least x l m
      | inr e ↦ subst (λ y. (growth gain first stop *ℤ growth weight first y) ≤ℤ (growth gain first y *ℤ growth weight first stop)) e higher
    ];
    soonest = h.soonest;
  }

  pub pool-moved : (n stop : ℕ) → ((x : ℕ) → first < x → x ≤ n + 1 → pos 0 <ℤ growth weight first x) → IsPoolEnd n weight gain first stop
      → (growth gain first (n + 1) *ℤ growth weight first stop) <ℤ (growth gain first stop *ℤ growth weight first (n + 1)) → IsPoolEnd (n + 1) weight gain first (n + 1)
  pool-moved n stop rising h lower = record {
    some = omega (arith, h.some, h.inside);
    inside = omega arith;
    least = λ x l b. elim (last_or_before n x b) [
      | inl m ↦ le_from_lt _ _ (less x l m)
      | inr e ↦ subst (λ y. (growth gain first (n + 1) *ℤ growth weight first y) ≤ℤ (growth gain first y *ℤ growth weight first (n + 1))) e (le_from_same _ _ refl)
    ];
    soonest = λ x l b. less x l (omega (arith, b));
  }
    where
      less : (x : ℕ) → first < x → x ≤ n → (growth gain first (n + 1) *ℤ growth weight first x) <ℤ (growth gain first x *ℤ growth weight first (n + 1))
      less x l b =
          through (growth gain first stop) (growth gain first (n + 1)) (growth gain first x) (growth weight first stop) (growth weight first (n + 1)) (growth weight first x)
          (rising stop h.some (omega (arith, h.inside))) (rising (n + 1) (omega (arith, l, b)) (omega arith)) (rising x l (omega (arith, b))) (h.least x l b) lower
