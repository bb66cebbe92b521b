-- The greatest common divisor of two numbers and of a family: that there is one, that it is unique, and that it grows with a common factor.
use Rattle.std.proofs.Common.{◌≡◌, ℕ, zero, suc, ◌+◌, ◌*◌, ◌/◌, ◌%◌, ◌<◌, ◌≤◌, ℤ, pos, ◌*ℤ◌, ◌≤ℤ◌, unsigned_abs, refl, ap, ◌∙◌, subst, inl, inr, arith, mod-lt, add-one}
use Prim.Native.Nat.{◌∣◌}
use Rattle.std.specs.Int.{IsGcd}
use Rattle.std.proofs.lemmas.Int.{ints, unsigned_abs-mul}
use Rattle.std.proofs.lemmas.Bool.{cases_lt}
use Rattle.std.proofs.lemmas.Nat.Gcd.{IsGcd-from_zero, IsGcd-from_mod}
use Rattle.std.proofs.Math.Nat as NatL
use Rattle.md_math.specs.Divisors.{Divides, IsGcdOfTwo, IsCommonDivisor, IsGcdOf, DividesTable}
use Rattle.md_math.proofs.Division.{Divides_refl, Divides_trans, Divides-zero, Divides-*ℤ_left, same_from_Divides}
use Rattle.md_math.proofs.Ring.{*ℤ-zero, *ℤ-one}

-- ---- natural numbers

scaled-mod : (e a b : ℕ) → 0 < e → 0 < b → (e * a) % (e * b) ≡ e * (a % b)
scaled-mod e a b p q =
    let parts : e * a ≡ e * b * (a / b) + e * (a % b) = omega (arith, ap (λ k. e * k) (NatL.div-add-mod a b)) in
    let small : a % b < b = mod-lt a q in
    let below : e * (a % b) < e * b = NatL.mul-lt-mul_of_pos_left small p in
    ap (λ k. k % (e * b)) parts ∙ NatL.mul-add-mod_self_left (e * b) (a / b) (e * (a % b)) ∙ NatL.mod-eq_of_lt below

-- a gcd that stays one under each common factor
record IsScaledGcd (a b g : ℕ) : Type 0 where
  is_gcd : IsGcd a b g
  scaled : (e : ℕ) → IsGcd (e * a) (e * b) (e * g)

IsScaledGcd-zero : (a b : ℕ) → b ≡ 0 → IsScaledGcd a b a
IsScaledGcd-zero a b z = record {
  is_gcd = IsGcd-from_zero a b z;
  scaled = λ e. IsGcd-from_zero (e * a) (e * b) (rw z (omega arith));
}

IsScaledGcd-mod : (a b g : ℕ) → 0 < b → IsScaledGcd b (a % b) g → IsScaledGcd a b g
IsScaledGcd-mod a b g p h = record {
  is_gcd = IsGcd-from_mod a b g h.is_gcd;
  scaled = λ e.
      elim (NatL.eq-zero-or-pos e) [
        | inl z ↦ rw z (let z1 : 0 * a ≡ 0 = omega arith in let z2 : 0 * b ≡ 0 = omega arith in let z3 : 0 * g ≡ 0 = omega arith in rw (z1, z2, z3) (IsGcd-from_zero 0 0 refl))
        | inr q ↦ IsGcd-from_mod (e * a) (e * b) (e * g) (rw (scaled-mod e a b q p) (h.scaled e))
      ];
}

gcd_by : (fuel a b : ℕ) → b ≤ fuel → (g : ℕ) × IsScaledGcd a b g
gcd_by zero a b l = (a, IsScaledGcd-zero a b (omega arith))
gcd_by (suc fuel) a b l =
    elim (NatL.eq-zero-or-pos b) [
      | inl z ↦ (a, IsScaledGcd-zero a b z)
      | inr p ↦
          let small : a % b < b = mod-lt a p in
          let (g, h) = gcd_by fuel b (a % b) (omega arith) in
          (g, IsScaledGcd-mod a b g p h)
    ]

-- ---- two numbers

pub IsGcdOfTwo-from_IsGcd : (a b : ℤ) (g : ℕ) → IsGcd (unsigned_abs a) (unsigned_abs b) g → IsGcdOfTwo a b (pos g)
IsGcdOfTwo-from_IsGcd a b g h = record {
  nonneg = omega (arith, ints);
  left = record { divides = h.0 };
  right = record { divides = h.1 };
  greatest = λ d p q. record { divides = h.2 (unsigned_abs d) p.divides q.divides };
}

-- what divides e times each of two numbers divides e times their gcd
pub record IsGcdWithFactors (a b g : ℤ) : Type 0 where
  pub is_gcd : IsGcdOfTwo a b g
  pub factor : (d e : ℤ) → Divides d (e *ℤ a) → Divides d (e *ℤ b) → Divides d (e *ℤ g)

pub gcd_of_two : (a b : ℤ) → (g : ℤ) × IsGcdWithFactors a b g
gcd_of_two a b =
    let (g, h) = gcd_by (unsigned_abs b) (unsigned_abs a) (unsigned_abs b) (omega arith) in (
      pos g,
      record {
        is_gcd = IsGcdOfTwo-from_IsGcd a b g h.is_gcd;
        factor = λ d e p q. record {
          divides = rw (unsigned_abs-mul e (pos g)) (grown g h d e p q);
        };
      },
    )
  where
    grown : (g : ℕ) → IsScaledGcd (unsigned_abs a) (unsigned_abs b) g → (d e : ℤ) → Divides d (e *ℤ a) → Divides d (e *ℤ b) → unsigned_abs d ∣ unsigned_abs e * g
    grown g h d e p q = (h.scaled (unsigned_abs e)).2 (unsigned_abs d) (rw unsigned_abs-mul at p.divides) (rw unsigned_abs-mul at q.divides)

pub same_from_IsGcdOfTwo : (a b g h : ℤ) → IsGcdOfTwo a b g → IsGcdOfTwo a b h → g ≡ h
same_from_IsGcdOfTwo a b g h p q = same_from_Divides g h p.nonneg q.nonneg (q.greatest g p.left p.right) (p.greatest h q.left q.right)

-- ---- families

pub record IsFamilyGcd (n : ℕ) (f : ℕ → ℤ) (g : ℤ) : Type 0 where
  pub is_gcd : IsGcdOf n f g
  pub factor : (d e : ℤ) → ((k : ℕ) → k < n → Divides d (e *ℤ f k)) → Divides d (e *ℤ g)

-- the gcd of no number is 0
pub IsGcdOf-none : (f : ℕ → ℤ) → IsGcdOf 0 f (pos 0)
IsGcdOf-none f = record {
  nonneg = omega (arith, ints);
  common = record { at = λ k b. absurd (omega arith) };
  greatest = λ d h. Divides-zero d;
}

-- one more number
pub IsGcdOf-more : (n : ℕ) (f : ℕ → ℤ) (g h : ℤ) → IsGcdOf n f g → IsGcdOfTwo g (f n) h → IsGcdOf (n + 1) f h
IsGcdOf-more n f g h p q = record {
  nonneg = q.nonneg;
  common = record {
    at = λ k b.
        elim (cases_lt k n) [
          | inl l ↦ Divides_trans h g (f k) q.left (p.common.at k l)
          | inr l ↦ let same : n ≡ k = omega arith in subst (λ i. Divides h (f i)) same q.right
        ];
  };
  greatest = λ d c. q.greatest d (p.greatest d (record { at = λ k b. c.at k (omega arith) })) (c.at n (omega arith));
}

pub family_gcd : (n : ℕ) (f : ℕ → ℤ) → (g : ℤ) × IsFamilyGcd n f g
family_gcd zero f = (pos 0, record { is_gcd = IsGcdOf-none f; factor = λ d e h. rw (*ℤ-zero e) (Divides-zero d) })
family_gcd (suc n) f =
    let (g, p) = family_gcd n f in
    let (h, q) = gcd_of_two g (f n) in
    let whole : IsGcdOf (n + 1) f h = IsGcdOf-more n f g h p.is_gcd q.is_gcd in (
      h,
      record {
        is_gcd = rw add-one at whole;
        factor = λ d e c. q.factor d e (p.factor d e (λ k b. c k (omega arith))) (c n (omega arith));
      },
    )

pub same_from_IsGcdOf : (n : ℕ) (f : ℕ → ℤ) (g h : ℤ) → IsGcdOf n f g → IsGcdOf n f h → g ≡ h
same_from_IsGcdOf n f g h p q = same_from_Divides g h p.nonneg q.nonneg (q.greatest g p.common) (p.greatest h q.common)

-- ---- coprime numbers

-- what divides e times each number of a family, and has only 1 as a divisor in common with them, divides e
pub Divides-from_coprime : (n : ℕ) (f : ℕ → ℤ) (d e : ℤ) → ((c : ℤ) → Divides c d → IsCommonDivisor n f c → unsigned_abs c ≡ 1) → ((k : ℕ) → k < n → Divides d (e *ℤ f k)) → Divides d e
Divides-from_coprime n f d e only h =
    let (g, p) = family_gcd n f in
    let (u, q) = gcd_of_two d g in
    let unit : unsigned_abs u ≡ 1 = only u q.is_gcd.left (record { at = λ k b. Divides_trans u g (f k) q.is_gcd.right (p.is_gcd.common.at k b) }) in
    let one : u ≡ pos 1 = is_one u unit q.is_gcd.nonneg in
    let grown : Divides d (e *ℤ u) = q.factor d e (Divides-*ℤ_left d e d (Divides_refl d)) (p.factor d e h) in
    subst (Divides d) (ap (λ x. e *ℤ x) one ∙ *ℤ-one e) grown
  where
    is_one : (u : ℤ) → unsigned_abs u ≡ 1 → pos 0 ≤ℤ u → u ≡ pos 1
    is_one u a b = omega (arith, ints)

-- the same of a table
pub Divides-from_coprime_table : (rows columns : ℕ) (t : ℕ → ℕ → ℤ) (d e : ℤ) → ((c : ℤ) → Divides c d → DividesTable rows columns t c → unsigned_abs c ≡ 1) → ((r j : ℕ) → r < rows → j < columns → Divides d (e *ℤ t r j)) → Divides d e
Divides-from_coprime_table rows columns t d e only h =
    Divides-from_coprime rows (λ r. (family_gcd columns (t r)).0) d e
    (λ c p q. only c p (record { at = λ r j a b. Divides_trans c ((family_gcd columns (t r)).0) (t r j) (q.at r a) ((family_gcd columns (t r)).1.is_gcd.common.at j b) }))
    (λ r a. (family_gcd columns (t r)).1.factor d e (λ j b. h r j a b))

-- a gcd is less than what both numbers are less than
pub size_of_gcd : (a b g limit : ℕ) → a < limit → b < limit → IsGcd a b g → g < limit
size_of_gcd a b g limit p q h =
    elim (NatL.eq-zero-or-pos a) [
      | inr above ↦ (let most : g ≤ a = NatL.le_of_dvd above h.0 in omega arith)
      | inl z ↦
          elim (NatL.eq-zero-or-pos b) [
            | inr above ↦ (let most : g ≤ b = NatL.le_of_dvd above h.1 in omega arith)
            | inl y ↦
                let none : 0 ∣ g = h.2 0 (rw z (NatL.dvd_refl 0)) (rw y (NatL.dvd_refl 0)) in
                let zero_is : g ≡ 0 = NatL.eq-zero_of_zero-dvd none in
                omega arith
          ]
    ]
