-- Where the search for the greatest common divisor of a combination begins: at a number that all its divisors divide, since both rows are in least terms.
use Rattle.std.proofs.Common.{◌≡◌, ◌≢◌, ℕ, ◌*◌, ◌<◌, ◌≤◌, List, length, ℤ, pos, ◌+ℤ◌, ◌-ℤ◌, ◌*ℤ◌, neg_ℤ, ◌<ℤ◌, unsigned_abs, sym, ap, ap₂, ◌∙◌, subst, inl, inr, arith, mul-le-mul, refl}
use Rattle.std.proofs.lemmas.Bool.{cases_eq}
use Rattle.std.proofs.lemmas.Int.{ints, unsigned_abs-mul}
use Rattle.std.proofs.Math.Nat as NatL
use Prim.Native.Nat.{◌∣◌}
use lib.IntN.{*ℤ_comm}
use Rattle.std.specs.Int.{IsGcd}
use Rattle.md_math.specs.Lists.{number_at}
use Rattle.md_math.specs.Divisors.{Divides, IsGcdOfTwo}
use Rattle.md_math.proofs.Division.{quotient, Divides_trans, Divides-from_product, Divides-zero, Divides-+ℤ, Divides-sub, Divides-neg_ℤ, Divides-*ℤ_left, Divides-*ℤ_right, *ℤ-Divides, positive_divisor}
use Rattle.md_math.proofs.Gcds.{gcd_of_two, same_from_IsGcdOfTwo, IsGcdOfTwo-from_IsGcd}
use Rattle.md_math.proofs.Order.{positive_pos, positive-*ℤ}
use Rattle.md_math.proofs.Ring.{linear, ring, *ℤ_assoc}
use Rattle.md_dict_rows.specs.declared.combination.Combination.{Combination}
use Rattle.md_dict_rows.specs.LeastRows.{IsLeastRow}
use Rattle.md_dict_rows.specs.Combination.{combined_den, AreLeastRows, DividesCombination, IsCombination}
use Rattle.md_dict_rows.specs.Reduce.{IsAttempt}
use Rattle.md_dict_division.proofs.Reading.{sizes_small}
use Rattle.md_dict_rows.proofs.Reducing.{combined_beside, combined_here}
use Rattle.md_dict_rows.proofs.LeastRows.{divides_row_factor}

-- ---- two rows in least terms

-- where b * d is divided, and a * f - b * g at all places but one, at which f is a multiple of b, then a * d is divided too, if it is so times the denominator of f
crossed : (n p : ℕ) (a b d den : ℤ) (f g : ℕ → ℤ) (x : ℤ) → IsLeastRow n den f → Divides b (f p) → ((s : ℕ) → s < n → s ≢ p → Divides x (a *ℤ f s -ℤ b *ℤ g s)) → Divides x (b *ℤ d) → Divides x ((a *ℤ d) *ℤ den) → Divides x (a *ℤ d)
crossed n p a b d den f g x least at_place beside other whole =
    divides_row_factor n den f x (a *ℤ d) least whole (λ s l.
    elim (cases_eq s p) [
      | inl same ↦
          let (q, e) = quotient b (f p) at_place in
          subst (λ t. Divides x ((a *ℤ d) *ℤ f t)) (sym same)
          (subst (λ z. Divides x ((a *ℤ d) *ℤ z)) (sym e) (subst (Divides x) (there a b d q) (Divides-*ℤ_left x (a *ℤ q) (b *ℤ d) other)))
      | inr o ↦
          subst (Divides x) (elsewhere a b d (f s) (g s))
          (Divides-+ℤ x (d *ℤ (a *ℤ f s -ℤ b *ℤ g s)) (g s *ℤ (b *ℤ d)) (Divides-*ℤ_left x d (a *ℤ f s -ℤ b *ℤ g s) (beside s l o)) (Divides-*ℤ_left x (g s) (b *ℤ d) other))
    ])
  where
    there : (a b d q : ℤ) → (a *ℤ q) *ℤ (b *ℤ d) ≡ (a *ℤ d) *ℤ (b *ℤ q)
    there a b d q = simp ring (omega (arith, linear))

    elsewhere : (a b d y z : ℤ) → d *ℤ (a *ℤ y -ℤ b *ℤ z) +ℤ z *ℤ (b *ℤ d) ≡ (a *ℤ d) *ℤ y
    elsewhere a b d y z = simp ring (omega (arith, linear))

-- a divisor of numbers m * own - f * taken at all places but one, where it is m * leaving - f * pivot, over the denominator m * den. Both rows are in least terms
record DividesCombined (n p : ℕ) (m f den pivot leaving : ℤ) (own taken : ℕ → ℤ) (x : ℤ) : Type 0 where
  own_least : IsLeastRow n den own
  taken_least : IsLeastRow n pivot taken
  own_at_place : Divides f (own p)
  taken_at_place : Divides m (taken p)
  leaving_is : Divides den leaving
  of_den : Divides x (m *ℤ den)
  here : Divides x (m *ℤ leaving -ℤ f *ℤ pivot)
  beside : (s : ℕ) → s < n → s ≢ p → Divides x (m *ℤ own s -ℤ f *ℤ taken s)

-- it divides the product of each of m and f with each of the two denominators
record DividesProducts (m f den pivot x : ℤ) : Type 0 where
  multiplier_den : Divides x (m *ℤ den)
  factor_den : Divides x (f *ℤ den)
  multiplier_pivot : Divides x (m *ℤ pivot)
  factor_pivot : Divides x (f *ℤ pivot)

divides_products : (n p : ℕ) (m f den pivot leaving : ℤ) (own taken : ℕ → ℤ) (x : ℤ) → DividesCombined n p m f den pivot leaving own taken x → DividesProducts m f den pivot x
divides_products n p m f den pivot leaving own taken x h = record {
  multiplier_den = h.of_den;
  factor_den = crossed n p f m den pivot taken own x h.taken_least h.taken_at_place (λ s l o. subst (Divides x) (turned (m *ℤ own s) (f *ℤ taken s)) (Divides-neg_ℤ x (m *ℤ own s -ℤ f *ℤ taken s) (h.beside s l o))) h.of_den (subst (Divides x) (swapped f pivot den) (Divides-*ℤ_right x (f *ℤ pivot) den factor_pivot));
  multiplier_pivot = crossed n p m f pivot den own taken x h.own_least h.own_at_place h.beside factor_pivot (subst (Divides x) (swapped m den pivot) (Divides-*ℤ_right x (m *ℤ den) pivot h.of_den));
  factor_pivot = factor_pivot;
}
  where
    turned : (a b : ℤ) → neg_ℤ (a -ℤ b) ≡ b -ℤ a
    turned a b = omega (arith, ints)

    swapped : (a b c : ℤ) → (a *ℤ b) *ℤ c ≡ (a *ℤ c) *ℤ b
    swapped a b c = simp ring (omega (arith, linear))

    rest : (a b : ℤ) → a -ℤ (a -ℤ b) ≡ b
    rest a b = omega (arith, ints)

    -- what the leaving column holds is divided, so that the other part of the number at the place of the pivot is
    factor_pivot : Divides x (f *ℤ pivot)
    factor_pivot =
        let (q, e) = quotient den leaving h.leaving_is in
        let product : (m *ℤ den) *ℤ q ≡ m *ℤ leaving = *ℤ_assoc m den q ∙ ap (λ z. m *ℤ z) (sym e) in
        let first : Divides x (m *ℤ leaving) = subst (Divides x) product (Divides-*ℤ_right x (m *ℤ den) q h.of_den) in
        subst (Divides x) (rest (m *ℤ leaving) (f *ℤ pivot)) (Divides-sub x (m *ℤ leaving) (m *ℤ leaving -ℤ f *ℤ pivot) first h.here)

-- what divides a times each of two numbers divides a times their greatest common divisor
grown : (a b x e : ℤ) (g : ℕ) → IsGcd (unsigned_abs a) (unsigned_abs b) g → Divides x (a *ℤ e) → Divides x (b *ℤ e) → Divides x (e *ℤ pos g)
grown a b x e g gcd p q =
    let (z, two) = gcd_of_two a b in
    let same : z ≡ pos g = same_from_IsGcdOfTwo a b z (pos g) two.is_gcd (IsGcdOfTwo-from_IsGcd a b g gcd) in
    subst (λ y. Divides x (e *ℤ y)) same (two.factor x e (subst (Divides x) (*ℤ_comm a e) p) (subst (Divides x) (*ℤ_comm b e) q))

-- so it divides what m and f have in common, times what the denominators have in common
divides_common : (m f den pivot x : ℤ) (g h : ℕ) → DividesProducts m f den pivot x → IsGcd (unsigned_abs m) (unsigned_abs f) g → IsGcd (unsigned_abs den) (unsigned_abs pivot) h → Divides x (pos g *ℤ pos h)
divides_common m f den pivot x g h d p q = grown den pivot x (pos g) h q (grown m f x den g p d.multiplier_den d.factor_den) (grown m f x pivot g p d.multiplier_pivot d.factor_pivot)

-- ---- the first candidate

-- what is known of that product
record IsProduct (m den : ℤ) (g h : ℕ) : Type 0 where
  positive : pos 0 <ℤ (pos g *ℤ pos h)
  of_den : Divides (pos g *ℤ pos h) (m *ℤ den)
  size : g * h ≤ unsigned_abs m * unsigned_abs den

product_of : (m f den pivot : ℤ) (g h : ℕ) → pos 0 <ℤ m → pos 0 <ℤ den → IsGcd (unsigned_abs m) (unsigned_abs f) g → IsGcd (unsigned_abs den) (unsigned_abs pivot) h → IsProduct m den g h
product_of m f den pivot g h a b p q =
    let above : 0 < unsigned_abs m = omega (arith, ints, a) in
    let den_above : 0 < unsigned_abs den = omega (arith, ints, b) in
    record {
      positive = positive-*ℤ (pos g) (pos h) (positive_pos g (NatL.pos_of_dvd_of_pos p.0 above)) (positive_pos h (NatL.pos_of_dvd_of_pos q.0 den_above));
      of_den = Divides_trans (pos g *ℤ pos h) (m *ℤ pos h) (m *ℤ den)
          (subst (λ z. Divides z (m *ℤ pos h)) (*ℤ_comm (pos h) (pos g)) (subst (Divides (pos h *ℤ pos g)) (*ℤ_comm (pos h) m) (*ℤ-Divides (pos h) (pos g) m (record { divides = p.0 }))))
          (*ℤ-Divides m (pos h) den (record { divides = q.0 }));
      size = mul-le-mul (NatL.le_of_dvd above p.0) (NatL.le_of_dvd den_above q.0);
    }

divides_combined : (c : Combination) (own taken : List ℤ) (x : ℤ) → IsCombination c own taken → AreLeastRows c own taken → DividesCombination c own taken x → DividesCombined (length own) c.place c.multiplier c.factor c.den c.pivot_den c.leaving (number_at own) (number_at taken) x
divides_combined c own taken x h rows q = record {
  own_least = rows.own_least;
  taken_least = rows.taken_least;
  own_at_place = multiple (number_at own c.place) rows.common c.factor rows.own_at_place;
  taken_at_place = multiple (number_at taken c.place) rows.common c.multiplier rows.taken_at_place;
  leaving_is = rows.leaving;
  of_den = q.of_den;
  here = subst (Divides x) (combined_here c own taken c.place refl) (q.of_numbers.at c.place h.place_in);
  beside = λ s l o. subst (Divides x) (combined_beside c own taken s o) (q.of_numbers.at s l);
}
  where
    multiple : (z k y : ℤ) → z ≡ k *ℤ y → Divides y z
    multiple z k y e = Divides-from_product y k z (e ∙ *ℤ_comm k y)

-- what the multiplier and the factor have in common, times what the denominators have in common
pub IsAttempt-first : (c : Combination) (own taken : List ℤ) (g h : ℕ) → IsCombination c own taken → AreLeastRows c own taken → IsGcd (unsigned_abs c.multiplier) (unsigned_abs c.factor) g → IsGcd (unsigned_abs c.den) (unsigned_abs c.pivot_den) h → IsAttempt c own taken (pos g *ℤ pos h)
IsAttempt-first c own taken g h k rows p q =
    let product = product_of c.multiplier c.factor c.den c.pivot_den g h k.multiplier_positive k.den_positive p q in
    record {
      positive = product.positive;
      size = omega (arith, unsigned_abs-mul (pos g) (pos h), product.size, sizes_small c.multiplier c.den k.multiplier_size k.den_size);
      of_den = product.of_den;
      greatest = λ x r. divides_common c.multiplier c.factor c.den c.pivot_den x g h (divides_products (length own) c.place c.multiplier c.factor c.den c.pivot_den c.leaving (number_at own) (number_at taken) x (divides_combined c own taken x k rows r)) p q;
    }

-- the same as one number
pub IsAttempt-product : (c : Combination) (own taken : List ℤ) (g h n : ℕ) → IsCombination c own taken → AreLeastRows c own taken → IsGcd (unsigned_abs c.multiplier) (unsigned_abs c.factor) g → IsGcd (unsigned_abs c.den) (unsigned_abs c.pivot_den) h → n ≡ g * h → IsAttempt c own taken (pos n)
IsAttempt-product c own taken g h n k rows p q e =
    let same : pos g *ℤ pos h ≡ pos n = product_is g h n e in
    subst (IsAttempt c own taken) same (IsAttempt-first c own taken g h k rows p q)
  where
    product_is : (g h n : ℕ) → n ≡ g * h → pos g *ℤ pos h ≡ pos n
    product_is g h n e = omega (arith, ints, e)

-- ---- the numbers at a few places

-- what the numbers of the two rows at a place give is 0 at the place of the pivot, and else the number of the combination
divides_mixed : (c : Combination) (own taken : List ℤ) (s : ℕ) (x : ℤ) → AreLeastRows c own taken → s < length own → DividesCombination c own taken x → Divides x (c.multiplier *ℤ number_at own s -ℤ c.factor *ℤ number_at taken s)
divides_mixed c own taken s x rows b q =
    elim (cases_eq s c.place) [
      | inl same ↦
          let none : c.multiplier *ℤ number_at own c.place -ℤ c.factor *ℤ number_at taken c.place ≡ pos 0 = ap₂ (λ y z. c.multiplier *ℤ y -ℤ c.factor *ℤ z) rows.own_at_place rows.taken_at_place ∙ nothing c.multiplier c.factor rows.common in
          subst (λ t. Divides x (c.multiplier *ℤ number_at own t -ℤ c.factor *ℤ number_at taken t)) (sym same) (subst (Divides x) (sym none) (Divides-zero x))
      | inr o ↦ subst (Divides x) (combined_beside c own taken s o) (q.of_numbers.at s b)
    ]
  where
    nothing : (m f k : ℤ) → m *ℤ (k *ℤ f) -ℤ f *ℤ (k *ℤ m) ≡ pos 0
    nothing m f k = simp ring (omega (arith, linear))

-- the next divisor divides it too
pub IsAttempt-mixed : (c : Combination) (own taken : List ℤ) (d g : ℤ) (n s : ℕ) → AreLeastRows c own taken → IsAttempt c own taken d → s < length own → n ≡ unsigned_abs (c.multiplier *ℤ number_at own s -ℤ c.factor *ℤ number_at taken s) → IsGcdOfTwo d (pos n) g → IsAttempt c own taken g
IsAttempt-mixed c own taken d g n s rows h b e q =
    let above : 0 < unsigned_abs d = omega (arith, ints, h.positive) in
    let le : unsigned_abs g ≤ unsigned_abs d = NatL.le_of_dvd above q.left.divides in
    record {
      positive = positive_divisor d g h.positive q.left q.nonneg;
      size = omega (arith, le, h.size);
      of_den = Divides_trans g d (combined_den c) q.left h.of_den;
      greatest = λ x r. q.greatest x (h.greatest x r) (record { divides = subst (λ y. unsigned_abs x ∣ y) (sym e) (divides_mixed c own taken s x rows b r).divides });
    }
