-- Lists that are divided by their greatest common divisor: that they are in least terms, that no number grows, and that there is one such list.
use Rattle.std.proofs.Common.{◌≡◌, ℕ, zero, suc, ◌+◌, ◌<◌, ◌⊎◌, ℤ, pos, ◌*ℤ◌, ◌<ℤ◌, unsigned_abs, List, [], ◌∷◌, ◌++◌, length, inl, inr, refl, sym, ap, ◌∙◌, subst, arith, add-one}
use Rattle.std.proofs.lemmas.Bool.{cases_lt}
use Rattle.std.proofs.lemmas.List.{get_or_append_left, get_or_push, length_push, ext_get_or}
use Rattle.std.proofs.Math.Nat as NatL
use Rattle.md_math.specs.Divisors.{Divides, IsCommonDivisor, IsGcdOf, AreCoprime}
use Rattle.md_math.specs.Lists.{number_at}
use Rattle.md_math.specs.Sizes.{IsWithin}
use Rattle.md_math.proofs.Ring.{linear, *ℤ-zero, *ℤ-one}
use Rattle.md_math.proofs.Order.{*ℤ_cancel, zero_from_*ℤ}
use Rattle.md_math.proofs.Division.{Divides-zero, *ℤ-Divides, Divides_cancel}
use Rattle.md_math.proofs.Fractions.{same_denominators}
use Rattle.md_lp.specs.Divided.{IsDivisorFor, AllZero}
use Rattle.md_lp.proofs.Dividing.{zero-Divides, IsDivisorFor-gcd, IsDivisorFor-positive, IsWithin-divided}
use Rattle.md_simplex.specs.Reading.{IsReduced, with_den, IsReadList, IsReadOver}
use Rattle.md_simplex.specs.ReadingSteps.{AreQuotients}

-- ---- the divisor

-- the greatest common divisor with a positive number is positive
pub gcd-positive : (n k : ℕ) (f : ℕ → ℤ) (g : ℤ) → IsGcdOf n f g → k < n → pos 0 <ℤ f k → IsDivisorFor n f g
gcd-positive n k f g h b p =
    IsDivisorFor-gcd n f g h (λ e.
    let none : f k ≡ pos 0 = zero-Divides (f k) (subst (λ d. Divides d (f k)) e (h.common.at k b)) in
    absurd (omega (arith, linear)))

-- a 0 before the numbers changes nothing
pub gcd-without_zero : (n : ℕ) (f : ℕ → ℤ) (g : ℤ) → IsGcdOf (n + 1) (with_den (pos 0) f) g → IsGcdOf n f g
gcd-without_zero n f g h = record {
  nonneg = h.nonneg;
  common = record { at = λ k b. h.common.at (suc k) (omega arith) };
  greatest = λ d c. h.greatest d (record { at = at d c });
}
  where
    at : (d : ℤ) → IsCommonDivisor n f d → (k : ℕ) → k < n + 1 → Divides d (with_den (pos 0) f k)
    at d c zero b = Divides-zero d
    at d c (suc k) b = c.at k (omega arith)

pub with_den-more : (den : ℤ) (f : ℕ → ℤ) (k : ℕ) → with_den den f (k + 1) ≡ f k
with_den-more den f k = rw add-one refl

-- ---- least terms

pub reduced_from : (n : ℕ) (f x : ℕ → ℤ) (g : ℤ) → IsDivisorFor n f g → ((k : ℕ) → k < n → f k ≡ g *ℤ x k) → IsReduced n f x
reduced_from n f x g h e = record { by = g; positive = IsDivisorFor-positive n f g h; times = e; least = least h }
  where
    one : IsGcdOf n f g → pos 0 <ℤ g → (d : ℤ) → IsCommonDivisor n x d → unsigned_abs d ≡ 1
    one q p d c =
        let common : IsCommonDivisor n f (g *ℤ d) = record { at = λ k b. subst (Divides (g *ℤ d)) (sym (e k b)) (*ℤ-Divides g d (x k) (c.at k b)) } in
        let whole : Divides (g *ℤ d) (g *ℤ pos 1) = subst (Divides (g *ℤ d)) (sym (*ℤ-one g)) (q.greatest (g *ℤ d) common) in
        let unit : Divides d (pos 1) = Divides_cancel g d (pos 1) p whole in
        NatL.eq-one_of_dvd-one unit.divides

    least : IsDivisorFor n f g → AreCoprime n x ⊎ AllZero n x
    least (inl q) = inl (record { only_one = one q.0 q.1 })
    least (inr q) = inr (record { zero = λ k b. zero_from_*ℤ g (x k) (IsDivisorFor-positive n f g h) (sym (e k b) ∙ q.0.zero k b) })

pub reduced-within : (limit n : ℕ) (f x : ℕ → ℤ) → IsReduced n f x → ((k : ℕ) → k < n → IsWithin limit (f k)) → (k : ℕ) → k < n → IsWithin limit (x k)
reduced-within limit n f x h w k b = IsWithin-divided limit h.by (f k) (x k) h.positive (h.times k b) (w k b)

-- there is one such list
pub reduced-same : (n : ℕ) (f g x y : ℕ → ℤ) → ((k : ℕ) → k < n → f k ≡ g k) → IsReduced n f x → IsReduced n g y → (k : ℕ) → k < n → x k ≡ y k
reduced-same n f g x y same h q k b = by_least h.least q.least
  where
    cross : (k : ℕ) → k < n → h.by *ℤ x k ≡ q.by *ℤ y k
    cross k b = sym (h.times k b) ∙ same k b ∙ q.times k b

    by_least : AreCoprime n x ⊎ AllZero n x → AreCoprime n y ⊎ AllZero n y → x k ≡ y k
    by_least (inr zx) _ =
        zx.zero k b ∙ sym (zero_from_*ℤ q.by (y k) q.positive (sym (cross k b) ∙ ap (λ z. h.by *ℤ z) (zx.zero k b) ∙ *ℤ-zero h.by))
    by_least (inl cx) (inr zy) =
        zero_from_*ℤ h.by (x k) h.positive (cross k b ∙ ap (λ z. q.by *ℤ z) (zy.zero k b) ∙ *ℤ-zero q.by) ∙ sym (zy.zero k b)
    by_least (inl cx) (inl cy) =
        let factors : q.by ≡ h.by = same_denominators n x y q.by h.by q.positive h.positive (λ c _ d. cx.only_one c d) (λ c _ d. cy.only_one c d) cross in
        *ℤ_cancel h.by (x k) (y k) h.positive (cross k b ∙ ap (λ z. z *ℤ y k) factors)

pub one_list : (n : ℕ) (f g : ℕ → ℤ) (xs ys : List ℤ) → ((k : ℕ) → k < n → f k ≡ g k) → IsReadList n f xs → IsReadList n g ys → xs ≡ ys
one_list n f g xs ys same h q =
    ext_get_or (pos 0) xs ys (h.one_each ∙ sym q.one_each)
    (λ k b. reduced-same n f g (number_at xs) (number_at ys) same h.reduced q.reduced k (let e : length xs ≡ n = h.one_each in omega arith))

with_den-same : (n : ℕ) (den : ℤ) (f g : ℕ → ℤ) → ((k : ℕ) → k < n → f k ≡ g k) → (k : ℕ) → k < n + 1 → with_den den f k ≡ with_den den g k
with_den-same n den f g same zero b = refl
with_den-same n den f g same (suc k) b = same k (omega arith)

pub one_over : (n : ℕ) (den : ℤ) (f g : ℕ → ℤ) (c d : ℤ) (xs ys : List ℤ) → ((k : ℕ) → k < n → f k ≡ g k) → IsReadOver n den f c xs → IsReadOver n den g d ys → (c ≡ d) × (xs ≡ ys)
one_over n den f g c d xs ys same h q =
    let all : (k : ℕ) → k < n + 1 → with_den c (number_at xs) k ≡ with_den d (number_at ys) k =
    reduced-same (n + 1) (with_den den f) (with_den den g) (with_den c (number_at xs)) (with_den d (number_at ys)) (with_den-same n den f g same) h.reduced q.reduced in
    (all 0 (omega arith), ext_get_or (pos 0) xs ys (h.one_each ∙ sym q.one_each) (λ k b. all (suc k) (let e : length xs ≡ n = h.one_each in omega arith)))

-- ---- lists of equal numbers

reduced-of_same : (n : ℕ) (f g x : ℕ → ℤ) → ((k : ℕ) → k < n → f k ≡ g k) → IsReduced n f x → IsReduced n g x
reduced-of_same n f g x same h = record { by = h.by; positive = h.positive; times = λ k b. sym (same k b) ∙ h.times k b; least = h.least }

pub list-of_same : (n : ℕ) (f g : ℕ → ℤ) (xs : List ℤ) → ((k : ℕ) → k < n → f k ≡ g k) → IsReadList n f xs → IsReadList n g xs
list-of_same n f g xs same h = record { one_each = h.one_each; reduced = reduced-of_same n f g (number_at xs) same h.reduced }

pub over-of_same : (n : ℕ) (den : ℤ) (f g : ℕ → ℤ) (over : ℤ) (xs : List ℤ) → ((k : ℕ) → k < n → f k ≡ g k) → IsReadOver n den f over xs → IsReadOver n den g over xs
over-of_same n den f g over xs same h = record {
  one_each = h.one_each;
  reduced = reduced-of_same (n + 1) (with_den den f) (with_den den g) (with_den over (number_at xs)) (with_den-same n den f g same) h.reduced;
}

-- ---- the quotients

pub AreQuotients-more : (n : ℕ) (by : ℤ) (f : ℕ → ℤ) (xs : List ℤ) (q : ℤ) → AreQuotients n by f xs → by *ℤ q ≡ f n → AreQuotients (n + 1) by f (xs ++ q ∷ [])
AreQuotients-more n by f xs q h e = record {
  one_each = (let same : length xs ≡ n = h.one_each in omega (arith, length_push xs q));
  times = λ k b. elim (cases_lt k n) [
    | inl l ↦ h.times k l ∙ sym (ap (λ z. by *ℤ z) (get_or_append_left xs (q ∷ []) (pos 0) k (let same : length xs ≡ n = h.one_each in omega arith)))
    | inr l ↦
        let here : n ≡ k = omega arith in
        ap f (sym here) ∙ sym e ∙ sym (ap (λ z. by *ℤ z) (get_or_push xs q (pos 0) k (let same : length xs ≡ n = h.one_each in omega arith)))
  ];
}

pub read_list : (n : ℕ) (f : ℕ → ℤ) (by : ℤ) (xs : List ℤ) → IsDivisorFor n f by → AreQuotients n by f xs → IsReadList n f xs
read_list n f by xs h q = record { one_each = q.one_each; reduced = reduced_from n f (number_at xs) by h q.times }

pub read_over : (n : ℕ) (den : ℤ) (f : ℕ → ℤ) (by over : ℤ) (xs : List ℤ) → IsDivisorFor (n + 1) (with_den den f) by → by *ℤ over ≡ den → AreQuotients n by f xs → IsReadOver n den f over xs
read_over n den f by over xs h e q = record { one_each = q.one_each; reduced = reduced_from (n + 1) (with_den den f) (with_den over (number_at xs)) by h times }
  where
    times : (k : ℕ) → k < n + 1 → with_den den f k ≡ by *ℤ with_den over (number_at xs) k
    times zero b = sym e
    times (suc k) b = q.times k (omega arith)
