-- Whether a pair of numbers is lexicographically not negative, by tests of their signs.
use Rattle.std.proofs.Common.{◌≡◌, ℤ, pos, ◌≤ℤ◌, ◌<ℤ◌, true, false, IsTrue, inl, inr, sym, subst, arith}
use mathlib.Core.Bool.{false≢true}
use Rattle.std.proofs.lemmas.Int.{ints}
use lib.Signed.{lt_z, le_z}
use Rattle.md_math.specs.LexOrder.{IsPairNonNegative}
use Rattle.md_math.proofs.Ring.{linear}

below : (a b : ℤ) → lt_z a b ≡ true → a <ℤ b
below a b h = grind (arith, ints)

not_below : (a b : ℤ) → lt_z a b ≡ false → b ≤ℤ a
not_below a b h = grind (arith, ints)

at_most : (a b : ℤ) → le_z a b ≡ true → a ≤ℤ b
at_most a b h = grind (arith, ints)

test_at_most : (a b : ℤ) → a ≤ℤ b → le_z a b ≡ true
test_at_most a b h = grind (arith, ints)

pub pair-never : (g f m : ℤ) → g ≡ f → lt_z g (pos 0) ≡ true → (IsTrue false → IsPairNonNegative f m) × (IsPairNonNegative f m → IsTrue false)
pair-never g f m e h = (λ t. absurd (false≢true t), λ pair. absurd (never pair))
  where
    low : f <ℤ pos 0
    low = subst (λ z. z <ℤ pos 0) e (below g (pos 0) h)

    never : IsPairNonNegative f m → ⊥
    never (inl p) = omega (arith, linear, p, low)
    never (inr p) = omega (arith, linear, p.0, low)

pub pair-second : (g f s m : ℤ) → g ≡ f → s ≡ m → lt_z (pos 0) g ≡ false → lt_z g (pos 0) ≡ false
    → (IsTrue (le_z (pos 0) s) → IsPairNonNegative f m) × (IsPairNonNegative f m → IsTrue (le_z (pos 0) s))
pair-second g f s m e d h k = (λ t. inr (zero, subst (λ z. pos 0 ≤ℤ z) d (at_most (pos 0) s t)), λ pair. test_at_most (pos 0) s (subst (λ z. pos 0 ≤ℤ z) (sym d) (second pair)))
  where
    zero : f ≡ pos 0
    zero = subst (λ z. z ≡ pos 0) e (let low = not_below (pos 0) g h in let high = not_below g (pos 0) k in omega (arith, linear, low, high))

    second : IsPairNonNegative f m → pos 0 ≤ℤ m
    second (inl p) = absurd (omega (arith, linear, p, zero))
    second (inr p) = p.1
