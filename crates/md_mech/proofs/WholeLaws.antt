-- What is left of a whole as numbers are taken away from it.
use Rattle.std.proofs.Common.{◌≡◌, ℕ, ◌+◌, ◌<◌, ℤ, pos, ◌≤ℤ◌, ◌<ℤ◌, arith, true, false, inl, inr}
use Rattle.std.specs.Prelude.{◌-ℤ◌}
use Rattle.std.proofs.lemmas.Int.{ints}
use Rattle.md_math.specs.Sums.{sum_to}
use Rattle.md_math.proofs.SumLaws.{sum_to-more}
use Rattle.md_math.proofs.Order.{lt_or_le}
use Rattle.md_math.proofs.Prefixes.{sum_to-prefix}

pub not_both : {P : Type 0} → false ≡ true → P
not_both h = cc

pub taken : (den left chance : ℤ) (k : ℕ) (f : ℕ → ℤ) → left ≡ den -ℤ sum_to k f → chance ≡ f k → (left -ℤ chance) ≡ den -ℤ sum_to (k + 1) f
taken den left chance k f e g = omega (arith, ints, e, g, sum_to-more k f)

-- a number that is larger than what is left makes the sum larger than the whole
pub spills : (den left chance : ℤ) (n k : ℕ) (f : ℕ → ℤ) → k < n → ((j : ℕ) → j < n → pos 0 ≤ℤ f j) → left ≡ den -ℤ sum_to k f → chance ≡ f k →
    left <ℤ chance → sum_to n f ≡ den → ⊥
spills den left chance n k f h p e g l w =
    omega (arith, ints, e, g, l, w, sum_to-more k f, sum_to-prefix n (k + 1) f (omega arith) p)

pub none_left : (den left sum : ℤ) → left ≡ den -ℤ sum → left ≡ pos 0 → sum ≡ den
none_left den left sum e z = omega (arith, ints, e, z)

pub all_taken : (den left sum : ℤ) → left ≡ den -ℤ sum → sum ≡ den → left ≡ pos 0
all_taken den left sum e w = omega (arith, ints, e, w)

pub stays_nonneg : (left chance : ℤ) → chance ≤ℤ left → pos 0 ≤ℤ (left -ℤ chance)
stays_nonneg left chance h = omega (arith, ints, h)

pub not_less : (a b : ℤ) → ¬ (a <ℤ b) → b ≤ℤ a
not_less a b h = elim (lt_or_le a b) [ inl p ↦ absurd (h p) | inr q ↦ q ]
