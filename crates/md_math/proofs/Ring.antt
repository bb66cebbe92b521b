-- The laws of sums and products of signed numbers.
use Rattle.std.proofs.Common.{◌≡◌, ℕ, ◌+◌, ◌*◌, ℤ, pos, ◌+ℤ◌, ◌-ℤ◌, ◌*ℤ◌, neg_ℤ, refl, sym, ap, ◌∙◌, arith}
use lib.IntN.{*ℤ_comm}
use lib.IntN as IntN
use borrow.Author.Differences.{up, down, same_out, same_in, Apart-out, lt_out, le_out, below_in, at_most_in, sum_is_lem, neg_is, product_is}

-- ---- the two parts of a number, of which one is 0: a number is the first minus the second

pub up-*ℤ : (a b : ℤ) → up (a *ℤ b) ≡ up a * up b + down a * down b
up-*ℤ a b = (product_is a b).0

pub down-*ℤ : (a b : ℤ) → down (a *ℤ b) ≡ up a * down b + down a * up b
down-*ℤ a b = (product_is a b).1

up-neg_ℤ : (a : ℤ) → up (neg_ℤ a) ≡ down a
up-neg_ℤ a = (neg_is a).0

down-neg_ℤ : (a : ℤ) → down (neg_ℤ a) ≡ up a
down-neg_ℤ a = (neg_is a).1

-- a product with the two parts of a sum
mul-parts : (m s t x y u v : ℕ) → s + y + v ≡ t + x + u → m * s + m * y + m * v ≡ m * t + m * x + m * u
mul-parts m s t x y u v h = omega (arith, ap (λ k. m * k) h)

-- ---- the laws

pub *ℤ_assoc : (a b c : ℤ) → (a *ℤ b) *ℤ c ≡ a *ℤ (b *ℤ c)
*ℤ_assoc a b c = same_in ((a *ℤ b) *ℤ c) (a *ℤ (b *ℤ c)) (simp (up-*ℤ, down-*ℤ) (omega arith))

pub *ℤ_left_comm : (a b c : ℤ) → a *ℤ (b *ℤ c) ≡ b *ℤ (a *ℤ c)
*ℤ_left_comm a b c = sym (*ℤ_assoc a b c) ∙ ap (λ x. x *ℤ c) (*ℤ_comm a b) ∙ *ℤ_assoc b a c

pub *ℤ-+ℤ : (a b c : ℤ) → a *ℤ (b +ℤ c) ≡ a *ℤ b +ℤ a *ℤ c
*ℤ-+ℤ a b c =
    let h : up (b +ℤ c) + down b + down c ≡ down (b +ℤ c) + up b + up c = sum_is_lem b c in
    let g = mul-parts (up a) _ _ _ _ _ _ h in
    let k = mul-parts (down a) _ _ _ _ _ _ h in
    same_in (a *ℤ (b +ℤ c)) (a *ℤ b +ℤ a *ℤ c)
    (omega (arith, sum_is_lem (a *ℤ b) (a *ℤ c), up-*ℤ a (b +ℤ c), down-*ℤ a (b +ℤ c), up-*ℤ a b, up-*ℤ a c, down-*ℤ a b, down-*ℤ a c))

pub +ℤ-*ℤ : (a b c : ℤ) → (a +ℤ b) *ℤ c ≡ a *ℤ c +ℤ b *ℤ c
+ℤ-*ℤ a b c = *ℤ_comm (a +ℤ b) c ∙ *ℤ-+ℤ c a b ∙ (rw (*ℤ_comm c a, *ℤ_comm c b) refl)

pub *ℤ-neg_ℤ : (a b : ℤ) → a *ℤ neg_ℤ b ≡ neg_ℤ (a *ℤ b)
*ℤ-neg_ℤ a b = same_in (a *ℤ neg_ℤ b) (neg_ℤ (a *ℤ b)) (simp (up-*ℤ, down-*ℤ, up-neg_ℤ, down-neg_ℤ) (omega arith))

pub neg_ℤ-*ℤ : (a b : ℤ) → neg_ℤ a *ℤ b ≡ neg_ℤ (a *ℤ b)
neg_ℤ-*ℤ a b = same_in (neg_ℤ a *ℤ b) (neg_ℤ (a *ℤ b)) (simp (up-*ℤ, down-*ℤ, up-neg_ℤ, down-neg_ℤ) (omega arith))

pub zero-*ℤ : (a : ℤ) → pos 0 *ℤ a ≡ pos 0
zero-*ℤ a = IntN.zero-*ℤ a

pub *ℤ-zero : (a : ℤ) → a *ℤ pos 0 ≡ pos 0
*ℤ-zero a = IntN.*ℤ-zero a

pub one-*ℤ : (a : ℤ) → pos 1 *ℤ a ≡ a
one-*ℤ a = same_in (pos 1 *ℤ a) a (omega (arith, product_is (pos 1) a))

pub *ℤ-one : (a : ℤ) → a *ℤ pos 1 ≡ a
*ℤ-one a = *ℤ_comm a (pos 1) ∙ one-*ℤ a

-- linear facts of signed numbers for `omega`, with products as unknowns: `omega (arith, linear)`
pub ruleset linear = (same_out, Apart-out, lt_out, le_out, same_in, below_in, at_most_in, sum_is_lem, neg_is)

-- the laws of a ring for `simp`, which multiplies out and orders each product: `simp ring (omega (arith, linear))`
pub ruleset ring = (*ℤ-+ℤ, +ℤ-*ℤ, *ℤ-neg_ℤ, neg_ℤ-*ℤ, *ℤ_assoc, *ℤ_comm, *ℤ_left_comm, zero-*ℤ, *ℤ-zero, one-*ℤ, *ℤ-one)

-- a product with the two parts of a difference, the second one by its sign
pub both-parts : (w v p m : ℤ) → (pos 1 *ℤ (w *ℤ v)) *ℤ p +ℤ (neg_ℤ (pos 1) *ℤ (w *ℤ v)) *ℤ m ≡ w *ℤ (v *ℤ (p -ℤ m))
both-parts w v p m =
    let second : neg_ℤ (pos 1) *ℤ (w *ℤ v) ≡ neg_ℤ (w *ℤ v) = neg_ℤ-*ℤ (pos 1) (w *ℤ v) ∙ ap neg_ℤ (one-*ℤ (w *ℤ v)) in
    let whole : w *ℤ (v *ℤ (p -ℤ m)) ≡ (w *ℤ v) *ℤ (p -ℤ m) = sym (*ℤ_assoc w v (p -ℤ m)) in
    rw (one-*ℤ (w *ℤ v), second, whole) (omega (arith, linear, neg_ℤ-*ℤ (w *ℤ v) m, *ℤ-+ℤ (w *ℤ v) p (neg_ℤ m), *ℤ-neg_ℤ (w *ℤ v) m))
