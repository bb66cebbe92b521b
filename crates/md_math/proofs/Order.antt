-- The order of signed numbers, and how products keep it.
use Rattle.std.proofs.Common.{◌≡◌, ap, unsigned_abs, ℕ, ◌*◌, ◌<◌, ℤ, pos, negsuc, ◌-ℤ◌, ◌*ℤ◌, neg_ℤ, ◌≤ℤ◌, ◌<ℤ◌, ◌⊎◌, inl, inr, sym, ◌∙◌, arith, mul-pos, Bool, true, false, if◌then◌else◌, refl}
use Rattle.std.proofs.lemmas.Int.{ints, by_lt_z}
use Rattle.md_math.proofs.Ring.{linear, ring, *ℤ-zero}

pub le_from_same : (a b : ℤ) → a ≡ b → a ≤ℤ b
le_from_same a b h = omega (arith, linear)

pub ≤ℤ_trans : (a b c : ℤ) → a ≤ℤ b → b ≤ℤ c → a ≤ℤ c
≤ℤ_trans a b c h k = omega (arith, linear)

pub ≤ℤ_antisymm : (a b : ℤ) → a ≤ℤ b → b ≤ℤ a → a ≡ b
≤ℤ_antisymm a b h k = omega (arith, linear)

pub le_from_lt : (a b : ℤ) → a <ℤ b → a ≤ℤ b
le_from_lt a b h = omega (arith, linear)

-- one of two numbers is less than the other, or they are equal
pub lt_or_same_or_gt : (a b : ℤ) → (a <ℤ b) ⊎ (a ≡ b) ⊎ (b <ℤ a)
lt_or_same_or_gt a b =
    by_lt_z a b (λ h. inl h) (λ h. by_lt_z b a (λ k. inr (inr k)) (λ k. inr (inl (≤ℤ_antisymm a b k h))))

pub lt_or_le : (a b : ℤ) → (a <ℤ b) ⊎ (b ≤ℤ a)
lt_or_le a b = by_lt_z a b (λ h. inl h) (λ h. inr h)

-- ---- products

pub nonneg-*ℤ : (a b : ℤ) → pos 0 ≤ℤ a → pos 0 ≤ℤ b → pos 0 ≤ℤ (a *ℤ b)
nonneg-*ℤ a b h k = grind (arith, ints)

pub positive-*ℤ : (a b : ℤ) → pos 0 <ℤ a → pos 0 <ℤ b → pos 0 <ℤ (a *ℤ b)
positive-*ℤ (pos m) (pos n) h k =
    let m_above : 0 < m = omega (arith, ints) in
    let n_above : 0 < n = omega (arith, ints) in
    let above : 0 < m * n = mul-pos m_above n_above in
    omega (arith, ints)
positive-*ℤ (negsuc m) b h k = absurd (omega (arith, ints))
positive-*ℤ (pos m) (negsuc n) h k = absurd (omega (arith, ints))

pub *ℤ-le : (c a b : ℤ) → pos 0 ≤ℤ c → a ≤ℤ b → (c *ℤ a) ≤ℤ (c *ℤ b)
*ℤ-le c a b h k =
    let d : pos 0 ≤ℤ (b -ℤ a) = omega (arith, linear) in
    let p : pos 0 ≤ℤ (c *ℤ (b -ℤ a)) = nonneg-*ℤ c (b -ℤ a) h d in
    omega (arith, linear, simp ring at p)

pub *ℤ-lt : (c a b : ℤ) → pos 0 <ℤ c → a <ℤ b → (c *ℤ a) <ℤ (c *ℤ b)
*ℤ-lt c a b h k =
    let d : pos 0 <ℤ (b -ℤ a) = omega (arith, linear) in
    let p : pos 0 <ℤ (c *ℤ (b -ℤ a)) = positive-*ℤ c (b -ℤ a) h d in
    omega (arith, linear, simp ring at p)

-- a positive factor is taken away
pub le_from_*ℤ : (c a b : ℤ) → pos 0 <ℤ c → (c *ℤ a) ≤ℤ (c *ℤ b) → a ≤ℤ b
le_from_*ℤ c a b h k = by_lt_z b a (λ l. let p : (c *ℤ b) <ℤ (c *ℤ a) = *ℤ-lt c b a h l in omega (arith, linear)) (λ l. l)

pub lt_from_*ℤ : (c a b : ℤ) → pos 0 <ℤ c → (c *ℤ a) <ℤ (c *ℤ b) → a <ℤ b
lt_from_*ℤ c a b h k =
    by_lt_z a b (λ l. l) (λ l. let p : (c *ℤ b) ≤ℤ (c *ℤ a) = *ℤ-le c b a (le_from_lt (pos 0) c h) l in omega (arith, linear))

pub *ℤ_cancel : (c a b : ℤ) → pos 0 <ℤ c → c *ℤ a ≡ c *ℤ b → a ≡ b
*ℤ_cancel c a b h k =
    ≤ℤ_antisymm a b (le_from_*ℤ c a b h (le_from_same (c *ℤ a) (c *ℤ b) k)) (le_from_*ℤ c b a h (le_from_same (c *ℤ b) (c *ℤ a) (sym k)))

-- a product with a negative factor
pub *ℤ-le_negative : (c a b : ℤ) → c ≤ℤ pos 0 → a ≤ℤ b → (c *ℤ b) ≤ℤ (c *ℤ a)
*ℤ-le_negative c a b h k =
    let n : pos 0 ≤ℤ neg_ℤ c = omega (arith, linear) in
    let p : (neg_ℤ c *ℤ a) ≤ℤ (neg_ℤ c *ℤ b) = *ℤ-le (neg_ℤ c) a b n k in
    omega (arith, linear, simp ring at p)

-- the sign of a factor from that of the product
pub nonneg_from_*ℤ : (c a : ℤ) → pos 0 <ℤ c → pos 0 ≤ℤ (c *ℤ a) → pos 0 ≤ℤ a
nonneg_from_*ℤ c a h k = le_from_*ℤ c (pos 0) a h (let e : c *ℤ pos 0 ≡ pos 0 = simp ring in omega (arith, linear))

pub positive_from_*ℤ : (c a : ℤ) → pos 0 <ℤ c → pos 0 <ℤ (c *ℤ a) → pos 0 <ℤ a
positive_from_*ℤ c a h k = lt_from_*ℤ c (pos 0) a h (let e : c *ℤ pos 0 ≡ pos 0 = simp ring in omega (arith, linear))

pub zero_from_*ℤ : (c a : ℤ) → pos 0 <ℤ c → c *ℤ a ≡ pos 0 → a ≡ pos 0
zero_from_*ℤ c a h k = *ℤ_cancel c a (pos 0) h (k ∙ sym (simp ring))

-- a number with its size
pub positive_pos : (n : ℕ) → 0 < n → pos 0 <ℤ pos n
positive_pos n h = omega (arith, ints)

-- ---- numbers that count where a test holds

pub chosen-nonneg : (b : Bool) (z : ℤ) → pos 0 ≤ℤ z → pos 0 ≤ℤ (if b then z else pos 0)
chosen-nonneg true z h = h
chosen-nonneg false z h = omega (arith, ints)

pub chosen-le : (b : Bool) (z : ℤ) → pos 0 ≤ℤ z → (if b then z else pos 0) ≤ℤ z
chosen-le true z h = omega (arith, ints)
chosen-le false z h = h

pub unchosen-nonneg : (b : Bool) (z : ℤ) → pos 0 ≤ℤ z → pos 0 ≤ℤ (if b then pos 0 else z)
unchosen-nonneg true z h = omega (arith, ints)
unchosen-nonneg false z h = h

pub chosen : (t : Bool) (y z : ℤ) → t ≡ true → (if t then y else z) ≡ y
chosen true y z h = refl
chosen false y z h = cc

pub not_chosen : (t : Bool) (y z : ℤ) → t ≡ false → (if t then y else z) ≡ z
not_chosen true y z h = cc
not_chosen false y z h = refl

pub chosen-pos : (b : Bool) (n : ℕ) → pos (if b then n else 0) ≡ (if b then pos n else pos 0)
chosen-pos true n = refl
chosen-pos false n = refl

-- a factor goes into a number that counts where a test holds
pub chosen-times : (b : Bool) (c z : ℤ) → c *ℤ (if b then z else pos 0) ≡ (if b then c *ℤ z else pos 0)
chosen-times true c z = refl
chosen-times false c z = *ℤ-zero c

-- ---- natural numbers

pub same_number : (m n : ℕ) → pos m ≡ pos n → m ≡ n
same_number m n e = ap unsigned_abs e
