-- What a worth is with more units.
use Rattle.std.proofs.Common.{◌≡◌, ℕ, ◌-◌, ◌≤◌, ◌<◌, ◌^◌, ◌+◌, ◌*◌, ℤ, pos, ◌+ℤ◌, ◌*ℤ◌, ◌<ℤ◌, to_z, of_z, unsigned_abs, sym, ap, ◌∙◌, subst, arith, lit<}
use lib.Signed.{mag}
use mir.Syntax.{w128}
use Rattle.std.proofs.lemmas.Int.{ints}
use Rattle.md_math.specs.Sizes.{IsWithin}
use Rattle.md_math.proofs.Order.{*ℤ_cancel}
use Rattle.md_math.proofs.Readings.{read, read_of, read_small, add_product_is}
use Rattle.md_math.proofs.Ring.{linear, ring, *ℤ-one}
use Rattle.md_math.proofs.SizeLaws.{IsWithin-+ℤ, IsWithin-*ℤ}
use Rattle.md_num.specs.declared.frac.Frac.{Frac}
use Rattle.md_setting.specs.Auction.{SymmetricAuction, total_weight}
use Rattle.md_border.specs.declared.interim.Interim.{Interim}
use Rattle.md_border.specs.Worth.{HasWorth}
use Rattle.md_border.proofs.MechanismWorth.{worth_with}
use Rattle.md_unit_tables.specs.Worth.{HasUnitWorth}

-- A fraction n / d that times t is what is kept of one unit, times t, and g more. Where k is kept besides, the new fraction times
-- t is that much more.
further : (keep k t g num den n d : ℤ) → pos 0 <ℤ d → n *ℤ t ≡ (keep *ℤ t +ℤ g) *ℤ d → num *ℤ d ≡ (n +ℤ k *ℤ d) *ℤ den → num *ℤ t ≡ ((keep +ℤ k) *ℤ t +ℤ g) *ℤ den
further keep k t g num den n d positive one more =
    *ℤ_cancel d (num *ℤ t) (((keep +ℤ k) *ℤ t +ℤ g) *ℤ den) positive
    (turned d num t
    ∙ ap (λ z. z *ℤ t) more
    ∙ opened n (k *ℤ d) den t
    ∙ ap (λ z. z *ℤ den +ℤ ((k *ℤ d) *ℤ den) *ℤ t) one
    ∙ joined keep k t g den d)
  where
    turned : (d num t : ℤ) → d *ℤ (num *ℤ t) ≡ (num *ℤ d) *ℤ t
    turned d num t = simp ring (omega (arith, linear))

    opened : (n k den t : ℤ) → ((n +ℤ k) *ℤ den) *ℤ t ≡ (n *ℤ t) *ℤ den +ℤ (k *ℤ den) *ℤ t
    opened n k den t = simp ring (omega (arith, linear))

    joined : (keep k t g den d : ℤ) → ((keep *ℤ t +ℤ g) *ℤ d) *ℤ den +ℤ ((k *ℤ d) *ℤ den) *ℤ t ≡ d *ℤ (((keep +ℤ k) *ℤ t +ℤ g) *ℤ den)
    joined keep k t g den d = simp ring (omega (arith, linear))

-- all units, and one and the others
one-more : (keep : ℤ) (units : ℕ) → 1 ≤ units → keep +ℤ keep *ℤ pos (units - 1) ≡ keep *ℤ pos units
one-more keep units some =
    split keep (pos (units - 1)) ∙ ap (λ z. keep *ℤ z) (let e : pos 1 +ℤ pos (units - 1) ≡ pos units = omega (arith, ints, some) in e)
  where
    split : (x y : ℤ) → x +ℤ x *ℤ y ≡ x *ℤ (pos 1 +ℤ y)
    split x y = simp ring (omega (arith, linear))

pub with-further : (keep t g num den n d : ℤ) (units : ℕ) → 1 ≤ units → pos 0 <ℤ d → n *ℤ t ≡ (keep *ℤ t +ℤ g) *ℤ d → num *ℤ d ≡ (n +ℤ (keep *ℤ pos (units - 1)) *ℤ d) *ℤ den
    → num *ℤ t ≡ ((keep *ℤ pos units) *ℤ t +ℤ g) *ℤ den
with-further keep t g num den n d units some positive one more =
    further keep (keep *ℤ pos (units - 1)) t g num den n d positive one more
    ∙ ap (λ z. (z *ℤ t +ℤ g) *ℤ den) (one-more keep units some)

-- ---- the new numerator

-- it is read back from its bits
pub num-read : (r n x d k : ℤ) → mag r < 2 ^ 127 → mag x < 2 ^ 127 → x ≡ k → IsWithin (2 ^ 114) n → IsWithin (2 ^ 82) d → r ≡ to_z w128 (of_z w128 n) +ℤ to_z w128 (of_z w128 x) *ℤ to_z w128 (of_z w128 d)
    → to_z w128 (of_z w128 r) ≡ n +ℤ k *ℤ d
num-read r n x d k fits fits_too same num_size den_size is =
    read _ _ (add_product_is r n x d n k d fits (read_small (2 ^ 114) n num_size (lit< tt)) (read_of x k fits_too same) (read_small (2 ^ 82) d den_size (lit< tt)) is)

-- and it is small
pub num-small : (n k d : ℤ) → IsWithin (2 ^ 114) n → IsWithin 12000000 k → IsWithin (2 ^ 82) d → unsigned_abs (n +ℤ k *ℤ d) < 2 ^ 126
num-small n k d num_size size den_size =
    small _ (IsWithin-+ℤ (2 ^ 114) (12000000 * 2 ^ 82) n (k *ℤ d) num_size (IsWithin-*ℤ 12000000 (2 ^ 82) k d size den_size))
  where
    small : (z : ℤ) → IsWithin (2 ^ 114 + 12000000 * 2 ^ 82) z → unsigned_abs z < 2 ^ 126
    small z w = omega (arith, w.within)

-- ---- one unit

-- what one unit is worth, the item is worth, and the other way round
pub worth-of_one : (a : SymmetricAuction) (interim : Interim) (value : Frac) → HasUnitWorth a 1 interim value → HasWorth a interim value
worth-of_one a interim value h = subst (λ kept. value.num *ℤ (pos (total_weight a.weights) *ℤ interim.den) ≡ worth_with a kept interim *ℤ value.den) (*ℤ-one a.keep) h

pub one-of_worth : (a : SymmetricAuction) (interim : Interim) (value : Frac) → HasWorth a interim value → HasUnitWorth a 1 interim value
one-of_worth a interim value h = subst (λ kept. value.num *ℤ (pos (total_weight a.weights) *ℤ interim.den) ≡ worth_with a kept interim *ℤ value.den) (sym (*ℤ-one a.keep)) h
