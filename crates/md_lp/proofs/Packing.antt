-- A column and a value in one number of 64 bits, and what is read back.
use Rattle.std.proofs.Common.{◌≡◌, ℕ, ◌+◌, ◌-◌, ◌*◌, ◌%◌, ◌^◌, ◌<◌, ℤ, pos, negsuc, ◌+ℤ◌, ◌*ℤ◌, unsigned_abs, to_z, of_z, refl, ap, ◌∙◌, arith}
use mir.Syntax.{w64}
use Rattle.std.specs.Int.{int_shr}
use Rattle.std.proofs.lemmas.Int.{to_z-of_z, fits_signed_from_abs}
use Rattle.md_math.specs.Sizes.{IsWithin}
use Rattle.md_math.proofs.Ring.{linear}
use Rattle.md_lp.specs.Stored.{kept_column, kept_value, shown_term}

-- the number is the value times 2^16, and the column
pub record IsPacked (column : ℕ) (value z : ℤ) : Type 0 where
  pub is : z ≡ value *ℤ pos 65536 +ℤ pos column
  pub below : column < 65536
  pub small : IsWithin (2 ^ 44) value

packed-pos : (column n : ℕ) (z : ℤ) → IsPacked column (pos n) z → z ≡ pos (n * 65536 + column)
packed-pos column n z h = (let e = h.is in omega (arith, linear))

packed-negsuc : (column n : ℕ) (z : ℤ) → IsPacked column (negsuc n) z → z ≡ negsuc (n * 65536 + (65535 - column))
packed-negsuc column n z h = (let e = h.is in let b = h.below in omega (arith, linear))

packed-size : (column : ℕ) (value z : ℤ) → IsPacked column value z → unsigned_abs z < 2 ^ 63
packed-size column (pos n) z h = rw (packed-pos column n z h) (let s = h.small.within in let b = h.below in omega arith)
packed-size column (negsuc n) z h = rw (packed-negsuc column n z h) (let s = h.small.within in let b = h.below in omega arith)

pub packed-back : (column : ℕ) (value z : ℤ) → IsPacked column value z → to_z w64 (of_z w64 z) ≡ z
packed-back column value z h = to_z-of_z w64 z (fits_signed_from_abs w64 z (packed-size column value z h))

packed-column : (column : ℕ) (value z : ℤ) → IsPacked column value z → of_z w64 z % 65536 ≡ column
packed-column column (pos n) z h = rw (packed-pos column n z h) (let b = h.below in omega arith)
packed-column column (negsuc n) z h = rw (packed-negsuc column n z h) (let s = h.small.within in let b = h.below in omega arith)

packed-value : (column : ℕ) (value z : ℤ) → IsPacked column value z → int_shr z 16 ≡ value
packed-value column (pos n) z h = rw (packed-pos column n z h) (let b = h.below in ap pos (omega arith))
packed-value column (negsuc n) z h = rw (packed-negsuc column n z h) (let b = h.below in ap negsuc (omega arith))

-- what is shown of a term that keeps such a number
pub shown-packed : (bits column : ℕ) (value z : ℤ) → IsPacked column value z → bits ≡ of_z w64 z → shown_term (record { packed = bits }) ≡ record { column = column; value = value }
unfolding kept_column kept_value
shown-packed bits column value z h e =
    let at : bits % 65536 ≡ column = ap (λ n. n % 65536) e ∙ packed-column column value z h in
    let back : to_z w64 bits ≡ z = ap (to_z w64) e ∙ packed-back column value z h in
    let read : int_shr (to_z w64 bits) 16 ≡ value = ap (λ y. int_shr y 16) back ∙ packed-value column value z h in
    rw (at, read) refl
