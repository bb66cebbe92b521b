-- The products of two entries are within 126 bits, and so is the difference of two.
use Rattle.std.proofs.Common.{◌≡◌, ℕ, ◌+◌, ◌*◌, ◌^◌, ◌<◌, ◌≤◌, ℤ, to_z, of_z, unsigned_abs, lit<, arith}
use Rattle.std.proofs.lemmas.Int.{to_z-of_z}
use Rattle.std.proofs.Math.Nat as NatL
use mir.Syntax.{w128}
use Rattle.md_math.specs.Sizes.{IsWithin}
use Rattle.md_math.proofs.SizeLaws.{IsWithin-wider, fits_from_IsWithin}
use Rattle.md_num.specs.Limits.{limit_of}
use Rattle.md_dict.proofs.Exchange.{limit_le}

product_small : (a b : ℕ) → a ≤ 2 ^ 62 → b ≤ 2 ^ 62 → a * b ≤ 2 ^ 124
product_small a b p q = (let h : a * b ≤ 2 ^ 62 * 2 ^ 62 = NatL.mul-le-mul p q in omega arith)

cross_small : (bits : ℕ) (a b c d : ℤ) → bits ≤ 62 → IsWithin (limit_of bits) a → IsWithin (limit_of bits) b → IsWithin (limit_of bits) c → IsWithin (limit_of bits) d → unsigned_abs a * unsigned_abs b + unsigned_abs c * unsigned_abs d < 2 ^ 126
cross_small bits a b c d l p q r s =
    let limit : limit_of bits ≤ 2 ^ 62 = limit_le bits l in
    let p1 : unsigned_abs a ≤ limit_of bits = p.within in
    let q1 : unsigned_abs b ≤ limit_of bits = q.within in
    let r1 : unsigned_abs c ≤ limit_of bits = r.within in
    let s1 : unsigned_abs d ≤ limit_of bits = s.within in
    let first : unsigned_abs a * unsigned_abs b ≤ 2 ^ 124 = product_small (unsigned_abs a) (unsigned_abs b) (omega arith) (omega arith) in
    let second : unsigned_abs c * unsigned_abs d ≤ 2 ^ 124 = product_small (unsigned_abs c) (unsigned_abs d) (omega arith) (omega arith) in
    omega arith

-- an entry is read back from its bits
read_entry : (bits : ℕ) (z : ℤ) → bits ≤ 62 → IsWithin (limit_of bits) z → to_z w128 (of_z w128 z) ≡ z
read_entry bits z l h = to_z-of_z w128 z (fits_from_IsWithin w128 (2 ^ 62) z (IsWithin-wider (limit_of bits) (2 ^ 62) z (limit_le bits l) h) (lit< tt))

pub cross_read : (bits : ℕ) (a b c d : ℤ) → bits ≤ 62 → IsWithin (limit_of bits) a → IsWithin (limit_of bits) b → IsWithin (limit_of bits) c → IsWithin (limit_of bits) d → unsigned_abs (to_z w128 (of_z w128 a)) * unsigned_abs (to_z w128 (of_z w128 b)) + unsigned_abs (to_z w128 (of_z w128 c)) * unsigned_abs (to_z w128 (of_z w128 d)) < 2 ^ 126
cross_read bits a b c d l p q r s = rw (read_entry bits a l p, read_entry bits b l q, read_entry bits c l r, read_entry bits d l s) (cross_small bits a b c d l p q r s)
