-- Sets that are written as numbers.
use Rattle.std.proofs.Common.{◌≡◌, ℕ, ◌+◌, ◌*◌, ◌%◌, ◌^◌, ◌<◌, ◌≤◌, true, false, ◌==◌, ap, arith, eq-eqb, ne_eqb, w32, pow_mono}
use Rattle.std.proofs.Math.Pow.{pow-lt}
use Rattle.std.specs.Int.{bit_at}
use Rattle.std.specs.Int.Bits.{bit_or}
use Rattle.std.proofs.lemmas.Nat.{or_lt}
use Rattle.std.proofs.lemmas.Nat.Bits.{bit_at_set_same, bit_at_set_other, bit_at_above}
use Rattle.md_math.specs.Sets.{member}

pub member-here : (set place : ℕ) → place < 12 → member (bit_or set (1 * 2 ^ place % 2 ^ 32)) place ≡ true
unfolding member
member-here set place b = eq-eqb _ 1 (bit_at_set_same w32 set place (omega arith))

pub member-other : (set place k : ℕ) → place < 12 → k < place → member (bit_or set (1 * 2 ^ place % 2 ^ 32)) k ≡ member set k
unfolding member
member-other set place k b l = ap (λ v. v == 1) (bit_at_set_other w32 set place (omega arith) k (λ e. omega arith))

pub member-above : (set place : ℕ) → set < 2 ^ place → member set place ≡ false
unfolding member
member-above set place b = ne_eqb (bit_at set place) 1 (λ e. omega (arith, bit_at_above set place place b (omega arith)))

pub size-or : (set place : ℕ) → place < 12 → set < 2 ^ place → bit_or set (1 * 2 ^ place % 2 ^ 32) < 2 ^ (place + 1)
size-or set place b l =
    let power : 2 ^ place < 2 ^ (place + 1) = pow-lt (omega arith) in
    let top : 2 ^ place ≤ 2 ^ 12 = pow_mono {j = 12} (omega arith) in
    let same : 1 * 2 ^ place % 2 ^ 32 ≡ 2 ^ place = omega arith in
    or_lt (place + 1) set (1 * 2 ^ place % 2 ^ 32) (omega arith) (rw same power)
