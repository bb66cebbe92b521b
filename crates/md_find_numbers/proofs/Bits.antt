-- Division bit by bit.
use Rattle.std.proofs.Common.{◌≡◌, ◌+◌, ◌-◌, ◌*◌, ◌/◌, ◌%◌, ◌^◌, ◌<◌, ◌≤◌, ℕ, arith}
use Rattle.std.proofs.Math.Nat.{pow-le-pow_right}
use Rattle.std.proofs.lemmas.Nat.{shr-shr, div-add-mod', pow-add}

-- a number without its k lowest bits, by what it is without one more, and that bit
halved : (n k : ℕ) → n / 2 ^ k ≡ 2 * (n / 2 ^ (k + 1)) + (n / 2 ^ k) % 2
halved n k = omega (arith, shr-shr n k 1, div-add-mod' (n / 2 ^ k) 2)

step : (rest word p k a b : ℕ) → a ≡ rest * p + word / 2 ^ (k + 1) → b ≡ 2 * a + (word / 2 ^ k) % 2 → b ≡ rest * (p * 2) + word / 2 ^ k
step rest word p k a b e f = omega (arith, halved word k)

-- one more bit of a word is divided
pub bit_step : (rest word done a b : ℕ) → done < 128 → a ≡ rest * 2 ^ done + word / 2 ^ (128 - done) → b ≡ 2 * a + (word / 2 ^ (127 - done)) % 2 → b ≡ rest * 2 ^ (done + 1) + word / 2 ^ (128 - (done + 1))
bit_step rest word done a b h e f =
    let before : 128 - done ≡ (127 - done) + 1 = omega arith in
    let after : 128 - (done + 1) ≡ 127 - done = omega arith in
    rw (pow-add 2 done 1, after) (step rest word (2 ^ done) (127 - done) a b (rw before at e) f)

-- a quotient of fewer than 128 bits leaves room for one more
pub room : (q done : ℕ) → done < 128 → q < 2 ^ done → q < 2 ^ 127
room q done h k =
    let most : 2 ^ done ≤ 2 ^ 127 = pow-le-pow_right {n = 2} (omega arith) {i = done} {j = 127} (omega arith) in
    omega (arith, most)

-- and has then at most one bit more
pub more_bits : (q m done : ℕ) → q < 2 ^ done → m ≤ 2 * q + 1 → m < 2 ^ (done + 1)
more_bits q m done h k = rw (pow-add 2 done 1) (omega arith)
