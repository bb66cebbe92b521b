-- The sets of one kind each are cuts.
use Rattle.std.proofs.Common.{◌≡◌, ℕ, suc, ◌<◌, ◌≤◌, ◌^◌, length, sym, ◌∙◌, arith}
use Rattle.std.specs.Prelude.{slice_index}
use Rattle.std.proofs.Math.Nat.{pow-le-pow_right, pow-suc}
use Rattle.md_math.proofs.Builders.{length-list_to, get_or-list_to}
use Rattle.md_lp.specs.Cuts.{AreCuts, singles_of}

abbrev power : ℕ → ℕ
power place = 2 ^ place

pub single-at : (n k : ℕ) → k < n → slice_index (singles_of n) k ≡ 2 ^ k
single-at n k b = get_or-list_to n power k 0 b

pub singles-length : (n : ℕ) → length (singles_of n) ≡ n
singles-length n = length-list_to n power

power-up : (j k : ℕ) → j < k → 2 ^ j < 2 ^ k
power-up j k l =
    let more : 2 ^ suc j ≤ 2 ^ k = pow-le-pow_right {n = 2} (omega arith) {i = suc j} {j = k} l in
    let some : 1 ≤ 2 ^ j = pow-le-pow_right {n = 2} (omega arith) {i = 0} {j = j} (omega arith) in
    omega (arith, more, some, pow-suc 2 j)

pub AreCuts-singles : (n : ℕ) → AreCuts n (singles_of n)
AreCuts-singles n = record {
  some = λ k b. let inside : k < n = omega (arith, b, singles-length n) in
      rw (single-at n k inside) (pow-le-pow_right {n = 2} (omega arith) {i = 0} {j = k} (omega arith));
  inside = λ k b. let inside : k < n = omega (arith, b, singles-length n) in rw (single-at n k inside) (power-up k n inside);
  distinct = λ j k l b same.
      let inside : k < n = omega (arith, b, singles-length n) in
      let less : 2 ^ j < 2 ^ k = power-up j k l in
      let equal : 2 ^ j ≡ 2 ^ k = sym (single-at n j (omega (arith, l, inside))) ∙ same ∙ single-at n k inside in
      omega (arith, less, equal);
}
