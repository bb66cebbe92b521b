-- What a walk over the agents knows: products, strides and ranks of the agents that are left.
use Rattle.std.proofs.Common.{◌≡◌, ℕ, zero, suc, ◌+◌, ◌*◌, ◌/◌, ◌^◌, ◌<◌, ◌≤◌, List, [], ◌∷◌, length, get_or, drop, refl, arith, add-one, All}
use Rattle.std.proofs.Math.Nat.{mul-div_cancel_left}
use Rattle.std.proofs.lemmas.Nat.{mul-le}
use Rattle.std.proofs.lemmas.List.Elements.{All-drop, All-tail}
use Rattle.std.proofs.lemmas.List.{drop_all}
use Rattle.md_space.proofs.Ranks.{rank_of-below, length-IsProfile}
use Rattle.md_space.specs.Profiles.{profile_count, IsProfile, rank_of}
use Rattle.md_space.specs.Strides.{strides_of}

count-suc : (sizes : List ℕ) (i : ℕ) → i < length sizes → profile_count (drop i sizes) ≡ get_or sizes i 0 * profile_count (drop (suc i) sizes)
count-suc [] i h = absurd (omega arith)
count-suc (n ∷ ns) zero h = refl
count-suc (n ∷ ns) (suc i) h = count-suc ns i (omega arith)

pub count-drop : (sizes : List ℕ) (i : ℕ) → i < length sizes → profile_count (drop i sizes) ≡ get_or sizes i 0 * profile_count (drop (i + 1) sizes)
count-drop sizes i h = rw add-one (count-suc sizes i h)

pub profile_count-pos : (sizes : List ℕ) → All (λ n. 0 < n) sizes → 0 < profile_count sizes
profile_count-pos [] h = omega arith
profile_count-pos (n ∷ ns) h =
    let here : 0 < n = h 0 0 (omega arith) in
    let rest : 0 < profile_count ns = profile_count-pos ns (All-tail (λ n. 0 < n) n ns h) in
    omega (arith, mul-le 1 1 n (profile_count ns) (omega arith) (omega arith))

stride-suc : (sizes : List ℕ) (i : ℕ) → i < length sizes → get_or (strides_of sizes) i 0 ≡ profile_count (drop (suc i) sizes)
stride-suc [] i h = absurd (omega arith)
stride-suc (n ∷ ns) zero h = refl
stride-suc (n ∷ ns) (suc i) h = stride-suc ns i (omega arith)

pub stride-drop : (sizes : List ℕ) (i : ℕ) → i < length sizes → get_or (strides_of sizes) i 0 ≡ profile_count (drop (i + 1) sizes)
stride-drop sizes i h = rw add-one (stride-suc sizes i h)

pub stride-pos : (sizes : List ℕ) (i : ℕ) → All (λ n. 0 < n) sizes → i < length sizes → 0 < get_or (strides_of sizes) i 0
stride-pos sizes i a h = rw (stride-drop sizes i h) (profile_count-pos (drop (i + 1) sizes) (All-drop (λ n. 0 < n) (i + 1) sizes a))

rank-suc : (sizes t : List ℕ) (i : ℕ) → IsProfile sizes t → i < length sizes →
    rank_of (drop i sizes) (drop i t) ≡ get_or t i 0 * get_or (strides_of sizes) i 0 + rank_of (drop (suc i) sizes) (drop (suc i) t)
rank-suc [] t i p h = absurd (omega arith)
rank-suc (n ∷ ns) [] i p h = absurd p
rank-suc (n ∷ ns) (x ∷ ts) zero p h = refl
rank-suc (n ∷ ns) (x ∷ ts) (suc i) p h = rank-suc ns ts i p.1 (omega arith)

pub rank-drop : (sizes t : List ℕ) (i : ℕ) → IsProfile sizes t → i < length sizes →
    rank_of (drop i sizes) (drop i t) ≡ get_or t i 0 * get_or (strides_of sizes) i 0 + rank_of (drop (i + 1) sizes) (drop (i + 1) t)
rank-drop sizes t i p h = rw add-one (rank-suc sizes t i p h)

-- a product that passes a limit stays above it
pub stays_above : (p n r limit whole : ℕ) → p * (n * r) ≡ whole → 0 < r → limit < p * n → limit < whole
stays_above p n r limit whole e h k = omega (arith, mul-le (p * n) 1 (p * n) r (omega arith) (omega arith), e)

pub small_product : (p n : ℕ) → p ≤ 1024 → n < 256 → p * n < 2 ^ 32
small_product p n h k = omega (arith, mul-le p n 1024 256 h (omega arith))

pub divided : (n r whole : ℕ) → whole ≡ n * r → 0 < n → whole / n ≡ r
divided n r whole e h = rw e (mul-div_cancel_left r h)

-- one agent more of a walk that adds up the rank
pub record AddsReport (sizes t : List ℕ) (i rank : ℕ) : Type 0 where
  pub agent_in : i < length sizes
  pub next : rank + get_or t i 0 * get_or (strides_of sizes) i 0 + rank_of (drop (i + 1) sizes) (drop (i + 1) t) ≡ rank_of sizes t
  pub small : rank + get_or t i 0 * get_or (strides_of sizes) i 0 < profile_count sizes

pub adds_report : (sizes t : List ℕ) (i rank : ℕ) → IsProfile sizes t → i < length t →
    rank + rank_of (drop i sizes) (drop i t) ≡ rank_of sizes t → AddsReport sizes t i rank
adds_report sizes t i rank p h e =
    let k : i < length sizes = omega (arith, length-IsProfile sizes t p) in
    let step = rank-drop sizes t i p k in
    let below = rank_of-below sizes t p in
    record { agent_in = k; next = omega (arith, step); small = omega (arith, step) }

-- at the end of that walk
pub rank-end : (sizes t : List ℕ) (i rank : ℕ) → IsProfile sizes t → length t ≤ i →
    rank + rank_of (drop i sizes) (drop i t) ≡ rank_of sizes t → rank ≡ rank_of sizes t
rank-end sizes t i rank p h e =
    let none : rank_of (drop i sizes) (drop i t) ≡ 0 =
    rw (drop_all i sizes (omega (arith, length-IsProfile sizes t p))) refl in
    omega (arith, none)
