-- Amounts of slots and payments, and how large they are.
use Rattle.std.proofs.Common.{◌≡◌, ◌≢◌, ℕ, zero, suc, ◌+◌, ◌-◌, ◌*◌, ◌<◌, ◌≤◌, ℤ, pos, ◌-ℤ◌, ◌*ℤ◌, ◌≤ℤ◌, to_z, of_z, List, [], ◌∷◌, length, map, refl, ap, ◌∙◌, subst, arith, lit<}
use Rattle.std.specs.Prelude.{slice_index}
use Rattle.std.proofs.lemmas.Int.{ints}
use mir.Syntax.{w64}
use Rattle.md_math.specs.Lists.{number_at}
use Rattle.md_math.specs.Sizes.{IsWithin}
use Rattle.md_math.specs.Sums.{sum_to}
use Rattle.md_math.proofs.Bits.{read_short_within}
use Rattle.md_math.proofs.Ring.{linear}
use Rattle.md_math.proofs.SizeLaws.{IsWithin-wider, IsWithin-*ℤ, IsWithin-difference, sum_to-within}
use Rattle.md_setting.specs.Grouped.{GroupedAuction, bidder_count, value_count, value_at, group_of}
use Rattle.md_setting.specs.GroupedShaped.{IsGroupedAuction}
use Rattle.md_bidders.specs.Assignments.{amount_of}
use Rattle.md_bidders.proofs.BidderLaws.{group-below}
use Rattle.md_list.specs.Rule.{step_of}

-- ---- amounts

pub number_at-pos : (xs : List ℕ) (k : ℕ) → number_at (map pos xs) k ≡ pos (slice_index xs k)
number_at-pos [] k = refl
number_at-pos (x ∷ xs) zero = refl
number_at-pos (x ∷ xs) (suc k) = number_at-pos xs k

pub amount-small : (a : GroupedAuction) (slot : ℕ) → IsGroupedAuction a → slot ≤ length a.slots → amount_of a.slots slot ≤ 1000
amount-small a zero shaped l = omega arith
amount-small a (suc h) shaped l = (shaped.amount h (omega (arith, l))).1

pub pos-small : (n : ℕ) → n ≤ 1000 → IsWithin 1000 (pos n)
pos-small n l = record { within = omega (arith, ints, l) }

pos-nonneg : (n : ℕ) → pos 0 ≤ℤ pos n
pos-nonneg n = omega (arith, ints)

-- the amount of a slot that is there, as it is read
pub amount-read : (a : GroupedAuction) (slots : List ℤ) (slot : ℕ) → IsGroupedAuction a → slots ≡ map pos a.slots → slot ≢ 0 → slot ≤ length a.slots
    → to_z w64 (of_z w64 (number_at slots (slot - 1))) ≡ pos (amount_of a.slots slot)
amount-read a slots zero shaped e d l = absurd (d refl)
amount-read a slots (suc h) shaped e d l =
    ap (λ z. to_z w64 (of_z w64 z)) (ap (λ xs. number_at xs (suc h - 1)) e ∙ number_at-pos a.slots (suc h - 1) ∙ ap (λ k. pos (slice_index a.slots k)) (let same : suc h - 1 ≡ h = omega arith in same))
    ∙ read_short_within 1000 (pos (slice_index a.slots h)) (pos-small (slice_index a.slots h) (amount-small a (suc h) shaped l)) (lit< tt)

-- ---- steps

-- what a bidder gets with the value before this one, and 0 before the first
abbrev pub amount_below : (ℕ → ℕ) → ℕ → ℕ
amount_below q zero = 0
amount_below q (suc v) = q v

pub amount_below-next : (q : ℕ → ℕ) (v amount : ℕ) → amount ≡ q v → pos amount ≡ pos (amount_below q (v + 1))
amount_below-next q v amount e = ap pos (e ∙ ap (amount_below q) (let one : suc v ≡ v + 1 = omega arith in one))

pub step-is : (q : ℕ → ℕ) (v : ℕ) → pos (q v) -ℤ pos (amount_below q v) ≡ step_of (λ w. pos (q w)) v
step-is q zero = less (pos (q 0))
  where
    less : (z : ℤ) → z -ℤ pos 0 ≡ z
    less z = omega (arith, linear)
step-is q (suc v) = refl

pub step-small : (q : ℕ → ℕ) (v : ℕ) → ((w : ℕ) → q w ≤ 1000) → IsWithin 1000 (pos (q v) -ℤ pos (amount_below q v))
step-small q v most = IsWithin-difference 1000 (pos (q v)) (pos (amount_below q v)) (pos-nonneg _) (pos-nonneg _) (pos-small _ (most v)) (pos-small _ (below v))
  where
    below : (v : ℕ) → amount_below q v ≤ 1000
    below zero = omega arith
    below (suc v) = most v

-- ---- payments

-- what is paid for the first n values
abbrev pub paid_to : (ℕ → ℤ) → (ℕ → ℕ) → ℕ → ℤ
paid_to value q n = sum_to n (λ v. value v *ℤ step_of (λ w. pos (q w)) v)

pub paid-small : (a : GroupedAuction) (i n : ℕ) (q : ℕ → ℕ) → IsGroupedAuction a → i < bidder_count a → n ≤ value_count a i → ((w : ℕ) → q w ≤ 1000) → IsWithin (64 * (1000000 * 1000)) (paid_to (value_at a i) q n)
paid-small a i n q shaped b l most =
    let small = shaped.small (group_of a i) (group-below a i b) in
    IsWithin-wider (n * (1000000 * 1000)) (64 * (1000000 * 1000)) _ (few n (omega (arith, l, small.few_values)))
    (sum_to-within n (1000000 * 1000) _
    (λ v c. IsWithin-*ℤ 1000000 1000 (value_at a i v) (step_of (λ w. pos (q w)) v) (small.value v) (subst (IsWithin 1000) (step-is q v) (step-small q v most))))
  where
    few : (n : ℕ) → n ≤ 64 → n * (1000000 * 1000) ≤ 64 * (1000000 * 1000)
    few n m = omega (arith, m)
