-- How large chances and payments are.
use Rattle.std.proofs.Common.{◌≡◌, ℕ, zero, suc, ◌*◌, ◌≤◌, pos, ◌*ℤ◌, ◌≤ℤ◌, List, length, refl, sym, subst, arith}
use Rattle.std.proofs.lemmas.Int.{ints}
use Rattle.std.proofs.lemmas.List.{length-set}
use Rattle.md_math.specs.Lists.{number_at}
use Rattle.md_math.specs.Sizes.{IsWithin}
use Rattle.md_math.specs.Sums.{sum_to}
use Rattle.md_math.proofs.SizeLaws.{IsWithin-wider, IsWithin-*ℤ, IsWithin-difference, sum_to-within}
use Rattle.md_space.specs.Profiles.{replaced}
use Rattle.md_setting.specs.Auction.{SymmetricAuction, value_count}
use Rattle.md_setting.specs.AuctionShaped.{IsAuction}
use Rattle.md_iron_values.specs.Pools.{Pools}
use Rattle.md_iron_values.specs.Odds.{step_of}
use Rattle.md_iron_pools.proofs.InterimLaws.{value-within}
use Rattle.md_threshold_laws.specs.Rule.{draw_count, chance_with}
use Rattle.md_threshold_laws.proofs.ChanceLaws.{chance-most}

pub draws-are : draw_count ≡ 27720
unfolding draw_count
draws-are = refl

pub chance-small : (units : ℕ) (pools : Pools) (t : List ℕ) (i v : ℕ) → length t ≤ 12 → chance_with units pools t i v ≤ 27720
chance-small units pools t i v few =
    let most = chance-most units pools (replaced t i v) v (subst (λ n. n ≤ 12) (sym (length-set t i v)) few) in
    omega (arith, most, draws-are)

small : (n : ℕ) → n ≤ 27720 → IsWithin 27720 (pos n)
small n l = record { within = omega (arith, ints, l) }

nonneg : (n : ℕ) → pos 0 ≤ℤ pos n
nonneg n = omega (arith, ints)

-- ---- steps and sums of any such numbers

pub step-small : (q : ℕ → ℕ) (v : ℕ) → ((w : ℕ) → q w ≤ 27720) → IsWithin 27720 (step_of (λ w. pos (q w)) v)
step-small q zero most = small (q 0) (most 0)
step-small q (suc v) most = IsWithin-difference 27720 (pos (q (suc v))) (pos (q v)) (nonneg _) (nonneg _) (small _ (most (suc v))) (small _ (most v))

-- the first terms of what a bidder pays
pub paid-small : (a : SymmetricAuction) (q : ℕ → ℕ) (n : ℕ) → IsAuction a → ((w : ℕ) → q w ≤ 27720) → n ≤ value_count a
    → IsWithin (12 * (1000000 * 27720)) (sum_to n (λ j. number_at a.values j *ℤ step_of (λ v. pos (q v)) j))
paid-small a q n shaped most b =
    IsWithin-wider (n * (1000000 * 27720)) (12 * (1000000 * 27720)) _ (few (omega (arith, b, shaped.few_values)))
    (sum_to-within n (1000000 * 27720) _
    (λ j l. IsWithin-*ℤ 1000000 27720 (number_at a.values j) (step_of (λ v. pos (q v)) j) (value-within a j shaped (omega (arith, l, b))) (step-small q j most)))
  where
    few : n ≤ 12 → n * (1000000 * 27720) ≤ 12 * (1000000 * 27720)
    few m = omega (arith, m)
