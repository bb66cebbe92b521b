-- What odds of pools say of payments, and their point as it is printed: odds, then the plus parts of the payments, then their minus
-- parts.
use Rattle.std.proofs.Common.{◌≡◌, ℕ, ◌<◌, ℤ, pos, negsuc, ◌*ℤ◌, ◌≤ℤ◌, ◌++◌, map, refl, ap₂, ◌∙◌, arith}
use Rattle.std.proofs.lemmas.Int.{ints}
use Rattle.md_math.specs.Lists.{number_at, list_to}
use Rattle.md_math.proofs.Builders.{map-list_to, list_to-same}
use Rattle.md_setting.specs.Auction.{SymmetricAuction, value_count}
use Rattle.md_setting.specs.AuctionShaped.{IsAuction}
use Rattle.md_reduced.specs.Averages.{plus_part, minus_part}
use Rattle.md_iron_values.specs.Pools.{Pools}
use Rattle.md_iron_values.specs.Odds.{pay_by}
use Rattle.md_iron_values.proofs.AuctionLaws.{values-ascend}
use Rattle.md_iron_values.proofs.PayLaws.{pay-bounds}
use Rattle.md_iron_laws.specs.Closed.{closed_point}
use Rattle.md_iron_laws.specs.PoolOdds.{ArePoolOdds}

-- each value pays from nothing to what a unit is worth to it, as often as it has one
pub pays-bounds : (a : SymmetricAuction) (units : ℕ) (pools : Pools) (den : ℤ) (q : ℕ → ℤ) → IsAuction a → ArePoolOdds a units pools den q → (v : ℕ) → v < value_count a
    → (pos 0 ≤ℤ pay_by (number_at a.values) q v) × (pay_by (number_at a.values) q v ≤ℤ (number_at a.values v *ℤ q v))
pays-bounds a units pools den q shaped are v b =
    pay-bounds (value_count a) (number_at a.values) q (values-ascend a shaped) are.rise (shaped.value 0 shaped.some_value).0 (are.nonneg 0 shaped.some_value) v b

plus-same : (z : ℤ) → pos 0 ≤ℤ z → plus_part z ≡ z
plus-same (pos n) h = refl
plus-same (negsuc n) h = absurd (omega (arith, ints, h))

minus-none : (z : ℤ) → pos 0 ≤ℤ z → minus_part z ≡ pos 0
minus-none (pos n) h = refl
minus-none (negsuc n) h = absurd (omega (arith, ints, h))

pub printed-point : (a : SymmetricAuction) (units : ℕ) (pools : Pools) (den : ℤ) (q : ℕ → ℤ) → IsAuction a → ArePoolOdds a units pools den q
    → list_to (value_count a) q ++ (map plus_part (list_to (value_count a) (pay_by (number_at a.values) q)) ++ map minus_part (list_to (value_count a) (pay_by (number_at a.values) q))) ≡ closed_point a q
printed-point a units pools den q shaped are =
    let k = value_count a in
    let pay = pay_by (number_at a.values) q in
    ap₂ (λ xs ys. list_to k q ++ (xs ++ ys))
    (map-list_to plus_part k pay ∙ list_to-same k (λ v. plus_part (pay v)) pay (λ v b. plus-same (pay v) (pays-bounds a units pools den q shaped are v b).0))
    (map-list_to minus_part k pay ∙ list_to-same k (λ v. minus_part (pay v)) (λ _. pos 0) (λ v b. minus-none (pay v) (pays-bounds a units pools den q shaped are v b).0))
