-- An auction that sells to the highest pools first is optimal (Myerson 1981): no point of its program costs more, and no mechanism of
-- one item, of any denominator, is worth more.
use Rattle.std.proofs.Common.{◌≡◌, ◌⊎◌, ℕ, ◌+◌, ◌*◌, ◌<◌, ◌≤◌, ℤ, pos, ◌*ℤ◌, ◌++◌, length, inl, inr, refl, ap, ◌∙◌, arith}
use lib.IntN.{*ℤ_comm}
use Rattle.std.proofs.lemmas.Bool.{cases_lt}
use Rattle.std.proofs.lemmas.List.{get_or_append_left}
use Rattle.md_math.specs.Lists.{number_at, list_to}
use Rattle.md_math.proofs.Builders.{length-list_to, get_or-list_to, number_at-behind}
use Rattle.md_math.proofs.Order.{positive-*ℤ}
use Rattle.md_setting.specs.Auction.{SymmetricAuction, value_count}
use Rattle.md_setting.specs.AuctionShaped.{IsAuction}
use Rattle.md_lp.specs.Program.{Program, row_count}
use Rattle.md_cert.specs.Claims.{IsOptimalPoint}
use Rattle.md_cert.proofs.Duality.{optimal-claim}
use Rattle.md_reduced.specs.ProgramOf.{IsReducedProgram}
use Rattle.md_iron_values.specs.Pools.{Pools}
use Rattle.md_iron_values.specs.VirtualValues.{IsPooledAuction}
use Rattle.md_iron_values.specs.Odds.{pay_by}
use Rattle.md_iron_values.specs.Cuts.{cuts_of}
use Rattle.md_iron_laws.specs.PoolOdds.{ArePoolOdds}
use Rattle.md_iron_laws.specs.Closed.{IsPointOf, closed_point}
use Rattle.md_iron_laws.specs.Undivided.{times_of}
use Rattle.md_iron_laws.proofs.Balance.{Multiples, cost_factor, undivided_of}
use Rattle.md_iron_laws.proofs.Fractions.{cost_factor-positive}
use Rattle.md_iron_laws.proofs.Certificates.{IsLine, row_in, row-line, row-inside, line-from, factor-positive, multiples, certified-by}

-- ---- some multipliers certify the point, of whatever size

by_at : (a : SymmetricAuction) (units : ℕ) (pools : Pools) (p : Program) → IsReducedProgram a units (cuts_of (value_count a) pools) p → (r : ℕ) → (r < row_count p) ⊎ (row_count p ≤ r) → ℤ
by_at a units pools p is r (inl b) = (row-line a units pools p is r b).by
by_at a units pools p is r (inr g) = pos 1

whole-line : (a : SymmetricAuction) (units : ℕ) (pools : Pools) (p : Program) (m : Multiples a pools) → IsAuction a → IsPooledAuction a pools → (is : IsReducedProgram a units (cuts_of (value_count a) pools) p) → (r : ℕ) → r < row_count p
    → (c : (r < row_count p) ⊎ (row_count p ≤ r))
    → IsLine a units pools p (cost_factor a pools m *ℤ p.factor) (cost_factor a pools m *ℤ p.factor) m (by_at a units pools p is r c *ℤ times_of (undivided_of a pools m) (row_in a pools r)) r (row_in a pools r)
unfolding by_at
whole-line a units pools p m shaped pooled is r b (inl l) =
    let line = row-line a units pools p is r l in
    let above = positive-*ℤ (cost_factor a pools m) p.factor (cost_factor-positive a pools m shaped) (factor-positive a units pools p is) in
    line-from a units pools p m (cost_factor a pools m *ℤ p.factor) (line.by *ℤ times_of (undivided_of a pools m) (row_in a pools r)) r (row_in a pools r) shaped pooled is above (row-inside a units pools p is r l) line
    (*ℤ_comm (line.by *ℤ times_of (undivided_of a pools m) (row_in a pools r)) (cost_factor a pools m *ℤ p.factor))
whole-line a units pools p m shaped pooled is r b (inr g) = absurd (omega (arith, b, g))

-- of any number of units, and for any odds of the pools
pub pools-optimal : (a : SymmetricAuction) (units : ℕ) (pools : Pools) (p : Program) (den : ℤ) (q x : ℕ → ℤ) → IsAuction a → IsPooledAuction a pools → IsReducedProgram a units (cuts_of (value_count a) pools) p
    → ArePoolOdds a units pools den q → IsPointOf a q x → IsOptimalPoint p den x
pools-optimal a units pools p den q x shaped pooled is are at =
    let m = multiples a pools shaped pooled in
    let factor = cost_factor a pools m *ℤ p.factor in
    let main = λ (r : ℕ). by_at a units pools p is r (cases_lt r (row_count p)) *ℤ times_of (undivided_of a pools m) (row_in a pools r) in
    optimal-claim p den factor x main (λ _. pos 0)
    (certified-by a units pools p den q x m factor main (λ _. pos 0) shaped pooled are is at (positive-*ℤ (cost_factor a pools m) p.factor (cost_factor-positive a pools m shaped) (factor-positive a units pools p is))
    (λ r b. whole-line a units pools p m shaped pooled is r b (cases_lt r (row_count p))) (λ r b. refl))

-- ---- the point as a list

pub closed-point : (a : SymmetricAuction) (q : ℕ → ℤ) → IsPointOf a q (number_at (closed_point a q))
closed-point a q =
    let k = value_count a in
    let odds = list_to (value_count a) q in
    let pays = list_to (value_count a) (pay_by (number_at a.values) q) in
    let zeros = list_to (value_count a) (λ _. pos 0) in
    let one : length (list_to (value_count a) q) ≡ value_count a = length-list_to (value_count a) q in
    let two : length (list_to (value_count a) (pay_by (number_at a.values) q)) ≡ value_count a = length-list_to (value_count a) (pay_by (number_at a.values) q) in
    record {
      odds = λ v b. get_or_append_left odds (pays ++ zeros) (pos 0) v (omega (arith, b, one)) ∙ get_or-list_to k q v (pos 0) b;
      pays = λ v b. number_at-behind odds (pays ++ zeros) k v one ∙ get_or_append_left pays zeros (pos 0) v (omega (arith, b, two)) ∙ get_or-list_to k (pay_by (number_at a.values) q) v (pos 0) b;
      none = λ v b.
          ap (number_at (closed_point a q)) (let e : 2 * value_count a + v ≡ value_count a + (value_count a + v) = omega arith in e)
          ∙ number_at-behind odds (pays ++ zeros) k (k + v) one
          ∙ number_at-behind pays zeros k v two
          ∙ get_or-list_to k (λ _. pos 0) v (pos 0) b;
    }
