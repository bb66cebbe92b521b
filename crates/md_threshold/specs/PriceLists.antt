-- The cases in which one unit is sold, in their order.
use Rattle.std.specs.Prelude.{ℕ, ◌≡◌, ◌+◌, ◌-◌, ◌<◌, ◌≤◌, if◌then◌else◌, List, [], ◌∷◌, ◌++◌, map, All, Option, Some, None}
use Rattle.md_math.specs.Lists.{list_to, up_to}
use Rattle.md_setting.specs.Auction.{SymmetricAuction, value_count}
use Rattle.md_iron_values.specs.Cuts.{begins}
use Rattle.md_iron_values.specs.Pools.{Pools}
use Rattle.md_threshold.specs.declared.price.Price.{Price}
use Rattle.md_threshold.specs.Prices.{IsPriceAgainst}

-- the pool of the winner, the best one among the others, if any of them buys, and how many of them are in it; a pool is named by its lowest value
pub record PriceCase : Type 0 where
  pub pool : ℕ
  pub other : Option ℕ
  pub count : ℕ

abbrev pub case_for : ℕ → Option ℕ → ℕ → PriceCase
case_for pool other count = record { pool = pool; other = other; count = count }

abbrev pub case_of : Price → PriceCase
case_of row = case_for row.pool row.other row.count

-- the cases with a pool and the best one among the others, with a pool, and all
abbrev pub other_cases : SymmetricAuction → ℕ → ℕ → List PriceCase
other_cases a pool other = list_to (a.bidders - 1) (λ count. case_for pool (Some other) (count + 1))

abbrev pub pool_cases : SymmetricAuction → Pools → ℕ → List PriceCase
pool_cases a pools pool = (case_for pool None 0 ∷ []) ++ up_to (pool + 1) (λ other. if begins pools other then other_cases a pool other else [])

abbrev pub all_cases : SymmetricAuction → Pools → List PriceCase
all_cases a pools = up_to (value_count a) (λ pool. if begins pools pool then pool_cases a pools pool else [])

-- the value whose pool is the best one among the others: the first that buys where none of them does
abbrev pub best_in : Pools → Option ℕ → ℕ
best_in pools None = pools.reserve
best_in pools (Some other) = other

-- the price is right
abbrev pub IsCasePrice : SymmetricAuction → Pools → Price → Type 0
IsCasePrice a pools row = IsPriceAgainst a pools row.pool (best_in pools row.other) row.count row.price

-- one of the cases
pub record IsCase (a : SymmetricAuction) (pools : Pools) (pool : ℕ) (other : Option ℕ) (count : ℕ) : Type 0 where
  pub inside : pool < value_count a
  pub buys : pools.reserve ≤ pool
  pub best : best_in pools other ≤ pool
  pub best_buys : pools.reserve ≤ best_in pools other
  pub not_above : pools.first (best_in pools other) ≤ pools.first pool
  pub few : count < a.bidders
  pub none : count ≡ 0 → best_in pools other ≡ pools.reserve

-- prices of some cases are added to a list
pub record AddsPrices (a : SymmetricAuction) (pools : Pools) (cases : List PriceCase) (old new : List Price) : Type 0 where
  pub cases_are : map case_of new ≡ map case_of old ++ cases
  pub right : All (IsCasePrice a pools) old → All (IsCasePrice a pools) new
