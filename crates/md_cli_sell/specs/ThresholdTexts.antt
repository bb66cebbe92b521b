-- The records that tell a threshold auction of some units.
use Rattle.std.specs.Prelude.{ℕ, ◌-◌, ◌&&◌, nat_lt, pos, List, [], ◌∷◌, ◌++◌, map, codes, Option, Some, None, if◌then◌else◌}
use Rattle.md_math.specs.Lists.{number_at, up_to}
use Rattle.md_num.specs.WholeText.{text_of}
use Rattle.md_num.specs.declared.frac.Frac.{Frac}
use Rattle.md_setting.specs.Auction.{SymmetricAuction, value_count}
use Rattle.md_records.specs.Written.{text_of_records}
use Rattle.md_parts.specs.Rows.{end_row, number_row, value_row}
use Rattle.md_iron_values.specs.Cuts.{begins}
use Rattle.md_iron_values.specs.Pools.{Pools}
use Rattle.md_iron_pools.specs.Pooling.{pools_of}
use Rattle.md_threshold_laws.specs.Rule.{count_to}
use Rattle.md_threshold.specs.declared.price.Price.{Price}
use Rattle.md_threshold.specs.declared.threshold.Threshold.{Threshold}

-- a fraction after a word
abbrev pub frac_row : List ℕ → Frac → List (List ℕ)
frac_row word frac = number_row word (frac.num ∷ frac.den ∷ [])

-- the least value that can win, or that none can
abbrev pub reserve_row : SymmetricAuction → Pools → List (List ℕ)
reserve_row a pools = codes "reserve" ∷ (if nat_lt pools.reserve (value_count a) then text_of (number_at a.values pools.reserve) else codes "none") ∷ []

-- the least and the greatest value of the pool that begins at a value
abbrev pub pool_row : SymmetricAuction → Pools → ℕ → List (List ℕ)
pool_row a pools first = number_row (codes "pool") (number_at a.values first ∷ number_at a.values (pools.stop first - 1) ∷ [])

-- the pools that can win, from the lowest
abbrev pub pool_rows : SymmetricAuction → Pools → List (List (List ℕ))
pool_rows a pools = up_to (value_count a) (λ v. if begins pools v then pool_row a pools v ∷ [] else [])

-- the number of the pool that begins at a value: how many pools that can win are lower
abbrev pub pool_number : SymmetricAuction → Pools → ℕ → ℕ
pool_number a pools first = count_to (value_count a) (λ v. nat_lt v first && begins pools v)

-- the pool of the best one among the others, or that none of them reaches the reserve
abbrev pub other_text : SymmetricAuction → Pools → Option ℕ → List ℕ
other_text a pools None = codes "none"
other_text a pools (Some other) = text_of (pos (pool_number a pools other))

-- what a winner of one unit pays in a case
abbrev pub price_row : SymmetricAuction → Pools → Price → List (List ℕ)
price_row a pools row =
    codes "price" ∷ text_of (pos (pool_number a pools row.pool)) ∷ other_text a pools row.other ∷ text_of (pos row.count) ∷ text_of row.price.num ∷ text_of row.price.den ∷ []

abbrev pub price_rows : SymmetricAuction → Pools → List Price → List (List (List ℕ))
price_rows a pools prices = map (price_row a pools) prices

-- what stands before the pools: the version, the number of units, and what is expected
abbrev pub head_rows : SymmetricAuction → ℕ → Threshold → List (List (List ℕ))
head_rows a units threshold =
    number_row (codes "threshold") (pos 1 ∷ [])
    ∷ number_row (codes "units") (pos units ∷ [])
    ∷ value_row threshold.value
    ∷ frac_row (codes "revenue") threshold.revenue
    ∷ frac_row (codes "welfare") threshold.welfare
    ∷ reserve_row a (pools_of threshold.pools)
    ∷ []

abbrev pub threshold_records : SymmetricAuction → ℕ → Threshold → List Price → List (List (List ℕ))
threshold_records a units threshold prices =
    head_rows a units threshold ++ pool_rows a (pools_of threshold.pools) ++ price_rows a (pools_of threshold.pools) prices ++ end_row ∷ []

abbrev pub text_of_threshold : SymmetricAuction → ℕ → Threshold → List Price → List ℕ
text_of_threshold a units threshold prices = text_of_records (threshold_records a units threshold prices)
