-- Of some conditions the one of which most is missed.
use Rattle.std.specs.Prelude.{◌≡◌, ℕ, ◌<◌, ◌≤◌, ◌≤ℤ◌, ◌<ℤ◌, List, [], slice_get, Option, Some, MatchOption}
use Rattle.md_setting.specs.Auction.{SymmetricAuction, value_count}
use Rattle.md_border.specs.declared.interim.Interim.{Interim}
use Rattle.md_reduced.specs.declared.condition.ReducedCondition.{ReducedCondition}
use Rattle.md_reduced.specs.Conditions.{conditions_of, IsInside}
use Rattle.md_report.specs.Ratio.{IsRatio}
use Rattle.md_auction_report.specs.declared.greatest.Greatest.{Greatest}
use Rattle.md_auction_report.specs.Shortfalls.{missed, missed_at}

-- of the rows from start on and before end, the first one at which most is missed
pub record IsGreatestRow (a : SymmetricAuction) (units : ℕ) (interim : Interim) (cuts : List ℕ) (start end row : ℕ) : Type 0 where
  pub from : start ≤ row
  pub below : row < end
  pub most : (k : ℕ) → start ≤ k → k < end → missed_at a units interim cuts k ≤ℤ missed_at a units interim cuts row
  pub first : (k : ℕ) → start ≤ k → k < row → missed_at a units interim cuts k <ℤ missed_at a units interim cuts row

-- it is a condition of the auction, with what is missed of it
pub record IsMissed (a : SymmetricAuction) (units : ℕ) (interim : Interim) (told : Greatest) : Type 0 where
  pub inside : IsInside (value_count a) told.condition
  pub amount : IsRatio (missed a units interim told.condition) interim.den told.amount

-- the condition of the first of these rows at which most is missed
pub record IsGreatestIn (a : SymmetricAuction) (units : ℕ) (interim : Interim) (cuts : List ℕ) (start end : ℕ) (told : Greatest) : Type 0 where
  pub row : ℕ
  pub greatest : IsGreatestRow a units interim cuts start end row
  pub here : slice_get (conditions_of (value_count a) cuts) row ≡ Some told.condition
  pub is_missed : IsMissed a units interim told

-- it is one of the conditions, with what is missed of it; of no other one more is missed, and of those before it less
pub record IsGreatest (a : SymmetricAuction) (units : ℕ) (interim : Interim) (conditions : List ReducedCondition) (told : Greatest) : Type 0 where
  pub place : ℕ
  pub here : slice_get conditions place ≡ Some told.condition
  pub is_missed : IsMissed a units interim told
  pub most : (k : ℕ) (c : ReducedCondition) → slice_get conditions k ≡ Some c → missed a units interim c ≤ℤ missed a units interim told.condition
  pub first : (k : ℕ) (c : ReducedCondition) → k < place → slice_get conditions k ≡ Some c → missed a units interim c <ℤ missed a units interim told.condition

-- it is told where there is a condition
abbrev pub IsGreatestOf : SymmetricAuction → ℕ → Interim → List ReducedCondition → Option Greatest → Type 0
IsGreatestOf a units interim conditions told = MatchOption told (conditions ≡ []) (IsGreatest a units interim conditions)
