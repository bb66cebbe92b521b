-- Of some conditions the one that is missed by most.
use Rattle.std.specs.Prelude.{◌≡◌, ℕ, pos, ◌<◌, ◌≤◌, ◌≤ℤ◌, ◌<ℤ◌, ◌*ℤ◌, List, [], length, slice_get, slice_index_or, Option, Some, None, MatchOption}
use Rattle.md_setting.specs.Setting.{GeneralSetting}
use Rattle.md_setting.specs.Meaning.{agent_count}
use Rattle.md_mech.specs.declared.mechanism.Mechanism.{Mechanism}
use Rattle.md_mech.specs.Rows.{Condition, conditions_of}
use Rattle.md_mech.specs.Conditions.{named, IsInside}
use Rattle.md_report.specs.declared.demand.Demand.{Demand}
use Rattle.md_report.specs.declared.worst.Worst.{Worst}
use Rattle.md_report.specs.Blocks.{rows_of}
use Rattle.md_report.specs.Shortfalls.{scale_of, IsShortfall, MissesAtMost, MissesLess}

-- the condition of this row, with what is missed of it
pub record IsMissed (s : GeneralSetting) (m : Mechanism) (row : ℕ) (told : Worst) : Type 0 where
  pub here : slice_get (conditions_of s) row ≡ Some (named s told.condition)
  pub inside : IsInside s told.condition
  pub shortfall : IsShortfall s m (named s told.condition) told.shortfall
  pub scale : pos 0 <ℤ scale_of s m (named s told.condition)

-- of the one no more is missed than of the other, and less
abbrev pub IsNoMore : Worst → Worst → Type 0
IsNoMore first second = (first.shortfall.num *ℤ second.shortfall.den) ≤ℤ (second.shortfall.num *ℤ first.shortfall.den)

abbrev pub IsLess : Worst → Worst → Type 0
IsLess first second = (first.shortfall.num *ℤ second.shortfall.den) <ℤ (second.shortfall.num *ℤ first.shortfall.den)

-- of the rows from start on and before end, the first one of which most is missed
pub record IsWorstIn (s : GeneralSetting) (m : Mechanism) (start end : ℕ) (worst : Worst) : Type 0 where
  pub row : ℕ
  pub from : start ≤ row
  pub below : row < end
  pub missed : IsMissed s m row worst
  pub most : (k : ℕ) (c : Condition) → start ≤ k → k < end → slice_get (conditions_of s) k ≡ Some c → MissesAtMost s m c (named s worst.condition)
  pub first : (k : ℕ) (c : Condition) → start ≤ k → k < row → slice_get (conditions_of s) k ≡ Some c → MissesLess s m c (named s worst.condition)
  pub scales : (k : ℕ) (c : Condition) → start ≤ k → k < end → slice_get (conditions_of s) k ≡ Some c → pos 0 <ℤ scale_of s m c

-- it is one of the conditions, with what is missed of it; of no other one more is missed, and of those before it less
pub record IsWorst (s : GeneralSetting) (m : Mechanism) (rows : List Condition) (worst : Worst) : Type 0 where
  pub place : ℕ
  pub here : slice_get rows place ≡ Some (named s worst.condition)
  pub inside : IsInside s worst.condition
  pub shortfall : IsShortfall s m (named s worst.condition) worst.shortfall
  pub most : (k : ℕ) (c : Condition) → slice_get rows k ≡ Some c → MissesAtMost s m c (named s worst.condition)
  pub first : (k : ℕ) (c : Condition) → k < place → slice_get rows k ≡ Some c → MissesLess s m c (named s worst.condition)

-- it is told where there is a condition
abbrev pub IsWorstOf : GeneralSetting → Mechanism → List Condition → Option Worst → Type 0
IsWorstOf s m rows worst = MatchOption worst (rows ≡ []) (IsWorst s m rows)

-- the worst of the conditions of each agent
pub record AreWorstOf (s : GeneralSetting) (m : Mechanism) (demand : Demand) (worst : List (Option Worst)) : Type 0 where
  pub count : length worst ≡ agent_count s
  pub each : (i : ℕ) → i < agent_count s → IsWorstOf s m (rows_of s demand i) (slice_index_or worst i None)
