-- The set that is over most at a point.
use Rattle.std.specs.Prelude.{ℕ, ℤ, ⊤}
use Rattle.md_lp.specs.Worst.{IsWorstBy, NoneOverBy}
use Rattle.md_cut_runs.specs.Cutting.{Cutting}
use Rattle.md_cut_runs.specs.declared.cut_program.Worst.{Worst}
use Rattle.md_cut_runs.specs.declared.cut_program.Worst.TheVariants.{Table, Violated}

-- the largest of the sets with the greatest excess at a point, which is positive
abbrev pub IsWorst : Cutting → ℤ → (ℕ → ℤ) → ℕ → Type 0
IsWorst m den x = IsWorstBy m.places (m.excess den x)

-- no set is over at a point
abbrev pub NoneOver : Cutting → ℤ → (ℕ → ℤ) → Type 0
NoneOver m den x = NoneOverBy m.places (m.excess den x)

-- a fact of the table, where no set is over
abbrev pub WhereTable : {T : Type 0} → (T → Type 0) → Worst T → Type 0
WhereTable P (Table table) = P table
WhereTable P (Violated set) = ⊤

-- a fact of the set that is over
abbrev pub WhereViolated : {T : Type 0} → (ℕ → Type 0) → Worst T → Type 0
WhereViolated P (Table table) = ⊤
WhereViolated P (Violated set) = P set
