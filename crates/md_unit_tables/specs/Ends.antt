-- What is said of an end that is a table, and of one that is a violated set.
use Rattle.std.specs.Prelude.{ℕ, ℤ, List, ⊤}
use Rattle.md_unit_tables.specs.declared.unit_end.UnitEnd.{UnitEnd}
use Rattle.md_unit_tables.specs.declared.unit_end.UnitEnd.TheVariants.{Table, Violated}

-- a fact of the masses, where the end is a table
abbrev pub WhereTable : (List ℤ → Type 0) → UnitEnd → Type 0
WhereTable P (Table rows) = P rows
WhereTable P (Violated set) = ⊤

-- a fact of the set, where the end is a violated set
abbrev pub WhereViolated : (ℕ → Type 0) → UnitEnd → Type 0
WhereViolated P (Table rows) = ⊤
WhereViolated P (Violated set) = P set
