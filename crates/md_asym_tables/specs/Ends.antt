-- What is said of an end that is a table, and of one that is a violated set.
use Rattle.std.specs.Prelude.{ℕ, ℤ, List, ⊤}
use Rattle.md_asym_tables.specs.declared.pair_end.PairEnd.{PairEnd}
use Rattle.md_asym_tables.specs.declared.pair_end.PairEnd.TheVariants.{Table, Violated}

-- a fact of the masses, where the end is a table
abbrev pub WhereTable : (List ℤ → Type 0) → PairEnd → Type 0
WhereTable P (Table masses) = P masses
WhereTable P (Violated set) = ⊤

-- a fact of the set, where the end is a violated set
abbrev pub WhereViolated : (ℕ → Type 0) → PairEnd → Type 0
WhereViolated P (Table masses) = ⊤
WhereViolated P (Violated set) = P set
