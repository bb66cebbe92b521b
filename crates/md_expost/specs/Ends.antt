-- What is said of an end that is a table, and of one that is a violated set.
use Rattle.std.specs.Prelude.{ℕ, ⊤}
use Rattle.md_expost.specs.declared.masses.Masses.{Masses}
use Rattle.md_expost.specs.declared.realise_end.RealiseEnd.{RealiseEnd}
use Rattle.md_expost.specs.declared.realise_end.RealiseEnd.TheVariants.{Table, Violated}

-- a fact of the mass table, where the end is one
abbrev pub WhereTable : (Masses → Type 0) → RealiseEnd → Type 0
WhereTable P (Table masses) = P masses
WhereTable P (Violated set) = ⊤

-- a fact of the set, where the end is a violated set
abbrev pub WhereViolated : (ℕ → Type 0) → RealiseEnd → Type 0
WhereViolated P (Table masses) = ⊤
WhereViolated P (Violated set) = P set
