-- The values of a row are there.
use Rattle.std.specs.Prelude.{ℕ, ◌≡◌, ◌≢◌, ◌<◌, true}
use Rattle.md_iron_values.specs.Pools.{Pools}
use Rattle.md_iron_values.specs.Cuts.{begins}
use Rattle.md_iron_laws.specs.Rows.{ProgramRow, truth_row, rational_row, cut_row}

-- two different values, a value, and a value that begins a pool
abbrev pub IsRowIn : ℕ → Pools → ProgramRow → Type 0
IsRowIn kinds pools (truth_row v w) = (v < kinds) × (w < kinds) × (w ≢ v)
IsRowIn kinds pools (rational_row v) = v < kinds
IsRowIn kinds pools (cut_row s) = (s < kinds) × (begins pools s ≡ true)
