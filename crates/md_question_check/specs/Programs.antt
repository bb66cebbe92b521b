-- What holds of programs of one meaning, whichever way they are written down.
use Rattle.md_lp.specs.Program.{Program}

-- there is such a program, and each such program has the property
pub record OfProgram (IsProgram : Program → Type 0) (Has : Program → Type 0) : Type 0 where
  pub program : Program
  pub is_program : IsProgram program
  pub holds : (p : Program) → IsProgram p → Has p
