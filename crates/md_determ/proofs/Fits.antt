-- The points of a node's program are mechanisms of the setting.
use Rattle.std.proofs.Common.{◌≤◌, ℕ, List, Option, arith}
use Rattle.md_setting.specs.Setting.{GeneralSetting}
use Rattle.md_lp.specs.Program.{Program}
use Rattle.md_simplex.specs.declared.simplex_error.SimplexError.{SimplexError}
use Rattle.md_simplex.specs.declared.simplex_error.SimplexError.TheVariants.{TooWide, Memory}
use Rattle.md_simplex.specs.Runs.{IsLeft}
use Rattle.md_question_solve.specs.Readings.{HasOwnPoints}
use Rattle.md_determ_node.specs.NodeProgram.{IsNodeProgram}
use Rattle.md_determ_node.proofs.OwnProgram.{own, own-meets}
use Rattle.md_determ.specs.Readings.{IsLeftAt}

pub own-points : (s : GeneralSetting) (fixed : List (Option ℕ)) (p : Program) → IsNodeProgram s fixed p → HasOwnPoints s p
own-points s fixed p is =
    let root = own s fixed p is in
    record {
      columns = omega (arith, is.columns);
      meets = λ den x meets. record { program = record p { rows = root.first }; is_program = root.is; meets = own-meets s p root den x meets };
    }

pub left-at : (s : GeneralSetting) (fixed : List (Option ℕ)) (p : Program) (width : ℕ) (error : SimplexError) → IsNodeProgram s fixed p → IsLeft p width error → IsLeftAt s width fixed error
left-at s fixed p width (TooWide first second) is left = record { program = p; is_program = is; forward = left.0; backward = left.1 }
left-at s fixed p width Memory is left = tt
