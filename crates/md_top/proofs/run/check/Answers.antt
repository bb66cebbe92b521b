use Rattle.std.proofs.Common.{rules, FitsSigned}
use Rattle.std.proofs.lemmas.Int.{to_z-of_z}
use mir.Syntax.{w128}
use Rattle.md_top.proofs.run.check.Goals as goal

pub returns-in-Some : goal.returns-in-Some
returns-in-Some g c =
    let number : FitsSigned w128 c.in-Some.number = search rules in
    rw c.in-Some.is (rw (to_z-of_z w128 c.in-Some.number number) at c.check_units.ensures)
