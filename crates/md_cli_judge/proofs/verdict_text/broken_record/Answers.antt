use Rattle.std.proofs.Common.{rules, FitsSigned}
use Rattle.std.proofs.lemmas.Int.{to_z-of_z}
use mir.Syntax.{w128}
use Rattle.md_mech.specs.Rows.{conditions_of}
use Rattle.md_cli_judge.proofs.VerdictRows.{element, broken-record}
use Rattle.md_cli_judge.proofs.verdict_text.broken_record.Goals as goal

pub returns : goal.returns
returns c =
    let at = element (conditions_of c.args.setting.now) c.args.broken.row c.requires in
    let left : FitsSigned w128 c.args.broken.left = search rules in
    let right : FitsSigned w128 c.args.broken.right = search rules in (
      at.0,
      at.1,
      broken-record _ _ _ _ c.in_ok-rejected_by.ensures (rw c.deref.ensures.value at c.in_ok-named.ensures) (c.in_ok-name.ensures at.0 at.1)
          (rw (to_z-of_z w128 c.args.broken.left left) at c.in_ok-with_number.ensures)
          (rw (to_z-of_z w128 c.args.broken.right right) at c.in_ok-filled.ensures),
    )
