use Rattle.std.proofs.Common.{◌≡◌, ◌∷◌, [], ◌∙◌, to_z, of_z, SFits}
use Rattle.std.proofs.lemmas.Int.{to_z-of_z}
use mir.Syntax.{w128}
use Rattle.md_math.specs.Lists.{number_at}
use Rattle.md_parts.specs.Rows.{row_unless_zero}
use Rattle.md_parts.proofs.MadeRows.{joined-more}
use Rattle.md_parts.proofs.multipliers.push_face.Goals as goal

pub loop-row-preserved : goal.loop-row-preserved
loop-row-preserved c =
    let fits : SFits w128 c.get.result = record { sfits = c.get.type_inv } in
    let is : to_z w128 (of_z w128 c.get.result) ≡ number_at c.args.face.now c.loop-row.row = to_z-of_z w128 c.get.result fits ∙ c.get.ensures in
    let one = rw is at c.in_ok-push_row.ensures in
    joined-more (λ r. row_unless_zero r (number_at c.args.face.now r ∷ [])) c.args.to.now.items c.loop-row.to.items c.push_row.new.to.items c.loop-row.row c.loop-row.invariant one
