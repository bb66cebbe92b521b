use Rattle.std.proofs.Common.{◌≡◌, ◌++◌, ◌∷◌, [], ◌∙◌, codes, to_z, of_z, SFits}
use Rattle.std.proofs.lemmas.Int.{to_z-of_z}
use mir.Syntax.{w128}
use Rattle.md_math.specs.Lists.{number_at}
use Rattle.md_parts.specs.Rows.{number_row, row_unless_zero}
use Rattle.md_parts.proofs.MadeRows.{joined-more}
use Rattle.md_parts.proofs.multipliers.push_bound.Goals as goal

pub loop-row-preserved : goal.loop-row-preserved
loop-row-preserved c =
    let face_fits : SFits w128 c.get.result = record { sfits = c.get.type_inv } in
    let main_fits : SFits w128 c.get-in-loop-row.result = record { sfits = c.get-in-loop-row.type_inv } in
    let face : to_z w128 (of_z w128 c.get.result) ≡ number_at c.args.bound.now.face c.loop-row.row = to_z-of_z w128 c.get.result face_fits ∙ c.get.ensures in
    let main : to_z w128 (of_z w128 c.get-in-loop-row.result) ≡ number_at c.args.bound.now.main c.loop-row.row = to_z-of_z w128 c.get-in-loop-row.result main_fits ∙ c.get-in-loop-row.ensures in
    let one = rw (face, main) at c.in_ok-push_row.ensures in
    joined-more (λ r. row_unless_zero r (number_at c.args.bound.now.face r ∷ number_at c.args.bound.now.main r ∷ [])) (c.args.to.now.items ++ number_row (codes "bound") (c.args.bound.now.den ∷ []) ∷ [])
    c.loop-row.to.items c.push_row.new.to.items c.loop-row.row c.loop-row.invariant one
