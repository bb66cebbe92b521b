use Rattle.std.proofs.Common.{ℕ, ap}
use Rattle.std.proofs.lemmas.Result.{on_ok_weaker}
use Rattle.md_parts.specs.Rows.{face_rows}
use Rattle.md_tree.proofs.TreesPushed.{leaf-rows}
use Rattle.md_tree.proofs.tree_writing.push_node.Goals as goal

pub returns-in_ok-push_leaf-in-Infeasible : goal.returns-in_ok-push_leaf-in-Infeasible
returns-in_ok-push_leaf-in-Infeasible c =
    let rows = ap (λ (n : ℕ). face_rows n c.in-Infeasible.face) c.row_count_at.ensures in
    rw c.in-Infeasible.is
    (on_ok_weaker c.push_face.result (λ e. leaf-rows c.args.to.now.items c.push_leaf.new.to.items c.push_face.new.to.items _ _ _ c.in_ok-push_leaf-in-Infeasible.ensures rows e) c.push_face.ensures.rows)
