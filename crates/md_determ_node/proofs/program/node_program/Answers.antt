use Rattle.md_forms.proofs.BuiltLaws.{program-more}
use Rattle.md_mech.specs.Rows.{conditions_of}
use Rattle.md_setting.specs.Rows.{column_count}
use Rattle.md_rows.specs.ProgramOf.{forms_of}
use Rattle.md_rows.specs.Sides.{cost_in}
use Rattle.md_determ_node.specs.NodeProgram.{IsNodeProgram, fixed_forms}
use Rattle.md_determ_node.proofs.Laws.{each-row}
use Rattle.md_determ_node.proofs.PointLaws.{with_laws}
use Rattle.md_determ_node.proofs.Sizes.{node-count}
use Rattle.md_determ_node.proofs.program.node_program.Goals as goal

pub returns : goal.returns
returns c =
    let s = c.args.setting.now in
    let node = c.args.fixed.now in
    let lp = c.push_fixed.new.lp in
    let is : IsNodeProgram s node lp =
    program-more (column_count s) (forms_of s (conditions_of s)) (fixed_forms s node) (cost_in s) c.in_ok-lp.lp lp c.in_ok-lp.ensures.program c.in_ok-push_fixed.ensures in
    record {
      program = is;
      each_row = each-row s node lp is;
      count = node-count s node lp is;
      laws = with_laws s node lp c.requires is;
    }
