use Rattle.md_forms.proofs.BuiltLaws.{program-of}
use Rattle.md_asym_sale.specs.Conditions.{conditions_of}
use Rattle.md_asym_sale.specs.Forms.{cost_of}
use Rattle.md_asym_sale.specs.ProgramOf.{IsSaleProgram, column_count, forms_of}
use Rattle.md_asym_sale.proofs.BuiltLaws.{whole-room, each-row, rows-count, meets-conditions, costs-points}
use Rattle.md_asym_sale.proofs.sale_program.program.Goals as goal

pub push_rows-requires-clause-room : goal.push_rows-requires-clause-room
push_rows-requires-clause-room c = whole-room c.args.setting.now c.args.cuts.now c.in_ok-lp.lp c.requires.sale c.in_ok-lp.ensures.shaped c.requires.cuts c.in_ok-lp.ensures.no_row

pub returns : goal.returns
returns c =
    let s = c.args.setting.now in
    let cuts = c.args.cuts.now in
    let lp = c.push_rows.new.lp in
    let is : IsSaleProgram s cuts lp =
    program-of (column_count s) (forms_of s (conditions_of s cuts)) (cost_of s) c.in_ok-lp.lp lp c.in_ok-lp.ensures.columns c.in_ok-lp.ensures.cost c.in_ok-lp.ensures.no_row c.in_ok-push_rows.ensures in
    record {
      program = is;
      each_row = each-row s cuts lp is;
      count = rows-count s cuts lp is;
      meets = meets-conditions s cuts lp is;
      costs = costs-points s cuts lp is;
    }
