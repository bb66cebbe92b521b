use Rattle.std.proofs.Common.{length, ap, arith}
use Rattle.md_setting.specs.Auction.{value_count}
use Rattle.md_forms.proofs.BuiltLaws.{program-of}
use Rattle.md_reduced.specs.Conditions.{conditions_of}
use Rattle.md_reduced.specs.ProgramOf.{column_count, forms_of, IsReducedProgram}
use Rattle.md_reduced.specs.Sides.{cost_of}
use Rattle.md_reduced.proofs.BuiltLaws.{whole-room, grows-all, each-row, meets-conditions, costs-points}
use Rattle.md_reduced.proofs.BoundLaws.{zero-meets, bounded}
use Rattle.md_reduced.proofs.reduced.program_for.Goals as goal

pub push_rows-requires-clause-room : goal.push_rows-requires-clause-room
push_rows-requires-clause-room c = whole-room c.args.auction.now c.args.cuts.now c.in_ok-lp.lp c.in_ok-lp.ensures.shaped.few_values c.requires.cuts c.in_ok-lp.ensures.no_row

pub returns : goal.returns
returns c =
    let a = c.args.auction.now in
    let units = c.args.units in
    let cuts = c.args.cuts.now in
    let lp = c.push_rows.new.lp in
    let is : IsReducedProgram a units cuts lp =
    program-of (column_count a) (forms_of a units (conditions_of (value_count a) cuts)) (cost_of a) c.in_ok-lp.lp lp c.in_ok-lp.ensures.columns c.in_ok-lp.ensures.cost c.in_ok-lp.ensures.no_row
    (grows-all a units cuts c.in_ok-lp.lp lp c.in_ok-push_rows.ensures) in
    let shaped = c.in_ok-lp.ensures.shaped in
    record {
      program = is;
      each_row = each-row a units cuts lp is;
      count = omega (arith, c.in_ok-push_rows.ensures.more, ap length c.in_ok-lp.ensures.no_row);
      meets = meets-conditions a units cuts lp is;
      costs = costs-points a units cuts lp is;
      zero = zero-meets a units cuts lp is;
      bounded = λ singles. bounded a units cuts lp shaped is singles;
      shaped = shaped;
    }
