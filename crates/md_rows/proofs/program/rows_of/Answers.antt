use Rattle.md_rows.proofs.BuiltLaws.{program-of, each-row, rows-count}
use Rattle.md_rows.proofs.CountLaws.{whole-room}
use Rattle.md_rows.specs.ProgramOf.{IsProgramOf}
use Rattle.md_rows.proofs.Law.{admits-points, admits-mechanisms, costs-points, costs-mechanisms}
use Rattle.md_rows.proofs.program.rows_of.Goals as goal

pub push_rows-requires : goal.push_rows-requires
push_rows-requires c = whole-room c.args.setting.now c.in_ok-lp.lp c.in_ok-lp.ensures.shaped c.in_ok-lp.ensures.columns c.in_ok-lp.ensures.no_row

pub returns : goal.returns
returns c =
    let s = c.args.setting.now in
    let lp = c.push_rows.new.lp in
    let is : IsProgramOf s lp = program-of s c.in_ok-lp.lp lp c.in_ok-lp.ensures.columns c.in_ok-lp.ensures.cost c.in_ok-lp.ensures.no_row c.in_ok-push_rows.ensures.ok in
    record {
      program = is;
      each_row = each-row s lp is;
      count = rows-count s lp is;
      admits_points = admits-points s lp is;
      admits_mechanisms = admits-mechanisms s lp is;
      costs_points = costs-points s lp is;
      costs_mechanisms = costs-mechanisms s lp is;
    }
