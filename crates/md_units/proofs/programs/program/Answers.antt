use Rattle.md_units.proofs.UnitLaws.{admits, stands-in, makes-optimal}
use Rattle.md_units.proofs.programs.program.Goals as goal

pub returns : goal.returns
returns c =
    let a = c.args.auction.now in
    let units = c.args.units in
    let cuts = c.args.cuts.now in
    let lp = c.in_ok-lp.lp in
    let made = c.in_ok-lp.ensures in
    record {
      program = made.program;
      each_row = made.each_row;
      count = made.count;
      meets = made.meets;
      costs = made.costs;
      admits = admits a units cuts lp made.shaped made.program;
      averages = stands-in a units cuts lp made.shaped made.program;
      optimal = makes-optimal a units cuts lp made.shaped made.program;
      zero = made.zero;
      bounded = made.bounded;
    }
