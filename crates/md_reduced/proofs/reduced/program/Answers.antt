use Rattle.md_reduced.proofs.AdmissibleLaws.{admits, stands-in}
use Rattle.md_reduced.proofs.OptimalLaws.{makes-optimal}
use Rattle.md_reduced.proofs.reduced.program.Goals as goal

pub returns : goal.returns
returns c =
    let a = c.args.auction.now in
    let cuts = c.args.cuts.now in
    let lp = c.in_ok-lp.lp in
    let made = c.in_ok-lp.ensures in
    record {
      program = made.program;
      each_row = made.each_row;
      count = made.count;
      meets = made.meets;
      costs = made.costs;
      admits = admits a cuts lp made.shaped made.program;
      averages = stands-in a cuts lp made.shaped made.program;
      optimal = makes-optimal a cuts lp made.shaped made.program;
      zero = made.zero;
      bounded = made.bounded;
    }
