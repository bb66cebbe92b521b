use Rattle.std.proofs.Common.{◌^◌, ◌-◌, length}
use Rattle.md_lp.specs.Cuts.{AreCuts}
use Rattle.md_cut_runs.specs.CutRuns.{IsCutRun}
use Rattle.md_cut_runs.proofs.running.cut_run.Given as goal

abbrev pub invariant-loop-cuts : goal.invariant-loop-cuts
invariant-loop-cuts g l = record {
  run : IsCutRun (g.C.CutProgram.cutting l.problem) l.width l.cuts;
  cuts_of : AreCuts (g.C.CutProgram.cutting l.problem).places l.cuts;
}

abbrev pub decreases-loop-cuts : goal.decreases-loop-cuts
decreases-loop-cuts g l = 2 ^ (g.C.CutProgram.cutting l.problem).places - length l.cuts
