use Rattle.std.proofs.Common.{◌≡◌}
use Rattle.md_lp.specs.Cuts.{singles_of}
use Rattle.md_lp.proofs.single_sets.singles.Given as goal

abbrev pub invariant-loop-kind : goal.invariant-loop-kind
invariant-loop-kind l = l.cuts ≡ singles_of l.kind
