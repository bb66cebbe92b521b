use Rattle.std.proofs.Common.{◌≤◌}
use Rattle.md_dict_rows.specs.Reduce.{AreDivided, KeepsSizes}
use Rattle.md_dict_rows.proofs.least_terms.write_quickly.Given as goal

abbrev pub invariant-loop-place : goal.invariant-loop-place
invariant-loop-place l = (l.from ≤ l.place) × AreDivided l.combination l.own l.taken l.quick.value l.fresh l.place × KeepsSizes l.quick.guess.most l.fn.fresh l.fresh
