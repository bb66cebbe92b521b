use Rattle.std.proofs.Common.{◌^◌, ◌<◌}
use Rattle.md_dict_rows.specs.Reduce.{AreDivided, IsGreatestSize, KeepsSizes}
use Rattle.md_dict_rows.proofs.halves.write_by_halves.Given as goal

abbrev pub invariant-loop-place : goal.invariant-loop-place
invariant-loop-place l = (l.wrong < 1 → AreDivided l.combination l.own l.taken l.quick.value l.fresh l.place) × KeepsSizes (2 ^ 31) l.fn.fresh l.fresh × IsGreatestSize l.place l.fresh l.greatest
