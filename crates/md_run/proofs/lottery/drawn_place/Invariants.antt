use Rattle.std.proofs.Common.{◌≡◌, ◌*◌, pos, ◌≤ℤ◌}
use Rattle.std.specs.Prelude.{◌-ℤ◌}
use Rattle.md_math.specs.Sums.{sum_to}
use Rattle.md_run.specs.Lottery.{IsNoPlace, chances_from}
use Rattle.md_run.proofs.lottery.drawn_place.Given as goal

abbrev pub invariant-loop-place : goal.invariant-loop-place
invariant-loop-place l = (l.left ≡ l.draw -ℤ sum_to l.place (chances_from l.rows (l.row * l.places))) × (pos 0 ≤ℤ l.left) × IsNoPlace l.place (chances_from l.rows (l.row * l.places)) l.draw
