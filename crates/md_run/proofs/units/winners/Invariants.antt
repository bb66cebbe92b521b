use Rattle.std.proofs.Common.{◌≡◌}
use Rattle.std.specs.Prelude.{unsigned_abs}
use Rattle.md_math.specs.Lists.{list_to}
use Rattle.md_winners.specs.Draws.{start_of, wins}
use Rattle.md_run.specs.OfUnits.{draws_for, stretch_of}
use Rattle.md_run.proofs.LeftLaws.{IsLeft}
use Rattle.md_run.proofs.units.winners.Given as goal

abbrev pub invariant-loop-report : goal.invariant-loop-report
invariant-loop-report l =
    (l.wins.items ≡ list_to l.report-index (wins (draws_for l.auction l.masses.den l.profile) (stretch_of l.auction l.masses l.profile) (unsigned_abs l.draw)))
    × IsLeft (draws_for l.auction l.masses.den l.profile) (unsigned_abs l.draw) (start_of (stretch_of l.auction l.masses l.profile) l.report-index) l.left
