use Rattle.std.proofs.Common.{◌≡◌, ◌<◌}
use Rattle.md_gen.specs.Draws.{draw_at}
use Rattle.md_gen.proofs.draws.draw.Given as goal

abbrev pub invariant-loop-step : goal.invariant-loop-step
invariant-loop-step l = (l.draw ≡ draw_at l.number l._step) × (l.draw < 65537)
