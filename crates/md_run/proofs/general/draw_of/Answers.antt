use Rattle.std.proofs.Common.{lit<, refl}
use Rattle.std.proofs.lemmas.Int.{to_z-of_z}
use mir.Syntax.{w128}
use Rattle.md_math.proofs.Bits.{read_within}
use Rattle.md_mech.specs.Accepted.{number_limit}
use Rattle.md_run.proofs.general.draw_of.Goals as goal

pub returns-clause-drawn : goal.returns-clause-drawn
returns-clause-drawn c =
    let d1 = to_z-of_z w128 c.args.d1 c.ranges.d1 in
    let d2 = to_z-of_z w128 c.args.d2 c.ranges.d2 in
    let den = read_within number_limit c.args.mechanism.now.den c.requires.accepted.den_size (lit< tt) in
    record {
      profile = rw c.space.ensures.sizes at (c.if-not-is_profile.ensures.0 refl);
      draw = rw (den, d1, d2) at (c.if-not-is_draw.ensures.0 refl);
      outcome = rw d1 at c.outcome-outcome.ensures;
      pays = c.in-Ok.ensures;
      den = den;
    }
