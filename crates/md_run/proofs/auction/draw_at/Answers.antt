use Rattle.std.proofs.Common.{◌≡◌, pos, ◌≤ℤ◌, ◌<ℤ◌, refl}
use Rattle.std.proofs.lemmas.Int.{to_z-of_z}
use mir.Syntax.{w128}
use Rattle.md_mech.proofs.WholeLaws.{not_both}
use Rattle.md_run.specs.OfMasses.{cap_for}
use Rattle.md_run.proofs.OutcomeLaws.{den-read, cap-read}
use Rattle.md_run.proofs.auction.draw_at.Goals as goal

pub returns-then-not-is_draw-clause-refused : goal.returns-then-not-is_draw-clause-refused
returns-then-not-is_draw-clause-refused c =
    let a = c.args.auction.now in
    let y = c.args.masses.now in
    let t = c.args.profile.now in
    let d1 = to_z-of_z w128 c.args.d1 c.ranges.d1 in
    let cap : c.in-Ok.at.cap ≡ cap_for a y.den t = rw (den-read y.den c.requires.masses.den_positive c.requires.masses.den_size) at c.in-Ok.ensures.cap in
    let read = cap-read a y.den c.in-Ok.at.cap t c.in-Ok.at.rank c.at_counts.ensures.shaped c.requires.masses.den_positive c.requires.masses.den_size c.in-Ok.ensures.below c.in-Ok.ensures.counts cap in
    (c.if-not-are_reports.ensures.reports.0 refl, λ h. not_both (c.if-not-is_draw.ensures.1 (rw (d1, read) (h.from, h.below))))

pub returns-in_default-outcome-clause-refused : goal.returns-in_default-outcome-clause-refused
returns-in_default-outcome-clause-refused c =
    let d1 = to_z-of_z w128 c.args.d1 c.ranges.d1 in
    let d2 = to_z-of_z w128 c.args.d2 c.ranges.d2 in
    (c.if-not-are_reports.ensures.reports.0 refl, λ h. (rw (c.in_default-outcome.is, d1, d2) at c.outcome.ensures) h.second)

pub returns-clause-drawn : goal.returns-clause-drawn
returns-clause-drawn c =
    let a = c.args.auction.now in
    let y = c.args.masses.now in
    let t = c.args.profile.now in
    let d1 = to_z-of_z w128 c.args.d1 c.ranges.d1 in
    let d2 = to_z-of_z w128 c.args.d2 c.ranges.d2 in
    let cap : c.in-Ok.at.cap ≡ cap_for a y.den t = rw (den-read y.den c.requires.masses.den_positive c.requires.masses.den_size) at c.in-Ok.ensures.cap in
    let read = cap-read a y.den c.in-Ok.at.cap t c.in-Ok.at.rank c.at_counts.ensures.shaped c.requires.masses.den_positive c.requires.masses.den_size c.in-Ok.ensures.below c.in-Ok.ensures.counts cap in
    let range : (pos 0 ≤ℤ c.args.d1) × (c.args.d1 <ℤ cap_for a y.den t) = rw (d1, read) at (c.if-not-is_draw.ensures.0 refl) in
    let given = rw (c.in-Some.is, d1, d2) at c.outcome.ensures in
    record {
      profile = c.if-not-are_reports.ensures.reports.0 refl;
      draw = record { from = range.0; below = range.1; second = given.1 };
      outcome = given.0;
      pays = c.in-Ok-pays.ensures;
      den = den-read c.args.interim.now.den c.requires.interim.den_positive c.requires.interim.den_size;
    }
