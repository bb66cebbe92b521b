use Rattle.std.proofs.Common.{◌≡◌, ◌*◌, pos, ◌≤ℤ◌, sym, subst, ◌∙◌, ap, refl}
use Rattle.std.specs.Prelude.{unsigned_abs}
use Rattle.std.proofs.lemmas.Int.{to_z-of_z}
use mir.Syntax.{w128}
use Rattle.md_math.proofs.Bits.{read_result}
use Rattle.md_mech.specs.Accepted.{number_limit}
use Rattle.md_mech.proofs.WholeLaws.{not_both}
use Rattle.md_run.specs.OfMasses.{cap_for}
use Rattle.md_run.specs.OfUnits.{draws_each}
use Rattle.md_run.proofs.OutcomeLaws.{den-read, cap-read}
use Rattle.md_run.proofs.UnitLaws.{cap-most}
use Rattle.md_run.proofs.units.draw_units_at.Goals as goal

pub draws_for-draws-requires-clause-size : goal.draws_for-draws-requires-clause-size
draws_for-draws-requires-clause-size c =
    let a = c.args.auction.now in
    let y = c.args.masses.now in
    let t = c.args.profile.now in
    let low = c.requires.masses.1.den_positive in
    let high = subst (λ d. d ≤ℤ pos number_limit) (sym c.requires.den) c.requires.interim.den_size in
    let shaped = c.at_counts.ensures.shaped in
    let cap : c.in-Ok.at.cap ≡ cap_for a y.den t = rw (den-read y.den low high) at c.in-Ok.ensures.cap in
    rw (cap-read a y.den c.in-Ok.at.cap t c.in-Ok.at.rank shaped low high c.in-Ok.ensures.below c.in-Ok.ensures.counts cap)
    (cap-most a y.den t c.in-Ok.at.rank shaped low high c.in-Ok.ensures.below c.in-Ok.ensures.counts)

pub returns-then-not-is_draw-clause-refused : goal.returns-then-not-is_draw-clause-refused
returns-then-not-is_draw-clause-refused c =
    let a = c.args.auction.now in
    let y = c.args.masses.now in
    let t = c.args.profile.now in
    let low = c.requires.masses.1.den_positive in
    let high = subst (λ d. d ≤ℤ pos number_limit) (sym c.requires.den) c.requires.interim.den_size in
    let cap : c.in-Ok.at.cap ≡ cap_for a y.den t = rw (den-read y.den low high) at c.in-Ok.ensures.cap in
    let read = cap-read a y.den c.in-Ok.at.cap t c.in-Ok.at.rank c.at_counts.ensures.shaped low high c.in-Ok.ensures.below c.in-Ok.ensures.counts cap in
    let draws = read_result c.draws_for-draws.result c.draws_for-draws.type_inv ∙ c.draws_for-draws.ensures.value ∙ ap (λ z. pos (unsigned_abs z * draws_each)) read in
    let d1 = to_z-of_z w128 c.args.d1 c.ranges.d1 in
    let d2 = to_z-of_z w128 c.args.d2 c.ranges.d2 in
    (c.if-not-are_reports.ensures.reports.0 refl, λ h. not_both (c.if-not-is_draw.ensures.1 (rw (draws, d1, d2) h)))

pub winners-requires-clause-draw : goal.winners-requires-clause-draw
winners-requires-clause-draw c =
    let h = c.if-not-is_draw.ensures.0 refl in
    record { from = h.from; below = h.below; second = refl }

pub returns-clause-drawn : goal.returns-clause-drawn
returns-clause-drawn c =
    let a = c.args.auction.now in
    let y = c.args.masses.now in
    let t = c.args.profile.now in
    let low = c.requires.masses.1.den_positive in
    let high = subst (λ d. d ≤ℤ pos number_limit) (sym c.requires.den) c.requires.interim.den_size in
    let cap : c.in-Ok.at.cap ≡ cap_for a y.den t = rw (den-read y.den low high) at c.in-Ok.ensures.cap in
    let read = cap-read a y.den c.in-Ok.at.cap t c.in-Ok.at.rank c.at_counts.ensures.shaped low high c.in-Ok.ensures.below c.in-Ok.ensures.counts cap in
    let draws = read_result c.draws_for-draws.result c.draws_for-draws.type_inv ∙ c.draws_for-draws.ensures.value ∙ ap (λ z. pos (unsigned_abs z * draws_each)) read in
    let d1 = to_z-of_z w128 c.args.d1 c.ranges.d1 in
    let d2 = to_z-of_z w128 c.args.d2 c.ranges.d2 in
    record {
      profile = c.if-not-are_reports.ensures.reports.0 refl;
      draw = rw (draws, d1, d2) at (c.if-not-is_draw.ensures.0 refl);
      wins = rw d1 at c.in-Ok-winners.ensures;
      pays = c.in-Ok-pays.ensures;
      den = den-read c.args.interim.now.den c.requires.interim.den_positive c.requires.interim.den_size;
    }
