use Rattle.std.proofs.Common.{◌≡◌, to_z, of_z, ◌∙◌, refl}
use Rattle.std.proofs.lemmas.Int.{to_z-of_z}
use mir.Syntax.{w128}
use Rattle.md_math.proofs.Bits.{read_result}
use Rattle.md_run.specs.OfSale.{cap_for}
use Rattle.md_run.proofs.OutcomeLaws.{den-read}
use Rattle.md_run.proofs.sale.draw_of_table.Goals as goal

pub returns-clause-drawn : goal.returns-clause-drawn
returns-clause-drawn c =
    let s = c.args.setting.now in
    let t = c.args.profile.now in
    let den = den-read c.args.interim.now.den c.requires.odds.den_positive c.requires.odds.den_size in
    let cap : c.cap.result ≡ cap_for s c.args.interim.now.den t = rw den at c.cap.ensures in
    let read : to_z w128 (of_z w128 c.cap.result) ≡ cap_for s c.args.interim.now.den t = read_result c.cap.result c.cap.type_inv ∙ cap in
    let d1 = to_z-of_z w128 c.args.d1 c.ranges.d1 in
    let d2 = to_z-of_z w128 c.args.d2 c.ranges.d2 in
    record {
      profile = rw c.space.ensures.sizes at (c.if-not-is_profile.ensures.0 refl);
      draw = rw (read, d1, d2) at (c.if-not-is_draw.ensures.0 refl);
      outcome = rw d1 at c.outcome-outcome.ensures;
      pays = c.in-Ok.ensures;
      den = den;
    }
