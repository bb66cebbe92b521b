use Rattle.std.proofs.Common.{refl, inl, inr, sym, ◌∙◌}
use Rattle.std.proofs.lemmas.Int.{to_z-of_z}
use mir.Syntax.{w128}
use Rattle.md_cli_tell.proofs.UnitDraws.{refused-units, wins-count}
use Rattle.md_cli_tell.proofs.unit_draw.drawn.Goals as goal

pub draw_units-requires : goal.draw_units-requires
draw_units-requires c = let fits = rw c.auction-auction.ensures at c.requires.answer in (c.args.units.now, fits.0)

pub told-requires : goal.told-requires
told-requires c = wins-count c.auction-auction.result.now c.args.answer.now _ _ _ c.in-Ok.drawn c.in-Ok.ensures.drawn ∙ sym c.bidders.ensures.count

pub returns-in_default-clause-refused : goal.returns-in_default-clause-refused
returns-in_default-clause-refused c =
    let none = rw (c.in_default.is, c.auction-auction.ensures) at c.in_ok-reports.ensures in
    rw c.auction-auction.ensures (inr (inr (inl (record { none = none; said = refl })), refl))

pub returns-in-Ok-clause-drawn : goal.returns-in-Ok-clause-drawn
returns-in-Ok-clause-drawn c =
    let fits = rw c.auction-auction.ensures at c.requires.answer in
    let named = rw (c.in-Some.is, c.auction-auction.ensures) at c.in_ok-reports.ensures in
    rw c.auction-auction.ensures (inl (record {
      reports = c.in-Some.reports.items;
      named = named;
      drawn = c.in-Ok.drawn;
      is_drawn = rw (c.deref.ensures.value, to_z-of_z w128 c.args.first c.ranges.first, to_z-of_z w128 c.args.second c.ranges.second) at c.in-Ok.ensures.drawn;
      lotteries = c.in-Ok.ensures.lottery c.args.units.now fits.0;
      status = c.in_ok-told-in-Ok.ensures.status;
      text = c.in_ok-told-in-Ok.ensures.text;
    }))

pub returns-clause-refused : goal.returns-clause-refused
returns-clause-refused c =
    let fits = rw c.auction-auction.ensures at c.requires.answer in
    let named = rw (c.in-Some.is, c.auction-auction.ensures) at c.in_ok-reports.ensures in
    let refused = rw (c.deref.ensures.value, to_z-of_z w128 c.args.first c.ranges.first, to_z-of_z w128 c.args.second c.ranges.second) at c.in-Err.ensures.refused in
    rw (c.auction-auction.ensures, c.refusal_by.ensures)
    (refused-units c.args.units.now c.args.profile.now c.args.first c.args.second c.auction-auction.result.now c.in-Some.reports.items named
    c.args.answer.now c.in-Err.refusal fits.0 fits.1 refused)
