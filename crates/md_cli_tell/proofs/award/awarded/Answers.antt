use Rattle.std.proofs.Common.{refl, inl, inr, sym, subst}
use Rattle.std.proofs.lemmas.Int.{to_z-of_z}
use mir.Syntax.{w128}
use Rattle.md_setting.proofs.GeneralLaws.{sizes_of-general}
use Rattle.md_space.specs.Profiles.{IsProfile}
use Rattle.md_cli_tell.proofs.Awards.{refused-award}
use Rattle.md_cli_tell.proofs.award.awarded.Goals as goal

-- the reports that were found are a profile of the auction
pub award_units-requires : goal.award_units-requires
award_units-requires c =
    let a = c.auction-auction.result.now in
    let named = rw (c.in-Some.is, c.auction-auction.ensures) at c.in_ok-reports.ensures in
    let profile = subst (λ sizes. IsProfile sizes c.in-Some.reports.items) (sym (sizes_of-general a)) named.profile in
    record { units = (c.requires.units.some, c.requires.units.few); profile = rw c.deref.ensures.value profile }

pub told-requires : goal.told-requires
told-requires c = c.in-Ok.ensures.awarded.shares.one_each

pub returns-in_default-clause-refused : goal.returns-in_default-clause-refused
returns-in_default-clause-refused c =
    let none = rw (c.in_default.is, c.auction-auction.ensures) at c.in_ok-reports.ensures in
    rw c.auction-auction.ensures (inr (inr (inl (record { none = none; said = refl })), refl))

pub returns-in-Ok-clause-awarded : goal.returns-in-Ok-clause-awarded
returns-in-Ok-clause-awarded c =
    let named = rw (c.in-Some.is, c.auction-auction.ensures) at c.in_ok-reports.ensures in
    rw c.auction-auction.ensures (inl (record {
      reports = c.in-Some.reports.items;
      named = named;
      award = c.in-Ok.award;
      is_award = rw (c.deref.ensures.value, to_z-of_z w128 c.args.draw c.ranges.draw) at c.in-Ok.ensures.awarded;
      status = c.in_ok-told-in-Ok.ensures.status;
      text = c.in_ok-told-in-Ok.ensures.text;
    }))

pub returns-clause-refused : goal.returns-clause-refused
returns-clause-refused c =
    let named = rw (c.in-Some.is, c.auction-auction.ensures) at c.in_ok-reports.ensures in
    let refused = rw (c.deref.ensures.value, to_z-of_z w128 c.args.draw c.ranges.draw) at c.in-Err.ensures.refused in
    rw (c.auction-auction.ensures, c.refusal_by.ensures)
    (refused-award c.auction-auction.result.now c.args.units c.args.profile.now c.args.draw c.in-Some.reports.items c.in-Err.refusal named refused)
