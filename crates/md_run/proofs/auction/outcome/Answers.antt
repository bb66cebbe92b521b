use Rattle.std.proofs.Common.{◌≤◌, List, ℕ, length, arith, refl}
use Rattle.std.proofs.lemmas.Int.{to_z-of_z}
use mir.Syntax.{w128}
use Rattle.md_setting.specs.Auction.{SymmetricAuction, value_count}
use Rattle.md_setting.specs.AuctionShaped.{IsAuction}
use Rattle.md_mech.proofs.WholeLaws.{not_both}
use Rattle.md_run.specs.OfMasses.{AreReports, IsNumbered}
use Rattle.md_run.proofs.OutcomeLaws.{drawn-at, none-at, outcome-given, second-given, second-kept}
use Rattle.md_run.proofs.ReportLaws.{reports-length, numbered-in}
use Rattle.md_run.proofs.auction.outcome.Goals as goal

few : (a : SymmetricAuction) (t : List ℕ) → AreReports a t → IsAuction a → length t ≤ 12
few a t p h = omega (arith, reports-length a.bidders (value_count a) t p, h.few_bidders)

pub bidder_of-requires : goal.bidder_of-requires
bidder_of-requires c = record { few = few c.args.auction.now c.args.profile.now c.requires.reports c.kinds.ensures.shaped }

pub overflow_add-result : goal.overflow_add-result
overflow_add-result c = omega (arith, c.in-Some-bidder_of.ensures.below, few c.args.auction.now c.args.profile.now c.requires.reports c.kinds.ensures.shaped)

pub returns-then-not-is_zero : goal.returns-then-not-is_zero
returns-then-not-is_zero c =
    let none = none-at c.args.auction.now c.args.masses.now c.args.profile.now c.args.rank c.kinds.result c.args.d1 c.requires.reports c.requires.rank_in c.requires.counts c.kinds.ensures.count (rw (c.in-None.is, to_z-of_z w128 c.args.d1 c.ranges.d1) at c.drawn_place.ensures) in
    λ h. not_both (c.if-not-is_zero.ensures.1 (rw (to_z-of_z w128 c.args.d2 c.ranges.d2) (h.kept none)))

pub returns-in-Some-bidder_of : goal.returns-in-Some-bidder_of
returns-in-Some-bidder_of c =
    let a = c.args.auction.now in
    let y = c.args.masses.now in
    let t = c.args.profile.now in
    let given = drawn-at a y t c.args.rank c.kinds.result c.in-Some.kind c.args.d1 c.requires.reports c.requires.rank_in c.requires.counts c.kinds.ensures.count (rw (c.in-Some.is, to_z-of_z w128 c.args.d1 c.ranges.d1) at c.drawn_place.ensures) in
    let bidder : IsNumbered t c.in-Some.kind c.args.d2 c.in-Some-bidder_of.bidder = rw (to_z-of_z w128 c.args.d2 c.ranges.d2) at c.in-Some-bidder_of.ensures in (
      outcome-given a y t c.args.d1 c.args.d2 c.in-Some.kind c.in-Some-bidder_of.bidder given bidder,
      second-given a y t c.args.d1 c.args.d2 c.in-Some.kind given (numbered-in t c.in-Some.kind c.in-Some-bidder_of.bidder c.args.d2 bidder),
    )

pub returns-in-None-bidder_of : goal.returns-in-None-bidder_of
returns-in-None-bidder_of c =
    let given = drawn-at c.args.auction.now c.args.masses.now c.args.profile.now c.args.rank c.kinds.result c.in-Some.kind c.args.d1 c.requires.reports c.requires.rank_in c.requires.counts c.kinds.ensures.count (rw (c.in-Some.is, to_z-of_z w128 c.args.d1 c.ranges.d1) at c.drawn_place.ensures) in
    λ h. (rw (c.in-None-bidder_of.is, to_z-of_z w128 c.args.d2 c.ranges.d2) at c.bidder_of.ensures) (h.given c.in-Some.kind given)

pub returns-else-not-is_zero : goal.returns-else-not-is_zero
returns-else-not-is_zero c =
    let none = none-at c.args.auction.now c.args.masses.now c.args.profile.now c.args.rank c.kinds.result c.args.d1 c.requires.reports c.requires.rank_in c.requires.counts c.kinds.ensures.count (rw (c.in-None.is, to_z-of_z w128 c.args.d1 c.ranges.d1) at c.drawn_place.ensures) in
    let zero = rw (to_z-of_z w128 c.args.d2 c.ranges.d2) at (c.if-not-is_zero.ensures.0 refl) in
    (none, second-kept c.args.auction.now c.args.masses.now c.args.profile.now c.args.d1 c.args.d2 none zero)
