use Rattle.std.proofs.Common.{◌≡◌, ◌≤ℤ◌, pos, sym, subst}
use Rattle.std.proofs.lemmas.Result.{IfOk-weaker}
use Rattle.md_mech.specs.Accepted.{number_limit}
use Rattle.md_answer.specs.Supplies.{units_in}
use Rattle.md_answer.proofs.MassTables.{is-table}
use Rattle.md_question_check.specs.declared.verdict.Verdict.{Verdict}
use Rattle.md_question_check.specs.declared.verdict.Verdict.TheVariants.{Rejected}
use Rattle.md_check.specs.AuctionVerdicts.{IsAuctionOptimalVerdict}
use Rattle.md_check.proofs.AuctionLaws.{if_add_up, if_claimed}
use Rattle.md_check.proofs.OneAuctionVerdict.{one-optimal}
use Rattle.md_check.proofs.auction.check_optimal.Goals as goal

pub other_mass-requires-clause-masses : goal.other_mass-requires-clause-masses
other_mass-requires-clause-masses c = (units_in c.args.supply.now, is-table c.args.supply.now c.args.auction.now c.args.masses.now c.requires.masses)

pub other_mass-requires-clause-den_small : goal.other_mass-requires-clause-den_small
other_mass-requires-clause-den_small c = subst (λ d. d ≤ℤ pos number_limit) (sym c.requires.same_den) c.requires.interim.den_size

pub returns-in-Some-clause-verdict : goal.returns-in-Some-clause-verdict
returns-in-Some-clause-verdict c = c.in-Some.ensures.some (units_in c.args.supply.now) c.args.value.now c.args.cuts.now c.args.bound.now

pub returns-in-Some-clause-only : goal.returns-in-Some-clause-only
returns-in-Some-clause-only c = λ other is.
    let units = units_in c.args.supply.now in
    let cuts = c.args.cuts.now in
    let bound = c.args.bound.now in
    one-optimal c.args.auction.now units c.args.value.now c.args.interim.now c.args.masses.now cuts bound c.in-Some.ensures.shaped c.requires.interim c.requires.bound.den.positive other (Rejected c.in-Some.reject) is
    (c.in-Some.ensures.some units c.args.value.now cuts bound)

pub returns-clause-verdict : goal.returns-clause-verdict
returns-clause-verdict c =
    if_add_up c.args.auction.now (units_in c.args.supply.now) c.args.value.now c.args.interim.now c.args.masses.now c.args.cuts.now c.args.bound.now c.judge_odds.result c.in_default.ensures.none
    (rw c.units.ensures.value at c.judge_odds.ensures)

pub returns-clause-only : goal.returns-clause-only
returns-clause-only c =
    let a = c.args.auction.now in
    let units = units_in c.args.supply.now in
    let value = c.args.value.now in
    let interim = c.args.interim.now in
    let masses = c.args.masses.now in
    let cuts = c.args.cuts.now in
    let bound = c.args.bound.now in
    IfOk-weaker c.judge_odds.result (IsAuctionOptimalVerdict a units value interim masses cuts bound) (λ v. (other : Verdict) → IsAuctionOptimalVerdict a units value interim masses cuts bound other → other ≡ v)
    (λ v is other told. one-optimal a units value interim masses cuts bound c.other_mass.ensures.shaped c.requires.interim c.requires.bound.den.positive other v told is)
    (returns-clause-verdict c)

pub returns-clause-claim : goal.returns-clause-claim
returns-clause-claim c =
    if_claimed c.args.supply.now c.args.auction.now c.args.value.now c.args.interim.now c.args.masses.now c.args.cuts.now c.args.bound.now c.judge_odds.result c.other_mass.ensures.shaped c.requires.interim c.requires.masses
    c.requires.same_den (returns-clause-verdict c)
