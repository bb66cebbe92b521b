use Rattle.std.proofs.Common.{sym, ◌∙◌, subst}
use Rattle.md_border.specs.Worth.{IsWorthOf}
use Rattle.md_setting.specs.Auction.{value_count}
use Rattle.md_lp.specs.Cuts.{AreCuts}
use Rattle.md_cut_runs.specs.CutRuns.{HasSmallEntries, TellsWide, WhereWide}
use Rattle.md_solve.proofs.AuctionAnswers.{certified-with, fits-with, not-memory, only-wide, only-with, so-with, wide-told, wide-with}
use Rattle.md_solve.proofs.auctions.solve_by_cuts.Goals as goal

pub returns-in-Ok-clause-only : goal.returns-in-Ok-clause-only
returns-in-Ok-clause-only c =
    let end = c.in-Ok.end in
    let facts = c.in-Ok.ensures in
    let worth : IsWorthOf c.args.auction.now end.interim c.auction_worth.result = record { has_worth = c.auction_worth.ensures.value; least = c.auction_worth.ensures.least } in
    only-with c.args.auction.now c.args.width end c.auction_worth.result c.kinds-shaped.ensures.shaped facts.solved facts.fits worth facts.masses facts.implements facts.settled facts.wide

pub returns-in-Ok-clause-optimal : goal.returns-in-Ok-clause-optimal
returns-in-Ok-clause-optimal c =
    let end = c.in-Ok.end in
    let facts = c.in-Ok.ensures in
    let worth : IsWorthOf c.args.auction.now end.interim c.auction_worth.result = record { has_worth = c.auction_worth.ensures.value; least = c.auction_worth.ensures.least } in
    so-with c.args.auction.now c.args.width end c.auction_worth.result c.kinds-shaped.ensures.shaped facts.solved facts.fits worth facts.masses facts.implements
    facts.optimal facts.odds facts.pays c.auction_worth.ensures.of_mechanisms

pub returns-in-Ok-clause-certified : goal.returns-in-Ok-clause-certified
returns-in-Ok-clause-certified c =
    let end = c.in-Ok.end in
    let facts = c.in-Ok.ensures in
    let worth : IsWorthOf c.args.auction.now end.interim c.auction_worth.result = record { has_worth = c.auction_worth.ensures.value; least = c.auction_worth.ensures.least } in
    certified-with c.args.auction.now c.args.width end c.auction_worth.result c.kinds-shaped.ensures.shaped facts.solved facts.fits worth facts.masses facts.implements

pub returns-in-Ok-clause-wide : goal.returns-in-Ok-clause-wide
returns-in-Ok-clause-wide c cuts first second ends = absurd (c.in-Ok.ensures.wide cuts first second ends)

pub returns-in-Ok-clause-writable : goal.returns-in-Ok-clause-writable
returns-in-Ok-clause-writable c =
    let end = c.in-Ok.end in
    let facts = c.in-Ok.ensures in
    let worth : IsWorthOf c.args.auction.now end.interim c.auction_worth.result = record { has_worth = c.auction_worth.ensures.value; least = c.auction_worth.ensures.least } in
    fits-with c.args.auction.now c.args.width end c.auction_worth.result c.kinds-shaped.ensures.shaped facts.solved facts.fits worth facts.masses facts.implements facts.distinct

pub returns-in-Err-TooWide-clause-only : goal.returns-in-Err-TooWide-clause-only
returns-in-Err-TooWide-clause-only c =
    let here = c.in-Err-TooWide in
    only-wide c.args.auction.now c.args.width here.cuts here.first here.second
    (λ cuts optimum ends. not-memory here.cuts here.first here.second (sym here.field-0-is ∙ here.ensures.settled cuts optimum ends))
    (λ cuts first second ends. subst (TellsWide cuts first second) here.field-0-is (here.ensures.wide cuts first second ends))

pub returns-in-Err-TooWide-clause-settled : goal.returns-in-Err-TooWide-clause-settled
returns-in-Err-TooWide-clause-settled c cuts optimum ends =
    let here = c.in-Err-TooWide in
    not-memory here.cuts here.first here.second (sym here.field-0-is ∙ here.ensures.settled cuts optimum ends)

pub returns-in-Err-TooWide-clause-wide : goal.returns-in-Err-TooWide-clause-wide
returns-in-Err-TooWide-clause-wide c cuts first second ends =
    let here = c.in-Err-TooWide in
    wide-told cuts here.cuts first second here.first here.second (subst (TellsWide cuts first second) here.field-0-is (here.ensures.wide cuts first second ends))

pub returns-in-Err-TooWide-clause-writable : goal.returns-in-Err-TooWide-clause-writable
returns-in-Err-TooWide-clause-writable c =
    let a = c.args.auction.now in
    let here = c.in-Err-TooWide in
    let cuts : AreCuts (value_count a) here.cuts = subst (WhereWide (AreCuts (value_count a))) here.field-0-is here.ensures.distinct in
    wide-with a c.args.width here.cuts here.first here.second (subst HasSmallEntries here.field-0-is here.ensures.small) cuts
