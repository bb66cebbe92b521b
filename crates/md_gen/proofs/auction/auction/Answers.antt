use Rattle.std.proofs.Common.{◌≡◌, pos, None, ap₂, ◌∙◌}
use Rattle.md_setting.specs.Auction.{auction_of, written_auction}
use Rattle.md_setting.specs.AuctionRefusals.{auction_refusal_of}
use Rattle.md_gen.proofs.AuctionAccepted.{auction-accepted}
use Rattle.md_gen.proofs.MadeLaws.{only_memory}
use Rattle.md_gen.proofs.auction.auction.Goals as goal

pub returns-in-Ok : goal.returns-in-Ok
returns-in-Ok c =
    c.in-Ok.ensures.ok ∙ ap₂ (λ values weights. auction_of (written_auction (pos 4) values weights (pos 1) (pos 0) (pos 0)))
    (c.deref.ensures.value ∙ c.in_ok-values.ensures) (c.deref-2.ensures.value ∙ c.in_ok-weights.ensures)

pub out_of_memory-requires : goal.out_of_memory-requires
out_of_memory-requires c =
    let none : auction_refusal_of (written_auction (pos 4) c.deref.result.now c.deref-2.result.now (pos 1) (pos 0) (pos 0)) ≡ None =
    ap₂ (λ values weights. auction_refusal_of (written_auction (pos 4) values weights (pos 1) (pos 0) (pos 0)))
    (c.deref.ensures.value ∙ c.in_ok-values.ensures) (c.deref-2.ensures.value ∙ c.in_ok-weights.ensures) ∙ auction-accepted c.args.number in
    only_memory _ c.in-Err.refusal c.in-Err.ensures.refused none
