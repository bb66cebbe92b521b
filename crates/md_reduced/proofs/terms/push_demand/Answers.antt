use Rattle.std.proofs.Common.{◌≡◌, ◌*◌, ◌^◌, true, sym, ◌∙◌, arith}
use Rattle.md_math.specs.Sets.{member}
use Rattle.md_math.proofs.Bits.{read_result}
use Rattle.md_math.proofs.SizeLaws.{IsWithin-wider}
use Rattle.md_border.proofs.DemandLaws.{weights_given-le}
use Rattle.md_reduced.proofs.terms.push_demand.Goals as goal

pub returns-in_ok-push_term : goal.returns-in_ok-push_term
returns-in_ok-push_term c =
    let here : member c.args.set c.args.kind ≡ true = sym c.has_kind.ensures ∙ c.if-has_kind.true in
    let f = rw (read_result c.weight_of_all.result c.weight_of_all.type_inv, c.weight_of_all.ensures.value) at c.in_ok-push_term.ensures.ok in
    rw here (f (2 ^ 44) (IsWithin-wider (12 * 10 ^ 12) (2 ^ 44) _ (omega arith) (record { within = weights_given-le c.args.auction.now c.args.kind c.weight_of_all.ensures.shaped c.requires.kind_in })))
