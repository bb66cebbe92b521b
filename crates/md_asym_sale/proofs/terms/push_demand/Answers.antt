use Rattle.std.proofs.Common.{◌≡◌, ◌^◌, true, sym, ◌∙◌, subst, arith}
use Rattle.md_math.specs.Sets.{member}
use Rattle.md_math.specs.Sizes.{IsWithin}
use Rattle.md_math.proofs.Bits.{read_result}
use Rattle.md_math.proofs.SizeLaws.{IsWithin-wider}
use Rattle.md_asym_sale.specs.Values.{marginal_at}
use Rattle.md_asym_sale.proofs.terms.push_demand.Goals as goal

pub returns-in_ok-push_term : goal.returns-in_ok-push_term
returns-in_ok-push_term c =
    let s = c.args.setting.now in
    let p = c.args.pair in
    let here : member c.args.set p ≡ true = sym c.has_pair.ensures ∙ c.if-has_pair.true in
    let f = rw (read_result c.marginal_at.result c.marginal_at.type_inv, c.marginal_at.ensures.value) at c.in_ok-push_term.ensures.ok in
    rw here (f (2 ^ 44) (IsWithin-wider 1000000 (2 ^ 44) (marginal_at s p) (omega arith) (subst (IsWithin 1000000) c.marginal_at.ensures.value c.marginal_at.ensures.size)))
