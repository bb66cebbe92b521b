use Rattle.std.proofs.Common.{◌≡◌, [], ◌∷◌, ◌++◌, subst}
use Rattle.md_math.proofs.Bits.{read_result}
use Rattle.md_require.specs.Named.{amounts_at, named}
use Rattle.md_require.specs.Prices.{IsPricedTo}
use Rattle.md_require.proofs.PriceLaws.{priced-more}
use Rattle.md_require.proofs.price.with_rank.Goals as goal

pub returns-in-Some : goal.returns-in-Some
returns-in-Some c = λ first amounts priced.
    let s = c.args.setting.now in
    let next = c.with_row.ensures in
    let here : named s c.in-Some.amount ∷ [] ≡ amounts_at s c.args.measured c.args.rank = rw c.in-Some.is at c.amount_at.ensures.amounts in
    let sum = rw (read_result c.whole.result c.whole.type_inv, c.whole.ensures.value) at c.with_row.ensures.sum in
    subst (λ xs. IsPricedTo s c.args.bound.now first (amounts ++ xs) c.with_row.result) here
    (priced-more s c.args.bound.now first amounts (named s c.in-Some.amount) c.args.price c.with_row.result next.row sum next.firm next.size priced)
