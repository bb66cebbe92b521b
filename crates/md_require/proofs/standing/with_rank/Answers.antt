use Rattle.std.proofs.Common.{◌≡◌, [], ◌∷◌, ◌++◌, subst}
use Rattle.md_require.specs.Furthest.{IsFurthest}
use Rattle.md_require.specs.Limits.{IsNarrowFor}
use Rattle.md_require.specs.Named.{amounts_at, named}
use Rattle.md_require.proofs.ConditionRows.{at-rank}
use Rattle.md_require.proofs.StandingLaws.{furthest-next}
use Rattle.md_require.proofs.standing.with_rank.Goals as goal

pub figure_of-next-requires-clause-narrow : goal.figure_of-next-requires-clause-narrow
figure_of-next-requires-clause-narrow c =
    let s = c.args.setting.now in
    let k = c.args.condition.now in
    at-rank s (IsNarrowFor s k) k.measured c.args.rank (named s c.in-Some.amount) c.requires.rank_in (rw c.in-Some.is at c.amount_at.ensures.amounts) c.requires.condition.narrow

pub returns-in-Some : goal.returns-in-Some
returns-in-Some c = λ amounts found.
    let s = c.args.setting.now in
    let k = c.args.condition.now in
    let here : named s c.in-Some.amount ∷ [] ≡ amounts_at s k.measured c.args.rank = rw c.in-Some.is at c.amount_at.ensures.amounts in
    subst (λ xs. IsFurthest s c.args.mechanism.now k.side (amounts ++ xs) c.further.result) here
    (furthest-next s c.args.mechanism.now k.side amounts (named s c.in-Some.amount) c.args.found c.figure_of-next.result c.further.result found c.figure_of-next.ensures c.further.ensures)
