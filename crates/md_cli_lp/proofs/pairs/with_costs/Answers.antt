use Rattle.std.proofs.Common.{◌≡◌, ◌++◌, sym, ap, ◌∙◌, append_assoc}
use Rattle.md_math.proofs.Builders.{up_to-more}
use Rattle.md_math.proofs.Bits.{read_result}
use Rattle.md_lp.specs.Program.{cost_at}
use Rattle.md_cli_lp.specs.ProgramTexts.{pairs_of, pair_at}
use Rattle.md_cli_lp.proofs.pairs.with_costs.Goals as goal

pub loop-column-preserved : goal.loop-column-preserved
loop-column-preserved c =
    let f = cost_at c.args.lp.now in
    let j = c.loop-column.column in
    let added : c.in_ok-filled.filled ≡ c.loop-column.filled ++ pair_at f j = rw (read_result c.cost.result c.cost.type_inv, c.cost.ensures.value) at c.in_ok-filled.ensures in
    added
    ∙ ap (λ xs. xs ++ pair_at f j) c.loop-column.invariant
    ∙ append_assoc c.args.fields (pairs_of j f) (pair_at f j)
    ∙ ap (λ xs. c.args.fields ++ xs) (sym (up_to-more j (pair_at f)))
