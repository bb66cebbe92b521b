use Rattle.std.proofs.Common.{sym, ◌∙◌}
use Rattle.std.proofs.lemmas.Result.{MatchResult-weaker}
use Rattle.md_find_basis.specs.Basis.{listed_as}
use Rattle.md_find_basis.proofs.BasisSteps.{column-next, column-wrong, slack-next, slack-wrong}
use Rattle.md_find_basis.proofs.basis.read_next.Goals as goal

pub returns-then-comes_next : goal.returns-then-comes_next
returns-then-comes_next c =
    let old = listed_as c.args.basics.now.items c.args.slacks.now.items in
    let comes = sym c.comes_next.ensures ∙ c.if-comes_next.true in
    MatchResult-weaker c.read_listed.result c.read_listed.ensures
    (λ _ one. column-next c.args.columns c.args.rows old c.args.reader.now c.read_listed.new.listed.items c.read_listed.new.reader comes one)
    (λ refusal one ne. column-wrong c.args.columns c.args.rows old c.args.reader.now refusal comes (one ne))

pub returns-else-comes_next : goal.returns-else-comes_next
returns-else-comes_next c =
    let old = listed_as c.args.basics.now.items c.args.slacks.now.items in
    let comes = sym c.comes_next.ensures ∙ c.if-comes_next.false in
    let listed = c.read_listed-else-comes_next in
    MatchResult-weaker listed.result listed.ensures
    (λ _ one. slack-next c.args.columns c.args.rows old c.args.reader.now listed.new.listed.items listed.new.reader comes one)
    (λ refusal one ne. slack-wrong c.args.columns c.args.rows old c.args.reader.now refusal comes (one ne))
