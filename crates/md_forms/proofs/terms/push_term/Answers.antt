use mir.Syntax.{w128}
use Rattle.std.proofs.lemmas.Int.{to_z-of_z}
use Rattle.md_forms.proofs.TermLaws.{adds-one}
use Rattle.md_forms.proofs.terms.push_term.Goals as goal

pub returns-clause-ok : goal.returns-clause-ok
returns-clause-ok c = λ limit small.
    rw (c.in_ok-push.ensures.items, to_z-of_z w128 c.args.value c.ranges.value) (adds-one limit c.args.terms.now.items (record { column = c.args.column; value = c.args.value }) small)
