use Rattle.std.proofs.Common.{ap, ◌∙◌, Err, arith}
use mir.Syntax.{w128}
use Rattle.std.proofs.lemmas.Int.{to_z-of_z}
use Rattle.md_forms.proofs.BuiltLaws.{extends-row, shaped-row, only-memory}
use Rattle.md_forms.proofs.rows.push_form.Goals as goal

pub want_of-requires : goal.want_of-requires
want_of-requires c =
    let e = rw (to_z-of_z w128 c.args.right c.ranges.right) at c.push_row.ensures in
    let shaped = shaped-row c.args.lp.now.columns c.args.kind c.args.terms.now c.args.right c.requires.placed c.requires.size in
    only-memory c.in-Err.refusal
    (λ same. e.index.0 (c.in-Err.is ∙ ap Err same) c.requires.placed.places)
    (λ same. (e.magnitude.0 (c.in-Err.is ∙ ap Err same)).1 shaped.sizes)
    (λ same. let full = (e.too_many.0 (c.in-Err.is ∙ ap Err same)).1 in omega (arith, full, c.requires.room))

pub returns-in-Ok-clause-ok : goal.returns-in-Ok-clause-ok
returns-in-Ok-clause-ok c = λ form written.
    let e = rw (to_z-of_z w128 c.args.right c.ranges.right) at c.in-Ok.ensures in
    extends-row form c.args.kind c.args.terms.now c.args.right c.args.lp.now c.push_row.new.self c.requires.placed written e.ok
