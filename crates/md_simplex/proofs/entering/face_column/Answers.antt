use Rattle.std.proofs.Common.{◌≡◌, refl, sym, ap, ◌∙◌, subst, arith}
use Rattle.md_dict.specs.Condensed.{entry_at}
use Rattle.md_simplex.specs.Rules.{IsFaceColumn, IsFirstIn}
use Rattle.md_simplex.specs.Columns.{tried_at}
use Rattle.md_simplex.proofs.ColumnLaws.{first_found, none_found}
use Rattle.md_simplex.proofs.entering.face_column.Goals as goal

pub returns-then-is_face_column : goal.returns-then-is_face_column
returns-then-is_face_column c =
    let at : c.column_at-column.result ≡ tried_at c.args.order c.args.dict.now.columns c.loop-place.place = c.column_at-column.ensures.value ∙ ap (λ n. tried_at c.args.order n c.loop-place.place) c.columns.ensures.value in
    subst (IsFirstIn c.args.order c.args.dict.now.columns (IsFaceColumn c.args.dict.now.rows (entry_at c.args.dict.now))) (sym at)
    (first_found c.args.order c.args.dict.now.columns c.loop-place.place (IsFaceColumn c.args.dict.now.rows (entry_at c.args.dict.now)) (omega (arith, c.loop-place-test.true, c.columns-place-end.ensures.value)) c.loop-place.invariant
    (subst (IsFaceColumn c.args.dict.now.rows (entry_at c.args.dict.now)) at (c.if-is_face_column.ensures.0 refl)))

pub returns : goal.returns
returns c =
    none_found c.args.order c.args.dict.now.columns (IsFaceColumn c.args.dict.now.rows (entry_at c.args.dict.now)) (λ k b. c.loop-place.invariant k (omega (arith, c.loop-place-test.false, c.columns-place-end.ensures.value)))
