use Rattle.std.proofs.Common.{◌≡◌, ◌+◌, ◌*◌, ◌^◌, ◌<◌, ◌*ℤ◌, ◌∙◌, ap, arith, length, get_or, to_z, of_z}
use mir.Syntax.{w128}
use Rattle.md_math.proofs.SizeLaws.{IsWithin-wider}
use Rattle.md_lp.specs.declared.term.Term.{Term}
use Rattle.md_lp.specs.Program.{row_at}
use Rattle.md_lp.specs.Shape.{column_in}
use Rattle.md_lp.proofs.SparseRows.{no_term}
use Rattle.md_dict.specs.FirstTable.{column_count, sign_at}
use Rattle.md_dict_division.proofs.Reading.{read_small}
use Rattle.md_dict.proofs.FirstRows.{HasTerms-none, HasTerms-all, HasTerms-next, column_reached}
use Rattle.md_dict.proofs.first.push_terms.Goals as goal

pub loop-k-init : goal.loop-k-init
loop-k-init c = HasTerms-none c.args.lp.now c.args.row c.args.kept.now.items c.requires.built c.requires.length

pub push_at-requires-clause-at : goal.push_at-requires-clause-at
push_at-requires-clause-at c =
    let inside : c.loop-k.k < length (row_at c.args.lp.now c.args.row).terms = omega (arith, c.loop-k-test.true, c.term_count-k-end.ensures.value) in
    let column : c.term-term.result.column ≡ column_in (row_at c.args.lp.now c.args.row).terms c.loop-k.k = ap (λ (t : Term). t.column) c.term-term.ensures.value in
    let reached = column_reached c.args.lp.now c.args.row c.requires.row c.term_count-k-end.ensures.places c.loop-k.k c.loop-k.kept.items c.loop-k.invariant inside in
    omega (arith, reached, column, c.requires.length, c.len-start.ensures)

pub loop-k-preserved : goal.loop-k-preserved
loop-k-preserved c =
    let inside : c.loop-k.k < length (row_at c.args.lp.now c.args.row).terms = omega (arith, c.loop-k-test.true, c.term_count-k-end.ensures.value) in
    let column : c.term-term.result.column ≡ column_in (row_at c.args.lp.now c.args.row).terms c.loop-k.k = ap (λ (t : Term). t.column) c.term-term.ensures.value in
    let at : c.len-start.result + c.term-term.result.column ≡ c.args.row * (column_count c.args.lp.now + 1) + column_in (row_at c.args.lp.now c.args.row).terms c.loop-k.k = omega (arith, column, c.requires.length, c.len-start.ensures) in
    let term : to_z w128 (of_z w128 c.term-term.result.value) ≡ (get_or (row_at c.args.lp.now c.args.row).terms c.loop-k.k no_term).value =
    read_small c.term-term.result.value (IsWithin-wider (2 ^ 44) (2 ^ 62) c.term-term.result.value (omega arith) c.term-term.ensures.size) ∙ ap (λ (t : Term). t.value) c.term-term.ensures.value in
    let sign : c.signed-number.result ≡ sign_at c.args.lp.now c.args.row *ℤ (get_or (row_at c.args.lp.now c.args.row).terms c.loop-k.k no_term).value =
    rw (c.requires.negative, term) at c.signed-number.ensures.value in
    let whole : to_z w128 (of_z w128 c.signed-number.result) ≡ c.signed-number.result = read_small c.signed-number.result (IsWithin-wider (2 ^ 44) (2 ^ 62) c.signed-number.result (omega arith) c.signed-number.ensures.size) in
    rw (c.in_ok-push_at.ensures.items, at, whole)
    (HasTerms-next c.args.lp.now c.args.row c.requires.row c.term_count-k-end.ensures.places c.loop-k.k c.loop-k.kept.items c.loop-k.invariant inside c.signed-number.result sign c.signed-number.ensures.size)

pub returns : goal.returns
returns c = HasTerms-all c.args.lp.now c.args.row c.requires.row c.term_count-k-end.ensures.places c.loop-k.k c.loop-k.kept.items c.loop-k.invariant (omega (arith, c.term_count-k-end.ensures.value, c.loop-k-test.false))
