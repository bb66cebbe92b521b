use Rattle.std.proofs.Common.{◌≡◌, ◌+◌, ◌<◌, ◌++◌, length, take, get_or, sym, ap, ◌∙◌, arith, append-nil, append_assoc}
use Rattle.std.proofs.lemmas.List.{take_all}
use Rattle.md_lp.specs.Program.{row_at, value_of}
use Rattle.md_lp.specs.Shape.{column_in}
use Rattle.md_cli_lp.specs.ProgramTexts.{pair_of, pair_at, pairs_of}
use Rattle.md_cli_lp.proofs.PairLaws.{none, pairs_of-none, pairs_of-more, value_of-here, small_back}
use Rattle.md_cli_lp.proofs.pairs.with_terms.Goals as goal

pub loop-place-init : goal.loop-place-init
loop-place-init c = sym (ap (λ xs. c.args.fields ++ xs) (pairs_of-none c.args.lp.now.columns) ∙ append-nil c.args.fields)

pub loop-place-preserved : goal.loop-place-preserved
loop-place-preserved c =
    let k = c.loop-place.place in
    let terms = (row_at c.args.lp.now c.args.row).terms in
    let columns = c.args.lp.now.columns in
    let places = c.term_count-place-end.ensures.places in
    let new = value_of (take (k + 1) terms) in
    let item = get_or terms k none in
    let inside : k < length terms = omega (arith, c.term_count-place-end.ensures.value, c.loop-place-test.true) in
    let value_back = small_back c.term-term.result.value c.term-term.ensures.size in
    let added : c.in_ok-filled.filled ≡ c.loop-place.filled ++ pair_of (column_in terms k) item.value = rw (value_back, c.term-term.ensures.value) at c.in_ok-filled.ensures in
    let here : pair_of (column_in terms k) item.value ≡ pair_at new (column_in terms k) = ap (pair_of (column_in terms k)) (sym (value_of-here columns terms k places inside)) in
    added
    ∙ ap (λ xs. c.loop-place.filled ++ xs) here
    ∙ ap (λ xs. xs ++ pair_at new (column_in terms k)) c.loop-place.invariant
    ∙ append_assoc c.args.fields (pairs_of columns (value_of (take k terms))) (pair_at new (column_in terms k))
    ∙ ap (λ xs. c.args.fields ++ xs) (sym (pairs_of-more columns terms k places inside))

pub returns : goal.returns
returns c =
    let terms = (row_at c.args.lp.now c.args.row).terms in
    c.loop-place.invariant
    ∙ ap (λ ts. c.args.fields ++ pairs_of c.args.lp.now.columns (value_of ts)) (take_all c.loop-place.place terms (omega (arith, c.term_count-place-end.ensures.value, c.loop-place-test.false)))
