use Rattle.std.proofs.Common.{◌≡◌, ◌∙◌, ◌-◌, ◌+◌, suc, arith}
use Rattle.std.proofs.lemmas.Result.{err_from_is_err_and}
use Rattle.md_find_basis.specs.Basis.{listed_as}
use Rattle.md_find_basis.proofs.BasisSteps.{next-more, next-wrong, no-more}
use Rattle.md_find_basis.proofs.basis.read_records.Goals as goal

pub loop-row-preserved : goal.loop-row-preserved
loop-row-preserved c =
    let rows = c.args.rows in
    let row = c.loop-row.row in
    let fewer : rows - row ≡ suc (rows - (row + 1)) = omega (arith, c.loop-row-test.true) in
    let old = listed_as c.loop-row.basics.items c.loop-row.slacks.items in
    let new = listed_as c.read_next.new.basics.items c.read_next.new.slacks.items in
    c.loop-row.invariant ∙ next-more c.args.columns rows (rows - row) (rows - (row + 1)) old new c.loop-row.reader c.read_next.new.reader fewer c.in_ok-read_next.ensures

pub returns-in_err-read_next : goal.returns-in_err-read_next
returns-in_err-read_next c =
    let p = err_from_is_err_and c.from_residual.result c.from_residual.ensures.1 in
    let rows = c.args.rows in
    let row = c.loop-row.row in
    let fewer : rows - row ≡ suc (rows - (row + 1)) = omega (arith, c.loop-row-test.true) in
    let old = listed_as c.loop-row.basics.items c.loop-row.slacks.items in
    rw (p.1, p.2) (λ ne. c.loop-row.invariant ∙ next-wrong c.args.columns rows (rows - row) (rows - (row + 1)) old c.loop-row.reader _ fewer (c.in_err-read_next.ensures ne))

pub returns : goal.returns
returns c =
    let none : c.args.rows - c.loop-row.row ≡ 0 = omega (arith, c.loop-row-test.false) in
    c.loop-row.invariant ∙ no-more c.args.columns c.args.rows (c.args.rows - c.loop-row.row) (listed_as c.loop-row.basics.items c.loop-row.slacks.items) c.loop-row.reader none
