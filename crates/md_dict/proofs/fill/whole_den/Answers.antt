use Rattle.std.proofs.Common.{◌≡◌, ◌+◌, subst, arith}
use Rattle.md_dict.specs.Fill.{IsRowsMultiple}
use Rattle.md_dict.specs.Multiples.{IsMultipleOfTwo}
use Rattle.md_dict_division.proofs.Reading.{read_wide}
use Rattle.md_dict.proofs.OldRows.{AreOldFrom-later}
use Rattle.md_dict.proofs.Filling.{rows_room, IsRowsMultiple-more}
use Rattle.md_dict.proofs.fill.whole_den.Goals as goal

pub row_den-requires-clause-old : goal.row_den-requires-clause-old
row_den-requires-clause-old c =
    let (rows, h, o, m) = c.requires.old in
    (rows, h, AreOldFrom-later c.args.step.now rows c.args.numbers.now c.args.first.now.written c.loop-row.row c.loop-row.invariant.0 o)

pub with-filled-requires-clause-multiple : goal.with-filled-requires-clause-multiple
with-filled-requires-clause-multiple c =
    let (rows, h, o, m) = c.requires.old in
    (c.loop-row.invariant.1 rows h o m).multiple.positive

pub with-filled-requires-clause-den : goal.with-filled-requires-clause-den
with-filled-requires-clause-den c =
    let (rows, h, o, m) = c.requires.old in
    let row = c.row_den.ensures rows h (AreOldFrom-later c.args.step.now rows c.args.numbers.now c.args.first.now.written c.loop-row.row c.loop-row.invariant.0 o) in
    rw (read_wide c.row_den.result row.size) row.new.least.positive

pub with-filled-requires-clause-room : goal.with-filled-requires-clause-room
with-filled-requires-clause-room c =
    let (rows, h, o, m) = c.requires.old in
    let row = c.row_den.ensures rows h (AreOldFrom-later c.args.step.now rows c.args.numbers.now c.args.first.now.written c.loop-row.row c.loop-row.invariant.0 o) in
    rw (read_wide c.row_den.result row.size) (rows_room c.args.step.now rows c.loop-row.row c.loop-row.filled.den c.row_den.result row.numbers h.step_is (c.loop-row.invariant.1 rows h o m) row.new)

pub loop-row-preserved : goal.loop-row-preserved
loop-row-preserved c = (
  omega (arith, c.loop-row.invariant.0),
  (λ rows h o m.
      let row = c.row_den.ensures rows h (AreOldFrom-later c.args.step.now rows c.args.numbers.now c.args.first.now.written c.loop-row.row c.loop-row.invariant.0 o) in
      let told : IsMultipleOfTwo c.loop-row.filled.den c.row_den.result c.with-filled.result.den = rw (read_wide c.row_den.result row.size) at c.with-filled.ensures.multiple in
      IsRowsMultiple-more c.args.step.now rows c.loop-row.row c.loop-row.filled.den c.row_den.result c.with-filled.result.den row.numbers (c.loop-row.invariant.1 rows h o m) row.new told c.with-filled.ensures.size),
  c.with-filled.ensures.last,
  (λ e. absurd (omega (arith, c.loop-row.invariant.0, e))),
)

pub returns-clause-multiple : goal.returns-clause-multiple
returns-clause-multiple c = λ rows h o m.
    let multiple = c.loop-row.invariant.1 rows h o m in
    let done : c.loop-row.row ≡ c.args.step.now.rows + 2 = omega arith in
    rw (read_wide c.loop-row.filled.den multiple.size) (subst (λ n. IsRowsMultiple c.args.step.now rows n c.loop-row.filled.den) done multiple)

pub returns-clause-same : goal.returns-clause-same
returns-clause-same c = λ e.
    let (rows, h, o, m) = c.requires.old in
    let multiple = c.loop-row.invariant.1 rows h o m in
    rw (read_wide c.loop-row.filled.den multiple.size) (c.loop-row.invariant.3 (omega (arith, e, c.loop-row.invariant.0)))
