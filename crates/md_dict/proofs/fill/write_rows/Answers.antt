use Rattle.std.proofs.Common.{◌≡◌, length-set, pos, to_z, of_z, refl, lit<, ◌∙◌, arith}
use mir.Syntax.{w128}
use Rattle.md_math.proofs.Division.{Divides_refl}
use Rattle.md_math.proofs.SizeLaws.{AllWithin-set}
use Rattle.md_math.proofs.Bits.{read_result}
use Rattle.md_dict.specs.Multiples.{IsMultipleOfTwo}
use Rattle.md_dict_division.proofs.Reading.{read_short}
use Rattle.md_dict.proofs.OldRows.{AreOldFrom-next, AreOldFrom-same}
use Rattle.md_dict.proofs.Filling.{rows_room, AreFilledBy-left, AreFilledBy-more, AreFilledBy-none, IsRowsMultiple-filled}
use Rattle.md_dict.proofs.fill.write_rows.Goals as goal

pub loop-row-init : goal.loop-row-init
loop-row-init c = (
  refl,
  (λ rows h o. (AreFilledBy-none c.args.step.now rows c.args.old.now.factors.now c.args.numbers.now c.args.dens.now c.args.sizes.now, o)),
  lit< tt,
  Divides_refl (pos 1),
  c.requires.room,
  c.requires.length,
)

pub write_row-requires-clause-old : goal.write_row-requires-clause-old
write_row-requires-clause-old c =
    let (rows, h, o) = c.requires.old in
    (rows, h, (c.loop-row.invariant.1 rows h o).1)

pub returns-in_default-clause-filled : goal.returns-in_default-clause-filled
returns-in_default-clause-filled c = λ rows h o.
    rw c.loop-row.invariant.0 (AreFilledBy-left c.args.step.now rows c.args.old.now.factors.now c.loop-row.numbers c.write_row.new.numbers c.loop-row.dens c.loop-row.sizes c.loop-row.row c.loop-row.filled.den (c.loop-row.invariant.1 rows h o).0 c.write_row.ensures.leaves)

pub returns-in_default-clause-rest : goal.returns-in_default-clause-rest
returns-in_default-clause-rest c = λ rows h o.
    rw c.loop-row.invariant.0 (AreOldFrom-same c.args.step.now rows c.loop-row.numbers c.write_row.new.numbers c.loop-row.row (c.loop-row.invariant.1 rows h o).1 c.write_row.ensures.leaves c.in_default.ensures.stays)

pub returns-in_default-clause-wide : goal.returns-in_default-clause-wide
returns-in_default-clause-wide c = λ rows h o _. c.in_default.ensures.wide rows h (c.loop-row.invariant.1 rows h o).1

pub with-filled-requires-clause-multiple : goal.with-filled-requires-clause-multiple
with-filled-requires-clause-multiple c =
    let (rows, h, o) = c.requires.old in
    (c.loop-row.invariant.1 rows h o).0.multiple.positive

pub with-filled-requires-clause-den : goal.with-filled-requires-clause-den
with-filled-requires-clause-den c =
    let (rows, h, o) = c.requires.old in
    let done = c.in-Some.ensures.done rows h (c.loop-row.invariant.1 rows h o).1 in
    let den : to_z w128 (of_z w128 c.from.result) ≡ c.in-Some.least.den = read_result c.from.result c.from.type_inv ∙ c.from.ensures ∙ read_short c.in-Some.least.den done.made.den_size in
    rw den done.made.new.least.positive

pub with-filled-requires-clause-room : goal.with-filled-requires-clause-room
with-filled-requires-clause-room c =
    let (rows, h, o) = c.requires.old in
    let so_far = c.loop-row.invariant.1 rows h o in
    let done = c.in-Some.ensures.done rows h so_far.1 in
    let den : to_z w128 (of_z w128 c.from.result) ≡ c.in-Some.least.den = read_result c.from.result c.from.type_inv ∙ c.from.ensures ∙ read_short c.in-Some.least.den done.made.den_size in
    rw den (rows_room c.args.step.now rows c.loop-row.row c.loop-row.filled.den c.in-Some.least.den _ h.step_is (IsRowsMultiple-filled c.args.step.now rows c.args.old.now.factors.now c.loop-row.numbers c.loop-row.dens c.loop-row.sizes c.loop-row.row c.loop-row.filled.den so_far.0 c.loop-row.invariant.2) done.made.new)

pub loop-row-preserved : goal.loop-row-preserved
loop-row-preserved c =
    let (rows_of, h_of, o_of) = c.requires.old in
    let parts = c.loop-row.invariant.4 in
    let made = (c.in-Some.ensures.done rows_of h_of (c.loop-row.invariant.1 rows_of h_of o_of).1).made in
    let den : to_z w128 (of_z w128 c.from.result) ≡ c.in-Some.least.den = read_result c.from.result c.from.type_inv ∙ c.from.ensures ∙ read_short c.in-Some.least.den made.den_size in
    let told : IsMultipleOfTwo c.loop-row.filled.den c.in-Some.least.den c.with-filled.result.den = rw den at c.with-filled.ensures.multiple in
    rw (read_short c.in-Some.least.den made.den_size, read_short c.in-Some.least.size made.size.small) (
      refl,
      (λ rows h o.
          let so_far = c.loop-row.invariant.1 rows h o in (
            AreFilledBy-more c.args.step.now rows c.args.old.now.factors.now c.loop-row.numbers c.write_row.new.numbers c.loop-row.dens c.loop-row.sizes c.loop-row.row c.in-Some.least c.loop-row.filled.den c.with-filled.result.den (omega (arith, parts.dens_length, c.loop-row-test.true)) (omega (arith, parts.sizes_length, c.loop-row-test.true)) so_far.0 c.write_row.ensures.leaves (c.in-Some.ensures.done rows h so_far.1) told,
            AreOldFrom-next c.args.step.now rows c.loop-row.numbers c.write_row.new.numbers c.loop-row.row so_far.1 c.write_row.ensures.leaves,
          )),
      c.with-filled.ensures.size,
      c.with-filled.ensures.last,
      record {
        table = c.write_row.ensures.table;
        dens_length = length-set c.loop-row.dens c.loop-row.row c.in-Some.least.den ∙ parts.dens_length;
        sizes_length = length-set c.loop-row.sizes c.loop-row.row c.in-Some.least.size ∙ parts.sizes_length;
        dens_size = AllWithin-set _ c.loop-row.dens c.loop-row.row c.in-Some.least.den parts.dens_size made.den_size;
        sizes_size = AllWithin-set _ c.loop-row.sizes c.loop-row.row c.in-Some.least.size parts.sizes_size made.size.small;
      },
      c.write_row.ensures.length,
    )

pub returns-clause-filled : goal.returns-clause-filled
returns-clause-filled c = λ rows h o. rw c.loop-row.invariant.0 (c.loop-row.invariant.1 rows h o).0
