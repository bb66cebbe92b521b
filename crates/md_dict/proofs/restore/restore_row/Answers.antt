use Rattle.std.proofs.Common.{◌<◌, sym, ◌∙◌, subst, arith}
use Rattle.md_math.specs.Sizes.{IsWithin}
use Rattle.md_dict_division.proofs.Reading.{read_short}
use Rattle.md_dict.proofs.Filling.{own_limit}
use Rattle.md_dict.proofs.restore.restore_row.Goals as goal

pub put_row-requires-clause-size : goal.put_row-requires-clause-size
put_row-requires-clause-size c =
    let (rows, h, r) = c.requires.old in
    record {
      at = λ k l.
          let inside : k < rows.width = omega (arith, l, h.pivot_row.long) in
          subst (IsWithin c.args.step.now.limit) (sym (h.pivot_row.numbers k inside)) (own_limit c.args.step.now rows c.args.step.now.row k h.step_is);
    }

pub turn_back-requires-clause-old : goal.turn_back-requires-clause-old
turn_back-requires-clause-old c =
    let (rows, h, r) = c.requires.old in
    rw (read_short c.args.den r.size) (rows, h, r.back (sym c.stays.ensures ∙ c.if-stays.false) c.if-row-step.false)

pub turn_back-requires-clause-positive : goal.turn_back-requires-clause-positive
turn_back-requires-clause-positive c =
    let (rows, h, r) = c.requires.old in
    rw (read_short c.args.den r.size) r.positive

pub turn_back-requires-clause-den : goal.turn_back-requires-clause-den
turn_back-requires-clause-den c =
    let (rows, h, r) = c.requires.old in
    rw (read_short c.args.den r.size) r.size

pub returns-else-row-step-clause-back : goal.returns-else-row-step-clause-back
returns-else-row-step-clause-back c = λ rows h r.
    (rw (read_short c.args.den r.size) at c.turn_back.ensures.back) rows h (r.back (sym c.stays.ensures ∙ c.if-stays.false) c.if-row-step.false)
