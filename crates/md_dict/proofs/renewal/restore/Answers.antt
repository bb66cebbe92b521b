use Rattle.std.proofs.Common.{◌≡◌, length, drop, arith}
use Rattle.md_dict.proofs.OldRows.{first_part, old_rows_of}
use Rattle.md_dict.proofs.renewal.restore.Goals as goal

pub restore_rows-requires-clause-old : goal.restore_rows-requires-clause-old
restore_rows-requires-clause-old c =
    let (before, step, noted, same, r) = c.requires.old in (
      before,
      old_rows_of c.args.step.now before c.args.rows.now c.args.draft.now _ step noted c.requires.draft same c.as_slice.ensures.value c.as_slice-2.ensures.value c.as_slice-3.ensures.value c.as_slice-4.ensures.value c.as_slice-5.ensures.value,
      rw (c.as_slice-4.ensures.value, c.as_mut_slice.ensures.value, c.as_slice-6.ensures.value) r,
    )

pub returns-clause-back : goal.returns-clause-back
returns-clause-back c = λ before step noted same r.
    let numbers : c.args.rows.now.numbers.len ≡ length c.restore_rows.new.numbers = omega (arith, c.restore_rows.auto.numbers, c.as_mut_slice.ensures.len, c.args.rows.now.numbers.ok) in
    rw (first_part c.restore_rows.new.numbers (drop (length c.restore_rows.new.numbers) c.args.rows.now.numbers.items) c.args.rows.now.numbers.len numbers)
    (c.restore_rows.ensures.back before
    (old_rows_of c.args.step.now before c.args.rows.now c.args.draft.now _ step noted c.requires.draft same c.as_slice.ensures.value c.as_slice-2.ensures.value c.as_slice-3.ensures.value c.as_slice-4.ensures.value c.as_slice-5.ensures.value)
    (rw (c.as_slice-4.ensures.value, c.as_mut_slice.ensures.value, c.as_slice-6.ensures.value) r))
