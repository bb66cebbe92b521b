use Rattle.std.proofs.Common.{◌≡◌, ◌^◌, length, drop, refl, sym, ap, ◌∙◌, subst, arith}
use Rattle.std.proofs.lemmas.List.{with_items_is}
use Rattle.md_math.specs.Lists.{number_at}
use Rattle.md_math.specs.Sizes.{AllWithin}
use Rattle.md_dict.specs.Multiples.{IsLeastMultiple}
use Rattle.md_dict.specs.RowStep.{AreOldFrom, CanBeRestored}
use Rattle.md_dict.specs.Step.{number_in}
use Rattle.md_dict_division.proofs.Reading.{read_wide}
use Rattle.md_dict.proofs.Filling.{IsRowsMultiple-filled, IsTable-own}
use Rattle.md_dict.proofs.OldRows.{first_part, old_rows_of, AreOldFrom-all}
use Rattle.md_dict.proofs.renewal.fill.Goals as goal

pub write_rows-filled-requires-clause-old : goal.write_rows-filled-requires-clause-old
write_rows-filled-requires-clause-old c =
    let old = old_rows_of c.args.step.now c.args.rows.now c.args.rows.now c.note.new.draft _ c.requires.step c.note.ensures.noted c.note.ensures.draft refl c.as_slice.ensures.value c.as_slice-2.ensures.value c.as_slice-3.ensures.value c.as_slice-4.ensures.value c.as_slice-5.ensures.value in
    let all : AreOldFrom c.args.step.now c.args.rows.now c.as_mut_slice-2.result.now 0 = rw c.as_mut_slice-2.ensures.value (AreOldFrom-all c.args.step.now c.args.rows.now c.requires.step) in
    (c.args.rows.now, old, all)

pub write_rows-filled-requires-clause-room : goal.write_rows-filled-requires-clause-room
write_rows-filled-requires-clause-room c =
    rw (c.as_mut_slice-2.ensures.value, c.as_mut_slice-3.ensures.value, c.as_mut_slice-4.ensures.value) (record {
      table = IsTable-own c.args.step.now c.args.rows.now c.requires.step;
      dens_length = c.note.ensures.draft.dens_length;
      sizes_length = c.note.ensures.draft.sizes_length;
      dens_size = c.note.ensures.draft.dens_size;
      sizes_size = c.note.ensures.draft.sizes_size;
    })

pub whole_den-requires-clause-old : goal.whole_den-requires-clause-old
whole_den-requires-clause-old c =
    let numbers_long : c.args.rows.now.numbers.len ≡ length c.write_rows-filled.new.numbers = omega (arith, c.write_rows-filled.auto.numbers, c.as_mut_slice-2.ensures.len, c.args.rows.now.numbers.ok) in
    let numbers = first_part c.write_rows-filled.new.numbers (drop (length c.write_rows-filled.new.numbers) c.args.rows.now.numbers.items) c.args.rows.now.numbers.len numbers_long in
    let old = old_rows_of c.args.step.now c.args.rows.now c.args.rows.now c.note.new.draft _ c.requires.step c.note.ensures.noted c.note.ensures.draft refl c.as_slice.ensures.value c.as_slice-2.ensures.value c.as_slice-3.ensures.value c.as_slice-4.ensures.value c.as_slice-5.ensures.value in
    let all : AreOldFrom c.args.step.now c.args.rows.now c.as_mut_slice-2.result.now 0 = rw c.as_mut_slice-2.ensures.value (AreOldFrom-all c.args.step.now c.args.rows.now c.requires.step) in
    let filled = c.write_rows-filled.ensures.filled c.args.rows.now old all in
    let rest = c.write_rows-filled.ensures.rest c.args.rows.now old all in
    let some = IsRowsMultiple-filled c.args.step.now c.args.rows.now _ _ _ _ c.write_rows-filled.result.written c.write_rows-filled.result.den filled c.write_rows-filled.ensures.size in
    (c.args.rows.now, old, rw (c.as_slice-6.ensures.value, numbers) rest, some)

pub returns-clause-den : goal.returns-clause-den
returns-clause-den c =
    let numbers_long : c.args.rows.now.numbers.len ≡ length c.write_rows-filled.new.numbers = omega (arith, c.write_rows-filled.auto.numbers, c.as_mut_slice-2.ensures.len, c.args.rows.now.numbers.ok) in
    let numbers = first_part c.write_rows-filled.new.numbers (drop (length c.write_rows-filled.new.numbers) c.args.rows.now.numbers.items) c.args.rows.now.numbers.len numbers_long in
    let old = old_rows_of c.args.step.now c.args.rows.now c.args.rows.now c.note.new.draft _ c.requires.step c.note.ensures.noted c.note.ensures.draft refl c.as_slice.ensures.value c.as_slice-2.ensures.value c.as_slice-3.ensures.value c.as_slice-4.ensures.value c.as_slice-5.ensures.value in
    let all : AreOldFrom c.args.step.now c.args.rows.now c.as_mut_slice-2.result.now 0 = rw c.as_mut_slice-2.ensures.value (AreOldFrom-all c.args.step.now c.args.rows.now c.requires.step) in
    let filled = c.write_rows-filled.ensures.filled c.args.rows.now old all in
    let rest = c.write_rows-filled.ensures.rest c.args.rows.now old all in
    let some = IsRowsMultiple-filled c.args.step.now c.args.rows.now _ _ _ _ c.write_rows-filled.result.written c.write_rows-filled.result.den filled c.write_rows-filled.ensures.size in
    let rest_there : AreOldFrom c.args.step.now c.args.rows.now c.as_slice-6.result.now c.write_rows-filled.result.written = rw (c.as_slice-6.ensures.value, numbers) rest in
    let multiple = c.whole_den.ensures.multiple c.args.rows.now old rest_there some in
    rw (read_wide c.whole_den.result multiple.size) multiple

pub returns-clause-filled : goal.returns-clause-filled
returns-clause-filled c = λ e.
    let numbers_long : c.args.rows.now.numbers.len ≡ length c.write_rows-filled.new.numbers = omega (arith, c.write_rows-filled.auto.numbers, c.as_mut_slice-2.ensures.len, c.args.rows.now.numbers.ok) in
    let numbers = first_part c.write_rows-filled.new.numbers (drop (length c.write_rows-filled.new.numbers) c.args.rows.now.numbers.items) c.args.rows.now.numbers.len numbers_long in
    let own_long : c.note.new.draft.own.len ≡ length c.write_rows-filled.new.own = omega (arith, c.write_rows-filled.auto.own, c.as_mut_slice.ensures.len, c.note.new.draft.own.ok) in
    let dens_long : c.note.new.draft.dens.len ≡ length c.write_rows-filled.new.dens = omega (arith, c.write_rows-filled.auto.dens, c.as_mut_slice-3.ensures.len, c.note.new.draft.dens.ok) in
    let sizes_long : c.note.new.draft.sizes.len ≡ length c.write_rows-filled.new.sizes = omega (arith, c.write_rows-filled.auto.sizes, c.as_mut_slice-4.ensures.len, c.note.new.draft.sizes.ok) in
    let dens = first_part c.write_rows-filled.new.dens (drop (length c.write_rows-filled.new.dens) c.note.new.draft.dens.items) c.note.new.draft.dens.len dens_long in
    let sizes = first_part c.write_rows-filled.new.sizes (drop (length c.write_rows-filled.new.sizes) c.note.new.draft.sizes.items) c.note.new.draft.sizes.len sizes_long in
    let old = old_rows_of c.args.step.now c.args.rows.now c.args.rows.now c.note.new.draft _ c.requires.step c.note.ensures.noted c.note.ensures.draft refl c.as_slice.ensures.value c.as_slice-2.ensures.value c.as_slice-3.ensures.value c.as_slice-4.ensures.value c.as_slice-5.ensures.value in
    let all : AreOldFrom c.args.step.now c.args.rows.now c.as_mut_slice-2.result.now 0 = rw c.as_mut_slice-2.ensures.value (AreOldFrom-all c.args.step.now c.args.rows.now c.requires.step) in
    let filled = c.write_rows-filled.ensures.filled c.args.rows.now old all in
    let rest = c.write_rows-filled.ensures.rest c.args.rows.now old all in
    let some = IsRowsMultiple-filled c.args.step.now c.args.rows.now _ _ _ _ c.write_rows-filled.result.written c.write_rows-filled.result.den filled c.write_rows-filled.ensures.size in
    let rest_there : AreOldFrom c.args.step.now c.args.rows.now c.as_slice-6.result.now c.write_rows-filled.result.written = rw (c.as_slice-6.ensures.value, numbers) rest in
    let multiple = c.whole_den.ensures.multiple c.args.rows.now old rest_there some in
    rw (numbers, dens, sizes, read_wide c.whole_den.result multiple.size, c.whole_den.ensures.same e) (record {
      made = λ i b. (filled.done.at i (omega (arith, b, e))).made;
      multiple = subst (λ n. IsLeastMultiple n (number_at c.write_rows-filled.new.dens) c.write_rows-filled.result.den) e filled.multiple;
    })

pub returns-clause-wide : goal.returns-clause-wide
returns-clause-wide c = λ l.
    let old = old_rows_of c.args.step.now c.args.rows.now c.args.rows.now c.note.new.draft _ c.requires.step c.note.ensures.noted c.note.ensures.draft refl c.as_slice.ensures.value c.as_slice-2.ensures.value c.as_slice-3.ensures.value c.as_slice-4.ensures.value c.as_slice-5.ensures.value in
    let all : AreOldFrom c.args.step.now c.args.rows.now c.as_mut_slice-2.result.now 0 = rw c.as_mut_slice-2.ensures.value (AreOldFrom-all c.args.step.now c.args.rows.now c.requires.step) in
    c.write_rows-filled.ensures.wide c.args.rows.now old all l

pub returns-clause-restorable : goal.returns-clause-restorable
returns-clause-restorable c =
    let numbers_long : c.args.rows.now.numbers.len ≡ length c.write_rows-filled.new.numbers = omega (arith, c.write_rows-filled.auto.numbers, c.as_mut_slice-2.ensures.len, c.args.rows.now.numbers.ok) in
    let numbers = first_part c.write_rows-filled.new.numbers (drop (length c.write_rows-filled.new.numbers) c.args.rows.now.numbers.items) c.args.rows.now.numbers.len numbers_long in
    let own_long : c.note.new.draft.own.len ≡ length c.write_rows-filled.new.own = omega (arith, c.write_rows-filled.auto.own, c.as_mut_slice.ensures.len, c.note.new.draft.own.ok) in
    let dens_long : c.note.new.draft.dens.len ≡ length c.write_rows-filled.new.dens = omega (arith, c.write_rows-filled.auto.dens, c.as_mut_slice-3.ensures.len, c.note.new.draft.dens.ok) in
    let sizes_long : c.note.new.draft.sizes.len ≡ length c.write_rows-filled.new.sizes = omega (arith, c.write_rows-filled.auto.sizes, c.as_mut_slice-4.ensures.len, c.note.new.draft.sizes.ok) in
    let dens = first_part c.write_rows-filled.new.dens (drop (length c.write_rows-filled.new.dens) c.note.new.draft.dens.items) c.note.new.draft.dens.len dens_long in
    let sizes = first_part c.write_rows-filled.new.sizes (drop (length c.write_rows-filled.new.sizes) c.note.new.draft.sizes.items) c.note.new.draft.sizes.len sizes_long in
    let old = old_rows_of c.args.step.now c.args.rows.now c.args.rows.now c.note.new.draft _ c.requires.step c.note.ensures.noted c.note.ensures.draft refl c.as_slice.ensures.value c.as_slice-2.ensures.value c.as_slice-3.ensures.value c.as_slice-4.ensures.value c.as_slice-5.ensures.value in
    let all : AreOldFrom c.args.step.now c.args.rows.now c.as_mut_slice-2.result.now 0 = rw c.as_mut_slice-2.ensures.value (AreOldFrom-all c.args.step.now c.args.rows.now c.requires.step) in
    let filled = c.write_rows-filled.ensures.filled c.args.rows.now old all in
    let rest = c.write_rows-filled.ensures.rest c.args.rows.now old all in
    let some = IsRowsMultiple-filled c.args.step.now c.args.rows.now _ _ _ _ c.write_rows-filled.result.written c.write_rows-filled.result.den filled c.write_rows-filled.ensures.size in
    rw (numbers, dens) (record {
      written = λ i b. subst (λ xs. CanBeRestored c.args.step.now c.args.rows.now xs i (number_at c.write_rows-filled.new.dens i) (number_in c.args.step.now c.write_rows-filled.new.numbers i)) c.as_slice-4.ensures.value (filled.done.at i b).restorable;
      rest = rest;
    })

pub returns-clause-noted : goal.returns-clause-noted
returns-clause-noted c = record { pivot_row = c.note.ensures.noted.pivot_row; factors = c.note.ensures.noted.factors }

pub returns-clause-draft : goal.returns-clause-draft
returns-clause-draft c =
    let own_long : c.note.new.draft.own.len ≡ length c.write_rows-filled.new.own = omega (arith, c.write_rows-filled.auto.own, c.as_mut_slice.ensures.len, c.note.new.draft.own.ok) in
    let dens_long : c.note.new.draft.dens.len ≡ length c.write_rows-filled.new.dens = omega (arith, c.write_rows-filled.auto.dens, c.as_mut_slice-3.ensures.len, c.note.new.draft.dens.ok) in
    let sizes_long : c.note.new.draft.sizes.len ≡ length c.write_rows-filled.new.sizes = omega (arith, c.write_rows-filled.auto.sizes, c.as_mut_slice-4.ensures.len, c.note.new.draft.sizes.ok) in
    let dens = first_part c.write_rows-filled.new.dens (drop (length c.write_rows-filled.new.dens) c.note.new.draft.dens.items) c.note.new.draft.dens.len dens_long in
    let sizes = first_part c.write_rows-filled.new.sizes (drop (length c.write_rows-filled.new.sizes) c.note.new.draft.sizes.items) c.note.new.draft.sizes.len sizes_long in
    let own_items = with_items_is c.note.new.draft.own c.write_rows-filled.new.own (sym own_long) in
    let dens_items = with_items_is c.note.new.draft.dens c.write_rows-filled.new.dens (sym dens_long) in
    let sizes_items = with_items_is c.note.new.draft.sizes c.write_rows-filled.new.sizes (sym sizes_long) in
    let room = c.write_rows-filled.ensures.room in
    let draft = c.note.ensures.draft in
    record {
      own_length = ap length own_items ∙ c.write_rows-filled.ensures.length;
      pivot_row_length = draft.pivot_row_length;
      zeros = draft.zeros;
      factors_length = draft.factors_length;
      dens_length = ap length dens_items ∙ room.dens_length;
      shares_length = draft.shares_length;
      sizes_length = ap length sizes_items ∙ room.sizes_length;
      dens_size = subst (AllWithin (2 ^ 62)) (sym dens_items) room.dens_size;
      shares_size = draft.shares_size;
      sizes_size = subst (AllWithin (2 ^ 62)) (sym sizes_items) room.sizes_size;
    }
