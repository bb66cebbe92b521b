use Rattle.std.proofs.Common.{pos, ◌<ℤ◌, sym, ◌∙◌, subst, arith}
use mathlib.Core.Bool.{false≢true}
use Rattle.md_dict.specs.Step.{number_in}
use Rattle.md_dict.specs.RowStep.{AreOldFrom, IsMadeRow}
use Rattle.md_dict.proofs.OldRows.{if_done, read_den, read_size}
use Rattle.md_dict.proofs.Filling.{staying, IsMadeRow-stays}
use Rattle.md_dict.proofs.fill.write_row.Goals as goal

pub returns-then-stays-clause-done : goal.returns-then-stays-clause-done
returns-then-stays-clause-done c = λ rows h o.
    let stays = sym c.stays.ensures ∙ c.if-stays.true in
    let den = read_den c.args.step.now rows c.args.old.now c.args.row h in
    let size = read_size c.args.step.now rows c.args.old.now c.args.row h c.requires.row in
    rw (den.short, size.short) (record {
      made = IsMadeRow-stays c.args.step.now rows c.args.old.now.factors.now c.args.row _ _ (number_in c.args.step.now c.args.numbers.now c.args.row) h.step_is c.requires.row (staying c.args.step.now c.args.old.now.factors.now c.args.row stays) (h.factors c.args.row c.requires.row) (λ s b. o.at c.args.row s (omega arith) c.requires.row b) den.value size.value den.size;
      restorable = record {
        positive = subst (λ z. pos 0 <ℤ z) (sym den.value) (h.step_is.table.least c.args.row c.requires.row).positive;
        size = den.size;
        kept = λ _ s b. o.at c.args.row s (omega arith) c.requires.row b;
        back = λ e _. absurd (false≢true (sym e ∙ stays));
      };
    })

pub write_pivot_row-requires-clause-old : goal.write_pivot_row-requires-clause-old
write_pivot_row-requires-clause-old c =
    let (rows, h, o) = c.requires.old in
    (rows, h, subst (λ i. AreOldFrom c.args.step.now rows c.args.numbers.now i) c.if-row-step.true o)

pub returns-then-row-step-clause-done : goal.returns-then-row-step-clause-done
returns-then-row-step-clause-done c = λ rows h o.
    let stays = sym c.stays.ensures ∙ c.if-stays.false in
    let made = subst (λ i. IsMadeRow c.args.step.now rows i c.write_pivot_row.result (number_in c.args.step.now c.write_pivot_row.new.numbers i)) (sym c.if-row-step.true)
    (c.write_pivot_row.ensures.made rows h (subst (λ i. AreOldFrom c.args.step.now rows c.args.numbers.now i) c.if-row-step.true o)) in
    record {
      made = made;
      restorable = record {
        positive = made.new.least.positive;
        size = made.den_size;
        kept = λ e. absurd (false≢true (sym stays ∙ e));
        back = λ _ p. absurd (p c.if-row-step.true);
      };
    }

pub returns-clause-done : goal.returns-clause-done
returns-clause-done c = λ rows h o.
    if_done c.args.step.now rows c.args.old.now.factors.now c.write_changed.new.numbers c.args.row c.write_changed.result (sym c.stays.ensures ∙ c.if-stays.false) (c.write_changed.ensures.made rows h o) (c.write_changed.ensures.back rows h o)
