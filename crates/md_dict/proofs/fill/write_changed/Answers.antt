use Rattle.std.proofs.Common.{◌∙◌}
use Rattle.md_dict.proofs.OldRows.{if_none, own_of_copy}
use Rattle.md_dict.proofs.fill.write_changed.Goals as goal

pub combine-least-requires-clause-old : goal.combine-least-requires-clause-old
combine-least-requires-clause-old c =
    let (rows, h, o) = c.requires.old in
    (rows, h, own_of_copy c.args.step.now rows c.args.numbers.now c.copy_row.new.own c.args.row h.step_is o c.requires.row c.copy_row.ensures.length c.copy_row.ensures.copied)

pub returns-then-is_none-clause-wide : goal.returns-then-is_none-clause-wide
returns-then-is_none-clause-wide c = λ rows h o. c.combine-least.ensures.wide rows h (own_of_copy c.args.step.now rows c.args.numbers.now c.copy_row.new.own c.args.row h.step_is o c.requires.row c.copy_row.ensures.length c.copy_row.ensures.copied)

pub returns-then-is_none-clause-stays : goal.returns-then-is_none-clause-stays
returns-then-is_none-clause-stays c = if_none c.combine-least.result (λ s b. c.put_row.ensures.put s b ∙ c.copy_row.ensures.copied s b)

pub returns-else-is_none-clause-made : goal.returns-else-is_none-clause-made
returns-else-is_none-clause-made c = λ rows h o. c.combine-least.ensures.made rows h (own_of_copy c.args.step.now rows c.args.numbers.now c.copy_row.new.own c.args.row h.step_is o c.requires.row c.copy_row.ensures.length c.copy_row.ensures.copied)

pub returns-else-is_none-clause-back : goal.returns-else-is_none-clause-back
returns-else-is_none-clause-back c = λ rows h o. c.combine-least.ensures.back rows h (own_of_copy c.args.step.now rows c.args.numbers.now c.copy_row.new.own c.args.row h.step_is o c.requires.row c.copy_row.ensures.length c.copy_row.ensures.copied)
