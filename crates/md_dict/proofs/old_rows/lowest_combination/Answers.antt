use Rattle.std.proofs.Common.{◌+◌, ◌*◌, ◌^◌, sym, subst}
use Rattle.md_math.specs.Sizes.{IsWithin}
use Rattle.md_math.proofs.SizeLaws.{AllWithin-number_at}
use Rattle.md_dict.proofs.RowLaws.{within_by_share}
use Rattle.md_dict.proofs.RowSteps.{leaving_within, multiplier_positive}
use Rattle.md_dict.proofs.LeastRows.{IsCombinationOf-lowered}
use Rattle.md_dict.proofs.old_rows.lowest_combination.Goals as goal

pub lowered-requires-clause-multiplier : goal.lowered-requires-clause-multiplier
lowered-requires-clause-multiplier c =
    let (rows, h) = c.requires.old in
    let is = c.combination.ensures rows h in
    within_by_share (2 ^ 62) is.common c.combination.result.multiplier (subst (IsWithin (2 ^ 62)) (sym is.multiplier) (AllWithin-number_at (2 ^ 62) rows.numbers.items (c.args.step.now.row * rows.width + c.args.step.now.place) h.step_is.table.numbers_size)) is.positive

pub lowered-requires-clause-positive : goal.lowered-requires-clause-positive
lowered-requires-clause-positive c =
    let (rows, h) = c.requires.old in
    multiplier_positive c.args.step.now rows c.args.row c.combination.result h.step_is (c.combination.ensures rows h)

pub lowered-requires-clause-factor : goal.lowered-requires-clause-factor
lowered-requires-clause-factor c =
    let (rows, h) = c.requires.old in
    let is = c.combination.ensures rows h in
    within_by_share (2 ^ 62) is.common c.combination.result.factor (subst (IsWithin (2 ^ 62)) (sym is.factor) (AllWithin-number_at (2 ^ 62) rows.numbers.items (c.args.row * rows.width + c.args.step.now.place) h.step_is.table.numbers_size)) is.positive

pub lowered-requires-clause-leaving : goal.lowered-requires-clause-leaving
lowered-requires-clause-leaving c =
    let (rows, h) = c.requires.old in
    leaving_within c.args.step.now rows c.args.row c.combination.result h.step_is (c.combination.ensures rows h)

pub returns : goal.returns
returns c = λ rows h. IsCombinationOf-lowered c.args.step.now rows c.args.row c.combination.result c.lowered.result (c.combination.ensures rows h) c.lowered.ensures
