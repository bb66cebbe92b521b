use Rattle.std.proofs.Common.{ℤ, Vec, Global, ap, ◌∙◌}
use Rattle.std.proofs.lemmas.List.{take_all}
use Rattle.toml.specs.Data.{array}
use Rattle.toml.specs.View.{items_view}
use Rattle.toml.proofs.Views.{view-Array}
use Rattle.md_toml.specs.Writing.{items_from, numbers_data}
use Rattle.md_toml.proofs.PrintLaws.{items-more_of}
use Rattle.md_setting.specs.Setting.{lists_of}
use Rattle.md_toml.proofs.print.rows_value.Goals as goal

pub loop-row-preserved : goal.loop-row-preserved
loop-row-preserved c =
    ap items_view c.in_ok-push.ensures.items
    ∙ items-more_of numbers_data (λ (row : Vec ℤ Global). row.items) c.loop-row.items.items _ c.args.rows.now c.loop-row.row-index c.row-item.result c.loop-row-test.true c.loop-row.invariant
    (c.in_ok-numbers_value.ensures ∙ ap numbers_data (c.deref.ensures.value ∙ ap (λ (row : Vec ℤ Global). row.items) c.row-item.is))

pub returns : goal.returns
returns c = view-Array c.loop-row.items ∙ ap array (c.loop-row.invariant ∙ ap (λ rows. items_from numbers_data (lists_of rows)) (take_all _ _ c.loop-row-test.false))
