use Rattle.std.proofs.Common.{map, ap, ◌∙◌}
use Rattle.std.proofs.lemmas.List.{take_all}
use Rattle.toml.specs.Data.{array, table}
use Rattle.toml.specs.View.{items_view}
use Rattle.toml.proofs.Views.{view-Array, view-Table}
use Rattle.md_setting.specs.Grouped.{written_group}
use Rattle.md_toml.specs.Writing.{items_from, group_table}
use Rattle.md_toml.proofs.PrintLaws.{items-more_of}
use Rattle.md_toml.proofs.write.groups_value.Goals as goal

pub loop-group-preserved : goal.loop-group-preserved
loop-group-preserved c =
    ap items_view c.in_ok-push.ensures.items
    ∙ items-more_of (λ group. table (group_table group)) written_group c.loop-group.tables.items _ c.args.groups.now c.loop-group.group-index c.group-item.result c.loop-group-test.true c.loop-group.invariant
    (view-Table c.in_ok-group_table.field-0 ∙ ap table (c.in_ok-group_table.ensures ∙ ap (λ group. group_table (written_group group)) c.group-item.is))

pub returns : goal.returns
returns c =
    view-Array c.loop-group.tables ∙ ap array (c.loop-group.invariant ∙ ap (λ groups. items_from (λ group. table (group_table group)) (map written_group groups)) (take_all _ _ c.loop-group-test.false))
