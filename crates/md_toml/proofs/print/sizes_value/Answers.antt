use Rattle.std.proofs.Common.{pos, map, get_or, ap, ◌∙◌, arith}
use Rattle.std.proofs.lemmas.List.{take_all}
use Rattle.toml.specs.Data.{integer, array}
use Rattle.toml.specs.View.{items_view}
use Rattle.toml.proofs.Views.{view-Integer, view-Array}
use Rattle.md_toml.specs.Writing.{items_from}
use Rattle.md_toml.proofs.PrintLaws.{items-more_of}
use Rattle.std.proofs.lemmas.Int.{to_z_pos}
use mir.Syntax.{w64}
use Rattle.md_toml.proofs.print.sizes_value.Goals as goal

pub loop-size-preserved : goal.loop-size-preserved
loop-size-preserved c =
    ap items_view c.in_ok-push.ensures.items
    ∙ items-more_of integer (λ n. pos n) c.loop-size.items.items _ c.args.sizes.now c.loop-size.size-index 0 c.loop-size-test.true c.loop-size.invariant
    (view-Integer _ ∙ ap integer (to_z_pos w64 (get_or c.args.sizes.now c.loop-size.size-index 0) (omega (arith, c.requires c.loop-size.size-index c.loop-size-test.true))))

pub returns : goal.returns
returns c = view-Array c.loop-size.items ∙ ap array (c.loop-size.invariant ∙ ap (λ sizes. items_from integer (map (λ n. pos n) sizes)) (take_all _ _ c.loop-size-test.false))
