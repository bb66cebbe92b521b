use Rattle.std.proofs.Common.{pos, take, get_or, sym, ap, ◌∙◌, rules, FitsSigned}
use Rattle.std.proofs.lemmas.List.{take_more, take_all}
use Rattle.toml.specs.Data.{integer, array}
use Rattle.toml.specs.View.{items_view}
use Rattle.toml.proofs.Views.{view-Integer, view-Array}
use Rattle.md_toml.specs.Writing.{items_from}
use Rattle.md_toml.proofs.PrintLaws.{items-more}
use Rattle.std.proofs.lemmas.Int.{to_z-of_z}
use mir.Syntax.{w64}
use Rattle.md_toml.proofs.print.numbers_value.Goals as goal

pub loop-number-preserved : goal.loop-number-preserved
loop-number-preserved c =
    let numbers = c.args.numbers.now in
    let i = c.loop-number.number-index in
    let fits : FitsSigned w64 (get_or numbers i (pos 0)) = search rules in
    ap items_view c.in_ok-push.ensures.items
    ∙ items-more integer c.loop-number.items.items _ (take i numbers) (get_or numbers i (pos 0)) c.loop-number.invariant (view-Integer _ ∙ ap integer (to_z-of_z w64 _ fits))
    ∙ sym (ap (items_from integer) (take_more numbers i (pos 0) c.loop-number-test.true))

pub returns : goal.returns
returns c = view-Array c.loop-number.items ∙ ap array (c.loop-number.invariant ∙ ap (items_from integer) (take_all _ _ c.loop-number-test.false))
