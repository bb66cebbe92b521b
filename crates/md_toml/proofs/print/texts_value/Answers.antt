use Rattle.std.proofs.Common.{ap, ◌∙◌, string_bytes}
use Rattle.std.proofs.lemmas.List.{take_all}
use Rattle.toml.specs.Data.{string, array}
use Rattle.toml.specs.View.{items_view}
use Rattle.toml.proofs.Views.{view-Array}
use Rattle.md_toml.specs.Writing.{items_from}
use Rattle.md_toml.proofs.PrintLaws.{items-more_of}
use Rattle.md_setting.specs.Setting.{names_of}
use Rattle.md_toml.proofs.print.texts_value.Goals as goal

pub loop-text-preserved : goal.loop-text-preserved
loop-text-preserved c =
    ap items_view c.in_ok-push.ensures.items
    ∙ items-more_of string string_bytes c.loop-text.items.items _ c.args.texts.now c.loop-text.text-index c.text-item.result c.loop-text-test.true c.loop-text.invariant
    (c.in_ok-string.ensures ∙ ap string (c.as_str.ensures.value ∙ ap string_bytes c.text-item.is))

pub returns : goal.returns
returns c = view-Array c.loop-text.items ∙ ap array (c.loop-text.invariant ∙ ap (λ texts. items_from string (names_of texts)) (take_all _ _ c.loop-text-test.false))
