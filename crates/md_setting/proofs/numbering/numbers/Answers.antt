use Rattle.std.proofs.Common.{ap, ◌∙◌, string_bytes, map, arith}
use Rattle.md_setting.proofs.NumberLaws.{numbered_more, numbered_all}
use Rattle.md_setting.proofs.numbering.numbers.Goals as goal

pub loop-text-preserved : goal.loop-text-preserved
loop-text-preserved c =
    ap (map string_bytes) c.in_ok-insert.ensures.keys
    ∙ numbered_more string_bytes c.args.texts.now c.loop-text.text-index c.text-item.result c.loop-text.set.keys c.in_ok-from_str.field-0 c.loop-text-test.true c.requires c.loop-text.invariant
    (c.in_ok-from_str.ensures.ok ∙ c.as_str.ensures.value ∙ ap string_bytes c.text-item.is)

pub returns : goal.returns
returns c = numbered_all string_bytes c.args.texts.now c.loop-text.text-index c.loop-text.set.keys (omega arith) c.loop-text.invariant
