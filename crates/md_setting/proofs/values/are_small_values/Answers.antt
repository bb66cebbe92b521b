use Rattle.std.proofs.Common.{◌<◌, sym, ◌∙◌, ap, arith, string_bytes}
use Rattle.std.proofs.lemmas.List.{length-map}
use Rattle.md_math.proofs.Bits.{read_result}
use Rattle.md_setting.specs.Setting.{written}
use Rattle.md_setting.specs.Meaning.{outcome_count}
use Rattle.md_setting.specs.Refusals.{is_small}
use Rattle.md_setting.proofs.TestLaws.{all_below-fails}
use Rattle.md_setting.proofs.values.are_small_values.Goals as goal

pub returns-then-not-is_small : goal.returns-then-not-is_small
returns-then-not-is_small c =
    let below : c.loop-outcome.outcome < outcome_count (written c.args.raw.now) =
    omega (arith, c.loop-outcome-test.true, c.len-outcome-end.ensures, length-map c.args.raw.now.outcomes.items string_bytes) in
    sym (all_below-fails _ c.loop-outcome.outcome _ below
    (ap (is_small 10000000) (sym c.value_in.ensures ∙ sym (read_result c.value_in.result c.value_in.type_inv)) ∙ sym c.is_small.ensures ∙ c.if-not-is_small.true))
