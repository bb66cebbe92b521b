use Rattle.std.proofs.Common.{◌<◌, sym, ◌∙◌, ap, arith, slice_index}
use Rattle.md_setting.specs.Setting.{written}
use Rattle.md_setting.specs.Meaning.{sizes_of}
use Rattle.md_setting.proofs.TestLaws.{all_below-fails}
use Rattle.md_setting.proofs.weights.has_type_weights.Goals as goal

pub returns-then-not-has_weight : goal.returns-then-not-has_weight
returns-then-not-has_weight c =
    let below : c.loop-kind.kind < slice_index (sizes_of (written c.args.raw.now)) c.args.agent =
    omega (arith, c.loop-kind-test.true, c.types-kind-end.ensures.count, ap (λ sizes. slice_index sizes c.args.agent) c.requires.sizes) in
    sym (all_below-fails _ c.loop-kind.kind _ below (sym c.has_weight.ensures ∙ c.if-not-has_weight.true))
