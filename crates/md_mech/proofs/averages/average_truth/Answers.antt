use Rattle.std.proofs.Common.{◌∙◌}
use Rattle.md_math.proofs.Bits.{read_result}
use Rattle.md_mech.proofs.AverageLaws.{truth-is}
use Rattle.md_mech.proofs.averages.average_truth.Goals as goal

pub returns : goal.returns
returns c = record {
  value = read_result c.average.result c.average.type_inv ∙ c.average.ensures.value
      ∙ truth-is c.args.setting.now c.args.mechanism.now c.args.agent c.args.kind;
}
