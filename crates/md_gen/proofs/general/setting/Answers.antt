use Rattle.std.proofs.Common.{ap, ◌∙◌}
use Rattle.md_setting.specs.Refusals.{refusal_of}
use Rattle.md_gen.proofs.SettingAccepted.{setting-accepted}
use Rattle.md_gen.proofs.MadeLaws.{only_memory}
use Rattle.md_gen.proofs.general.setting.Goals as goal

pub out_of_memory-requires : goal.out_of_memory-requires
out_of_memory-requires c =
    only_memory _ c.in-Err.refusal c.in-Err.ensures.refused (ap refusal_of c.in_ok-raw_setting.ensures ∙ setting-accepted c.args.number)

pub returns-in-Ok : goal.returns-in-Ok
returns-in-Ok c = c.in-Ok.ensures.ok ∙ c.in_ok-raw_setting.ensures
