use Rattle.md_cli_tell.proofs.Profiles.{type-named}
use Rattle.md_cli_tell.proofs.profile.type_of.Goals as goal

pub returns : goal.returns
returns c = type-named c.args.setting.now c.args.agent c.args.name.now c.type_of.result c.requires c.type_of.ensures.found c.type_of.ensures.none
