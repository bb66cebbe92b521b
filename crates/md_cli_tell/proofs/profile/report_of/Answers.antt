use Rattle.md_cli_tell.proofs.Profiles.{agent-in, value-named}
use Rattle.md_cli_tell.proofs.profile.report_of.Goals as goal

pub type_of-requires : goal.type_of-requires
type_of-requires c = agent-in c.in-General.setting c.args.agent (rw c.in-General.is at c.requires)

pub returns-in-General : goal.returns-in-General
returns-in-General c = rw c.in-General.is c.type_of.ensures

pub returns-in-Auction : goal.returns-in-Auction
returns-in-Auction c =
    rw c.in-Auction.is
    (value-named c.in-Auction.auction c.args.agent c.args.name.now c.value_of.result (rw c.in-Auction.is at c.requires) c.value_of.ensures)
