use Rattle.std.proofs.Common.{ap, ◌∙◌}
use Rattle.md_setting.specs.Grouped.{grouped_of}
use Rattle.md_setting.specs.GroupedRefusals.{grouped_refusal_of}
use Rattle.md_bidders.proofs.GroupsAccepted.{groups-accepted, only_memory, said-back}
use Rattle.md_bidders.proofs.symmetric.as_groups.Goals as goal

pub out_of_memory-requires : goal.out_of_memory-requires
out_of_memory-requires c =
    only_memory _ _ (ap grouped_refusal_of c.in_ok-raw.ensures ∙ groups-accepted c.args.auction.now c.kinds-shaped.ensures.shaped c.args.units c.requires.0 c.requires.1) c.in-Err.ensures.refused

pub returns-in-Ok : goal.returns-in-Ok
returns-in-Ok c = c.in-Ok.ensures.ok ∙ ap grouped_of c.in_ok-raw.ensures ∙ said-back c.args.auction.now c.args.units
