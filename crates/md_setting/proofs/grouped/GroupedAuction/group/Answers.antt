use Rattle.std.proofs.Common.{◌≡◌, subst}
use Rattle.md_setting.specs.Grouped.{written_group, said_group, group_as_written, group_at}
use Rattle.md_setting.specs.GroupedShaped.{IsGroupedAuction}
use Rattle.md_setting.proofs.grouped.GroupedAuction.group.Goals as goal

pub returns-clause-said : goal.returns-clause-said
returns-clause-said c = subst (λ a. said_group (written_group c.group_in.result.now) ≡ group_at a c.args.group) c.self.view_is c.group_in.ensures.said

pub returns-clause-written : goal.returns-clause-written
returns-clause-written c = subst (λ a. written_group c.group_in.result.now ≡ group_as_written (group_at a c.args.group)) c.self.view_is c.group_in.ensures.written

pub returns-clause-shaped : goal.returns-clause-shaped
returns-clause-shaped c = subst IsGroupedAuction c.self.view_is c.self.invariant.shaped
