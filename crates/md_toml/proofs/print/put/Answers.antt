use Rattle.std.proofs.Common.{ap, ◌∙◌}
use Rattle.toml.specs.View.{members_view, view}
use Rattle.md_toml.specs.Writing.{put_member}
use Rattle.md_toml.proofs.PrintLaws.{members_view-insert}
use Rattle.md_toml.proofs.print.put.Goals as goal

pub returns : goal.returns
returns c =
    ap members_view c.in_ok-insert.ensures.entries
    ∙ members_view-insert c.args.members.now.entries c.in_ok-name.name c.args.value
    ∙ ap (λ name. put_member name (view c.args.value) (members_view c.args.members.now.entries)) (c.in_ok-name.ensures.ok ∙ c.member.ensures)
