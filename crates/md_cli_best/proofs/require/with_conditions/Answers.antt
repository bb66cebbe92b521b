use Rattle.std.proofs.Common.{ap, ◌∙◌}
use Rattle.md_cli_best.specs.Requiring.{with_conditions}
use Rattle.md_cli_best.proofs.require.with_conditions.Goals as goal

pub returns : goal.returns
returns c = c.new.ensures ∙ ap (λ list. with_conditions list c.args.finding c.args.shadows.items) (c.in_ok-list.ensures.items_if_clones_equal (λ x y same. same))
