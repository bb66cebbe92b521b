use Rattle.std.proofs.Common.{◌≡◌, [], ◌∷◌, ◌++◌, map, ap, ap₂, ◌∙◌}
use Rattle.md_setting.specs.Setting.{written_agent}
use Rattle.md_gen.proofs.general.agents.Goals as goal

pub returns : goal.returns
returns c =
    let first : c.push.new.self.items ≡ c.in_ok-agent.field-0 ∷ [] = c.in_ok-push.ensures.items ∙ ap (λ xs. xs ++ c.in_ok-agent.field-0 ∷ []) c.new-agents.ensures.items in
    let both : c.push-2.new.self.items ≡ c.in_ok-agent.field-0 ∷ c.in_ok-agent-2.field-0 ∷ [] = c.in_ok-push-2.ensures.items ∙ ap (λ xs. xs ++ c.in_ok-agent-2.field-0 ∷ []) first in
    ap (map written_agent) both ∙ ap₂ (λ x y. x ∷ y ∷ []) c.in_ok-agent.ensures c.in_ok-agent-2.ensures
