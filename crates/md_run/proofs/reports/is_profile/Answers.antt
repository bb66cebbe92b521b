use Rattle.std.proofs.Common.{◌≡◌, arith, sym, ◌∙◌, refl, length, subst}
use Rattle.std.specs.Prelude.{slice_index, ◌<◌}
use Rattle.md_math.specs.FirstFailure.{HoldsBelow}
use Rattle.md_space.proofs.Ranks.{length-IsProfile}
use Rattle.md_mech.proofs.WholeLaws.{not_both}
use Rattle.md_run.proofs.ReportLaws.{profile-from_reports}
use Rattle.md_run.proofs.reports.is_profile.Goals as goal

pub returns-then-not-has_length : goal.returns-then-not-has_length
returns-then-not-has_length c = (
  λ h. not_both h,
  λ p. not_both (c.if-not-has_length.ensures.1 (length-IsProfile c.args.space.now c.args.reports.now p ∙ sym (c.from.ensures ∙ c.agents.ensures.count))),
)

pub returns : goal.returns
returns c =
    let end : c.loop-agent.agent ≡ length c.args.space.now = omega (arith, c.loop-agent-test.false, c.loop-agent.auto.agent-end, c.agents-agent-end.ensures.count) in (
      λ h. profile-from_reports c.args.space.now c.args.reports.now (c.if-not-has_length.ensures.0 refl ∙ c.from.ensures ∙ c.agents.ensures.count)
          (subst (λ n. HoldsBelow n (λ i. slice_index c.args.reports.now i < slice_index c.args.space.now i)) end c.loop-agent.invariant),
      λ p. refl,
    )
