use Rattle.std.proofs.Common.{◌≡◌, ◌+◌, ◌*◌, ◌^◌, ℕ, ℤ, arith, subst, refl, le_refl}
use Rattle.md_math.specs.Sums.{sum_to}
use Rattle.md_space.specs.Profiles.{profile_count}
use Rattle.md_setting.specs.Meaning.{agent_count, sizes_of}
use Rattle.md_mech.proofs.UtilityLaws.{agents_are}
use Rattle.md_forms.specs.Terms.{AddsTerms}
use Rattle.md_forms.proofs.TermLaws.{adds-as, adds-next, block-fits}
use Rattle.md_require.specs.Named.{named}
use Rattle.md_require.specs.Parts.{part_in}
use Rattle.md_require.proofs.terms.push_parts.Goals as goal

pub loop-agent-preserved : goal.loop-agent-preserved
loop-agent-preserved c =
    let s = c.args.setting.now in
    let i = c.loop-agent.agent in
    let n = profile_count (sizes_of s) in
    let base = c.args.first + i * n in
    let f : (ℕ → ℤ) → ℕ → ℤ = part_in s c.args.scaled.now.scale (named s c.args.scaled.now.amount) c.args.first in
    let next = adds-next (2 ^ 44) c.args.first base base (base + n) i f c.args.terms.now.items c.loop-agent.terms.items c.push_part_of.new.terms.items
    c.loop-agent.invariant c.in_ok-push_part_of.ensures (le_refl base) in
    adds-as (2 ^ 44) c.args.first (base + n) c.args.first (c.args.first + (i + 1) * n) (λ x. sum_to (i + 1) (f x)) (λ x. sum_to (i + 1) (f x)) c.args.terms.now.items c.push_part_of.new.terms.items
    next (le_refl c.args.first) (omega (arith, block-fits i (i + 1) n (omega arith))) (λ x. refl)

pub returns : goal.returns
returns c =
    let s = c.args.setting.now in
    let count : c.agents-agent-end.result ≡ agent_count s = agents_are s c.agents-agent-end.result _ c.agents-agent-end.ensures.count c.space.ensures.sizes in
    let end : c.loop-agent.agent ≡ agent_count s = omega (arith, count) in
    subst (λ k. AddsTerms (2 ^ 44) c.args.first (c.args.first + k * profile_count (sizes_of s)) (λ x. sum_to k (part_in s c.args.scaled.now.scale (named s c.args.scaled.now.amount) c.args.first x)) c.args.terms.now.items c.loop-agent.terms.items) end c.loop-agent.invariant
