use Rattle.std.proofs.Common.{◌≡◌, ◌+◌, ◌*◌, ◌^◌, ap, ◌∙◌, subst, arith, refl, to_z, of_z, le_refl}
use mir.Syntax.{w128}
use Rattle.std.proofs.lemmas.Int.{to_z-of_z}
use Rattle.md_math.specs.Sizes.{IsWithin}
use Rattle.md_math.proofs.SizeLaws.{IsWithin-wider}
use Rattle.md_setting.specs.Meaning.{agent_count, sizes_of}
use Rattle.md_space.specs.Profiles.{profile_count}
use Rattle.md_math.specs.Sums.{sum_to}
use Rattle.md_mech.proofs.UtilityLaws.{agents_are}
use Rattle.md_forms.specs.Terms.{AddsTerms}
use Rattle.md_forms.proofs.TermLaws.{adds-as, adds-next, block-fits}
use Rattle.md_rows.specs.Terms.{part_of_all}
use Rattle.md_rows.proofs.terms.push_part_of_all.Goals as goal

pub loop-agent-preserved : goal.loop-agent-preserved
loop-agent-preserved c =
    let s = c.args.setting.now in
    let i = c.loop-agent.agent in
    let n = profile_count (sizes_of s) in
    let count : c.profiles-profiles.result ≡ profile_count (sizes_of s) = c.profiles-profiles.ensures.count ∙ ap profile_count c.space.ensures.sizes in
    let sign : to_z w128 (of_z w128 c.args.sign) ≡ c.args.sign = to_z-of_z w128 c.args.sign c.ranges.sign in
    let f = rw (sign, count, c.from.ensures) at c.in_ok-push_term.ensures.ok in
    let size : IsWithin (2 ^ 44) c.args.sign = IsWithin-wider 1 (2 ^ 44) c.args.sign (omega arith) c.requires.sign in
    let next = adds-next (2 ^ 44) c.args.first (c.args.first + i * n) (c.args.first + (i * n + c.args.rank)) (c.args.first + (i * n + c.args.rank) + 1) i (part_of_all s c.args.first c.args.rank c.args.sign)
    c.args.terms.now.items c.loop-agent.terms.items c.push_term.new.terms.items (rw sign at c.loop-agent.invariant) (f (2 ^ 44) size) (omega arith) in
    let fits = block-fits i (i + 1) n (omega arith) in
    rw sign
    (adds-as (2 ^ 44) c.args.first (c.args.first + (i * n + c.args.rank) + 1) c.args.first (c.args.first + (i + 1) * n) (λ x. sum_to (i + 1) (part_of_all s c.args.first c.args.rank c.args.sign x)) (λ x. sum_to (i + 1) (part_of_all s c.args.first c.args.rank c.args.sign x))
    c.args.terms.now.items c.push_term.new.terms.items next (le_refl c.args.first) (omega (arith, fits, c.requires.rank_in)) (λ x. refl))

pub returns : goal.returns
returns c =
    let s = c.args.setting.now in
    let sign : to_z w128 (of_z w128 c.args.sign) ≡ c.args.sign = to_z-of_z w128 c.args.sign c.ranges.sign in
    let count : c.agents-agent-end.result ≡ agent_count s = agents_are s c.agents-agent-end.result _ c.agents-agent-end.ensures.count c.space-2.ensures.sizes in
    let end : c.loop-agent.agent ≡ agent_count s = omega (arith, count) in
    subst (λ n. AddsTerms (2 ^ 44) c.args.first (c.args.first + n * profile_count (sizes_of s)) (λ x. sum_to n (part_of_all s c.args.first c.args.rank c.args.sign x)) c.args.terms.now.items c.loop-agent.terms.items) end (rw sign at c.loop-agent.invariant)
