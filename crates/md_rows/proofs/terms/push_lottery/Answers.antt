use Rattle.std.proofs.Common.{◌≡◌, ◌+◌, ◌*◌, ◌^◌, ◌*ℤ◌, ap, sym, ◌∙◌, subst, arith, to_z, of_z, lit<}
use mir.Syntax.{w128}
use Rattle.md_setting.specs.Meaning.{outcome_count, sizes_of, utility_of}
use Rattle.md_math.specs.Sums.{sum_to}
use Rattle.md_space.specs.Profiles.{profile_at, replaced}
use Rattle.md_math.proofs.Bits.{read_result, read_within}
use Rattle.md_forms.specs.Terms.{AddsTerms}
use Rattle.md_forms.proofs.TermLaws.{adds-place}
use Rattle.md_rows.proofs.terms.push_lottery.Goals as goal

pub loop-outcome-preserved : goal.loop-outcome-preserved
loop-outcome-preserved c =
    let s = c.args.setting.now in
    let small : to_z w128 (of_z w128 c.args.share.now.value) ≡ c.args.share.now.value = read_within 1000000 c.args.share.now.value c.requires.small (lit< tt) in
    let truth : profile_at (sizes_of s) c.replace-truth.result ≡ replaced (profile_at (sizes_of s) c.args.share.now.column) c.args.agent c.args.kind =
    ap (λ sizes. profile_at sizes c.replace-truth.result) (sym c.space.ensures.sizes) ∙ c.replace-truth.ensures.profile ∙ ap (λ sizes. replaced (profile_at sizes c.args.share.now.column) c.args.agent c.args.kind) c.space.ensures.sizes in
    let value = rw truth at (rw small at c.scaled_utility-value.ensures.value) in
    let f = rw (read_result c.scaled_utility-value.result c.scaled_utility-value.type_inv, c.outcomes.ensures.count) at c.in_ok-push_term.ensures.ok in
    adds-place (2 ^ 44) (c.args.share.now.column * outcome_count s) (c.args.share.now.column * outcome_count s) c.loop-outcome.outcome
    (λ x o. (c.args.share.now.value *ℤ utility_of s c.args.agent (replaced (profile_at (sizes_of s) c.args.share.now.column) c.args.agent c.args.kind) o) *ℤ x (c.args.share.now.column * outcome_count s + o)) c.scaled_utility-value.result
    c.args.terms.now.items c.loop-outcome.terms.items c.push_term.new.terms.items c.loop-outcome.invariant (f (2 ^ 44) c.scaled_utility-value.ensures.size)
    (λ x. ap (λ z. z *ℤ x (c.args.share.now.column * outcome_count s + c.loop-outcome.outcome)) value)

pub returns : goal.returns
returns c =
    let s = c.args.setting.now in
    let end : c.loop-outcome.outcome ≡ outcome_count s = omega (arith, c.outcomes-outcome-end.ensures.count) in
    subst (λ n. AddsTerms (2 ^ 44) (c.args.share.now.column * outcome_count s) (c.args.share.now.column * outcome_count s + n)
    (λ x. sum_to n (λ o. (c.args.share.now.value *ℤ utility_of s c.args.agent (replaced (profile_at (sizes_of s) c.args.share.now.column) c.args.agent c.args.kind) o) *ℤ x (c.args.share.now.column * outcome_count s + o))) c.args.terms.now.items c.loop-outcome.terms.items) end c.loop-outcome.invariant
