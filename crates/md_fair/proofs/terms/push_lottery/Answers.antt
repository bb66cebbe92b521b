use Rattle.std.proofs.Common.{◌≡◌, ◌+◌, ◌*◌, ◌^◌, ◌*ℤ◌, neg_ℤ, ap, subst, arith}
use Rattle.md_math.specs.Sums.{sum_to}
use Rattle.md_math.proofs.Bits.{read_result}
use Rattle.md_space.specs.Profiles.{profile_at}
use Rattle.md_setting.specs.Meaning.{outcome_count, sizes_of, utility_of, weight_of}
use Rattle.md_forms.specs.Terms.{AddsTerms}
use Rattle.md_forms.proofs.TermLaws.{adds-place}
use Rattle.md_fair.proofs.terms.push_lottery.Goals as goal

pub loop-outcome-preserved : goal.loop-outcome-preserved
loop-outcome-preserved c =
    let s = c.args.setting.now in
    let t = profile_at (sizes_of s) c.args.rank in
    let base = c.args.rank * outcome_count s in
    let f = rw (read_result c.lost_utility-value.result c.lost_utility-value.type_inv, c.outcomes.ensures.count) at c.in_ok-push_term.ensures.ok in
    adds-place (2 ^ 44) base base c.loop-outcome.outcome
    (λ x o. (neg_ℤ (weight_of s t) *ℤ utility_of s c.args.agent t o) *ℤ x (base + o)) c.lost_utility-value.result
    c.args.terms.now.items c.loop-outcome.terms.items c.push_term.new.terms.items c.loop-outcome.invariant (f (2 ^ 44) c.lost_utility-value.ensures.size)
    (λ x. ap (λ z. z *ℤ x (base + c.loop-outcome.outcome)) c.lost_utility-value.ensures.value)

pub returns : goal.returns
returns c =
    let s = c.args.setting.now in
    let t = profile_at (sizes_of s) c.args.rank in
    let base = c.args.rank * outcome_count s in
    let end : c.loop-outcome.outcome ≡ outcome_count s = omega (arith, c.outcomes-outcome-end.ensures.count) in
    subst (λ n. AddsTerms (2 ^ 44) base (base + n) (λ x. sum_to n (λ o. (neg_ℤ (weight_of s t) *ℤ utility_of s c.args.agent t o) *ℤ x (base + o))) c.args.terms.now.items c.loop-outcome.terms.items) end c.loop-outcome.invariant
