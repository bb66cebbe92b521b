use Rattle.std.proofs.Common.{◌≡◌, ◌+◌, ◌*◌, ◌^◌, ◌*ℤ◌, ap, subst, arith}
use Rattle.md_math.specs.Sums.{sum_to}
use Rattle.md_math.proofs.Bits.{read_result}
use Rattle.md_setting.specs.Meaning.{outcome_count}
use Rattle.md_forms.specs.Terms.{AddsTerms}
use Rattle.md_forms.proofs.TermLaws.{adds-place}
use Rattle.md_require.specs.Named.{named}
use Rattle.md_require.specs.Parts.{chance_part}
use Rattle.md_require.proofs.terms.push_lottery.Goals as goal

pub loop-outcome-preserved : goal.loop-outcome-preserved
loop-outcome-preserved c =
    let s = c.args.setting.now in
    let base = c.args.rank * outcome_count s in
    let f = rw (read_result c.scaled_chance-value.result c.scaled_chance-value.type_inv, c.outcomes.ensures.count) at c.in_ok-push_part.ensures in
    adds-place (2 ^ 44) base base c.loop-outcome.outcome
    (λ x o. (c.args.scaled.now.scale *ℤ chance_part s (named s c.args.scaled.now.amount) c.args.rank o) *ℤ x (base + o)) c.scaled_chance-value.result
    c.args.terms.now.items c.loop-outcome.terms.items c.push_part.new.terms.items c.loop-outcome.invariant (f (2 ^ 44) c.scaled_chance-value.ensures.size)
    (λ x. ap (λ z. z *ℤ x (base + c.loop-outcome.outcome)) c.scaled_chance-value.ensures.value)

pub returns : goal.returns
returns c =
    let s = c.args.setting.now in
    let base = c.args.rank * outcome_count s in
    let end : c.loop-outcome.outcome ≡ outcome_count s = omega (arith, c.outcomes-outcome-end.ensures.count) in
    subst (λ n. AddsTerms (2 ^ 44) base (base + n) (λ x. sum_to n (λ o. (c.args.scaled.now.scale *ℤ chance_part s (named s c.args.scaled.now.amount) c.args.rank o) *ℤ x (base + o))) c.args.terms.now.items c.loop-outcome.terms.items) end c.loop-outcome.invariant
