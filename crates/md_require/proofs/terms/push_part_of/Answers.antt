use Rattle.std.proofs.Common.{◌≡◌, ◌+◌, ◌*◌, ◌^◌, ◌*ℤ◌, ap, ◌∙◌, subst, arith}
use Rattle.md_math.specs.Sums.{sum_to}
use Rattle.md_math.proofs.Bits.{read_result}
use Rattle.md_setting.specs.Meaning.{sizes_of}
use Rattle.md_space.specs.Profiles.{profile_count}
use Rattle.md_forms.specs.Terms.{AddsTerms}
use Rattle.md_forms.proofs.TermLaws.{adds-place}
use Rattle.md_require.specs.Named.{named}
use Rattle.md_require.specs.Parts.{pay_part}
use Rattle.md_require.proofs.terms.push_part_of.Goals as goal

pub loop-rank-preserved : goal.loop-rank-preserved
loop-rank-preserved c =
    let s = c.args.setting.now in
    let r = c.loop-rank.rank in
    let base = c.args.first + c.args.agent * profile_count (sizes_of s) in
    let count : c.profiles.result ≡ profile_count (sizes_of s) = c.profiles.ensures.count ∙ ap profile_count c.space.ensures.sizes in
    let f = rw (read_result c.scaled_pay-value.result c.scaled_pay-value.type_inv, count, c.from.ensures) at c.in_ok-push_part.ensures in
    adds-place (2 ^ 44) base base r
    (λ x q. (c.args.scaled.now.scale *ℤ pay_part s (named s c.args.scaled.now.amount) q c.args.agent) *ℤ x (base + q)) c.scaled_pay-value.result
    c.args.terms.now.items c.loop-rank.terms.items c.push_part.new.terms.items c.loop-rank.invariant (f (2 ^ 44) c.scaled_pay-value.ensures.size)
    (λ x. ap (λ z. z *ℤ x (base + r)) c.scaled_pay-value.ensures.value)

pub returns : goal.returns
returns c =
    let s = c.args.setting.now in
    let n = profile_count (sizes_of s) in
    let base = c.args.first + c.args.agent * n in
    let count : c.profiles-rank-end.result ≡ n = c.profiles-rank-end.ensures.count ∙ ap profile_count c.space-2.ensures.sizes in
    let end : c.loop-rank.rank ≡ n = omega (arith, count) in
    subst (λ k. AddsTerms (2 ^ 44) base (base + k) (λ x. sum_to k (λ r. (c.args.scaled.now.scale *ℤ pay_part s (named s c.args.scaled.now.amount) r c.args.agent) *ℤ x (base + r))) c.args.terms.now.items c.loop-rank.terms.items) end c.loop-rank.invariant
