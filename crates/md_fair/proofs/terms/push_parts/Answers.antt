use Rattle.std.proofs.Common.{◌≡◌, ◌+◌, ◌*◌, ◌^◌, ◌*ℤ◌, ap, ◌∙◌, subst, sym, arith, refl, to_z, of_z, le_refl}
use mir.Syntax.{w128}
use Rattle.std.proofs.lemmas.Int.{to_z-of_z}
use Rattle.md_math.specs.Sizes.{IsWithin}
use Rattle.md_math.specs.Sums.{sum_to}
use Rattle.md_math.proofs.Bits.{read_result}
use Rattle.md_math.proofs.SizeLaws.{IsWithin-wider, IsWithin-*ℤ}
use Rattle.md_setting.specs.Meaning.{agent_count, sizes_of, weight_of}
use Rattle.md_space.specs.Profiles.{profile_at, profile_count}
use Rattle.md_forms.specs.Terms.{AddsTerms}
use Rattle.md_forms.proofs.TermLaws.{adds-as, adds-place, block-fits}
use Rattle.md_fair.specs.Terms.{part_paid}
use Rattle.md_fair.proofs.terms.push_parts.Goals as goal

pub loop-rank-preserved : goal.loop-rank-preserved
loop-rank-preserved c =
    let s = c.args.setting.now in
    let r = c.loop-rank.rank in
    let n = profile_count (sizes_of s) in
    let base = c.args.first + c.args.agent * n in
    let count : c.profiles.result ≡ n = c.profiles.ensures.count ∙ ap profile_count c.space.ensures.sizes in
    let sign : to_z w128 (of_z w128 c.args.sign) ≡ c.args.sign = to_z-of_z w128 c.args.sign c.ranges.sign in
    let w = weight_of s (profile_at (sizes_of s) r) in
    let e = rw (sign, read_result c.weight.result c.weight.type_inv) at c.product.ensures.value in
    let value : c.product.result ≡ c.args.sign *ℤ w = e ∙ ap (λ z. c.args.sign *ℤ z) c.weight.ensures.value in
    let size : IsWithin (2 ^ 44) c.product.result =
    subst (IsWithin (2 ^ 44)) (sym e) (IsWithin-wider (1 * 1000000) (2 ^ 44) (c.args.sign *ℤ c.weight.result) (omega arith) (IsWithin-*ℤ 1 1000000 c.args.sign c.weight.result c.requires.sign c.weight.ensures.size)) in
    let f = rw (read_result c.product.result c.product.type_inv, count, c.from.ensures) at c.in_ok-push_term.ensures.ok in
    rw sign
    (adds-place (2 ^ 44) c.args.first base r (part_paid s c.args.agent c.args.first c.args.sign) c.product.result
    c.args.terms.now.items c.loop-rank.terms.items c.push_term.new.terms.items (rw sign at c.loop-rank.invariant) (f (2 ^ 44) size)
    (λ x. ap (λ z. z *ℤ x (base + r)) value))

pub returns : goal.returns
returns c =
    let s = c.args.setting.now in
    let n = profile_count (sizes_of s) in
    let base = c.args.first + c.args.agent * n in
    let sign : to_z w128 (of_z w128 c.args.sign) ≡ c.args.sign = to_z-of_z w128 c.args.sign c.ranges.sign in
    let count : c.profiles-rank-end.result ≡ n = c.profiles-rank-end.ensures.count ∙ ap profile_count c.space-2.ensures.sizes in
    let end : c.loop-rank.rank ≡ n = omega (arith, count) in
    let fits = block-fits c.args.agent (agent_count s) n c.requires.agent_in in
    adds-as (2 ^ 44) c.args.first (base + n) c.args.first (c.args.first + agent_count s * n) (λ x. sum_to n (part_paid s c.args.agent c.args.first c.args.sign x)) (λ x. sum_to n (part_paid s c.args.agent c.args.first c.args.sign x))
    c.args.terms.now.items c.loop-rank.terms.items
    (subst (λ k. AddsTerms (2 ^ 44) c.args.first (base + k) (λ x. sum_to k (part_paid s c.args.agent c.args.first c.args.sign x)) c.args.terms.now.items c.loop-rank.terms.items) end (rw sign at c.loop-rank.invariant))
    (le_refl c.args.first) (omega (arith, fits)) (λ x. refl)
