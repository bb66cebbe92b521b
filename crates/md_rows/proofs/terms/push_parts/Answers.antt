use Rattle.std.proofs.Common.{◌≡◌, ◌+◌, ◌*◌, ◌^◌, ◌*ℤ◌, take, get_or, ap, sym, ◌∙◌, subst, arith, refl, to_z, of_z, lit<}
use mir.Syntax.{w128}
use Rattle.std.proofs.lemmas.Int.{to_z-of_z}
use Rattle.md_math.specs.Sizes.{IsWithin}
use Rattle.md_math.proofs.SizeLaws.{IsWithin-wider, IsWithin-*ℤ}
use Rattle.md_math.proofs.Bits.{read_result, read_within}
use Rattle.md_setting.specs.Meaning.{agent_count, sizes_of}
use Rattle.md_space.specs.Profiles.{profile_count}
use Rattle.md_math.specs.Sums.{total_by}
use Rattle.md_lp.specs.declared.term.Term.{Term}
use Rattle.md_lp.proofs.SparseRows.{no_term}
use Rattle.md_forms.proofs.TermLaws.{adds-as, AddsShares, shares-more, block-fits}
use Rattle.md_rows.specs.Terms.{part_at}
use Rattle.std.proofs.lemmas.List.{take_more, take_all}
use Rattle.md_rows.proofs.terms.push_parts.Goals as goal

pub loop-share-preserved : goal.loop-share-preserved
loop-share-preserved c =
    let s = c.args.setting.now in
    let k = c.loop-share.share-index in
    let share : Term = get_or c.args.shares.now k no_term in
    let base = c.args.first + c.args.agent * profile_count (sizes_of s) in
    let count : c.profiles.result ≡ profile_count (sizes_of s) = c.profiles.ensures.count ∙ ap profile_count c.space.ensures.sizes in
    let small : IsWithin 1000000 share.value = c.requires.shares.sizes k no_term c.loop-share-test.true in
    let sign : to_z w128 (of_z w128 c.args.sign) ≡ c.args.sign = to_z-of_z w128 c.args.sign c.ranges.sign in
    let value = rw (sign, read_within 1000000 share.value small (lit< tt)) at c.product.ensures.value in
    let size : IsWithin (2 ^ 44) c.product.result = subst (IsWithin (2 ^ 44)) (sym value) (IsWithin-wider (1 * 1000000) (2 ^ 44) (c.args.sign *ℤ share.value) (omega arith) (IsWithin-*ℤ 1 1000000 c.args.sign share.value c.requires.sign small)) in
    let f = rw (read_result c.product.result c.product.type_inv, count, c.from.ensures) at c.in_ok-push_term.ensures.ok in
    rw sign
    (subst (λ shares. AddsShares 1000000 (2 ^ 44) base 1 (part_at base c.args.sign) shares c.args.terms.now.items c.push_term.new.terms.items) (sym (take_more c.args.shares.now k no_term c.loop-share-test.true))
    (shares-more 1000000 (2 ^ 44) base 1 (part_at base c.args.sign) (take k c.args.shares.now) c.args.terms.now.items c.loop-share.terms.items c.push_term.new.terms.items share (rw sign at c.loop-share.invariant)
    (adds-as (2 ^ 44) (base + share.column) (base + share.column + 1) (base + share.column * 1) (base + share.column * 1 + 1)
    (λ x. c.product.result *ℤ x (base + share.column)) (λ x. part_at base c.args.sign x share) c.loop-share.terms.items c.push_term.new.terms.items (f (2 ^ 44) size) (omega arith) (omega arith)
    (λ x. ap (λ z. z *ℤ x (base + share.column)) value))))

pub returns : goal.returns
returns c =
    let s = c.args.setting.now in
    let base = c.args.first + c.args.agent * profile_count (sizes_of s) in
    let sign : to_z w128 (of_z w128 c.args.sign) ≡ c.args.sign = to_z-of_z w128 c.args.sign c.ranges.sign in
    let whole : take c.loop-share.share-index c.args.shares.now ≡ c.args.shares.now = take_all c.loop-share.share-index c.args.shares.now (omega (arith, c.loop-share-test.false)) in
    let all = subst (λ shares. AddsShares 1000000 (2 ^ 44) base 1 (part_at base c.args.sign) shares c.args.terms.now.items c.loop-share.terms.items) whole (rw sign at c.loop-share.invariant) in
    let fits = block-fits c.args.agent (agent_count s) (profile_count (sizes_of s)) c.requires.agent_in in
    adds-as (2 ^ 44) base (base + profile_count (sizes_of s) * 1) c.args.first (c.args.first + agent_count s * profile_count (sizes_of s)) (λ x. total_by (part_at base c.args.sign x) c.args.shares.now) (λ x. total_by (part_at base c.args.sign x) c.args.shares.now)
    c.args.terms.now.items c.loop-share.terms.items (all.at (profile_count (sizes_of s)) c.requires.shares) (omega arith) (omega (arith, fits)) (λ x. refl)
