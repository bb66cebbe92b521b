use Rattle.std.proofs.Common.{◌≡◌, ◌+◌, ◌^◌, pos, ◌-ℤ◌, neg_ℤ, to_z, of_z, [], arith, lit<}
use mir.Syntax.{w128}
use Rattle.md_math.specs.Lists.{number_at}
use Rattle.md_math.specs.Sizes.{IsWithin}
use Rattle.md_math.proofs.Bits.{read_within}
use Rattle.md_math.proofs.Readings.{read, widened}
use Rattle.md_math.proofs.SizeLaws.{IsWithin-sub, IsWithin-zero, IsWithin-wider}
use Rattle.md_setting.specs.Auction.{value_count}
use Rattle.md_forms.proofs.TermLaws.{adds-all, adds-sum}
use Rattle.md_reduced.specs.ProgramOf.{column_count}
use Rattle.md_reduced.specs.Sides.{utility_in}
use Rattle.md_reduced.proofs.TermForms.{value-within, adds-rational}
use Rattle.md_reduced.proofs.terms.rational_terms.Goals as goal

pub returns : goal.returns
returns c =
    let a = c.args.auction.now in
    let k = value_count a in
    let i = c.args.kind in
    let v = number_at a.values i in
    let small : IsWithin 1000000 v = value-within a i c.value.ensures.shaped c.requires in
    let less : IsWithin (0 + 1000000) (pos 0 -ℤ v) = IsWithin-sub 0 1000000 (pos 0) v (IsWithin-zero 0) small in
    let value : to_z w128 (of_z w128 c.from.result) ≡ v = read _ _ (widened _ _ _ c.from.type_inv c.value.type_inv c.from.ensures c.value.ensures.value) in
    let p = rw (value, read_within (0 + 1000000) (pos 0 -ℤ v) less (lit< tt), c.new-terms.ensures.items) at c.in_ok-push_term.ensures.ok in
    let q = rw c.kinds-kinds.ensures.count at c.in_ok-push_term-2.ensures.ok in
    let r = rw c.kinds-kinds.ensures.count at c.in_ok-push_term-3.ensures.ok in
    let t = c.push_term-3.new.terms.items in
    let added = adds-rational (2 ^ 44) k i v [] c.push_term.new.terms.items c.push_term-2.new.terms.items t
    (p (2 ^ 44) (IsWithin-wider (0 + 1000000) (2 ^ 44) (pos 0 -ℤ v) (omega arith) less)) (q (2 ^ 44) (record { within = omega arith })) (r (2 ^ 44) (record { within = omega arith })) c.requires in
    record {
      placed = adds-all (2 ^ 44) 0 (column_count a) (λ x. neg_ℤ (utility_in a x i i)) t added;
      sum = λ x. adds-sum (2 ^ 44) 0 (column_count a) (λ x. neg_ℤ (utility_in a x i i)) t added x;
    }
