use Rattle.std.proofs.Common.{◌≡◌, ◌*◌, ◌^◌, ◌-ℤ◌, to_z, of_z, [], arith}
use mir.Syntax.{w128}
use Rattle.md_math.specs.Lists.{number_at}
use Rattle.md_math.proofs.Readings.{read, widened}
use Rattle.md_setting.specs.Auction.{value_count}
use Rattle.md_forms.proofs.TermLaws.{adds-all, adds-sum}
use Rattle.md_reduced.specs.ProgramOf.{column_count}
use Rattle.md_reduced.specs.Sides.{utility_in}
use Rattle.md_reduced.proofs.TermForms.{adds-truth}
use Rattle.md_reduced.proofs.terms.truth_terms.Goals as goal

pub returns : goal.returns
returns c =
    let a = c.args.auction.now in
    let k = value_count a in
    let i = c.args.kind in
    let o = c.args.other in
    let v = number_at a.values i in
    let h = c.requires.kind_in in
    let l = c.requires.other_in in
    let value : to_z w128 (of_z w128 c.from-value.result) ≡ v = read _ _ (widened _ _ _ c.from-value.type_inv c.value.type_inv c.from-value.ensures c.value.ensures.value) in
    let p = rw (value, c.new-terms.ensures.items) at c.in_ok-push_difference.ensures in
    let q = rw c.kinds-kinds.ensures.count at c.in_ok-push_difference-2.ensures in
    let r = rw c.kinds-kinds.ensures.count at c.in_ok-push_difference-3.ensures in
    let t = c.push_difference-3.new.terms.items in
    let added = adds-truth (2 ^ 44) k i o v [] c.push_difference.new.terms.items c.push_difference-2.new.terms.items t
    (p 0 k (omega arith) (omega arith) l h)
    (q k (2 * k) (omega arith) (omega arith) (omega (arith, h)) (omega (arith, l)))
    (r (2 * k) (3 * k) (omega arith) (omega arith) (omega (arith, l)) (omega (arith, h))) in
    record {
      placed = adds-all (2 ^ 44) 0 (column_count a) (λ x. utility_in a x i o -ℤ utility_in a x i i) t added;
      sum = λ x. adds-sum (2 ^ 44) 0 (column_count a) (λ x. utility_in a x i o -ℤ utility_in a x i i) t added x;
    }
