use Rattle.std.proofs.Common.{◌≡◌, ◌<◌, ◌+◌, ◌*◌, ◌/◌, ◌^◌, ◌+ℤ◌, to_z, ap, ap₂, ◌∙◌, sym, subst, arith, lit<}
use mir.Syntax.{w128}
use Rattle.md_math.specs.Lists.{number_at}
use Rattle.md_math.specs.Sizes.{IsWithin}
use Rattle.md_math.specs.Sums.{sum_to}
use Rattle.md_math.proofs.Bits.{read_result, read_within}
use Rattle.md_math.proofs.SizeLaws.{IsWithin-+ℤ, fits_from_IsWithin}
use Rattle.md_math.proofs.SumLaws.{sum_to-more}
use Rattle.md_mech.specs.Accepted.{number_limit}
use Rattle.md_expost.specs.Masses.{rank_count, mass_at}
use Rattle.md_unit_tables.proofs.MassLaws.{mass-within, masses-within, ranks-counted}
use Rattle.md_unit_tables.proofs.sums.mass_sum.Goals as goal

ranks : (c : goal.After-loop-rank) → c.len.result / c.kinds-kinds.result ≡ rank_count c.args.auction.now
ranks c = ranks-counted c.args.auction.now c.args.masses.now c.len.result c.kinds-kinds.result c.kinds-kinds.ensures.shaped c.requires.masses.1.whole c.len.ensures c.kinds-kinds.ensures.count

inside : (c : goal.After-get-sum) → c.loop-rank.rank < rank_count c.args.auction.now
inside c = omega (arith, c.loop-rank-test.true, ranks-counted c.args.auction.now c.args.masses.now c.len.result c.kinds-kinds.result c.kinds-kinds.ensures.shaped c.requires.masses.1.whole c.len.ensures c.kinds-kinds.ensures.count)

mass : (c : goal.After-get-sum) → c.get-sum.result ≡ mass_at c.args.auction.now c.args.masses.now c.loop-rank.rank c.args.kind
mass c = c.get-sum.ensures ∙ ap (λ k. number_at c.args.masses.now.rows (c.loop-rank.rank * k + c.args.kind)) c.kinds-kinds.ensures.count

-- the sum with one mass more
more : (c : goal.After-get-sum) → IsWithin (2 ^ 120 + number_limit * 10 ^ 12 * 12) (to_z w128 c.loop-rank.sum-bits +ℤ c.get-sum.result)
more c =
    let a = c.args.auction.now in
    let y = c.args.masses.now in
    let (units, table) = c.requires.masses in
    let before : IsWithin (2 ^ 120) (to_z w128 c.loop-rank.sum-bits) =
    subst (IsWithin (2 ^ 120)) (sym c.loop-rank.invariant) (masses-within a units y c.args.kind c.loop-rank.rank c.kinds-kinds.ensures.shaped table c.requires.den_small c.requires.kind_in (omega (arith, inside c))) in
    IsWithin-+ℤ (2 ^ 120) (number_limit * 10 ^ 12 * 12) (to_z w128 c.loop-rank.sum-bits) c.get-sum.result before
    (subst (IsWithin (number_limit * 10 ^ 12 * 12)) (sym (mass c)) (mass-within a units y c.loop-rank.rank c.args.kind c.kinds-kinds.ensures.shaped table c.requires.den_small (inside c) c.requires.kind_in))

pub overflow_add-sum : goal.overflow_add-sum
overflow_add-sum c =
    rw (read_result c.get-sum.result c.get-sum.type_inv)
    (fits_from_IsWithin w128 (2 ^ 120 + number_limit * 10 ^ 12 * 12) (to_z w128 c.loop-rank.sum-bits +ℤ c.get-sum.result) (more c) (lit< tt))

pub loop-rank-preserved : goal.loop-rank-preserved
loop-rank-preserved c =
    rw (read_result c.get-sum.result c.get-sum.type_inv)
    (read_within (2 ^ 120 + number_limit * 10 ^ 12 * 12) (to_z w128 c.loop-rank.sum-bits +ℤ c.get-sum.result) (more c) (lit< tt)
    ∙ ap₂ (λ x y. x +ℤ y) c.loop-rank.invariant (mass c)
    ∙ sym (sum_to-more c.loop-rank.rank (λ rank. mass_at c.args.auction.now c.args.masses.now rank c.args.kind)))

pub returns-clause-value : goal.returns-clause-value
returns-clause-value c =
    let end : c.loop-rank.rank ≡ rank_count c.args.auction.now = omega (arith, c.loop-rank-test.false, c.loop-rank.auto.rank-end, ranks c) in
    c.loop-rank.invariant ∙ ap (λ n. sum_to n (λ rank. mass_at c.args.auction.now c.args.masses.now rank c.args.kind)) end

pub returns-clause-size : goal.returns-clause-size
returns-clause-size c =
    let (units, table) = c.requires.masses in
    subst (IsWithin (2 ^ 120)) (sym (returns-clause-value c))
    (masses-within c.args.auction.now units c.args.masses.now c.args.kind (rank_count c.args.auction.now) c.kinds-kinds.ensures.shaped table c.requires.den_small c.requires.kind_in (omega arith))
