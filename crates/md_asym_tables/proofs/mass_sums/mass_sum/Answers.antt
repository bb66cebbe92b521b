use Rattle.std.proofs.Common.{◌≡◌, ◌<◌, ◌+◌, ◌^◌, ◌+ℤ◌, to_z, ap, ap₂, ◌∙◌, sym, subst, arith, lit<}
use mir.Syntax.{w128}
use Rattle.md_math.specs.Sizes.{IsWithin}
use Rattle.md_math.specs.Sums.{sum_to}
use Rattle.md_math.proofs.Bits.{read_result, read_within}
use Rattle.md_math.proofs.SizeLaws.{IsWithin-+ℤ, fits_from_IsWithin}
use Rattle.md_math.proofs.SumLaws.{sum_to-more}
use Rattle.md_space.specs.Profiles.{profile_count}
use Rattle.md_setting.specs.Meaning.{sizes_of}
use Rattle.md_asym_tables.specs.Tables.{mass_where}
use Rattle.md_asym_tables.proofs.MassSums.{sums-within}
use Rattle.md_asym_tables.proofs.mass_sums.mass_sum.Goals as goal

inside : (c : goal.After-mass_where-sum) → c.loop-rank.rank < profile_count (sizes_of c.args.setting.now)
inside c = omega (arith, c.loop-rank-test.true, c.profiles-rank-end.ensures.count)

-- the sum with one mass more
more : (c : goal.After-mass_where-sum) → IsWithin (2 ^ 92 + 2 ^ 82) (to_z w128 c.loop-rank.sum-bits +ℤ c.mass_where-sum.result)
more c =
    let before : IsWithin (2 ^ 92) (to_z w128 c.loop-rank.sum-bits) =
    subst (IsWithin (2 ^ 92)) (sym c.loop-rank.invariant) (sums-within c.args.setting.now c.args.masses.now c.args.number c.loop-rank.rank c.profiles-rank-end.ensures.shaped c.requires.sizes (omega (arith, inside c))) in
    IsWithin-+ℤ (2 ^ 92) (2 ^ 82) (to_z w128 c.loop-rank.sum-bits) c.mass_where-sum.result before c.mass_where-sum.ensures.size

pub overflow_add-sum : goal.overflow_add-sum
overflow_add-sum c =
    rw (read_result c.mass_where-sum.result c.mass_where-sum.type_inv)
    (fits_from_IsWithin w128 (2 ^ 92 + 2 ^ 82) (to_z w128 c.loop-rank.sum-bits +ℤ c.mass_where-sum.result) (more c) (lit< tt))

pub loop-rank-preserved : goal.loop-rank-preserved
loop-rank-preserved c =
    rw (read_result c.mass_where-sum.result c.mass_where-sum.type_inv)
    (read_within (2 ^ 92 + 2 ^ 82) (to_z w128 c.loop-rank.sum-bits +ℤ c.mass_where-sum.result) (more c) (lit< tt)
    ∙ ap₂ (λ x y. x +ℤ y) c.loop-rank.invariant c.mass_where-sum.ensures.value
    ∙ sym (sum_to-more c.loop-rank.rank (mass_where c.args.setting.now c.args.masses.now c.args.number)))

pub returns : goal.returns
returns c =
    let end : c.loop-rank.rank ≡ profile_count (sizes_of c.args.setting.now) = omega (arith, c.loop-rank-test.false, c.loop-rank.auto.rank-end, c.profiles-rank-end.ensures.count) in
    c.loop-rank.invariant ∙ ap (λ n. sum_to n (mass_where c.args.setting.now c.args.masses.now c.args.number)) end
