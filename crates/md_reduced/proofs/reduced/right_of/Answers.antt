use Rattle.std.proofs.Common.{ℕ, ◌*◌, ◌^◌, ◌≤◌, ℤ, pos, ◌≤ℤ◌, ◌∙◌, arith}
use Rattle.std.proofs.lemmas.Int.{ints}
use Rattle.md_math.specs.Sizes.{IsWithin}
use Rattle.md_math.proofs.Bits.{read_result}
use Rattle.md_reduced.proofs.reduced.right_of.Goals as goal

-- as much as all units can weigh is small
small : (units : ℕ) (z : ℤ) → units ≤ 12 → pos 0 ≤ℤ z → z ≤ℤ pos (units * 10 ^ 12) → IsWithin (2 ^ 44) z
small units z few nonneg size = record { within = omega (arith, ints, few, nonneg, size) }

pub returns-in-Cut-clause-value : goal.returns-in-Cut-clause-value
returns-in-Cut-clause-value c = rw c.in-Cut.is (read_result c.right_side_for.result c.right_side_for.type_inv ∙ c.right_side_for.ensures.value)

pub returns-in-Cut-clause-size : goal.returns-in-Cut-clause-size
returns-in-Cut-clause-size c =
    rw (read_result c.right_side_for.result c.right_side_for.type_inv)
    (small c.args.units c.right_side_for.result c.requires.few_units c.right_side_for.ensures.nonneg c.right_side_for.ensures.size)
