use Rattle.std.proofs.Common.{◌≡◌, ℕ, ◌+◌, ◌-◌, ◌%◌, ◌^◌}
use Rattle.std.specs.Int.{IsGcd}
use Rattle.md_dict_division.proofs.binary.gcd_of_odd.Given as goal

-- both numbers are odd, and what is the gcd of the two is that of the two at the start
abbrev pub invariant-loop-difference : goal.invariant-loop-difference
invariant-loop-difference l = (l.small % 2 ≡ 1) × (l.part % 2 ≡ 1) × (l.difference ≡ (l.part + (2 ^ 64 - l.small)) % 2 ^ 64) × ((g : ℕ) → IsGcd l.small l.part g → IsGcd l.fn.a l.fn.b g)

abbrev pub decreases-loop-difference : goal.decreases-loop-difference
decreases-loop-difference l = l.small + l.part
