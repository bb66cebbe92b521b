use Rattle.std.proofs.Common.{◌≡◌, to_z, of_z, SFits, ℤ, pos, ◌<ℤ◌}
use Rattle.std.proofs.lemmas.Int.{to_z-of_z}
use mir.Syntax.{w128}
use Rattle.md_math.specs.Divisors.{IsGcdOfTwo}
use Rattle.md_num.proofs.Reduction.{positive_gcd, IsReduction, value_of_reduction, IsLeastTerms-from_reduction, only_from_reduction}
use Rattle.md_num.proofs.frac.Frac.reduced.Goals as goal
use Rattle.md_num.proofs.frac.Frac.reduced.Goals.{After-exact_quotient-2}

-- a number that fits is read back from its bits
read : (z : ℤ) → SFits w128 z → to_z w128 (of_z w128 z) ≡ z
read z fits = to_z-of_z w128 z fits

of_gcd : (num den g : ℤ) → SFits w128 num → SFits w128 den → IsGcdOfTwo (to_z w128 (of_z w128 num)) (to_z w128 (of_z w128 den)) g → IsGcdOfTwo num den g
of_gcd num den g n d h = rw (read num n, read den d) at h

divisor_positive : (num den g : ℤ) → SFits w128 num → SFits w128 den → SFits w128 g → pos 0 <ℤ den → IsGcdOfTwo (to_z w128 (of_z w128 num)) (to_z w128 (of_z w128 den)) g → pos 0 <ℤ to_z w128 (of_z w128 g)
divisor_positive num den g n d f p h = rw (read g f) (positive_gcd num den g p (of_gcd num den g n d h))

pub exact_quotient-requires-clause-positive : goal.exact_quotient-requires-clause-positive
exact_quotient-requires-clause-positive c = divisor_positive c.args.num c.args.den c.gcd-divisor.result c.ranges.num c.ranges.den (record { sfits = c.gcd-divisor.type_inv }) c.requires.positive c.gcd-divisor.ensures.divisor

pub exact_quotient-requires-2-clause-positive : goal.exact_quotient-requires-2-clause-positive
exact_quotient-requires-2-clause-positive c = divisor_positive c.args.num c.args.den c.gcd-divisor.result c.ranges.num c.ranges.den (record { sfits = c.gcd-divisor.type_inv }) c.requires.positive c.gcd-divisor.ensures.divisor

pub exact_quotient-requires-clause-exact : goal.exact_quotient-requires-clause-exact
exact_quotient-requires-clause-exact c =
    rw (read c.gcd-divisor.result (record { sfits = c.gcd-divisor.type_inv }), read c.args.num c.ranges.num)
    ((of_gcd c.args.num c.args.den c.gcd-divisor.result c.ranges.num c.ranges.den c.gcd-divisor.ensures.divisor).left)

pub exact_quotient-requires-2-clause-exact : goal.exact_quotient-requires-2-clause-exact
exact_quotient-requires-2-clause-exact c =
    rw (read c.gcd-divisor.result (record { sfits = c.gcd-divisor.type_inv }), read c.args.den c.ranges.den)
    ((of_gcd c.args.num c.args.den c.gcd-divisor.result c.ranges.num c.ranges.den c.gcd-divisor.ensures.divisor).right)

reduction : (c : After-exact_quotient-2) → IsReduction c.args.num c.args.den c.gcd-divisor.result c.exact_quotient.result c.exact_quotient-2.result
reduction c =
    let g = read c.gcd-divisor.result (record { sfits = c.gcd-divisor.type_inv }) in
    let n = read c.args.num c.ranges.num in
    let d = read c.args.den c.ranges.den in
    record {
      is_gcd = of_gcd c.args.num c.args.den c.gcd-divisor.result c.ranges.num c.ranges.den c.gcd-divisor.ensures.divisor;
      num_is = rw (g, n) at c.exact_quotient.ensures.value;
      den_is = rw (g, d) at c.exact_quotient-2.ensures.value;
      positive = c.requires.positive;
    }

num_read : (c : After-exact_quotient-2) → to_z w128 (of_z w128 c.exact_quotient.result) ≡ c.exact_quotient.result
num_read c = read c.exact_quotient.result (record { sfits = c.exact_quotient.type_inv })

den_read : (c : After-exact_quotient-2) → to_z w128 (of_z w128 c.exact_quotient-2.result) ≡ c.exact_quotient-2.result
den_read c = read c.exact_quotient-2.result (record { sfits = c.exact_quotient-2.type_inv })

pub returns-clause-value : goal.returns-clause-value
returns-clause-value c = rw (num_read c, den_read c) (value_of_reduction _ _ _ _ _ (reduction c))

pub returns-clause-least : goal.returns-clause-least
returns-clause-least c = rw (num_read c, den_read c) (IsLeastTerms-from_reduction _ _ _ _ _ (reduction c))

pub returns-clause-only : goal.returns-clause-only
returns-clause-only c = rw (num_read c, den_read c) (only_from_reduction _ _ _ _ _ (reduction c))
