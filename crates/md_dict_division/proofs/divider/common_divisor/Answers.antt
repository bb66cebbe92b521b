use Rattle.std.proofs.Common.{◌^◌, ◌<◌, ℕ, ℤ, pos, unsigned_abs, to_z, FitsSigned, arith}
use Rattle.std.specs.Int.{IsGcd}
use Rattle.std.proofs.lemmas.Int.{ints, to_z_pos}
use Rattle.std.proofs.lemmas.Nat.Gcd.{IsGcd-swap}
use mir.Syntax.{w128}
use Rattle.md_math.specs.Divisors.{IsGcdOfTwo}
use Rattle.md_math.proofs.Gcds.{IsGcdOfTwo-from_IsGcd, size_of_gcd}
use Rattle.md_dict_division.proofs.Reading.{read_wide}
use Rattle.md_dict_division.proofs.divider.common_divisor.Goals as goal
use Rattle.md_dict_division.proofs.divider.common_divisor.Goals.{After-gcd_with_short, After-gcd_with_short-then-first-from}

-- what is answered where the gcd of the two sizes is known
record IsAnswer (a b : ℤ) (g : ℕ) : Type 0 where
  fits : FitsSigned w128 (pos g)
  divisor : IsGcdOfTwo a b (to_z w128 g)
  size : unsigned_abs (to_z w128 g) < 2 ^ 126

IsAnswer-from_IsGcd : (a b : ℤ) (g : ℕ) → unsigned_abs a < 2 ^ 126 → unsigned_abs b < 2 ^ 126 → IsGcd (unsigned_abs a) (unsigned_abs b) g → IsAnswer a b g
IsAnswer-from_IsGcd a b g p q h =
    let small : g < 2 ^ 126 = size_of_gcd (unsigned_abs a) (unsigned_abs b) g (2 ^ 126) p q h in
    record {
      fits = omega (arith, ints, small);
      divisor = rw (to_z_pos w128 g (omega (arith, small))) (IsGcdOfTwo-from_IsGcd a b g h);
      size = rw (to_z_pos w128 g (omega (arith, small))) (omega (arith, ints, small));
    }

-- the second number has 64 bits
of_second : (c : After-gcd_with_short) → IsAnswer c.args.a c.args.b c.gcd_with_short.result
of_second c =
    IsAnswer-from_IsGcd c.args.a c.args.b c.gcd_with_short.result c.requires.left c.requires.right
    (rw (c.unsigned_abs-first.ensures.value, c.unsigned_abs-second.ensures.value, read_wide c.args.a c.requires.left, read_wide c.args.b c.requires.right) at c.gcd_with_short.ensures)

-- the first number has 64 bits
of_first : (c : After-gcd_with_short-then-first-from) → IsAnswer c.args.a c.args.b c.gcd_with_short-then-first-from.result
of_first c =
    IsAnswer-from_IsGcd c.args.a c.args.b c.gcd_with_short-then-first-from.result c.requires.left c.requires.right
    (IsGcd-swap (unsigned_abs c.args.b) (unsigned_abs c.args.a) c.gcd_with_short-then-first-from.result
    (rw (c.unsigned_abs-first.ensures.value, c.unsigned_abs-second.ensures.value, read_wide c.args.a c.requires.left, read_wide c.args.b c.requires.right) at c.gcd_with_short-then-first-from.ensures))

pub overflow_cast-result : goal.overflow_cast-result
overflow_cast-result c = (of_second c).fits

pub returns-then-second-from-clause-divisor : goal.returns-then-second-from-clause-divisor
returns-then-second-from-clause-divisor c = (of_second c).divisor

pub returns-then-second-from-clause-size : goal.returns-then-second-from-clause-size
returns-then-second-from-clause-size c = (of_second c).size

pub overflow_cast-result-then-first-from : goal.overflow_cast-result-then-first-from
overflow_cast-result-then-first-from c = (of_first c).fits

pub returns-then-first-from-clause-divisor : goal.returns-then-first-from-clause-divisor
returns-then-first-from-clause-divisor c = (of_first c).divisor

pub returns-then-first-from-clause-size : goal.returns-then-first-from-clause-size
returns-then-first-from-clause-size c = (of_first c).size
