-- Divisibility by sizes.
use Rattle.std.proofs.Common.{ℤ, pos, ◌<ℤ◌, unsigned_abs, arith}
use Rattle.std.proofs.lemmas.Int.{ints}
use Rattle.md_math.specs.Divisors.{Divides, IsGcdOfTwo}
use Rattle.md_math.proofs.Division.{Divides_refl}

-- divisibility is one of sizes
pub Divides-sizes : (d x : ℤ) → Divides (pos (unsigned_abs d)) (pos (unsigned_abs x)) → Divides d x
Divides-sizes d x h = record { divides = h.divides }

-- a positive number is its greatest common divisor with one that it divides
pub IsGcdOfTwo-divides : (d x : ℤ) → pos 0 <ℤ d → Divides d x → IsGcdOfTwo d x d
IsGcdOfTwo-divides d x p h = record { nonneg = omega (arith, ints); left = Divides_refl d; right = h; greatest = λ _ a _. a }
