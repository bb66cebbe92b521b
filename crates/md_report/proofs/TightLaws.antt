-- Which conditions hold with equality, one row after another.
use Rattle.std.proofs.Common.{◌≡◌, ◌↔◌, ℤ, pos, Bool, true, false, refl, sym, arith, unsigned_abs}
use Rattle.std.specs.Prelude.{◌==◌, IsTrue}
use Rattle.std.proofs.lemmas.Bool.{ne_eqb}
use Rattle.std.proofs.lemmas.Int.{ints}

zero_from : (z : ℤ) → unsigned_abs z ≡ 0 → z ≡ pos 0
zero_from z e = omega (arith, ints, e)

-- a test of a number against 0
pub tests_zero : (b : Bool) (z : ℤ) → IsTrue b ↔ (z ≡ pos 0) → b ≡ (unsigned_abs z == 0)
tests_zero true z h = (let e : z ≡ pos 0 = h.0 refl in rw e refl)
tests_zero false z h = sym (ne_eqb (unsigned_abs z) 0 (λ e. no (h.1 (zero_from z e))))
  where
    no : false ≡ true → ⊥
    no e = cc
