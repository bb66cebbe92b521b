use Rattle.std.proofs.Common.{◌≡◌, ◌<◌, ◌≤◌, ◌+◌, ◌*◌, ◌^◌, ℕ, ℤ, ◌-ℤ◌, ◌*ℤ◌, SFits, unsigned_abs, FitsSigned, arith, ap₂}
use Rattle.std.proofs.lemmas.Int.{ints, fits_signed_from_abs, to_z-of_z}
use mir.Syntax.{w128}
use Rattle.md_num.proofs.steps.cross_difference.Goals as goal
use Rattle.md_num.proofs.steps.cross_difference.Goals.{After-product-second}

-- the difference of two numbers whose sizes add up to less than 2 ^ 126
difference : (x y : ℤ) (m n : ℕ) → unsigned_abs x ≤ m → unsigned_abs y ≤ n → m + n < 2 ^ 126 → FitsSigned w128 (x -ℤ y) × (unsigned_abs (x -ℤ y) ≤ m + n)
difference x y m n h k l =
    let size : unsigned_abs (x -ℤ y) ≤ m + n = omega (arith, ints) in
    (fits_signed_from_abs w128 (x -ℤ y) (omega arith), size)

record IsDifference (x y a b c d : ℤ) : Type 0 where
  first_fits : SFits w128 x
  second_fits : SFits w128 y
  first_is : x ≡ a *ℤ b
  second_is : y ≡ c *ℤ d
  fits : FitsSigned w128 (x -ℤ y)
  size : unsigned_abs (x -ℤ y) ≤ unsigned_abs a * unsigned_abs b + unsigned_abs c * unsigned_abs d

of_products : (c : After-product-second) → IsDifference c.product-first.result c.product-second.result c.args.a c.args.b c.args.c c.args.d
of_products c =
    let a = to_z-of_z w128 c.args.a c.ranges.a in
    let b = to_z-of_z w128 c.args.b c.ranges.b in
    let e = to_z-of_z w128 c.args.c c.ranges.c in
    let f = to_z-of_z w128 c.args.d c.ranges.d in
    let d = difference c.product-first.result c.product-second.result (unsigned_abs c.args.a * unsigned_abs c.args.b) (unsigned_abs c.args.c * unsigned_abs c.args.d) (rw (a, b) at c.product-first.ensures.size) (rw (e, f) at c.product-second.ensures.size) c.requires in
    record {
      first_fits = record { sfits = c.product-first.type_inv };
      second_fits = record { sfits = c.product-second.type_inv };
      first_is = rw (a, b) at c.product-first.ensures.value;
      second_is = rw (e, f) at c.product-second.ensures.value;
      fits = d.0;
      size = d.1;
    }

pub overflow_sub-result : goal.overflow_sub-result
overflow_sub-result c =
    let d = of_products c in
    rw (to_z-of_z w128 c.product-first.result d.first_fits, to_z-of_z w128 c.product-second.result d.second_fits) d.fits

pub returns-clause-value : goal.returns-clause-value
returns-clause-value c =
    let d = of_products c in
    rw (to_z-of_z w128 c.product-first.result d.first_fits, to_z-of_z w128 c.product-second.result d.second_fits, to_z-of_z w128 (c.product-first.result -ℤ c.product-second.result) d.fits)
    (ap₂ (λ x y. x -ℤ y) d.first_is d.second_is)

pub returns-clause-size : goal.returns-clause-size
returns-clause-size c =
    let d = of_products c in
    rw (to_z-of_z w128 c.product-first.result d.first_fits, to_z-of_z w128 c.product-second.result d.second_fits, to_z-of_z w128 (c.product-first.result -ℤ c.product-second.result) d.fits) d.size
