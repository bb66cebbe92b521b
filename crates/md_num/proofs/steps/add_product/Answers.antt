use Rattle.std.proofs.Common.{◌≡◌, ◌<◌, ◌≤◌, ◌+◌, ◌*◌, ◌^◌, ℕ, ℤ, ◌+ℤ◌, ◌*ℤ◌, SFits, unsigned_abs, FitsSigned, arith, ap}
use Rattle.std.proofs.lemmas.Int.{ints, fits_signed_from_abs, to_z-of_z}
use mir.Syntax.{w128}
use Rattle.md_num.proofs.steps.add_product.Goals as goal
use Rattle.md_num.proofs.steps.add_product.Goals.{After-product-part}

record IsSum (x y a b : ℤ) : Type 0 where
  part_fits : SFits w128 y
  part_is : y ≡ a *ℤ b
  fits : FitsSigned w128 (x +ℤ y)
  size : unsigned_abs (x +ℤ y) ≤ unsigned_abs x + unsigned_abs a * unsigned_abs b

-- the sum of two numbers whose sizes add up to less than 2 ^ 126
total : (x y : ℤ) (n : ℕ) → unsigned_abs y ≤ n → unsigned_abs x + n < 2 ^ 126 → FitsSigned w128 (x +ℤ y) × (unsigned_abs (x +ℤ y) ≤ unsigned_abs x + n)
total x y n k l =
    let size : unsigned_abs (x +ℤ y) ≤ unsigned_abs x + n = omega (arith, ints) in
    (fits_signed_from_abs w128 (x +ℤ y) (omega arith), size)

of_product : (c : After-product-part) → IsSum c.args.sum c.product-part.result c.args.a c.args.b
of_product c =
    let a = to_z-of_z w128 c.args.a c.ranges.a in
    let b = to_z-of_z w128 c.args.b c.ranges.b in
    let d = total c.args.sum c.product-part.result (unsigned_abs c.args.a * unsigned_abs c.args.b) (rw (a, b) at c.product-part.ensures.size) c.requires in
    record {
      part_fits = record { sfits = c.product-part.type_inv };
      part_is = rw (a, b) at c.product-part.ensures.value;
      fits = d.0;
      size = d.1;
    }

pub overflow_add-result : goal.overflow_add-result
overflow_add-result c =
    let d = of_product c in
    rw (to_z-of_z w128 c.args.sum c.ranges.sum, to_z-of_z w128 c.product-part.result d.part_fits) d.fits

pub returns-clause-value : goal.returns-clause-value
returns-clause-value c =
    let d = of_product c in
    rw (to_z-of_z w128 c.args.sum c.ranges.sum, to_z-of_z w128 c.product-part.result d.part_fits, to_z-of_z w128 (c.args.sum +ℤ c.product-part.result) d.fits)
    (ap (λ y. c.args.sum +ℤ y) d.part_is)

pub returns-clause-size : goal.returns-clause-size
returns-clause-size c =
    let d = of_product c in
    rw (to_z-of_z w128 c.args.sum c.ranges.sum, to_z-of_z w128 c.product-part.result d.part_fits, to_z-of_z w128 (c.args.sum +ℤ c.product-part.result) d.fits) d.size
