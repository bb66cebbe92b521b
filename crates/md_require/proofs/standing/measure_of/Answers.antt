use Rattle.std.proofs.Common.{◌≡◌, ◌*◌, ◌≤◌, ℤ, pos, ◌*ℤ◌, ◌<ℤ◌, ◌^◌, lit<, subst, sym, arith, mul-le-mul, unsigned_abs}
use Rattle.std.proofs.lemmas.Int.{ints}
use Rattle.md_math.proofs.Bits.{read_result, read_within}
use Rattle.md_math.proofs.Order.{positive-*ℤ}
use Rattle.md_mech.specs.Accepted.{number_limit}
use Rattle.md_require.proofs.StandingLaws.{measure-is}
use Rattle.md_require.proofs.standing.measure_of.Goals as goal

pub product-requires : goal.product-requires
product-requires c =
    let m = c.args.mechanism.now in
    let figure = c.furthest_of-figure.result in
    let h = c.furthest_of-figure.ensures.is in
    rw (read_within number_limit m.den c.requires.accepted.den_size (lit< tt), read_within 1000000 figure.whole h.whole_size (lit< tt))
    (let most : unsigned_abs m.den * unsigned_abs figure.whole ≤ number_limit * 1000000 = mul-le-mul c.requires.accepted.den_size.within h.whole_size.within in
    omega (arith, most))

pub reduced-requires-clause-positive : goal.reduced-requires-clause-positive
reduced-requires-clause-positive c =
    let m = c.args.mechanism.now in
    let figure = c.furthest_of-figure.result in
    let h = c.furthest_of-figure.ensures.is in
    let value : c.product.result ≡ m.den *ℤ figure.whole =
    rw (read_within number_limit m.den c.requires.accepted.den_size (lit< tt), read_within 1000000 figure.whole h.whole_size (lit< tt)) at c.product.ensures.value in
    let above : pos 0 <ℤ m.den = omega (arith, ints, c.requires.accepted.mechanism.den) in
    rw (read_result c.product.result c.product.type_inv) (subst (λ (z : ℤ). pos 0 <ℤ z) (sym value) (positive-*ℤ m.den figure.whole above h.positive))

pub returns : goal.returns
returns c =
    let m = c.args.mechanism.now in
    let k = c.args.condition.now in
    let figure = c.furthest_of-figure.result in
    let found = c.reduced.result in
    let h = c.furthest_of-figure.ensures.is in
    let value : c.product.result ≡ m.den *ℤ figure.whole =
    rw (read_within number_limit m.den c.requires.accepted.den_size (lit< tt), read_within 1000000 figure.whole h.whole_size (lit< tt)) at c.product.ensures.value in
    measure-is c.args.setting.now m k figure found c.furthest_of-figure.ensures c.reduced.ensures.least
    (subst (λ (z : ℤ). found.num *ℤ z ≡ figure.sum *ℤ found.den) value
    (rw (read_result c.product.result c.product.type_inv, read_within (2 ^ 121) figure.sum h.sum_size (lit< tt)) at c.reduced.ensures.value))
