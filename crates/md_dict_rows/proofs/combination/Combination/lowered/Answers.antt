use Rattle.std.proofs.Common.{◌≡◌, ℤ, pos, ◌*ℤ◌, refl, arith}
use Rattle.std.proofs.lemmas.Int.{ints}
use Rattle.md_dict_division.proofs.Reading.{read_short}
use Rattle.md_dict_rows.proofs.Lowering.{common_of}
use Rattle.md_dict_rows.proofs.combination.Combination.lowered.Goals as goal

pub returns-then-bound-lt-LEAST_LONG : goal.returns-then-bound-lt-LEAST_LONG
returns-then-bound-lt-LEAST_LONG c = record {
  place = refl;
  common = pos 1;
  positive = omega (arith, ints);
  multiplier = one_times c.args.self.now.multiplier;
  factor = one_times c.args.self.now.factor;
  den = refl;
  pivot_den = refl;
  leaving = refl;
}
  where
    one_times : (x : ℤ) → pos 1 *ℤ x ≡ x
    one_times x = omega (arith, ints)

pub share-requires-clause-positive : goal.share-requires-clause-positive
share-requires-clause-positive c =
    let gcd = rw (c.unsigned_abs.ensures.value, c.unsigned_abs-2.ensures.value, read_short c.args.self.now.multiplier c.requires.multiplier, read_short c.args.self.now.factor c.requires.factor) at c.binary_gcd-common.ensures in
    let common = common_of c.args.self.now.multiplier c.args.self.now.factor c.binary_gcd-common.result c.requires.positive c.requires.multiplier gcd in
    common.positive

pub share-requires-clause-divisor_size : goal.share-requires-clause-divisor_size
share-requires-clause-divisor_size c =
    let gcd = rw (c.unsigned_abs.ensures.value, c.unsigned_abs-2.ensures.value, read_short c.args.self.now.multiplier c.requires.multiplier, read_short c.args.self.now.factor c.requires.factor) at c.binary_gcd-common.ensures in
    let common = common_of c.args.self.now.multiplier c.args.self.now.factor c.binary_gcd-common.result c.requires.positive c.requires.multiplier gcd in
    common.size

pub share-requires-clause-exact : goal.share-requires-clause-exact
share-requires-clause-exact c =
    let gcd = rw (c.unsigned_abs.ensures.value, c.unsigned_abs-2.ensures.value, read_short c.args.self.now.multiplier c.requires.multiplier, read_short c.args.self.now.factor c.requires.factor) at c.binary_gcd-common.ensures in
    let common = common_of c.args.self.now.multiplier c.args.self.now.factor c.binary_gcd-common.result c.requires.positive c.requires.multiplier gcd in
    rw (read_short c.args.self.now.multiplier c.requires.multiplier) common.left

pub share-requires-2-clause-divisor_size : goal.share-requires-2-clause-divisor_size
share-requires-2-clause-divisor_size c =
    let gcd = rw (c.unsigned_abs.ensures.value, c.unsigned_abs-2.ensures.value, read_short c.args.self.now.multiplier c.requires.multiplier, read_short c.args.self.now.factor c.requires.factor) at c.binary_gcd-common.ensures in
    let common = common_of c.args.self.now.multiplier c.args.self.now.factor c.binary_gcd-common.result c.requires.positive c.requires.multiplier gcd in
    common.size

pub share-requires-2-clause-exact : goal.share-requires-2-clause-exact
share-requires-2-clause-exact c =
    let gcd = rw (c.unsigned_abs.ensures.value, c.unsigned_abs-2.ensures.value, read_short c.args.self.now.multiplier c.requires.multiplier, read_short c.args.self.now.factor c.requires.factor) at c.binary_gcd-common.ensures in
    let common = common_of c.args.self.now.multiplier c.args.self.now.factor c.binary_gcd-common.result c.requires.positive c.requires.multiplier gcd in
    rw (read_short c.args.self.now.factor c.requires.factor) common.right

pub returns : goal.returns
returns c =
    let gcd = rw (c.unsigned_abs.ensures.value, c.unsigned_abs-2.ensures.value, read_short c.args.self.now.multiplier c.requires.multiplier, read_short c.args.self.now.factor c.requires.factor) at c.binary_gcd-common.ensures in
    let common = common_of c.args.self.now.multiplier c.args.self.now.factor c.binary_gcd-common.result c.requires.positive c.requires.multiplier gcd in
    let own = rw (read_short c.args.self.now.multiplier c.requires.multiplier) at c.share.ensures.value in
    let taken = rw (read_short c.args.self.now.factor c.requires.factor) at c.share-2.ensures.value in
    rw (read_short c.share.result c.share.ensures.size, read_short c.share-2.result c.share-2.ensures.size, read_short c.args.self.now.den c.requires.den, read_short c.args.self.now.pivot_den c.requires.pivot_den, read_short c.args.self.now.leaving c.requires.leaving) (record {
      place = refl;
      common = pos c.binary_gcd-common.result;
      positive = omega (arith, ints, common.positive);
      multiplier = own;
      factor = taken;
      den = refl;
      pivot_den = refl;
      leaving = refl;
    })
