use Rattle.std.proofs.Common.{◌≡◌, ◌*ℤ◌}
use Rattle.md_math.proofs.Bits.{read_result}
use Rattle.md_dict_rows.specs.Combination.{combined_den}
use Rattle.md_dict_rows.proofs.Reducing.{IsLeastDen-divided}
use Rattle.md_dict_rows.proofs.least_terms.exact_den.Goals as goal

pub quotient-requires-clause-exact : goal.quotient-requires-clause-exact
quotient-requires-clause-exact c = rw (read_result c.whole_den.result c.whole_den.type_inv, c.whole_den.ensures.value) c.whole_divider.ensures.attempt.of_den

pub returns : goal.returns
returns c =
    let value : c.whole_divider.result.value *ℤ c.quotient.result ≡ combined_den c.args.combination.now = rw (read_result c.whole_den.result c.whole_den.type_inv, c.whole_den.ensures.value) at c.quotient.ensures in
    rw (read_result c.quotient.result c.quotient.type_inv)
    (IsLeastDen-divided c.args.combination.now c.args.own.now c.args.taken.now c.whole_divider.result.value c.quotient.result c.requires.combination c.whole_divider.ensures.attempt c.whole_divider.ensures.divides value)
