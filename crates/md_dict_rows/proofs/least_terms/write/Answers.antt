use Rattle.std.proofs.Common.{◌≡◌, ◌<◌, ◌^◌, length, to_z, of_z, sym, subst, arith}
use mir.Syntax.{w64}
use Rattle.md_math.proofs.SizeLaws.{AllWithin-wider, IsWithin-wider}
use Rattle.md_dict_rows.specs.Reduce.{IsDivided, KeepsSizes}
use Rattle.md_dict_division.proofs.Reading.{read_short}
use Rattle.md_dict_rows.proofs.Reducing.{IsDivided-from, KeepsSizes-more}
use Rattle.md_dict_rows.proofs.least_terms.write.Goals as goal

pub write_at-requires-clause-numbers : goal.write_at-requires-clause-numbers
write_at-requires-clause-numbers c =
    AllWithin-wider c.args.attempt.now.limit (2 ^ 62) c.write_others.new.fresh c.requires.attempt.limit_size (c.write_others.ensures.sizes.within c.args.attempt.now.limit (omega arith) c.requires.fresh)

pub returns-clause-divided : goal.returns-clause-divided
returns-clause-divided c =
    let told = c.in_ok-quotient.ensures.number in
    let read : to_z w64 (of_z w64 c.in_ok-quotient.quotient) ≡ c.in_ok-quotient.quotient = read_short c.in_ok-quotient.quotient (IsWithin-wider c.args.attempt.now.limit (2 ^ 62) c.in_ok-quotient.quotient c.requires.attempt.limit_size told.1) in
    let new = rw read at c.write_at.ensures.numbers in
    let inside : c.args.combination.now.place < length c.write_others.new.fresh = omega (arith, c.write_others.ensures.sizes.length_is, c.requires.length, c.requires.combination.place_in) in
    subst (IsDivided c.args.combination.now c.args.own.now c.args.taken.now c.args.attempt.now.divider.value) (sym new) (IsDivided-from c.args.combination.now c.args.own.now c.args.taken.now c.args.attempt.now.divider.value c.write_others.new.fresh c.in_ok-quotient.quotient c.in_ok-others.ensures.divided inside told.0)

pub returns-clause-sizes : goal.returns-clause-sizes
returns-clause-sizes c =
    let within = c.in_ok-quotient.ensures.number.1 in
    let read : to_z w64 (of_z w64 c.in_ok-quotient.quotient) ≡ c.in_ok-quotient.quotient = read_short c.in_ok-quotient.quotient (IsWithin-wider c.args.attempt.now.limit (2 ^ 62) c.in_ok-quotient.quotient c.requires.attempt.limit_size within) in
    let new = rw read at c.write_at.ensures.numbers in
    subst (KeepsSizes c.args.attempt.now.limit c.args.fresh.now) (sym new) (KeepsSizes-more c.args.attempt.now.limit c.args.fresh.now c.write_others.new.fresh c.args.combination.now.place c.in_ok-quotient.quotient c.write_others.ensures.sizes within)
