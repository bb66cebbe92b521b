use Rattle.std.proofs.Common.{◌≡◌, ◌^◌, ◌*ℤ◌, sym, ap, ◌∙◌, subst, arith, length-set}
use Rattle.md_math.specs.Lists.{number_at}
use Rattle.md_math.specs.Sizes.{IsWithin}
use Rattle.md_math.proofs.SizeLaws.{AllWithin-number_at, AllWithin-set, IsWithin-wider}
use Rattle.md_dict.specs.Rows.{own_number}
use Rattle.md_dict.specs.RowStep.{AreOldTimes}
use Rattle.md_dict_division.proofs.Reading.{read_short, read_wide}
use Rattle.md_dict.proofs.OldRows.{own_within}
use Rattle.md_dict.proofs.Filling.{own_limit}
use Rattle.md_dict.proofs.Restoring.{IsHalfTurned-more}
use Rattle.md_dict.proofs.restore.turn_numbers_back.Goals as goal

pub old_number_of-requires-clause-old : goal.old_number_of-requires-clause-old
old_number_of-requires-clause-old c =
    let (rows, h, t) = c.requires.old in
    let half = c.loop-place.invariant.0 rows h (subst (λ d. AreOldTimes c.args.step.now rows c.args.row d (number_at c.args.own.now)) (sym (read_wide c.args.divisor c.requires.divisor)) t) in
    let small : IsWithin (2 ^ 62) (number_at c.loop-place.own c.loop-place.place) = IsWithin-wider c.args.step.now.limit (2 ^ 62) _ h.step_is.pivot.table.limit_size (AllWithin-number_at c.args.step.now.limit c.loop-place.own c.loop-place.place c.loop-place.invariant.2) in
    rw (read_wide c.args.divisor c.requires.divisor, read_short (number_at c.loop-place.own c.loop-place.place) small)
    (rows, h, λ p. ap (λ z. c.args.divisor *ℤ z) (half.rest c.loop-place.place (omega arith)) ∙ t.at c.loop-place.place (omega (arith, c.loop-place-test.true, c.requires.length)) p)

pub old_number_of-requires-clause-number : goal.old_number_of-requires-clause-number
old_number_of-requires-clause-number c =
    let (rows, h, t) = c.requires.old in
    let small : IsWithin (2 ^ 62) (number_at c.loop-place.own c.loop-place.place) = IsWithin-wider c.args.step.now.limit (2 ^ 62) _ h.step_is.pivot.table.limit_size (AllWithin-number_at c.args.step.now.limit c.loop-place.own c.loop-place.place c.loop-place.invariant.2) in
    rw (read_short (number_at c.loop-place.own c.loop-place.place) small) small

pub loop-place-preserved : goal.loop-place-preserved
loop-place-preserved c =
    let (rows_of, h_of, t_of) = c.requires.old in
    let wide = read_wide c.args.divisor c.requires.divisor in
    let small : IsWithin (2 ^ 62) (number_at c.loop-place.own c.loop-place.place) = IsWithin-wider c.args.step.now.limit (2 ^ 62) _ h_of.step_is.pivot.table.limit_size (AllWithin-number_at c.args.step.now.limit c.loop-place.own c.loop-place.place c.loop-place.invariant.2) in
    let told = rw (wide, read_short (number_at c.loop-place.own c.loop-place.place) small) at c.old_number_of.ensures in
    let half_of = c.loop-place.invariant.0 rows_of h_of (subst (λ d. AreOldTimes c.args.step.now rows_of c.args.row d (number_at c.args.own.now)) (sym wide) t_of) in
    let same_of : c.old_number_of.result ≡ own_number rows_of c.args.row c.loop-place.place =
    told rows_of h_of (λ p. ap (λ z. c.args.divisor *ℤ z) (half_of.rest c.loop-place.place (omega arith)) ∙ t_of.at c.loop-place.place (omega (arith, c.loop-place-test.true, c.requires.length)) p) in
    rw (read_short c.old_number_of.result (subst (IsWithin (2 ^ 62)) (sym same_of) (own_within c.args.step.now rows_of c.args.old.now c.args.row c.loop-place.place h_of))) (
      (λ rows h t.
          let half = c.loop-place.invariant.0 rows h t in
          let plain = subst (λ d. AreOldTimes c.args.step.now rows c.args.row d (number_at c.args.own.now)) wide t in
          IsHalfTurned-more rows c.args.row c.args.own.now c.loop-place.own c.loop-place.place c.old_number_of.result (omega (arith, c.loop-place-test.true, c.requires.length, c.loop-place.invariant.1))
          (told rows h (λ p. ap (λ z. c.args.divisor *ℤ z) (half.rest c.loop-place.place (omega arith)) ∙ plain.at c.loop-place.place (omega (arith, c.loop-place-test.true, c.requires.length)) p))
          half),
      length-set c.loop-place.own c.loop-place.place c.old_number_of.result ∙ c.loop-place.invariant.1,
      AllWithin-set c.args.step.now.limit c.loop-place.own c.loop-place.place c.old_number_of.result c.loop-place.invariant.2 (subst (IsWithin c.args.step.now.limit) (sym same_of) (own_limit c.args.step.now rows_of c.args.row c.loop-place.place h_of.step_is)),
    )

pub returns-clause-back : goal.returns-clause-back
returns-clause-back c = λ rows h t s b.
    let half = c.loop-place.invariant.0 rows h (subst (λ d. AreOldTimes c.args.step.now rows c.args.row d (number_at c.args.own.now)) (sym (read_wide c.args.divisor c.requires.divisor)) t) in
    half.turned s (omega (arith, b, c.loop-place-test.false, c.requires.length))
