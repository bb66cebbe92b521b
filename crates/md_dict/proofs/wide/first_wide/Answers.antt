use Rattle.std.proofs.Common.{◌≡◌, ◌∙◌, inl, inr, subst, arith}
use Rattle.std.proofs.lemmas.Bool.{cases_lt}
use Rattle.md_math.specs.Sizes.{IsWithin}
use Rattle.md_math.proofs.Bits.{read_result}
use Rattle.md_dict.specs.Step.{new_entry}
use Rattle.md_dict.specs.RowStep.{kept_in}
use Rattle.md_dict_rows.proofs.Quotients.{above_from_not}
use Rattle.md_dict.proofs.wide.first_wide.Goals as goal

pub returns-in-Some : goal.returns-in-Some
returns-in-Some c = record {
  row_in = c.loop-row-test.true;
  column_in = c.in-Some.ensures.below;
  num_is = read_result c.new_entry.result c.new_entry.type_inv ∙ c.new_entry.ensures;
  den_is = read_result c.new_den.result c.new_den.type_inv ∙ c.new_den.ensures;
  wide = rw (read_result c.new_entry.result c.new_entry.type_inv, c.new_entry.ensures) (above_from_not _ _ c.in-Some.ensures.fails);
  rows_before = c.loop-row.invariant;
  columns_before = c.in-Some.ensures.before.holds;
}

pub loop-row-preserved : goal.loop-row-preserved
loop-row-preserved c = λ r j a b.
    elim (cases_lt r c.loop-row.row) [
      | inl l ↦ c.loop-row.invariant r j l b
      | inr l ↦
          let same : c.loop-row.row ≡ r = omega arith in
          subst (λ k. IsWithin c.args.step.now.limit (new_entry c.args.step.now (kept_in c.args.step.now c.args.rows.now) c.args.seat.now c.args.step.now.divisor k j)) same (c.in_default.ensures.holds j b)
    ]
