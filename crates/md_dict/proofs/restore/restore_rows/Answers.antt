use Rattle.std.proofs.Common.{inl, inr, ◌∙◌, arith}
use Rattle.std.proofs.lemmas.Bool.{cases_lt}
use Rattle.md_math.specs.Lists.{number_at}
use Rattle.md_dict.specs.Step.{number_in}
use Rattle.md_dict_division.proofs.Reading.{read_short}
use Rattle.md_dict.proofs.Filling.{CanBeRestored-same}
use Rattle.md_dict.proofs.Restoring.{AreHalfRestored-more, AreHalfRestored-none}
use Rattle.md_dict.proofs.restore.restore_rows.Goals as goal

pub loop-row-init : goal.loop-row-init
loop-row-init c = ((λ rows h r. AreHalfRestored-none c.args.step.now rows c.args.numbers.now), c.requires.table)

pub restore_row-requires-clause-old : goal.restore_row-requires-clause-old
restore_row-requires-clause-old c =
    let (rows, h, r) = c.requires.old in
    let half = c.loop-row.invariant.0 rows h r in
    let written = r.written c.loop-row.row c.loop-row-test.true in
    rw (read_short (number_at c.args.dens.now c.loop-row.row) written.size)
    (rows, h, CanBeRestored-same c.args.step.now rows c.args.old.now.factors.now c.loop-row.row (number_at c.args.dens.now c.loop-row.row) (number_in c.args.step.now c.args.numbers.now c.loop-row.row) (number_in c.args.step.now c.loop-row.numbers c.loop-row.row) (λ s b. half.rest c.loop-row.row s (omega arith) b) written)

pub loop-row-preserved : goal.loop-row-preserved
loop-row-preserved c = (
  (λ rows h r.
      let half = c.loop-row.invariant.0 rows h r in
      let written = r.written c.loop-row.row c.loop-row-test.true in
      AreHalfRestored-more c.args.step.now rows c.args.numbers.now c.loop-row.numbers c.restore_row.new.numbers c.loop-row.row half c.restore_row.ensures.leaves
      ((rw (read_short (number_at c.args.dens.now c.loop-row.row) written.size) at c.restore_row.ensures.back) rows h
      (CanBeRestored-same c.args.step.now rows c.args.old.now.factors.now c.loop-row.row (number_at c.args.dens.now c.loop-row.row) (number_in c.args.step.now c.args.numbers.now c.loop-row.row) (number_in c.args.step.now c.loop-row.numbers c.loop-row.row) (λ s b. half.rest c.loop-row.row s (omega arith) b) written))),
  c.restore_row.ensures.table,
)

pub returns-clause-back : goal.returns-clause-back
returns-clause-back c = λ rows h r. record {
  at = λ i s a b d.
      let half = c.loop-row.invariant.0 rows h r in
      elim (cases_lt i c.args.written) [
        | inl l ↦ half.restored i s (omega arith) b d
        | inr l ↦ half.rest i s (omega arith) d ∙ r.rest.at i s l b d
      ];
}
