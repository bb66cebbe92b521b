use Rattle.std.proofs.Common.{◌==◌, if◌then◌else◌, sym, refl, ◌∙◌, arith, eq-eqb, ne_eqb}
use Rattle.md_math.proofs.Bits.{read_result}
use Rattle.md_dict.specs.Rows.{own_den, own_number}
use Rattle.md_dict.proofs.OldRows.{own_of_part, read_den, read_factor, wide_enough}
use Rattle.md_dict.proofs.Filling.{combination_of, den_combined, staying}
use Rattle.md_dict.proofs.LeastRows.{AreLeastRows-of}
use Rattle.md_dict.proofs.RowSteps.{IsNewRow-pivot, IsNewRow-stays}
use Rattle.md_dict.proofs.fill.row_den.Goals as goal

pub returns-then-stays : goal.returns-then-stays
returns-then-stays c = λ rows h o.
    let den = read_den c.args.step.now rows c.args.old.now c.args.row h in
    let t = staying c.args.step.now c.args.old.now.factors.now c.args.row (sym c.stays.ensures ∙ c.if-stays.true) in
    rw (read_result c.from.result c.from.type_inv ∙ c.from.ensures ∙ den.short) (record {
      numbers = own_number rows c.args.row;
      new = rw den.value (IsNewRow-stays c.args.step.now rows c.args.row (own_number rows c.args.row) h.step_is c.requires.row t.other t.not_face (sym (h.factors c.args.row c.requires.row) ∙ t.zero) (λ s b. refl));
      size = wide_enough _ den.size;
    })

pub returns-then-row-step : goal.returns-then-row-step
returns-then-row-step c = λ rows h o.
    let factor = read_factor c.args.step.now rows c.args.old.now c.args.row h c.requires.row in
    rw (read_result c.from-then-row-step.result c.from-then-row-step.type_inv ∙ c.from-then-row-step.ensures ∙ factor.short) (record {
      numbers = λ s. if s == c.args.step.now.place then own_den rows c.args.step.now.row else own_number rows c.args.step.now.row s;
      new = rw (factor.value, c.if-row-step.true) (IsNewRow-pivot c.args.step.now rows (λ s. if s == c.args.step.now.place then own_den rows c.args.step.now.row else own_number rows c.args.step.now.row s) h.step_is (λ s b p. rw (ne_eqb s c.args.step.now.place p) refl) (rw (eq-eqb c.args.step.now.place c.args.step.now.place refl) refl));
      size = wide_enough _ factor.size;
    })

pub exact_den-requires : goal.exact_den-requires
exact_den-requires c =
    let (rows, h, o) = c.requires.old in
    record {
      combination = combination_of c.args.step.now rows c.args.row c.lowest_combination-combination.result _ c.args.old.now.pivot_row.now h.step_is c.requires.row (c.lowest_combination-combination.ensures rows h)
          (own_of_part c.args.step.now rows c.args.numbers.now c.args.row _ _ h.step_is c.requires.table o c.requires.row refl (omega arith)) h.pivot_row;
      rows = AreLeastRows-of c.args.step.now rows c.args.row c.lowest_combination-combination.result _ c.args.old.now.pivot_row.now h.step_is c.requires.row (c.lowest_combination-combination.ensures rows h)
          (own_of_part c.args.step.now rows c.args.numbers.now c.args.row _ _ h.step_is c.requires.table o c.requires.row refl (omega arith)) h.pivot_row;
    }

pub returns : goal.returns
returns c = λ rows h o.
    rw (read_result c.exact_den.result c.exact_den.type_inv)
    (den_combined c.args.step.now rows c.args.row c.lowest_combination-combination.result _ c.args.old.now.pivot_row.now c.exact_den.result h.step_is c.requires.row (c.lowest_combination-combination.ensures rows h)
    (own_of_part c.args.step.now rows c.args.numbers.now c.args.row _ _ h.step_is c.requires.table o c.requires.row refl (omega arith)) h.pivot_row
    c.exact_den.ensures)
