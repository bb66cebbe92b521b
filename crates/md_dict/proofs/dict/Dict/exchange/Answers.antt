use Rattle.std.proofs.Common.{◌≡◌, ◌+◌, List, length, ℤ, refl, sym, ap, ◌∙◌, subst, inl, inr, arith}
use Rattle.md_dict.specs.contracts.dict.Dict.{the_view}
use Rattle.md_dict.specs.Condensed.{Condensed, IsShapedDictionary}
use Rattle.md_dict.specs.Fill.{AreUnderWay}
use Rattle.md_dict.specs.Rows.{kept_of, AreRows}
use Rattle.md_dict_division.proofs.Reading.{product_small, read_wide}
use Rattle.md_dict.proofs.Values.{exchanged_is}
use Rattle.md_dict.proofs.Exchanged.{IsShaped-exchanged}
use Rattle.md_dict.proofs.NewTable.{den_divides, den_quotient, divisor_small, kept_for, leaving_small, row_step, rows_for, rows_from, same_kept, same_rows, wide_row, wide_table, written_for, written_from, HasRows-new, IsDraft-for, IsDraft-from}
use Rattle.md_dict.proofs.dict.Dict.exchange.Goals as goal

pub fill-filled-requires-clause-step : goal.fill-filled-requires-clause-step
fill-filled-requires-clause-step c = row_step (the_view c.self.inside) c.args.self.now c.args.step.now c.self.inside.table c.self.view_is refl c.self.invariant.1 c.requires.step c.requires.exchange

pub fill-filled-requires-clause-draft : goal.fill-filled-requires-clause-draft
fill-filled-requires-clause-draft c = IsDraft-for (the_view c.self.inside) c.args.self.now c.args.step.now c.self.inside.draft c.self.view_is c.requires.step c.self.invariant.2

pub over-divided-requires-clause-pivot : goal.over-divided-requires-clause-pivot
over-divided-requires-clause-pivot c =
    let rows = row_step (the_view c.self.inside) c.args.self.now c.args.step.now c.self.inside.table c.self.view_is refl c.self.invariant.1 c.requires.step c.requires.exchange in
    product_small c.args.step.now.den c.args.step.now.pivot rows.pivot.table.den_size rows.pivot.table.pivot_size

pub over-divided-requires-clause-den_size : goal.over-divided-requires-clause-den_size
over-divided-requires-clause-den_size c =
    let rows = row_step (the_view c.self.inside) c.args.self.now c.args.step.now c.self.inside.table c.self.view_is refl c.self.invariant.1 c.requires.step c.requires.exchange in
    rows.pivot.table.den_size

pub over-divided-requires-clause-pivot_size : goal.over-divided-requires-clause-pivot_size
over-divided-requires-clause-pivot_size c =
    let rows = row_step (the_view c.self.inside) c.args.self.now c.args.step.now c.self.inside.table c.self.view_is refl c.self.invariant.1 c.requires.step c.requires.exchange in
    rows.pivot.table.pivot_size

pub over-divided-requires-clause-divides : goal.over-divided-requires-clause-divides
over-divided-requires-clause-divides c =
    let rows = row_step (the_view c.self.inside) c.args.self.now c.args.step.now c.self.inside.table c.self.view_is refl c.self.invariant.1 c.requires.step c.requires.exchange in
    rw (read_wide c.fill-filled.result.den c.fill-filled.ensures.den.size) (den_divides c.args.step.now c.self.inside.table c.fill-filled.result.den rows c.fill-filled.ensures.den)

pub renew-requires : goal.renew-requires
renew-requires c =
    let rows = row_step (the_view c.self.inside) c.args.self.now c.args.step.now c.self.inside.table c.self.view_is refl c.self.invariant.1 c.requires.step c.requires.exchange in
    let under_way : AreUnderWay c.args.step.now c.self.inside.table c.fill-filled.new.rows c.fill-filled.new.draft c.fill-filled.result = record {
      step_is = rows;
      noted = c.fill-filled.ensures.noted;
      room = c.fill-filled.ensures.draft;
      rest = c.fill-filled.ensures.rest;
      table = c.fill-filled.ensures.table;
      restorable = c.fill-filled.ensures.restorable;
      written = c.fill-filled.ensures.written;
      multiple = c.fill-filled.ensures.den;
      all = c.fill-filled.ensures.filled;
      wide = c.fill-filled.ensures.wide;
    } in
    record { before = (c.self.inside.table, under_way) }

pub invariant_of-self : goal.invariant_of-self
invariant_of-self c =
    let rows = row_step (the_view c.self.inside) c.args.self.now c.args.step.now c.self.inside.table c.self.view_is refl c.self.invariant.1 c.requires.step c.requires.exchange in
    let under_way : AreUnderWay c.args.step.now c.self.inside.table c.fill-filled.new.rows c.fill-filled.new.draft c.fill-filled.result = record {
      step_is = rows;
      noted = c.fill-filled.ensures.noted;
      room = c.fill-filled.ensures.draft;
      rest = c.fill-filled.ensures.rest;
      table = c.fill-filled.ensures.table;
      restorable = c.fill-filled.ensures.restorable;
      written = c.fill-filled.ensures.written;
      multiple = c.fill-filled.ensures.den;
      all = c.fill-filled.ensures.filled;
      wide = c.fill-filled.ensures.wide;
    } in
    let same = c.renew.ensures.same c.if-not-renew.true c.self.inside.table under_way in
    let count : c.args.step.now.rows ≡ c.self.inside.rows = ap (λ s. s.rows) c.requires.step ∙ sym (ap (λ v. v.rows) c.self.view_is) in
    let kept : kept_of (c.self.inside.rows + 2) c.renew.new.rows ≡ kept_of (c.self.inside.rows + 2) c.self.inside.table =
    subst (λ n. kept_of (n + 2) c.renew.new.rows ≡ kept_of (n + 2) c.self.inside.table) count (same_kept c.args.step.now c.self.inside.table c.renew.new.rows rows same) in
    let value : List ℤ → Condensed = λ k. record { rows = c.self.inside.rows; columns = c.self.inside.columns; bits = c.self.inside.width; den = c.self.inside.den; order = c.self.inside.order.items; seat = c.self.inside.seat.items; kept = k } in (
      subst (λ k. IsShapedDictionary (value k)) (sym kept) c.self.invariant.0,
      record {
        width = ap (λ r. r.width) same.rest ∙ c.self.invariant.1.width;
        table = subst (λ n. AreRows (n + 2) c.self.inside.den c.renew.new.rows) count (same_rows c.args.step.now c.self.inside.table c.renew.new.rows c.self.inside.den rows same (subst (λ n. AreRows (n + 2) c.self.inside.den c.self.inside.table) (sym count) c.self.invariant.1.table));
      },
      IsDraft-from (the_view c.self.inside) c.args.self.now c.args.step.now c.renew.new.draft c.self.view_is c.requires.step c.renew.ensures.draft,
    )

pub returns-then-not-renew-clause-wide : goal.returns-then-not-renew-clause-wide
returns-then-not-renew-clause-wide c =
    let rows = row_step (the_view c.self.inside) c.args.self.now c.args.step.now c.self.inside.table c.self.view_is refl c.self.invariant.1 c.requires.step c.requires.exchange in
    let under_way : AreUnderWay c.args.step.now c.self.inside.table c.fill-filled.new.rows c.fill-filled.new.draft c.fill-filled.result = record {
      step_is = rows;
      noted = c.fill-filled.ensures.noted;
      room = c.fill-filled.ensures.draft;
      rest = c.fill-filled.ensures.rest;
      table = c.fill-filled.ensures.table;
      restorable = c.fill-filled.ensures.restorable;
      written = c.fill-filled.ensures.written;
      multiple = c.fill-filled.ensures.den;
      all = c.fill-filled.ensures.filled;
      wide = c.fill-filled.ensures.wide;
    } in
    let product = rw (read_wide c.fill-filled.result.den c.fill-filled.ensures.den.size) at c.over-divided.ensures.divisor in
    elim (c.renew.ensures.wide c.if-not-renew.true c.self.inside.table under_way) [
      | inl w ↦ wide_row c.args.self.now c.args.step.now c.over-divided.result c.self.inside.table c.fill-filled.result.den c.requires.step c.requires.exchange (kept_for (the_view c.self.inside) c.args.self.now c.self.inside.table c.self.view_is refl) w c.over-divided.ensures.step rows c.fill-filled.ensures.den product
      | inr (f, wide) ↦
          wide_table c.args.self.now c.args.step.now c.over-divided.result c.self.inside.table _ _ _ c.fill-filled.result.den c.requires.step c.requires.exchange (kept_for (the_view c.self.inside) c.args.self.now c.self.inside.table c.self.view_is refl) (rows_for (the_view c.self.inside) c.args.self.now c.self.inside.table c.self.view_is c.self.invariant.1) f c.over-divided.ensures.step
          (divisor_small c.args.step.now c.self.inside.table c.over-divided.result.divisor c.fill-filled.result.den rows f.multiple.positive product) product wide
    ]

pub returns-then-not-renew-clause-stays : goal.returns-then-not-renew-clause-stays
returns-then-not-renew-clause-stays c =
    let rows = row_step (the_view c.self.inside) c.args.self.now c.args.step.now c.self.inside.table c.self.view_is refl c.self.invariant.1 c.requires.step c.requires.exchange in
    let under_way : AreUnderWay c.args.step.now c.self.inside.table c.fill-filled.new.rows c.fill-filled.new.draft c.fill-filled.result = record {
      step_is = rows;
      noted = c.fill-filled.ensures.noted;
      room = c.fill-filled.ensures.draft;
      rest = c.fill-filled.ensures.rest;
      table = c.fill-filled.ensures.table;
      restorable = c.fill-filled.ensures.restorable;
      written = c.fill-filled.ensures.written;
      multiple = c.fill-filled.ensures.den;
      all = c.fill-filled.ensures.filled;
      wide = c.fill-filled.ensures.wide;
    } in
    let same = c.renew.ensures.same c.if-not-renew.true c.self.inside.table under_way in
    let count : c.args.step.now.rows ≡ c.self.inside.rows = ap (λ s. s.rows) c.requires.step ∙ sym (ap (λ v. v.rows) c.self.view_is) in
    let kept : kept_of (c.self.inside.rows + 2) c.renew.new.rows ≡ kept_of (c.self.inside.rows + 2) c.self.inside.table =
    subst (λ n. kept_of (n + 2) c.renew.new.rows ≡ kept_of (n + 2) c.self.inside.table) count (same_kept c.args.step.now c.self.inside.table c.renew.new.rows rows same) in
    let value : List ℤ → Condensed = λ k. record { rows = c.self.inside.rows; columns = c.self.inside.columns; bits = c.self.inside.width; den = c.self.inside.den; order = c.self.inside.order.items; seat = c.self.inside.seat.items; kept = k } in
    ap value kept ∙ c.self.view_is

pub overflow_cast-step : goal.overflow_cast-step
overflow_cast-step c =
    let shape = c.requires.exchange.shape in
    omega (arith, leaving_small c.args.self.now c.args.step.now c.requires.step c.requires.exchange, shape.row_limit, shape.column_limit)

pub index_mut-requires-4 : goal.index_mut-requires-4
index_mut-requires-4 c =
    let long : length c.self.inside.seat.items ≡ c.args.self.now.columns + c.args.self.now.rows = ap (λ v. length v.seat) c.self.view_is ∙ c.requires.exchange.shape.places.seat_length in
    omega (arith, leaving_small c.args.self.now c.args.step.now c.requires.step c.requires.exchange, long, c.self.inside.seat.ok)

pub invariant_of-self-2 : goal.invariant_of-self-2
invariant_of-self-2 c =
    let rows = row_step (the_view c.self.inside) c.args.self.now c.args.step.now c.self.inside.table c.self.view_is refl c.self.invariant.1 c.requires.step c.requires.exchange in
    let under_way : AreUnderWay c.args.step.now c.self.inside.table c.fill-filled.new.rows c.fill-filled.new.draft c.fill-filled.result = record {
      step_is = rows;
      noted = c.fill-filled.ensures.noted;
      room = c.fill-filled.ensures.draft;
      rest = c.fill-filled.ensures.rest;
      table = c.fill-filled.ensures.table;
      restorable = c.fill-filled.ensures.restorable;
      written = c.fill-filled.ensures.written;
      multiple = c.fill-filled.ensures.den;
      all = c.fill-filled.ensures.filled;
      wide = c.fill-filled.ensures.wide;
    } in
    let product = rw (read_wide c.fill-filled.result.den c.fill-filled.ensures.den.size) at c.over-divided.ensures.divisor in
    let (f, table) = c.renew.ensures.new c.if-not-renew.false c.self.inside.table under_way in
    let written = written_from (the_view c.self.inside) c.args.self.now c.args.step.now c.over-divided.result.divisor c.renew.new.rows c.self.view_is (written_for c.args.self.now c.args.step.now c.self.inside.table c.renew.new.rows _ _ _ c.fill-filled.result.den c.over-divided.result.divisor c.requires.step c.requires.exchange (kept_for (the_view c.self.inside) c.args.self.now c.self.inside.table c.self.view_is refl) (rows_for (the_view c.self.inside) c.args.self.now c.self.inside.table c.self.view_is c.self.invariant.1) f table product) in
    let den = den_quotient c.args.self.now c.args.step.now c.over-divided.result.divisor c.fill-filled.result.den _ c.requires.step written product in
    rw (read_wide c.fill-filled.result.den c.fill-filled.ensures.den.size) (
      subst IsShapedDictionary
          (sym (exchanged_is (the_view c.self.inside) c.args.self.now c.args.step.now c.over-divided.result.divisor c.fill-filled.result.den _ c.self.view_is c.requires.step den))
          (IsShaped-exchanged c.args.self.now c.args.step.now.row c.args.step.now.entering c.over-divided.result.divisor _ written),
      rows_from (the_view c.self.inside) c.args.self.now c.args.step.now c.fill-filled.result.den c.renew.new.rows c.self.view_is c.requires.step (HasRows-new c.args.step.now c.self.inside.table c.renew.new.rows _ _ _ c.fill-filled.result.den f table),
      IsDraft-from (the_view c.self.inside) c.args.self.now c.args.step.now c.renew.new.draft c.self.view_is c.requires.step c.renew.ensures.draft,
    )

pub returns-clause-new : goal.returns-clause-new
returns-clause-new c =
    let rows = row_step (the_view c.self.inside) c.args.self.now c.args.step.now c.self.inside.table c.self.view_is refl c.self.invariant.1 c.requires.step c.requires.exchange in
    let under_way : AreUnderWay c.args.step.now c.self.inside.table c.fill-filled.new.rows c.fill-filled.new.draft c.fill-filled.result = record {
      step_is = rows;
      noted = c.fill-filled.ensures.noted;
      room = c.fill-filled.ensures.draft;
      rest = c.fill-filled.ensures.rest;
      table = c.fill-filled.ensures.table;
      restorable = c.fill-filled.ensures.restorable;
      written = c.fill-filled.ensures.written;
      multiple = c.fill-filled.ensures.den;
      all = c.fill-filled.ensures.filled;
      wide = c.fill-filled.ensures.wide;
    } in
    let product = rw (read_wide c.fill-filled.result.den c.fill-filled.ensures.den.size) at c.over-divided.ensures.divisor in
    let (f, table) = c.renew.ensures.new c.if-not-renew.false c.self.inside.table under_way in
    let small = divisor_small c.args.step.now c.self.inside.table c.over-divided.result.divisor c.fill-filled.result.den rows f.multiple.positive product in
    let written = written_from (the_view c.self.inside) c.args.self.now c.args.step.now c.over-divided.result.divisor c.renew.new.rows c.self.view_is (written_for c.args.self.now c.args.step.now c.self.inside.table c.renew.new.rows _ _ _ c.fill-filled.result.den c.over-divided.result.divisor c.requires.step c.requires.exchange (kept_for (the_view c.self.inside) c.args.self.now c.self.inside.table c.self.view_is refl) (rows_for (the_view c.self.inside) c.args.self.now c.self.inside.table c.self.view_is c.self.invariant.1) f table product) in
    let den = den_quotient c.args.self.now c.args.step.now c.over-divided.result.divisor c.fill-filled.result.den _ c.requires.step written product in
    rw (read_wide c.over-divided.result.divisor small, read_wide c.fill-filled.result.den c.fill-filled.ensures.den.size)
    (exchanged_is (the_view c.self.inside) c.args.self.now c.args.step.now c.over-divided.result.divisor c.fill-filled.result.den _ c.self.view_is c.requires.step den)

pub returns-clause-written : goal.returns-clause-written
returns-clause-written c =
    let rows = row_step (the_view c.self.inside) c.args.self.now c.args.step.now c.self.inside.table c.self.view_is refl c.self.invariant.1 c.requires.step c.requires.exchange in
    let under_way : AreUnderWay c.args.step.now c.self.inside.table c.fill-filled.new.rows c.fill-filled.new.draft c.fill-filled.result = record {
      step_is = rows;
      noted = c.fill-filled.ensures.noted;
      room = c.fill-filled.ensures.draft;
      rest = c.fill-filled.ensures.rest;
      table = c.fill-filled.ensures.table;
      restorable = c.fill-filled.ensures.restorable;
      written = c.fill-filled.ensures.written;
      multiple = c.fill-filled.ensures.den;
      all = c.fill-filled.ensures.filled;
      wide = c.fill-filled.ensures.wide;
    } in
    let product = rw (read_wide c.fill-filled.result.den c.fill-filled.ensures.den.size) at c.over-divided.ensures.divisor in
    let (f, table) = c.renew.ensures.new c.if-not-renew.false c.self.inside.table under_way in
    let small = divisor_small c.args.step.now c.self.inside.table c.over-divided.result.divisor c.fill-filled.result.den rows f.multiple.positive product in
    let written = written_from (the_view c.self.inside) c.args.self.now c.args.step.now c.over-divided.result.divisor c.renew.new.rows c.self.view_is (written_for c.args.self.now c.args.step.now c.self.inside.table c.renew.new.rows _ _ _ c.fill-filled.result.den c.over-divided.result.divisor c.requires.step c.requires.exchange (kept_for (the_view c.self.inside) c.args.self.now c.self.inside.table c.self.view_is refl) (rows_for (the_view c.self.inside) c.args.self.now c.self.inside.table c.self.view_is c.self.invariant.1) f table product) in
    rw (read_wide c.over-divided.result.divisor small) written
