use Rattle.std.proofs.Common.{refl, ap, ◌∙◌}
use Rattle.md_dict.specs.contracts.dict.Dict.{the_view}
use Rattle.md_dict.proofs.NewTable.{first_for, kept_for, rows_for, seated_for, step_for_wide, wide_divisor, wide_entries}
use Rattle.md_dict.proofs.dict.Dict.first_wide.Goals as goal

pub first_wide-requires-clause-step : goal.first_wide-requires-clause-step
first_wide-requires-clause-step c =
    step_for_wide c.args.self.now c.args.divided.now c.self.inside.table c.requires.exchange c.requires.wide (kept_for (the_view c.self.inside) c.args.self.now c.self.inside.table c.self.view_is refl) (rows_for (the_view c.self.inside) c.args.self.now c.self.inside.table c.self.view_is c.self.invariant.1)

pub first_wide-requires-clause-seated : goal.first_wide-requires-clause-seated
first_wide-requires-clause-seated c = rw (c.as_slice.ensures.value ∙ ap (λ d. d.seat) c.self.view_is) (seated_for c.args.self.now c.args.divided.now c.requires.exchange c.requires.wide)

pub first_wide-requires-clause-divisor : goal.first_wide-requires-clause-divisor
first_wide-requires-clause-divisor c = wide_divisor c.args.self.now c.args.divided.now c.self.inside.table c.requires.wide (kept_for (the_view c.self.inside) c.args.self.now c.self.inside.table c.self.view_is refl)

pub first_wide-requires-clause-wide : goal.first_wide-requires-clause-wide
first_wide-requires-clause-wide c =
    rw (c.as_slice.ensures.value ∙ ap (λ d. d.seat) c.self.view_is) (wide_entries c.args.self.now c.args.divided.now c.self.inside.table c.requires.wide (kept_for (the_view c.self.inside) c.args.self.now c.self.inside.table c.self.view_is refl))

pub returns : goal.returns
returns c =
    first_for c.args.self.now c.args.divided.now c.self.inside.table _ c.requires.wide (kept_for (the_view c.self.inside) c.args.self.now c.self.inside.table c.self.view_is refl)
    (rw (c.as_slice.ensures.value ∙ ap (λ d. d.seat) c.self.view_is) at c.first_wide.ensures)
