use Rattle.std.proofs.Common.{◌<◌, ◌*ℤ◌, int_div, slice_index, inl, inr, sym, subst}
use Rattle.std.proofs.lemmas.Bool.{cases_lt}
use Rattle.md_num.specs.Limits.{limit_of}
use Rattle.md_dict.specs.Wide.{IsFirstWide}
use Rattle.md_dict.specs.Condensed.{TakesColumn}
use Rattle.md_dict.specs.Step.{new_entry}
use Rattle.md_dict.specs.Exchange.{IsExchange, IsWideStep}
use Rattle.md_dict.proofs.Values.{IsNarrow-shaped, IsExchange-from_entry}
use Rattle.md_dict.proofs.NewTable.{new_basis, new_holds, new_narrow, wide_basis, wide_exchange, wide_itself, wide_of}
use Rattle.md_dict.proofs.dict.Dict.pivot.Goals as goal

pub returns-then-is_basic-clause-narrow : goal.returns-then-is_basic-clause-narrow
returns-then-is_basic-clause-narrow c = IsNarrow-shaped c.args.self.now c.is_basic.ensures.shape

pub first_wide-requires-clause-exchange : goal.first_wide-requires-clause-exchange
first_wide-requires-clause-exchange c =
    let seat : slice_index c.args.self.now.seat c.args.column < c.args.self.now.columns =
    elim (cases_lt (slice_index c.args.self.now.seat c.args.column) c.args.self.now.columns) [ inl l ↦ l | inr l ↦ (let clash = c.if-is_basic.ensures.basic.1 l in cc) ] in
    let exchange : IsExchange c.args.self.now c.args.row c.args.column = IsExchange-from_entry c.args.self.now c.args.row c.args.column c.is_basic.ensures.shape c.requires.row_in c.requires.column_in seat c.requires.positive in
    subst (λ d. IsExchange d c.in-Err.divided.row c.in-Err.divided.entering) (sym c.in-Err.ensures.stays)
    (wide_exchange c.args.self.now c.args.row c.args.column c.in-Err.divided (wide_of c.args.self.now c.args.row c.args.column c.plain_step-step.result c.in-Err.divided c.plain_step-step.ensures c.in-Err.ensures.wide) exchange)

pub first_wide-requires-clause-wide : goal.first_wide-requires-clause-wide
first_wide-requires-clause-wide c =
    subst (λ d. IsWideStep d c.in-Err.divided.row c.in-Err.divided.entering c.in-Err.divided) (sym c.in-Err.ensures.stays)
    (wide_itself c.args.self.now c.args.row c.args.column c.in-Err.divided (wide_of c.args.self.now c.args.row c.args.column c.plain_step-step.result c.in-Err.divided c.plain_step-step.ensures c.in-Err.ensures.wide))

pub returns-in-Err-clause-too_wide : goal.returns-in-Err-clause-too_wide
returns-in-Err-clause-too_wide c = λ p k.
    let seat : slice_index c.args.self.now.seat c.args.column < c.args.self.now.columns =
    elim (cases_lt (slice_index c.args.self.now.seat c.args.column) c.args.self.now.columns) [ inl l ↦ l | inr l ↦ (let clash = c.if-is_basic.ensures.basic.1 l in cc) ] in
    let exchange : IsExchange c.args.self.now c.args.row c.args.column = IsExchange-from_entry c.args.self.now c.args.row c.args.column c.is_basic.ensures.shape c.requires.row_in c.requires.column_in seat c.requires.positive in
    let wide = wide_of c.args.self.now c.args.row c.args.column c.plain_step-step.result c.in-Err.divided c.plain_step-step.ensures c.in-Err.ensures.wide in
    let first : IsFirstWide c.args.self.now.rows c.args.self.now.columns (limit_of c.args.self.now.bits) (int_div (c.in-Err.divided.den *ℤ c.in-Err.divided.pivot) c.in-Err.divided.divisor) (new_entry c.in-Err.divided c.args.self.now.kept c.args.self.now.seat c.in-Err.divided.divisor) c.first_wide.result =
    subst (λ d. IsFirstWide d.rows d.columns (limit_of d.bits) (int_div (c.in-Err.divided.den *ℤ c.in-Err.divided.pivot) c.in-Err.divided.divisor) (new_entry c.in-Err.divided d.kept d.seat c.in-Err.divided.divisor) c.first_wide.result) c.in-Err.ensures.stays c.first_wide.ensures in
    wide_basis p c.args.self.now c.args.row c.args.column c.in-Err.divided c.first_wide.result k exchange wide first

pub returns-clause-dictionary : goal.returns-clause-dictionary
returns-clause-dictionary c = λ p k.
    new_holds p c.args.self.now c.exchange.new.self c.plain_step-step.result c.exchange.result c.in_default.not-Err c.exchange.ensures.new c.exchange.ensures.written k

pub returns-clause-basis : goal.returns-clause-basis
returns-clause-basis c =
    subst (λ t. TakesColumn c.args.self.now c.exchange.new.self t.row t.entering) c.plain_step-step.ensures
    (new_basis c.args.self.now c.exchange.new.self c.plain_step-step.result c.exchange.result c.in_default.not-Err c.exchange.ensures.new c.exchange.ensures.written)

pub returns-clause-narrow : goal.returns-clause-narrow
returns-clause-narrow c = new_narrow c.args.self.now c.exchange.new.self c.plain_step-step.result c.exchange.result c.in_default.not-Err c.exchange.ensures.new c.exchange.ensures.written
