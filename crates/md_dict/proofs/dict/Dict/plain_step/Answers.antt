use Rattle.std.proofs.Common.{◌≡◌, ◌<◌, ◌+◌, length, slice_index, ◌∙◌, sym, ap, subst, arith}
use Rattle.std.proofs.lemmas.List.{get_or_read}
use Rattle.md_math.proofs.Bits.{read_result}
use Rattle.md_dict.specs.contracts.dict.Dict.{the_view}
use Rattle.md_dict.specs.Condensed.{basic_at, kept_number}
use Rattle.md_dict.specs.Exchange.{IsExchange}
use Rattle.md_dict.proofs.Values.{read_den, read_limit, step_is, step_for}
use Rattle.md_dict.proofs.dict.Dict.plain_step.Goals as goal

pub returns : goal.returns
returns c =
    let h : IsExchange (the_view c.self.inside) c.args.row c.args.column = subst (λ d. IsExchange d c.args.row c.args.column) (sym c.self.view_is) c.requires in
    let row_in : c.args.row < c.self.inside.rows = h.row_in in
    let column_in : c.args.column < c.self.inside.columns = h.column_in in
    let seats : length c.self.inside.seat.items ≡ c.self.inside.columns + c.self.inside.rows = h.shape.places.seat_length in
    let orders : length c.self.inside.order.items ≡ c.self.inside.columns + c.self.inside.rows = h.shape.places.order_length in
    let place : c.index-place.result.now ≡ slice_index c.self.inside.seat.items c.args.column = get_or_read c.self.inside.seat.items c.args.column c.index-place.result.now (omega arith) c.index-place.ensures 0 in
    let leaving : c.index.result.now ≡ basic_at (the_view c.self.inside) c.args.row = get_or_read c.self.inside.order.items (c.self.inside.columns + c.args.row) c.index.result.now (omega arith) c.index.ensures 0 in
    let inside : c.index-place.result.now < c.self.inside.columns = subst (λ s. s < c.self.inside.columns) (sym place) h.place_in in
    step_for (the_view c.self.inside) c.args.self.now c.args.row c.args.column _ c.self.view_is
    (step_is (the_view c.self.inside) c.args.row c.args.column c.index-place.result.now c.index.result.now c.unsigned_abs.result _ _ place leaving
    (read_result c.kept.result c.kept.type_inv ∙ c.kept.ensures.value ∙ ap (λ d. kept_number d c.args.row c.index-place.result.now) (sym c.self.view_is) ∙ ap (λ s. kept_number (the_view c.self.inside) c.args.row s) place)
    (read_den (the_view c.self.inside) h.shape)
    (read_limit c.self.inside.width c.unsigned_abs.result c.limit.result h.shape.most_bits c.limit.ensures.value c.unsigned_abs.ensures.value))
