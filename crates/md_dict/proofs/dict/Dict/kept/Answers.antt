use Rattle.std.proofs.Common.{◌≡◌, ◌<◌, ◌+◌, ◌∙◌, refl, sym, subst}
use Rattle.md_math.proofs.Bits.{read_result}
use Rattle.md_dict.specs.contracts.dict.Dict.{the_view}
use Rattle.md_dict.specs.Condensed.{entry_at, place_column}
use Rattle.md_dict.proofs.Values.{number_for, within_for}
use Rattle.md_dict.proofs.Readers.{entry-place}
use Rattle.md_dict.proofs.Tables.{IsRowNumber-of}
use Rattle.md_dict.proofs.dict.Dict.kept.Goals as goal

pub number-requires-clause-inside : goal.number-requires-clause-inside
number-requires-clause-inside c =
    let row_in : c.args.row < c.self.inside.rows + 2 = subst (λ d. c.args.row < d.rows + 2) (sym c.self.view_is) c.requires.row_in in
    let place_in : c.args.place < c.self.inside.columns + 1 = subst (λ d. c.args.place < d.columns + 1) (sym c.self.view_is) c.requires.place_in in
    (IsRowNumber-of (the_view c.self.inside) c.self.inside.table c.args.row c.args.place c.self.invariant.0 refl c.self.invariant.1 row_in place_in).inside

pub returns-clause-value : goal.returns-clause-value
returns-clause-value c =
    let row_in : c.args.row < c.self.inside.rows + 2 = subst (λ d. c.args.row < d.rows + 2) (sym c.self.view_is) c.requires.row_in in
    let place_in : c.args.place < c.self.inside.columns + 1 = subst (λ d. c.args.place < d.columns + 1) (sym c.self.view_is) c.requires.place_in in
    let k = IsRowNumber-of (the_view c.self.inside) c.self.inside.table c.args.row c.args.place c.self.invariant.0 refl c.self.invariant.1 row_in place_in in
    number_for (the_view c.self.inside) c.args.self.now c.args.row c.args.place _ c.self.view_is
    (read_result c.number.result c.number.type_inv ∙ c.number.ensures.value ∙ k.value)

pub returns-clause-size : goal.returns-clause-size
returns-clause-size c =
    let row_in : c.args.row < c.self.inside.rows + 2 = subst (λ d. c.args.row < d.rows + 2) (sym c.self.view_is) c.requires.row_in in
    let place_in : c.args.place < c.self.inside.columns + 1 = subst (λ d. c.args.place < d.columns + 1) (sym c.self.view_is) c.requires.place_in in
    let k = IsRowNumber-of (the_view c.self.inside) c.self.inside.table c.args.row c.args.place c.self.invariant.0 refl c.self.invariant.1 row_in place_in in
    rw (read_result c.number.result c.number.type_inv, c.number.ensures.value, k.value)
    (within_for (the_view c.self.inside) c.args.self.now _ c.self.view_is k.size)

pub returns-clause-entry : goal.returns-clause-entry
returns-clause-entry c =
    let row_in : c.args.row < c.self.inside.rows + 2 = subst (λ d. c.args.row < d.rows + 2) (sym c.self.view_is) c.requires.row_in in
    let place_in : c.args.place < c.self.inside.columns + 1 = subst (λ d. c.args.place < d.columns + 1) (sym c.self.view_is) c.requires.place_in in
    let k = IsRowNumber-of (the_view c.self.inside) c.self.inside.table c.args.row c.args.place c.self.invariant.0 refl c.self.invariant.1 row_in place_in in
    rw (read_result c.number.result c.number.type_inv)
    (subst (λ d. c.number.result ≡ entry_at d c.args.row (place_column d c.args.place)) c.self.view_is
    (c.number.ensures.value ∙ k.value ∙ sym (entry-place (the_view c.self.inside) c.args.row c.args.place c.self.invariant.0 place_in)))
