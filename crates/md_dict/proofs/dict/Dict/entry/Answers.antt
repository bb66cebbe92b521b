use Rattle.std.proofs.Common.{◌≡◌, ◌<◌, ◌≤◌, ◌+◌, length, slice_index, ◌∙◌, sym, ap, subst, arith}
use Rattle.std.proofs.lemmas.List.{get_or_read}
use Rattle.md_math.proofs.Bits.{read_result}
use Rattle.md_dict.specs.contracts.dict.Dict.{the_view}
use Rattle.md_dict.specs.Condensed.{entry_at, kept_number}
use Rattle.md_dict.proofs.Exchange.{entry-basic, entry-kept, entry-right}
use Rattle.md_dict.proofs.Values.{read_den}
use Rattle.md_dict.proofs.Readers.{only_entry}
use Rattle.md_dict.proofs.Uniqueness.{same_entries}
use Rattle.md_dict.proofs.dict.Dict.entry.Goals as goal

pub returns-then-column-self-clause-value : goal.returns-then-column-self-clause-value
returns-then-column-self-clause-value c =
    let right : c.args.self.now.columns + c.args.self.now.rows ≤ c.args.column = subst (λ d. d.columns + d.rows ≤ c.args.column) c.self.view_is c.if-column-self.true in
    let columns : c.self.inside.columns ≡ c.args.self.now.columns = ap (λ d. d.columns) c.self.view_is in
    rw (read_result c.kept.result c.kept.type_inv)
    (c.kept.ensures.value ∙ ap (λ s. kept_number c.args.self.now c.args.row s) columns ∙ sym (entry-right c.args.self.now c.args.row c.args.column right))

pub returns-then-place-self-clause-value : goal.returns-then-place-self-clause-value
returns-then-place-self-clause-value c =
    let seats : length c.self.inside.seat.items ≡ c.self.inside.columns + c.self.inside.rows = c.self.invariant.0.places.seat_length in
    let read : c.index-place.result.now ≡ slice_index c.self.inside.seat.items c.args.column = get_or_read c.self.inside.seat.items c.args.column c.index-place.result.now (omega arith) c.index-place.ensures 0 in
    let place : c.index-place.result.now ≡ slice_index c.args.self.now.seat c.args.column = read ∙ ap (λ d. slice_index d.seat c.args.column) c.self.view_is in
    let left : c.args.column < c.args.self.now.columns + c.args.self.now.rows = subst (λ d. c.args.column < d.columns + d.rows) c.self.view_is c.if-column-self.false in
    let inside : c.index-place.result.now < c.args.self.now.columns = subst (λ d. c.index-place.result.now < d.columns) c.self.view_is c.if-place-self.true in
    rw (read_result c.kept-then-place-self.result c.kept-then-place-self.type_inv)
    (c.kept-then-place-self.ensures.value ∙ ap (λ s. kept_number c.args.self.now c.args.row s) place
    ∙ sym (entry-kept c.args.self.now c.args.row c.args.column left (subst (λ s. s < c.args.self.now.columns) place inside)))

pub returns-then-column-self-clause-only : goal.returns-then-column-self-clause-only
returns-then-column-self-clause-only c = λ p den e h q. only_entry p c.args.self.now h den e q c.args.row c.args.column c.requires.row_in c.requires.column_in

pub returns-then-place-self-clause-only : goal.returns-then-place-self-clause-only
returns-then-place-self-clause-only c = λ p den e h q. only_entry p c.args.self.now h den e q c.args.row c.args.column c.requires.row_in c.requires.column_in

pub returns-clause-only : goal.returns-clause-only
returns-clause-only c = λ p den e h q. only_entry p c.args.self.now h den e q c.args.row c.args.column c.requires.row_in c.requires.column_in

pub returns-clause-value : goal.returns-clause-value
returns-clause-value c =
    let seats : length c.self.inside.seat.items ≡ c.self.inside.columns + c.self.inside.rows = c.self.invariant.0.places.seat_length in
    let read : c.index-place.result.now ≡ slice_index c.self.inside.seat.items c.args.column = get_or_read c.self.inside.seat.items c.args.column c.index-place.result.now (omega arith) c.index-place.ensures 0 in
    let basic : c.self.inside.columns ≤ slice_index c.self.inside.seat.items c.args.column = subst (λ s. c.self.inside.columns ≤ s) read c.if-place-self.false in
    rw (read_result c.basic_number.result c.basic_number.type_inv)
    ((rw (read_den (the_view c.self.inside) c.self.invariant.0, read) at c.basic_number.ensures.value)
    ∙ sym (entry-basic (the_view c.self.inside) c.args.row c.args.column c.if-column-self.false basic)
    ∙ ap (λ d. entry_at d c.args.row c.args.column) c.self.view_is)

pub returns-then-column-self-clause-unique : goal.returns-then-column-self-clause-unique
returns-then-column-self-clause-unique c = λ m n t basis den other e f p q r j a b. same_entries m n t basis den other e f p q r j a b

pub returns-then-place-self-clause-unique : goal.returns-then-place-self-clause-unique
returns-then-place-self-clause-unique c = λ m n t basis den other e f p q r j a b. same_entries m n t basis den other e f p q r j a b

pub returns-clause-unique : goal.returns-clause-unique
returns-clause-unique c = λ m n t basis den other e f p q r j a b. same_entries m n t basis den other e f p q r j a b
