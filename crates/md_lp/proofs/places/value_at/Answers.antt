use Rattle.std.proofs.Common.{◌<◌, inl, inr, sym, ◌∙◌, arith, length}
use Rattle.std.proofs.lemmas.Bool.{cases_lt}
use Rattle.md_math.proofs.Bits.{read_short_result, read_result}
use Rattle.md_lp.specs.Shape.{column_in}
use Rattle.md_lp.specs.Stored.{shown_terms}
use Rattle.md_lp.proofs.SparseRows.{value_of-present, value_of-absent}
use Rattle.md_lp.proofs.StoredTerms.{length-shown, value-shown}
use Rattle.md_lp.proofs.places.value_at.Goals as goal

pub returns-in-Ok : goal.returns-in-Ok
returns-in-Ok c =
    let at = c.in-Ok.at in
    let found = c.in-Ok.ensures.found in
    let terms = shown_terms c.args.terms.now in
    let inside : at < length terms = omega (arith, length-shown c.args.terms.now, found.0) in
    read_result c.from.result c.from.type_inv
    ∙ c.from.ensures
    ∙ read_short_result c.value.result c.value.type_inv
    ∙ c.value.ensures
    ∙ sym (value-shown c.args.terms.now at)
    ∙ sym (rw found.1 at (value_of-present terms at c.requires.ascending inside))

pub returns-in-Err : goal.returns-in-Err
returns-in-Err c =
    let gap = c.in-Err.ensures.absent in
    let terms = shown_terms c.args.terms.now in
    sym (value_of-absent terms c.args.column (λ k b e. elim (cases_lt k c.in-Err.field-0) [
      | inl l ↦ (let below : column_in terms k < c.args.column = gap.smaller_before k l in omega arith)
      | inr l ↦ (let above : c.args.column < column_in terms k = gap.greater_after k l b in omega arith)
    ]))
