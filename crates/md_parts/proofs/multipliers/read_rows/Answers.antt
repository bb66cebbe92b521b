use Rattle.std.proofs.Common.{◌≡◌, ◌∙◌, true, false, sym, subst, arith, codes, length, pos, ◌∷◌, Ok, ℕ, SFits}
use Rattle.std.proofs.lemmas.Int.{to_z-of_z}
use mir.Syntax.{w128}
use Rattle.md_parts.specs.Reading.{read_record}
use Rattle.md_parts.specs.Repeated.{comes_next}
use Rattle.md_parts.specs.Multipliers.{row_fields}
use Rattle.md_parts.proofs.Spread.{spread-all}
use Rattle.md_parts.proofs.RowsFound.{found-more, found-all}
use Rattle.md_parts.proofs.multipliers.read_rows.Goals as goal

pub loop-alloc-preserved : goal.loop-alloc-preserved
loop-alloc-preserved c =
    let face = c.loop-alloc.face in
    let main = c.loop-alloc.main in
    let found = c.in_ok-found.found.multipliers in
    let row = c.in_ok-found.found.row in
    let comes : comes_next (codes "row") c.loop-alloc.reader.left ≡ true = sym c.comes_next.ensures ∙ c.loop-alloc-test.true in
    let one : read_record (codes "row") (row_fields c.args.rows c.args.count (length face)) c.loop-alloc.reader ≡ Ok (pos row ∷ found, c.read_row.new.reader) =
    subst (λ (n : ℕ). read_record (codes "row") (row_fields c.args.rows c.args.count n) c.loop-alloc.reader ≡ Ok (pos row ∷ found, c.read_row.new.reader)) c.len.ensures c.in_ok-found.ensures.read in
    let place = c.in_ok-found.ensures.row in
    let first_fits : SFits w128 c.number_or_zero.result = record { sfits = c.number_or_zero.type_inv } in
    let second_fits : SFits w128 c.number_or_zero-in-loop-alloc.result = record { sfits = c.number_or_zero-in-loop-alloc.type_inv } in
    let first = rw (to_z-of_z w128 c.number_or_zero.result first_fits, c.number_or_zero.ensures) at c.in_ok-put_at.ensures.ok in
    let second = rw (to_z-of_z w128 c.number_or_zero-in-loop-alloc.result second_fits, c.number_or_zero-in-loop-alloc.ensures) at c.in_ok-put_at-2.ensures.ok in
    rw (first, second) (found-more c.args.rows c.args.count c.args.reader.now c.loop-alloc.reader c.read_row.new.reader face main row found c.loop-alloc.invariant comes one (omega (arith, place, c.len.ensures)) place.1)

pub returns : goal.returns
returns c =
    let h = c.loop-alloc.invariant in
    let same = h.same in
    let ends : comes_next (codes "row") c.loop-alloc.reader.left ≡ false = sym c.comes_next.ensures ∙ c.loop-alloc-test.false in (
      h.records,
      found-all c.args.rows c.args.count c.args.reader.now c.loop-alloc.reader c.loop-alloc.face c.loop-alloc.main h ends,
      c.in_ok-fill.ensures.ok ∙ spread-all 1 c.args.rows h.records c.loop-alloc.face h.face_is h.few,
      c.in_ok-fill-2.ensures.ok ∙ spread-all 2 c.args.rows h.records c.loop-alloc.main h.main_is (omega arith),
    )
