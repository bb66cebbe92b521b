use Rattle.std.proofs.Common.{◌≡◌, true, false, ℤ, int_le, Option, None, Some, ℕ, ◌+◌, ◌≤ℤ◌, ◌<ℤ◌, pos, subst, refl, arith}
use Rattle.std.proofs.lemmas.Int.{ints}
use Rattle.md_math.proofs.Bits.{read_result}
use Rattle.md_dict.specs.Condensed.{Condensed, entry_at}
use Rattle.md_simplex.specs.declared.leaving.Rival.{Rival}
use Rattle.md_simplex.specs.Rivals.{IsBestRival}
use Rattle.md_simplex.proofs.BestLaws.{best_first, best_skips}
use Rattle.md_simplex.proofs.leaving.better.Goals as goal

not_above : (x : ℤ) → int_le x (pos 0) ≡ true → x ≤ℤ pos 0
not_above x h = grind (arith, ints)

above : (x : ℤ) → int_le x (pos 0) ≡ false → pos 0 <ℤ x
above x h = grind (arith, ints)

-- a row without a positive entry
rival_skips : (d : Condensed) (column n : ℕ) (best : Option Rival) → IsBestRival d column n best → entry_at d n column ≤ℤ pos 0 → IsBestRival d column (n + 1) best
rival_skips d column n None h l = best_skips d.rows d.columns (entry_at d) column n None h l
rival_skips d column n (Some rival) h l = (h.0, best_skips d.rows d.columns (entry_at d) column n (Some rival.row) h.1 l)

pub returns-then-entry-le0 : goal.returns-then-entry-le0
returns-then-entry-le0 c = rival_skips c.args.dict.now c.args.column c.args.row c.args.best c.requires.best (not_above (entry_at c.args.dict.now c.args.row c.args.column) (rw (read_result c.entry-entry.result c.entry-entry.type_inv, c.entry-entry.ensures.value) at c.if-entry-le0.true))

pub returns-in-None : goal.returns-in-None
returns-in-None c =
    let d = c.args.dict.now in
    let positive : pos 0 <ℤ entry_at d c.args.row c.args.column = above (entry_at d c.args.row c.args.column) (rw (read_result c.entry-entry.result c.entry-entry.type_inv, c.entry-entry.ensures.value) at c.if-entry-le0.false) in
    rw (read_result c.entry-entry.result c.entry-entry.type_inv) (
      record { column_is = refl; row_in = c.requires.row; entry_is = c.entry-entry.ensures.value; entry_size = c.entry-entry.ensures.size },
      best_first d.rows d.columns (entry_at d) c.args.column c.args.row (subst (IsBestRival d c.args.column c.args.row) c.in-None.is c.requires.best) positive,
    )
