-- The test of the rows and cells of a setting.
use Rattle.std.proofs.Common.{◌≡◌, ℕ, ◌+◌, ◌*◌, ◌<◌, ◌≤◌, Bool, true, false, ◌&&◌, refl, sym, ap, ◌∙◌, arith, nat_le}
use Rattle.std.proofs.lemmas.Bool.Decides.{nat_tests}
use Rattle.md_setting.specs.Setting.{GeneralSetting}
use Rattle.md_setting.specs.Rows.{row_count, cell_count, column_count, demand_count}
use Rattle.md_setting.specs.Refusals.{has_few_rows}

le_true : (m n : ℕ) → m ≤ n → nat_le m n ≡ true
le_true m n h = grind (arith, nat_tests)

le_false : (m n : ℕ) → n < m → nat_le m n ≡ false
le_false m n h = grind (arith, nat_tests)

right_false : (a b : Bool) → b ≡ false → (a && b) ≡ false
right_false true b h = h
right_false false b h = refl

pub few_rows : (s : GeneralSetting) (rows width : ℕ) → rows ≡ row_count s → width ≡ column_count s + demand_count s + row_count s + 1 →
    rows ≤ 4096 → rows * width ≤ 4000000 → has_few_rows s ≡ true
unfolding has_few_rows
few_rows s rows width e f h k =
    let cells : rows * width ≡ cell_count s = ap (λ n. n * width) e ∙ ap (λ n. row_count s * n) f in
    rw (← cells, ← e, le_true rows 4096 h, le_true (rows * width) 4000000 k) refl

pub many_rows : (s : GeneralSetting) (rows : ℕ) → rows ≡ row_count s → 4096 < rows → has_few_rows s ≡ false
unfolding has_few_rows
many_rows s rows e h = rw (← e, le_false rows 4096 h) refl

pub many_cells : (s : GeneralSetting) (rows width : ℕ) → rows ≡ row_count s → width ≡ column_count s + demand_count s + row_count s + 1 →
    4000000 < rows * width → has_few_rows s ≡ false
unfolding has_few_rows
many_cells s rows width e f h =
    let cells : rows * width ≡ cell_count s = ap (λ n. n * width) e ∙ ap (λ n. row_count s * n) f in
    right_false (nat_le (row_count s) 4096) (nat_le (cell_count s) 4000000) (ap (λ n. nat_le n 4000000) (sym cells) ∙ le_false (rows * width) 4000000 h)

pub ruleset row_tests = (few_rows, many_rows, many_cells)
