-- The draws that a number stands for: a linear congruential sequence (Lehmer 1951), begun with the number.
use Rattle.std.specs.Prelude.{ℕ, zero, suc, ◌+◌, ◌*◌, ◌%◌}

-- the draw at a place; the number itself, cut down, is at the place 0
abbrev pub draw_at : ℕ → ℕ → ℕ
draw_at number zero = number % 65537
draw_at number (suc place) = (75 * draw_at number place + 74) % 65537
