-- The auction that a number stands for.
use Rattle.std.specs.Prelude.{ℕ, zero, suc, ◌+◌, ◌%◌, ℤ, pos, List}
use Rattle.md_math.specs.Lists.{list_to}
use Rattle.md_setting.specs.Auction.{WrittenAuction, written_auction}
use Rattle.md_gen.specs.Draws.{draw_at}

-- how far a value is above the one before, or the first above 0; the draws of the values come first
abbrev pub step_at : ℕ → ℕ → ℕ
step_at number k = 1 + draw_at number (k + 1) % 5

-- the k-th value, counted from 0
abbrev pub value_at : ℕ → ℕ → ℕ
value_at number zero = step_at number 0
value_at number (suc k) = value_at number k + step_at number (k + 1)

-- the weight of the k-th value; the draws of the weights come after the six of the values
abbrev pub weight_at : ℕ → ℕ → ℕ
weight_at number k = 1 + draw_at number (k + 7) % 3

unfoldable pub values_of : ℕ → List ℤ
values_of number = list_to 6 (λ k. pos (value_at number k))

unfoldable pub weights_of : ℕ → List ℤ
weights_of number = list_to 6 (λ k. pos (weight_at number k))

-- four bidders with six values; the designer wants the payments alone
abbrev pub generated_auction : ℕ → WrittenAuction
generated_auction number = written_auction (pos 4) (values_of number) (weights_of number) (pos 1) (pos 0) (pos 0)
