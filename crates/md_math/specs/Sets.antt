-- Sets of places, written as numbers: the bit of a place, counted from 0, is 1 where the set has it.
use Rattle.std.specs.Prelude.{ℕ, Bool, ◌==◌}
use Rattle.std.specs.Int.{bit_at}

-- whether a set has a place
unfoldable pub member : ℕ → ℕ → Bool
member set place = bit_at set place == 1
