-- The greatest size of a number of so many bits.
use Rattle.std.specs.Prelude.{ℕ, ◌-◌, ◌^◌}

-- two to the power of the bits, minus one
abbrev pub limit_of : ℕ → ℕ
limit_of bits = 2 ^ bits - 1
