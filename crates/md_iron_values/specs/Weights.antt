-- Weights of the values of an auction, added up.
use Rattle.std.specs.Prelude.{ℕ, zero, suc, ◌+◌}

-- the sum of the weights of the values below a place
abbrev pub weight_before : (ℕ → ℕ) → ℕ → ℕ
weight_before weight zero = 0
weight_before weight (suc place) = weight_before weight place + weight place
