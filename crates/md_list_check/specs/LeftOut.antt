-- Values of no record, and what those from one of them on would bring: sums of gains and benefits of the values below each place.
use Rattle.std.specs.Prelude.{ℕ, ℤ, neg_ℤ}
use Rattle.md_math.specs.LexOrder.{IsPairNonNegative}
use Rattle.md_list.specs.ByRule.{growth}

-- the values from one up to a place bring nothing: less than nothing, or nothing and no welfare
abbrev pub BringsNothingTo : (ℕ → ℤ) → (ℕ → ℤ) → ℕ → ℕ → Type 0
BringsNothingTo gain benefit stop v = IsPairNonNegative (neg_ℤ (growth gain v stop)) (neg_ℤ (growth benefit v stop))
