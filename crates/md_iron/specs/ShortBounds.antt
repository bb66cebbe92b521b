-- Whether the multipliers that certify an auction which sells by pools have at most 62 bits over some denominator.
use Rattle.std.specs.Prelude.{◌≡◌, ℕ, ◌-◌, ◌^◌, ◌<◌, ℤ, pos, ◌<ℤ◌, length}
use Rattle.md_math.specs.Divisors.{Divides}
use Rattle.md_math.specs.Lists.{number_at, list_to}
use Rattle.md_math.specs.Sizes.{IsWithin}
use Rattle.md_setting.specs.Auction.{SymmetricAuction, value_count}
use Rattle.md_lp.specs.Program.{Program, row_count}
use Rattle.md_cert.specs.declared.bound.Bound.{Bound}
use Rattle.md_reduced.specs.ProgramOf.{IsReducedProgram}
use Rattle.md_iron_values.specs.Pools.{Pools}
use Rattle.md_iron_values.specs.Cuts.{cuts_of}
use Rattle.md_iron_laws.specs.Multipliers.{AreMultipliers}
use Rattle.md_question_check.specs.Programs.{OfProgram}

-- the multipliers `main` over `over` of the rows are those that certify the pools, and have at most 62 bits
pub record AreShortMultipliers (a : SymmetricAuction) (units : ℕ) (pools : Pools) (p : Program) (divisor : ℕ → ℤ) (over : ℤ) (main : ℕ → ℤ) : Type 0 where
  pub multipliers : AreMultipliers a units pools p divisor over main
  pub short : (r : ℕ) → r < row_count p → IsWithin (2 ^ 62 - 1) (main r)

-- The bound has these multipliers, one for each row of the program, and no face multipliers. Its denominator has at most 62 bits,
-- and is the least: it divides each other one over which the multipliers of the pools are whole numbers.
pub record IsBoundIn (a : SymmetricAuction) (units : ℕ) (pools : Pools) (p : Program) (bound : Bound) : Type 0 where
  pub divisor : ℕ → ℤ
  pub short : AreShortMultipliers a units pools p divisor bound.den (number_at bound.main)
  pub den_short : IsWithin (2 ^ 62 - 1) bound.den
  pub least : (by : ℕ → ℤ) (over : ℤ) (main : ℕ → ℤ) → AreMultipliers a units pools p by over main → Divides bound.den over
  pub one_each : length bound.main ≡ row_count p
  pub face_is : bound.face ≡ list_to (row_count p) (λ _. pos 0)

-- so it is in the reduced program with the cuts of the pools
abbrev pub IsClosedBound : SymmetricAuction → ℕ → Pools → Bound → Type 0
IsClosedBound a units pools bound = OfProgram (IsReducedProgram a units (cuts_of (value_count a) pools)) (λ p. IsBoundIn a units pools p bound)

-- No such multipliers have at most 62 bits over a denominator of at most 62 bits. Where revenue counts there are none over
-- whatever denominator, however long it is.
pub record HasNoShort (a : SymmetricAuction) (units : ℕ) (pools : Pools) (p : Program) : Type 0 where
  pub short_over : (divisor : ℕ → ℤ) (over : ℤ) (main : ℕ → ℤ) → IsWithin (2 ^ 62 - 1) over → ¬ AreShortMultipliers a units pools p divisor over main
  pub any_over : pos 0 <ℤ a.revenue → (divisor : ℕ → ℤ) (over : ℤ) (main : ℕ → ℤ) → ¬ AreShortMultipliers a units pools p divisor over main

-- so it is in the reduced program with the cuts of the pools
abbrev pub HasNoShortBound : SymmetricAuction → ℕ → Pools → Type 0
HasNoShortBound a units pools = OfProgram (IsReducedProgram a units (cuts_of (value_count a) pools)) (HasNoShort a units pools)
