-- A lottery over sets of bidders. Bidder i is to win at x i of the draws below a whole, and has a stretch of as many whole numbers,
-- behind those of all bidders before it. A draw picks each number that is it, or more than it by a multiple of the whole.
use Rattle.std.specs.Prelude.{ℕ, zero, suc, ◌+◌, ◌*◌, Bool, not, ◌&&◌, nat_le, nat_lt, List}
use Rattle.std.specs.Bool.{beq}
use Rattle.md_math.specs.Lists.{list_to}
use Rattle.md_flow.specs.Over.{any_below}
use Rattle.md_winners.specs.Sets.{holds, size}

-- where the stretch of a bidder begins: at the sum of the lengths of those before it
abbrev pub start_of : (ℕ → ℕ) → ℕ → ℕ
start_of x zero = 0
start_of x (suc i) = start_of x i + x i

-- whether a bidder wins at a draw: its stretch has a number that the draw picks
abbrev pub wins : ℕ → (ℕ → ℕ) → ℕ → ℕ → Bool
wins whole x draw i = any_below (start_of x (suc i)) (λ m. nat_le (start_of x i) (draw + m * whole) && nat_lt (draw + m * whole) (start_of x (suc i)))

-- the set of those of n bidders who win at a draw
abbrev pub winners : ℕ → ℕ → (ℕ → ℕ) → ℕ → List Bool
winners n whole x draw = list_to n (wins whole x draw)

-- whether a set has just those of n bidders who win at a draw: for no bidder the two differ
abbrev pub are_winners : ℕ → ℕ → (ℕ → ℕ) → ℕ → List Bool → Bool
are_winners n whole x draw set = not (any_below n (λ i. not (beq (wins whole x draw i) (holds set i))))

-- at how many of the draws below the whole it has
abbrev pub draws : ℕ → ℕ → (ℕ → ℕ) → List Bool → ℕ
draws n whole x set = size (list_to whole (λ draw. are_winners n whole x draw set))
