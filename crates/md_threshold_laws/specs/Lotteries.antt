-- Lotteries over sets of bidders by draws: at each draw some bidders win.
use Rattle.std.specs.Prelude.{ℕ, Bool, not, List}
use Rattle.std.specs.Bool.{beq}
use Rattle.md_math.specs.Lists.{list_to}
use Rattle.md_flow.specs.Over.{any_below}
use Rattle.md_winners.specs.Sets.{holds, size}

-- whether a set has just those of n bidders who pass a test: for no bidder the two differ
abbrev pub has_just : ℕ → (ℕ → Bool) → List Bool → Bool
has_just n test set = not (any_below n (λ i. not (beq (test i) (holds set i))))

-- at how many draws it has just those who win, where a test says who wins at which draw
abbrev pub draws_of : ℕ → ℕ → (ℕ → ℕ → Bool) → List Bool → ℕ
draws_of n draws wins set = size (list_to draws (λ draw. has_just n (wins draw) set))
