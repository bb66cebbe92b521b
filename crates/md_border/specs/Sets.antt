-- Sets of kinds of values, written as numbers: the bit of a kind is 1 where the set has it.
use Rattle.std.specs.Prelude.{ℕ, Bool, List, length, slice_index, if◌then◌else◌}
use Rattle.std.specs.List.{sum_by, list_any}
use Rattle.md_math.specs.Lists.{list_to}
use Rattle.md_math.specs.Sets.{member}

-- whether some bidder's value at a profile is in the set
abbrev pub has_some : ℕ → List ℕ → Bool
has_some set t = list_any (member set) t

-- the sum of the numbers of the kinds in a set
abbrev pub sum_in : ℕ → List ℕ → ℕ
sum_in set numbers = sum_by (λ x. x) (list_to (length numbers) (λ kind. if member set kind then slice_index numbers kind else 0))
