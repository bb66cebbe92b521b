-- Sets of places that are over, by as much as an excess says of each set: the worst one, and that there is none.
use Rattle.std.specs.Prelude.{◌≡◌, ℕ, ◌<◌, ◌^◌, ℤ, pos, ◌≤ℤ◌, ◌<ℤ◌, true}
use Rattle.md_math.specs.Sets.{member}

-- a set has the greatest excess, which is positive, and each other set with the same excess is a part of it
pub record IsWorstBy (places : ℕ) (excess : ℕ → ℤ) (set : ℕ) : Type 0 where
  pub inside : set < 2 ^ places
  pub positive : pos 0 <ℤ excess set
  pub greatest : (other : ℕ) → other < 2 ^ places → excess other ≤ℤ excess set
  pub largest : (other : ℕ) → other < 2 ^ places → excess other ≡ excess set → (place : ℕ) → place < places → member other place ≡ true → member set place ≡ true

-- no set is over
pub record NoneOverBy (places : ℕ) (excess : ℕ → ℤ) : Type 0 where
  pub none_over : (set : ℕ) → set < 2 ^ places → excess set ≤ℤ pos 0
