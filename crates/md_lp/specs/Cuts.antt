-- Lists of sets of places, such as the values of an auction, each of which cuts off some points of a program.
use Rattle.std.specs.Prelude.{◌≡◌, ◌≢◌, ℕ, ◌<◌, ◌≤◌, ◌^◌, List, length, slice_index, slice_get, Some}
use Rattle.md_math.specs.Lists.{list_to}

-- sets of so many kinds, none of them empty, and no two the same
pub record AreCuts (kinds : ℕ) (sets : List ℕ) : Type 0 where
  pub some : (k : ℕ) → k < length sets → 1 ≤ slice_index sets k
  pub inside : (k : ℕ) → k < length sets → slice_index sets k < 2 ^ kinds
  pub distinct : (j k : ℕ) → j < k → k < length sets → slice_index sets j ≢ slice_index sets k

-- a set stands among them
pub record HasSet (set : ℕ) (sets : List ℕ) : Type 0 where
  pub place : ℕ
  pub is : slice_get sets place ≡ Some set

-- for each kind the set of this kind alone stands among them
pub record HasSingles (kinds : ℕ) (sets : List ℕ) : Type 0 where
  pub single : (v : ℕ) → v < kinds → HasSet (2 ^ v) sets

-- the sets of one kind each, in their order
abbrev pub singles_of : ℕ → List ℕ
singles_of kinds = list_to kinds (λ kind. 2 ^ kind)
