-- What comes of listed pivots, carried out one after the other from the first basis of a program.
use Rattle.std.specs.Prelude.{◌≡◌, ◌++◌, ◌∷◌, ℕ, suc, ◌+◌, ◌<◌, ◌≤◌, ℤ, pos, ◌<ℤ◌, ◌≤ℤ◌, unsigned_abs, List, [], length, take, Option, None, Some}
use Rattle.md_math.specs.Sizes.{IsWithin}
use Rattle.md_math.specs.Lists.{number_at}
use Rattle.md_lp.specs.Program.{Program, row_count}
use Rattle.md_lp.specs.declared.entry.Entry.{Entry}
use Rattle.md_lp.specs.declared.pivot.Pivot.{Pivot}
use Rattle.md_dict.specs.Dictionary.{IsDictionary}
use Rattle.md_dict.specs.FirstTable.{column_count, first_entry, first_basis}
use Rattle.md_simplex.specs.Path.{AllBefore, after}
use Rattle.md_simplex.specs.declared.order.Order.{Order}
use Rattle.md_simplex.specs.declared.order.Order.TheVariants.{Forward, Backward}
use Rattle.md_simplex.specs.Runs.{BeginsPath, IsWideAt, IsWithinWidth, basis_of}
use Rattle.md_replay.specs.declared.outcome.Followed.{Followed}
use Rattle.md_replay.specs.declared.outcome.Replay.{Replay}
use Rattle.md_replay.specs.declared.outcome.ReplayError.{ReplayError}
use Rattle.md_replay.specs.declared.outcome.ReplayError.TheVariants as errors

-- ---- which pivots can be carried out

-- the pivot stands at a program row, and at a program or slack column, where the dictionary of the basis has a positive entry
pub record IsLawful (p : Program) (basis : ℕ → ℕ) (pivot : Pivot) : Type 0 where
  pub row_in : pivot.row < row_count p
  pub column_in : pivot.column < column_count p
  pub den : ℤ
  pub table : ℕ → ℕ → ℤ
  pub dictionary : IsDictionary (row_count p) (column_count p) (first_entry p) basis den table
  pub positive : pos 0 <ℤ table pivot.row pivot.column

-- each pivot can be carried out at the basis that those before it make
abbrev pub AllLawful : Program → (ℕ → ℕ) → List Pivot → Type 0
AllLawful p basis [] = Unit {0}
AllLawful p basis (pivot ∷ pivots) = IsLawful p basis pivot × AllLawful p (after basis pivot) pivots

-- these are the first of the listed pivots, each can be carried out, and no basis before the last is wide
pub record IsCarriedOut (p : Program) (width : ℕ) (listed carried : List Pivot) : Type 0 where
  pub rest : List Pivot
  pub front : listed ≡ carried ++ rest
  pub lawful : AllLawful p (first_basis p) carried
  pub narrow : AllBefore (IsWithinWidth p width) (first_basis p) carried

-- ---- what is told of the bases

-- the greatest size of an entry of a table
pub record IsGreatestEntry (p : Program) (e : ℕ → ℕ → ℤ) (size : ℤ) : Type 0 where
  pub nonneg : pos 0 ≤ℤ size
  pub bound : (r j : ℕ) → r < row_count p + 2 → j < column_count p + row_count p + 1 → IsWithin (unsigned_abs size) (e r j)
  pub row : ℕ
  pub column : ℕ
  pub row_in : row < row_count p + 2
  pub column_in : column < column_count p + row_count p + 1
  pub reached : unsigned_abs (e row column) ≡ unsigned_abs size

-- the denominator and the greatest entry of the dictionary of a basis
pub record IsBasisTold (p : Program) (basis : ℕ → ℕ) (den size : ℤ) : Type 0 where
  pub table : ℕ → ℕ → ℤ
  pub dictionary : IsDictionary (row_count p) (column_count p) (first_entry p) basis den table
  pub greatest : IsGreatestEntry p table size

-- the first of these bases, as many as are told, each made by one pivot more
pub record AreBasesTold (p : Program) (pivots : List Pivot) (dens greatest : List ℤ) : Type 0 where
  pub same_length : length greatest ≡ length dens
  pub told : (k : ℕ) → k < length dens → IsBasisTold p (basis_of p (take k pivots)) (number_at dens k) (number_at greatest k)

-- ---- which of the pivots are those of the program's paths

-- so many of the first pivots are the next ones by the rules of the order, and no more
pub record IsFollowed (order : Order) (p : Program) (pivots : List Pivot) (count : ℕ) : Type 0 where
  pub inside : count ≤ length pivots
  pub path : BeginsPath order p (take count pivots)
  pub leaves : count < length pivots → ¬ BeginsPath order p (take (suc count) pivots)

-- how many of the first pivots are those of each path
pub record AreFollowed (p : Program) (pivots : List Pivot) (followed : Followed) : Type 0 where
  pub forward : IsFollowed Forward p pivots followed.forward
  pub backward : IsFollowed Backward p pivots followed.backward

-- ---- what is answered

-- All listed pivots were carried out and the last basis is not wide, or the last one carried out leads to a wide basis, of
-- which the first wide entry is named. Each basis that is not wide is told.
abbrev pub HasEnded : Program → ℕ → List Pivot → List Pivot → ℕ → Option Entry → Type 0
HasEnded p width listed carried told None =
    (carried ≡ listed) × (IsWithinWidth p width (basis_of p carried) × (told ≡ suc (length carried)))
HasEnded p width listed carried told (Some entry) =
    IsWideAt p width (basis_of p carried) entry × (told ≡ length carried)

pub record IsReplay (p : Program) (width : ℕ) (listed : List Pivot) (replay : Replay) : Type 0 where
  pub carried : List Pivot
  pub carried_out : IsCarriedOut p width listed carried
  pub bases : AreBasesTold p carried replay.dens replay.greatest
  pub ended : HasEnded p width listed carried (length replay.dens) replay.wide
  pub followed : AreFollowed p carried replay.followed

-- the pivot of this number, counted from 1, is the first that cannot be carried out, and no basis before it is wide
pub record IsLawless (p : Program) (width : ℕ) (listed : List Pivot) (number : ℕ) : Type 0 where
  pub carried : List Pivot
  pub carried_out : IsCarriedOut p width listed carried
  pub narrow : IsWithinWidth p width (basis_of p carried)
  pub pivot : Pivot
  pub more : List Pivot
  pub next : listed ≡ carried ++ (pivot ∷ more)
  pub number_is : number ≡ suc (length carried)
  pub unlawful : ¬ IsLawful p (basis_of p carried) pivot

-- a refused pivot is the first that cannot be carried out; memory may run out at any time
abbrev pub Refuses : Program → ℕ → List Pivot → ReplayError → Type 0
Refuses p width listed (errors.Pivot number) = IsLawless p width listed number
Refuses p width listed errors.Memory = Unit {0}

-- where a pivot is refused, it is the one of this number
abbrev pub TellsNumber : ℕ → ReplayError → Type 0
TellsNumber number (errors.Pivot named) = named ≡ number
TellsNumber number errors.Memory = Unit {0}
