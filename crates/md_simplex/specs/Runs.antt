-- What a run over the paths of a program answers. Each order has one path, which begins at the first basis.
use Rattle.std.specs.Prelude.{◌≡◌, ℕ, ℤ, List}
use Rattle.md_lp.specs.Program.{Program, row_count}
use Rattle.md_lp.specs.declared.entry.Entry.{Entry}
use Rattle.md_lp.specs.declared.pivot.Pivot.{Pivot}
use Rattle.md_lp.specs.declared.wide.Wide.{Wide}
use Rattle.md_num.specs.Limits.{limit_of}
use Rattle.md_cert.specs.declared.certificate.Certificate.{Certificate}
use Rattle.md_dict.specs.Dictionary.{IsDictionary}
use Rattle.md_dict.specs.FirstTable.{column_count, first_entry, first_basis}
use Rattle.md_dict.specs.Wide.{IsWideBasis}
use Rattle.md_simplex.specs.declared.end.End.{End}
use Rattle.md_simplex.specs.declared.order.Order.{Order}
use Rattle.md_simplex.specs.declared.order.Order.TheVariants.{Forward, Backward}
use Rattle.md_simplex.specs.declared.simplex_error.SimplexError.{SimplexError}
use Rattle.md_simplex.specs.declared.simplex_error.SimplexError.TheVariants as errors
use Rattle.md_simplex.specs.declared.step.Step.{Step}
use Rattle.md_simplex.specs.declared.walk_error.WalkError.{WalkError}
use Rattle.md_simplex.specs.declared.walk_error.WalkError.TheVariants as walks
use Rattle.md_simplex.specs.Path.{AllBefore, IsFirstWideBasis, IsNarrowBasis, IsPathFrom, IsWholePath, PathEnds, basis_after}
use Rattle.md_simplex.specs.Reading.{IsReading}

-- ---- the path of an order

-- the basis after pivots from the first one
abbrev pub basis_of : Program → List Pivot → ℕ → ℕ
basis_of p pivots = basis_after (first_basis p) pivots

-- these pivots are the next ones from the first basis, perhaps not to the end
abbrev pub BeginsPath : Order → Program → List Pivot → Type 0
BeginsPath order p pivots = IsPathFrom order (row_count p) (column_count p) (first_entry p) (first_basis p) pivots

-- the path of a program, and how it ends
abbrev pub IsPathOf : Order → Program → List Pivot → Step → Type 0
IsPathOf order p pivots step = IsWholePath order (row_count p) (column_count p) (first_entry p) (first_basis p) pivots step

-- the path of the program ends
abbrev pub HasPath : Order → Program → Type 0
HasPath order p = PathEnds order (row_count p) (column_count p) (first_entry p) (first_basis p)

-- ---- widths

-- the basis has a dictionary within the width
abbrev pub IsWithinWidth : Program → ℕ → (ℕ → ℕ) → Type 0
IsWithinWidth p width basis = IsNarrowBasis (row_count p) (column_count p) (first_entry p) basis (limit_of width)

-- this basis is wide, and this is its first wide entry
abbrev pub IsWideAt : Program → ℕ → (ℕ → ℕ) → Entry → Type 0
IsWideAt p width basis entry = IsWideBasis (row_count p) (column_count p) (first_entry p) basis (limit_of width) entry

-- no basis on the way is wide, the last one included
pub record IsNarrowPath (p : Program) (width : ℕ) (pivots : List Pivot) : Type 0 where
  pub before : AllBefore (IsWithinWidth p width) (first_basis p) pivots
  pub last : IsWithinWidth p width (basis_of p pivots)

-- some basis of the path is wide
pub record MeetsWideBasis (order : Order) (p : Program) (width : ℕ) : Type 0 where
  pub pivots : List Pivot
  pub entry : Entry
  pub begins : BeginsPath order p pivots
  pub wide : IsWideAt p width (basis_of p pivots) entry

-- these pivots lead to the first wide basis of the path, and this is its first wide entry
abbrev pub IsFirstWideIn : Order → Program → ℕ → List Pivot → Entry → Type 0
IsFirstWideIn order p width pivots entry = IsFirstWideBasis order (row_count p) (column_count p) (first_entry p) (first_basis p) (limit_of width) pivots entry

abbrev pub IsFirstWideOf : Order → Program → ℕ → Wide → Type 0
IsFirstWideOf order p width wide = IsFirstWideIn order p width wide.path wide.entry

-- the path has a first wide basis
pub record HasFirstWide (order : Order) (p : Program) (width : ℕ) : Type 0 where
  pub wide : Wide
  pub first : IsFirstWideOf order p width wide

-- ---- the taken path

-- the path of the order is tried: the forward one always, and the backward one where the forward one has a wide basis
abbrev pub IsTried : Order → Program → ℕ → Type 0
IsTried Forward p width = Unit {0}
IsTried Backward p width = HasFirstWide Forward p width

-- this path is taken: it is tried, and no basis of it is wide
pub record IsTaken (order : Order) (p : Program) (width : ℕ) (pivots : List Pivot) (step : Step) : Type 0 where
  pub tried : IsTried order p width
  pub whole : IsPathOf order p pivots step
  pub narrow : IsNarrowPath p width pivots

-- the certificate is read off the dictionary of the last basis
pub record IsReadAfter (p : Program) (pivots : List Pivot) (step : Step) (certificate : Certificate) : Type 0 where
  pub den : ℤ
  pub table : ℕ → ℕ → ℤ
  pub dictionary : IsDictionary (row_count p) (column_count p) (first_entry p) (basis_of p pivots) den table
  pub reading : IsReading p (basis_of p pivots) den table step certificate

-- the pivots of the path of an order, no basis of which is wide, and what is read off its last dictionary
pub record IsRunIn (order : Order) (p : Program) (width : ℕ) (end : End) : Type 0 where
  pub step : Step
  pub whole : IsPathOf order p end.path step
  pub narrow : IsNarrowPath p width end.path
  pub read : IsReadAfter p end.path step end.certificate

-- the pivots of the taken path, and what is read off its last dictionary
pub record IsRun (p : Program) (width : ℕ) (end : End) : Type 0 where
  pub order : Order
  pub tried : IsTried order p width
  pub run : IsRunIn order p width end

-- ---- where a path is left

-- the path of the order was left at its first wide basis; memory may run out at any time
abbrev pub IsLeftIn : Order → Program → ℕ → WalkError → Type 0
IsLeftIn order p width (walks.TooWide wide) = IsFirstWideOf order p width wide
IsLeftIn order p width walks.Memory = Unit {0}

-- each of the two paths has a wide basis, and these are the first ones; memory may run out at any time
abbrev pub IsLeft : Program → ℕ → SimplexError → Type 0
IsLeft p width (errors.TooWide first second) = IsFirstWideOf Forward p width first × IsFirstWideOf Backward p width second
IsLeft p width errors.Memory = Unit {0}

-- what is told of the paths that were left is this
abbrev pub TellsOf : Wide → Wide → SimplexError → Type 0
TellsOf first second (errors.TooWide forward backward) = (forward ≡ first) × (backward ≡ second)
TellsOf first second errors.Memory = Unit {0}
