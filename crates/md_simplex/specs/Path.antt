-- The path of a program: the bases from the start columns on, each next one by the rules.
use Rattle.std.specs.Prelude.{◌≡◌, ℕ, ◌<◌, ℤ, List, [], ◌∷◌}
use Rattle.md_lp.specs.declared.pivot.Pivot.{Pivot}
use Rattle.md_lp.specs.declared.entry.Entry.{Entry}
use Rattle.md_dict.specs.Dictionary.{IsDictionary}
use Rattle.md_dict.specs.Pivot.{with_column}
use Rattle.md_dict.specs.Wide.{IsWideBasis, IsNarrow}
use Rattle.md_simplex.specs.declared.order.Order.{Order}
use Rattle.md_simplex.specs.declared.step.Step.{Step}
use Rattle.md_simplex.specs.declared.step.Step.TheVariants as steps
use Rattle.md_simplex.specs.Rules.{HasNext}

-- the basis after a pivot
abbrev pub after : (ℕ → ℕ) → Pivot → ℕ → ℕ
after basis p = with_column basis p.row p.column

-- the basis after pivots, one after another
abbrev pub basis_after : (ℕ → ℕ) → List Pivot → ℕ → ℕ
basis_after basis [] = basis
basis_after basis (p ∷ pivots) = basis_after (after basis p) pivots

-- each pivot is the next one of the basis before it
abbrev pub IsPathFrom : Order → (m n : ℕ) → (ℕ → ℕ → ℤ) → (ℕ → ℕ) → List Pivot → Type 0
IsPathFrom order m n t basis [] = Unit {0}
IsPathFrom order m n t basis (p ∷ pivots) = HasNext order m n t basis (steps.Pivot p) × IsPathFrom order m n t (after basis p) pivots

-- the path ends where the rules give no pivot
abbrev pub IsEnd : Step → Type 0
IsEnd (steps.Pivot p) = ⊥
IsEnd _ = Unit {0}

-- the whole path from a basis
pub record IsWholePath (order : Order) (m n : ℕ) (t : ℕ → ℕ → ℤ) (basis : ℕ → ℕ) (pivots : List Pivot) (step : Step) : Type 0 where
  pub path : IsPathFrom order m n t basis pivots
  pub last : HasNext order m n t (basis_after basis pivots) step
  pub ends : IsEnd step

-- the path from a basis ends
pub record PathEnds (order : Order) (m n : ℕ) (t : ℕ → ℕ → ℤ) (basis : ℕ → ℕ) : Type 0 where
  pub pivots : List Pivot
  pub step : Step
  pub whole : IsWholePath order m n t basis pivots step

-- the basis has a dictionary, each of whose entries is within the limit
pub record IsNarrowBasis (m n : ℕ) (t : ℕ → ℕ → ℤ) (basis : ℕ → ℕ) (limit : ℕ) : Type 0 where
  pub den : ℤ
  pub table : ℕ → ℕ → ℤ
  pub dictionary : IsDictionary m n t basis den table
  pub narrow : IsNarrow m n limit table

-- P holds of each basis but the last
abbrev pub AllBefore : ((ℕ → ℕ) → Type 0) → (ℕ → ℕ) → List Pivot → Type 0
AllBefore P basis [] = Unit {0}
AllBefore P basis (p ∷ pivots) = P basis × AllBefore P (after basis p) pivots

-- the last basis of these pivots is wide, and those before it are not
pub record IsFirstWideBasis (order : Order) (m n : ℕ) (t : ℕ → ℕ → ℤ) (basis : ℕ → ℕ) (limit : ℕ) (pivots : List Pivot) (entry : Entry) : Type 0 where
  pub path : IsPathFrom order m n t basis pivots
  pub narrow : AllBefore (λ b. IsNarrowBasis m n t b limit) basis pivots
  pub wide : IsWideBasis m n t (basis_after basis pivots) limit entry

-- the bases have the same column at each row
pub record IsSameBasis (m : ℕ) (basis other : ℕ → ℕ) : Type 0 where
  pub columns : (i : ℕ) → i < m → basis i ≡ other i
