-- Dictionaries over a first table. A table has m program rows, numbered from 0, then a face row m and a main row m + 1.
-- Its columns are n program and slack columns, numbered from 0, then a start column n + k for each program row k, and the right side n + m.
-- The entries are whole numbers over one denominator.
use Rattle.std.specs.Prelude.{◌≡◌, ℕ, ◌+◌, ◌<◌, ◌&&◌, ◌==◌, nat_le, if◌then◌else◌, ℤ, pos, ◌+ℤ◌, ◌*ℤ◌, neg_ℤ, ◌<ℤ◌, unsigned_abs}
use Rattle.md_math.specs.Sums.{sum_to}
use Rattle.md_math.specs.Divisors.{Divides, DividesTable}

-- what the basic column of program row i holds in a row: the denominator in row i; minus the denominator in the face row, where it is a start column; else 0
abbrev pub basic_value : ℕ → ℕ → ℤ → ℕ → ℕ → ℕ → ℤ
basic_value m n den i column row =
    if row == i then den else (if (row == m) && nat_le n column then neg_ℤ den else pos 0)

-- the entries over the denominator are what row operations make of the first table t where the basis has its unit columns; not in least terms yet
pub record IsScaledDictionary (m n : ℕ) (t : ℕ → ℕ → ℤ) (basis : ℕ → ℕ) (den : ℤ) (e : ℕ → ℕ → ℤ) : Type 0 where
  pub positive : pos 0 <ℤ den
  pub columns : (i : ℕ) → i < m → basis i < n + m
  -- the basic columns
  pub basic : (i r : ℕ) → i < m → r < m + 2 → e r (basis i) ≡ basic_value m n den i (basis i) r
  -- each program row, and the face row, is a sum of first rows
  pub rows : (r j : ℕ) → r < m + 1 → j < n + m + 1 → e r j ≡ sum_to m (λ k. e r (n + k) *ℤ t k j)
  -- the main row is the first main row plus a sum of first rows
  pub main : (j : ℕ) → j < n + m + 1 → e (m + 1) j ≡ den *ℤ t (m + 1) j +ℤ sum_to m (λ k. e (m + 1) (n + k) *ℤ t k j)
  -- each first row is a sum of the rows
  pub first : (k j : ℕ) → k < m → j < n + m + 1 → den *ℤ t k j ≡ sum_to m (λ r. t k (basis r) *ℤ e r j)

-- only 1 and -1 divide the denominator and each entry
pub record IsReducedTable (m n : ℕ) (den : ℤ) (e : ℕ → ℕ → ℤ) : Type 0 where
  pub only_one : (d : ℤ) → Divides d den → DividesTable (m + 2) (n + m + 1) e d → unsigned_abs d ≡ 1

-- the dictionary of a basis: in least terms
pub record IsDictionary (m n : ℕ) (t : ℕ → ℕ → ℤ) (basis : ℕ → ℕ) (den : ℤ) (e : ℕ → ℕ → ℤ) : Type 0 where
  pub scaled : IsScaledDictionary m n t basis den e
  pub reduced : IsReducedTable m n den e
