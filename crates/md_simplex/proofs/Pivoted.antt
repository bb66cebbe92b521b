-- The dictionary of a basis and that of the basis after a pivot, entry by entry.
use Rattle.std.proofs.Common.{◌≡◌, ◌≢◌, ℕ, ◌+◌, ◌<◌, ℤ, pos, ◌-ℤ◌, ◌*ℤ◌, ◌<ℤ◌, sym, ap, ◌∙◌}
use Rattle.md_math.proofs.Order.{positive-*ℤ}
use Rattle.md_dict.specs.Dictionary.{IsDictionary}
use Rattle.md_dict.specs.Pivot.{with_column, raw_entry}
use Rattle.md_dict.proofs.RawPivot.{IsPivot, raw_pivot, raw_own, raw_other}
use Rattle.md_dict.proofs.Uniqueness.{proportional}

-- a dictionary e over d, and f over h after the pivot at the row and the column
pub record IsPivoted (m n : ℕ) (t : ℕ → ℕ → ℤ) (basis : ℕ → ℕ) (d : ℤ) (e : ℕ → ℕ → ℤ) (h : ℤ) (f : ℕ → ℕ → ℤ) (row column : ℕ) : Type 0 where
  pub old : IsDictionary m n t basis d e
  pub row_in : row < m
  pub column_in : column < n
  pub positive : pos 0 <ℤ e row column
  pub new : IsDictionary m n t (with_column basis row column) h f

module _ (m n : ℕ) (t : ℕ → ℕ → ℤ) (basis : ℕ → ℕ) (d : ℤ) (e : ℕ → ℕ → ℤ) (h : ℤ) (f : ℕ → ℕ → ℤ) (row column : ℕ) (p : IsPivoted m n t basis d e h f row column) where
  is_pivot : IsPivot m n t basis d e row column
  is_pivot = record { scaled = p.old.scaled; row_in = p.row_in; column_in = p.column_in; positive = p.positive }

  -- the factor between the raw entries and the new ones
  pub factor_positive : pos 0 <ℤ (d *ℤ e row column)
  factor_positive = positive-*ℤ d (e row column) p.old.scaled.positive p.positive

  scaled_entries : (r j : ℕ) → r < m + 2 → j < n + m + 1 → h *ℤ raw_entry row column d e r j ≡ (d *ℤ e row column) *ℤ f r j
  scaled_entries r j a b = proportional m n t (with_column basis row column) (d *ℤ e row column) h (raw_entry row column d e) f (raw_pivot m n t basis d e row column is_pivot) p.new.scaled r j a b

  pub new_row : (j : ℕ) → row < m + 2 → j < n + m + 1 → h *ℤ (d *ℤ e row j) ≡ (d *ℤ e row column) *ℤ f row j
  new_row j a b = ap (λ z. h *ℤ z) (sym (raw_own row column d e j)) ∙ scaled_entries row j a b

  pub new_other : (i j : ℕ) → i ≢ row → i < m + 2 → j < n + m + 1 → h *ℤ (e row column *ℤ e i j -ℤ e i column *ℤ e row j) ≡ (d *ℤ e row column) *ℤ f i j
  new_other i j o a b = ap (λ z. h *ℤ z) (sym (raw_other row column d e i j o)) ∙ scaled_entries i j a b
