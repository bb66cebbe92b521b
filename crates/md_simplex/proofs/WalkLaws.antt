-- A walk along the path: its start, one more pivot, its ends, and how long it can be.
use Rattle.std.proofs.Common.{◌≡◌, ℕ, ◌+◌, ◌-◌, ◌<◌, ◌≤◌, List, [], ◌∷◌, ◌++◌, length, sym, ap, ◌∙◌, subst, arith}
use Rattle.std.proofs.lemmas.List.{length_push}
use Rattle.md_lp.specs.Program.{Program, row_count}
use Rattle.md_lp.specs.declared.entry.Entry.{Entry}
use Rattle.md_lp.specs.declared.pivot.Pivot.{Pivot}
use Rattle.md_num.specs.Limits.{limit_of}
use Rattle.md_dict.specs.Condensed.{Condensed, Holds, TakesColumn, basic_at, entry_at}
use Rattle.md_dict.specs.Dictionary.{IsDictionary}
use Rattle.md_dict.specs.FirstTable.{column_count, first_entry, first_basis}
use Rattle.md_dict.specs.Pivot.{with_column}
use Rattle.md_dict.specs.Start.{IsStart}
use Rattle.md_dict.specs.Wide.{IsNarrow, IsWideBasis}
use Rattle.md_dict.proofs.Cancelling.{IsDictionary-same_basis, IsWideBasis-same_basis, with_column-same}
use Rattle.md_simplex.specs.declared.order.Order.{Order}
use Rattle.md_simplex.specs.declared.step.Step.{Step}
use Rattle.md_simplex.specs.declared.step.Step.TheVariants as steps
use Rattle.md_simplex.specs.Rules.{IsNext, HasNext}
use Rattle.md_simplex.specs.Path.{AllBefore, IsPathFrom, after, basis_after}
use Rattle.md_simplex.specs.Runs.{IsFirstWideIn, IsWithinWidth, basis_of}
use Rattle.md_simplex.specs.Walk.{IsReached}
use Rattle.md_simplex.proofs.Codes.{code_count}
use Rattle.md_simplex.proofs.Ending.{path_length}
use Rattle.md_simplex.proofs.FirstRows.{IsPositiveBasis-first}
use Rattle.md_simplex.proofs.PathLaws.{basis_after-append, path_more}

-- ---- lists of pivots

-- P holds of the last basis too, so of each basis but the one after it
pub AllBefore-more : (P : (ℕ → ℕ) → Type 0) (basis : ℕ → ℕ) (pivots : List Pivot) (p : Pivot) → AllBefore P basis pivots → P (basis_after basis pivots) → AllBefore P basis (pivots ++ p ∷ [])
AllBefore-more P basis [] p h here = (here, tt)
AllBefore-more P basis (q ∷ pivots) p h here = (h.0, AllBefore-more P (after basis q) pivots p h.1 here)

-- ---- the sizes of the program in place of those of the dictionary

pub sized : (p : Program) (d : Condensed) (C : ℕ → ℕ → Type 0) → Holds p d → C d.rows d.columns → C (row_count p) (column_count p)
sized p d C h x = subst (λ n. C (row_count p) n) h.columns (subst (λ m. C m d.columns) h.rows x)

-- how many more pivots there can be: bases have different codes, and this many codes are left
pub left_over : Program → List Pivot → ℕ
left_over p pivots = code_count (column_count p + row_count p) (row_count p) - length pivots

module _ (order : Order) (p : Program) (width : ℕ) where
  -- ---- the basis that was reached

  pub here_dictionary : (pivots : List Pivot) (d : Condensed) → IsReached order p width pivots d → IsDictionary (row_count p) (column_count p) (first_entry p) (basis_of p pivots) d.den (entry_at d)
  here_dictionary pivots d h =
      sized p d (λ m n. IsDictionary m n (first_entry p) (basis_of p pivots) d.den (entry_at d)) h.holds
      (IsDictionary-same_basis d.rows d.columns (first_entry p) (basic_at d) (basis_of p pivots) d.den (entry_at d) h.basis h.holds.dictionary)

  pub here_narrow : (pivots : List Pivot) (d : Condensed) → IsReached order p width pivots d → IsWithinWidth p width (basis_of p pivots)
  here_narrow pivots d h = record {
    den = d.den;
    table = entry_at d;
    dictionary = here_dictionary pivots d h;
    narrow = sized p d (λ m n. IsNarrow m n (limit_of width) (entry_at d)) h.holds (subst (λ b. IsNarrow d.rows d.columns (limit_of b) (entry_at d)) h.bits h.narrow);
  }

  pub here_next : (pivots : List Pivot) (d : Condensed) (step : Step) → IsReached order p width pivots d → IsNext order d.rows d.columns (entry_at d) step → HasNext order (row_count p) (column_count p) (first_entry p) (basis_of p pivots) step
  here_next pivots d step h next = record {
    den = d.den;
    table = entry_at d;
    dictionary = here_dictionary pivots d h;
    next = sized p d (λ m n. IsNext order m n (entry_at d) step) h.holds next;
  }

  -- ---- the first basis

  pub IsReached-first : (d : Condensed) → IsStart p width d → IsNarrow d.rows d.columns (limit_of d.bits) (entry_at d) → IsReached order p width [] d
  IsReached-first d h narrow = record {
    bits = h.bits;
    holds = h.holds;
    path = tt;
    basis = λ i a. h.basis i (let e : d.rows ≡ row_count p = h.holds.rows in omega (arith, e, a));
    before = tt;
    narrow = narrow;
  }

  -- ---- one more pivot

  path_here : (pivots : List Pivot) (d : Condensed) (q : Pivot) → IsReached order p width pivots d → IsNext order d.rows d.columns (entry_at d) (steps.Pivot q) → IsPathFrom order (row_count p) (column_count p) (first_entry p) (first_basis p) (pivots ++ q ∷ [])
  path_here pivots d q h next = path_more order (row_count p) (column_count p) (first_entry p) (first_basis p) pivots q h.path (here_next pivots d (steps.Pivot q) h next)

  before_here : (pivots : List Pivot) (d : Condensed) (q : Pivot) → IsReached order p width pivots d → AllBefore (IsWithinWidth p width) (first_basis p) (pivots ++ q ∷ [])
  before_here pivots d q h = AllBefore-more (IsWithinWidth p width) (first_basis p) pivots q h.before (here_narrow pivots d h)

  basis_here : (pivots : List Pivot) (d : Condensed) (q : Pivot) → IsReached order p width pivots d → (i : ℕ) → i < d.rows → with_column (basic_at d) q.row q.column i ≡ basis_of p (pivots ++ q ∷ []) i
  basis_here pivots d q h i a =
      with_column-same (basic_at d) (basis_of p pivots) q.row q.column i (h.basis i a)
      ∙ ap (λ b. b i) (sym (basis_after-append order (row_count p) (column_count p) (first_entry p) (first_basis p) pivots (q ∷ [])))

  pub IsReached-more : (pivots : List Pivot) (d new : Condensed) (q : Pivot) → IsReached order p width pivots d → IsNext order d.rows d.columns (entry_at d) (steps.Pivot q) → Holds p new → TakesColumn d new q.row q.column → IsNarrow new.rows new.columns (limit_of new.bits) (entry_at new) → IsReached order p width (pivots ++ q ∷ []) new
  IsReached-more pivots d new q h next holds takes narrow = record {
    bits = takes.bits ∙ h.bits;
    holds = holds;
    path = path_here pivots d q h next;
    basis = λ i a. (let b : i < d.rows = (let e : new.rows ≡ d.rows = takes.rows in omega (arith, e, a)) in takes.basis i b ∙ basis_here pivots d q h i b);
    before = before_here pivots d q h;
    narrow = narrow;
  }

  -- ---- a wide basis

  pub wide_first : (entry : Entry) → IsWideBasis (row_count p) (column_count p) (first_entry p) (first_basis p) (limit_of width) entry → IsFirstWideIn order p width [] entry
  wide_first entry h = record { path = tt; narrow = tt; wide = h }

  pub wide_next : (pivots : List Pivot) (d : Condensed) (q : Pivot) (entry : Entry) → IsReached order p width pivots d → IsNext order d.rows d.columns (entry_at d) (steps.Pivot q) → IsWideBasis d.rows d.columns (first_entry p) (with_column (basic_at d) q.row q.column) (limit_of d.bits) entry → IsFirstWideIn order p width (pivots ++ q ∷ []) entry
  wide_next pivots d q entry h next wide = record {
    path = path_here pivots d q h next;
    narrow = before_here pivots d q h;
    wide = subst (λ b. IsWideBasis (row_count p) (column_count p) (first_entry p) (basis_of p (pivots ++ q ∷ [])) (limit_of b) entry) h.bits
        (sized p d (λ m n. IsWideBasis m n (first_entry p) (basis_of p (pivots ++ q ∷ [])) (limit_of d.bits) entry) h.holds
        (IsWideBasis-same_basis d.rows d.columns (first_entry p) (limit_of d.bits) (with_column (basic_at d) q.row q.column) (basis_of p (pivots ++ q ∷ [])) entry (basis_here pivots d q h) wide));
  }

  -- ---- how long it can be

  pub left_over-less : (pivots : List Pivot) (d : Condensed) (q : Pivot) → IsReached order p width pivots d → IsNext order d.rows d.columns (entry_at d) (steps.Pivot q) → left_over p (pivots ++ q ∷ []) < left_over p pivots
  unfolding left_over
  left_over-less pivots d q h next =
      let most : length (pivots ++ q ∷ []) ≤ code_count (column_count p + row_count p) (row_count p) =
      path_length order (row_count p) (column_count p) (first_entry p) (first_basis p) (pivots ++ q ∷ []) (IsPositiveBasis-first order p) (path_here pivots d q h next) in
      let more : length (pivots ++ q ∷ []) ≡ length pivots + 1 = length_push pivots q in
      omega (arith, most, more)
