-- Where listed pivots stand: at the first basis, which pivots can be carried out there, and after one more.
use Rattle.std.proofs.Common.{◌≡◌, ◌↔◌, IsTrue, Bool, ℕ, ◌+◌, ◌<◌, ℤ, pos, ◌<ℤ◌, ◌≤ℤ◌, List, [], ◌∷◌, ◌++◌, unsigned_abs, sym, ap, ◌∙◌, subst, arith}
use Rattle.md_math.specs.Sizes.{IsWithin}
use Rattle.md_lp.specs.Program.{Program, row_count}
use Rattle.md_lp.specs.declared.entry.Entry.{Entry}
use Rattle.md_lp.specs.declared.pivot.Pivot.{Pivot}
use Rattle.md_num.specs.Limits.{limit_of}
use Rattle.md_dict.specs.Condensed.{Condensed, Holds, IsGreatestSize, IsShapedDictionary, TakesColumn, basic_at, entry_at}
use Rattle.md_dict.specs.Dictionary.{IsDictionary}
use Rattle.md_dict.specs.FirstTable.{column_count, first_basis, first_entry}
use Rattle.md_dict.specs.Pivot.{with_column}
use Rattle.md_dict.specs.Start.{IsStart}
use Rattle.md_dict.specs.Wide.{IsNarrow, IsWideBasis}
use Rattle.md_dict.proofs.Cancelling.{IsDictionary-same_basis, IsWideBasis-same_basis, with_column-same}
use Rattle.md_dict.proofs.Uniqueness.{same_entries}
use Rattle.md_dict.proofs.Values.{IsNarrow-shaped}
use Rattle.md_simplex.specs.declared.order.Order.TheVariants.{Forward}
use Rattle.md_simplex.specs.Path.{AllBefore}
use Rattle.md_simplex.specs.Runs.{IsWideAt, IsWithinWidth, basis_of}
use Rattle.md_simplex.proofs.PathLaws.{basis_after-append}
use Rattle.md_simplex.proofs.WalkLaws.{AllBefore-more, sized}
use Rattle.md_replay.specs.Replay.{AllLawful, IsBasisTold, IsLawful}
use Rattle.md_replay.specs.Standing.{CanPivot, IsAt}
use Rattle.md_replay.proofs.PivotLists.{AllLawful-more}

-- ---- the code's numbers

pub can_pivot_of : (d : Condensed) (q : Pivot) (x : ℤ) → x ≡ entry_at d q.row q.column → q.row < d.rows → q.column < d.columns → (b : Bool) → (IsTrue b ↔ (pos 0 <ℤ x)) → IsTrue b ↔ CanPivot d q
can_pivot_of d q x e row column b h = (
  λ yes. record { row_in = row; column_in = column; positive = subst (λ z. pos 0 <ℤ z) e (h.0 yes) },
  λ can. h.1 (subst (λ z. pos 0 <ℤ z) (sym e) can.positive),
)

-- ---- a dictionary and its program

pub IsAt-first : (p : Program) (width : ℕ) (d : Condensed) → IsStart p width d → IsAt p width [] d
IsAt-first p width d h = record {
  bits = h.bits;
  holds = h.holds;
  basis = λ i a. h.basis i (let e : d.rows ≡ row_count p = h.holds.rows in omega (arith, e, a));
  lawful = tt;
  before = tt;
}

module _ (p : Program) (width : ℕ) (carried : List Pivot) (d : Condensed) (h : IsAt p width carried d) where
  pub at_dictionary : IsDictionary (row_count p) (column_count p) (first_entry p) (basis_of p carried) d.den (entry_at d)
  at_dictionary =
      sized p d (λ m n. IsDictionary m n (first_entry p) (basis_of p carried) d.den (entry_at d)) h.holds
      (IsDictionary-same_basis d.rows d.columns (first_entry p) (basic_at d) (basis_of p carried) d.den (entry_at d) h.basis h.holds.dictionary)

  -- ---- which pivots can be carried out

  pub at_lawful : (q : Pivot) → CanPivot d q → IsLawful p (basis_of p carried) q
  at_lawful q k =
      let rows : d.rows ≡ row_count p = h.holds.rows in
      let columns : d.columns ≡ column_count p = h.holds.columns in
      let a : q.row < d.rows = k.row_in in
      let b : q.column < d.columns = k.column_in in
      record {
        row_in = subst (λ m. q.row < m) rows a;
        column_in = subst (λ n. q.column < n) columns b;
        den = d.den;
        table = entry_at d;
        dictionary = at_dictionary;
        positive = k.positive;
      }

  pub at_can : (q : Pivot) → IsLawful p (basis_of p carried) q → CanPivot d q
  at_can q law =
      let a : q.row < row_count p = law.row_in in
      let b : q.column < column_count p = law.column_in in
      record {
        row_in = subst (λ m. q.row < m) (sym h.holds.rows) a;
        column_in = subst (λ n. q.column < n) (sym h.holds.columns) b;
        positive =
            subst (λ z. pos 0 <ℤ z)
            (same_entries (row_count p) (column_count p) (first_entry p) (basis_of p carried) law.den d.den law.table (entry_at d) law.dictionary at_dictionary q.row q.column (omega arith) (omega arith))
            law.positive;
      }

  -- ---- what is told

  pub at_told : (size : ℤ) → pos 0 ≤ℤ size → IsGreatestSize d (unsigned_abs size) → IsBasisTold p (basis_of p carried) d.den size
  at_told size nonneg k =
      let rows : d.rows ≡ row_count p = h.holds.rows in
      let columns : d.columns ≡ column_count p = h.holds.columns in
      let a : k.row < d.rows + 2 = k.row_in in
      let b : k.column < d.columns + d.rows + 1 = k.column_in in
      record {
        table = entry_at d;
        dictionary = at_dictionary;
        greatest = record {
          nonneg = nonneg;
          bound = sized p d (λ m n. (r j : ℕ) → r < m + 2 → j < n + m + 1 → IsWithin (unsigned_abs size) (entry_at d r j)) h.holds k.bound;
          row = k.row;
          column = k.column;
          row_in = subst (λ m. k.row < m + 2) rows a;
          column_in = sized p d (λ m n. k.column < n + m + 1) h.holds b;
          reached = k.reached;
        };
      }

  -- ---- one more

  pub at_within : IsShapedDictionary d → IsWithinWidth p width (basis_of p carried)
  at_within shape = record {
    den = d.den;
    table = entry_at d;
    dictionary = at_dictionary;
    narrow = sized p d (λ m n. IsNarrow m n (limit_of width) (entry_at d)) h.holds (subst (λ b. IsNarrow d.rows d.columns (limit_of b) (entry_at d)) h.bits (IsNarrow-shaped d shape));
  }

  before_here : (q : Pivot) → IsShapedDictionary d → AllBefore (IsWithinWidth p width) (first_basis p) (carried ++ q ∷ [])
  before_here q shape = AllBefore-more (IsWithinWidth p width) (first_basis p) carried q h.before (at_within shape)

  basis_here : (q : Pivot) (i : ℕ) → i < d.rows → with_column (basic_at d) q.row q.column i ≡ basis_of p (carried ++ q ∷ []) i
  basis_here q i a =
      with_column-same (basic_at d) (basis_of p carried) q.row q.column i (h.basis i a)
      ∙ ap (λ b. b i) (sym (basis_after-append Forward (row_count p) (column_count p) (first_entry p) (first_basis p) carried (q ∷ [])))

  pub at_more : (q : Pivot) (new : Condensed) → IsShapedDictionary d → CanPivot d q → Holds p new → TakesColumn d new q.row q.column → IsAt p width (carried ++ q ∷ []) new
  at_more q new shape can holds takes = record {
    bits = takes.bits ∙ h.bits;
    holds = holds;
    basis = λ i a. (let b : i < d.rows = (let e : new.rows ≡ d.rows = takes.rows in omega (arith, e, a)) in takes.basis i b ∙ basis_here q i b);
    lawful = AllLawful-more p (first_basis p) carried q h.lawful (at_lawful q can);
    before = before_here q shape;
  }

  -- the next basis is wide
  pub record IsWideAfter (q : Pivot) (entry : Entry) : Type 0 where
    pub lawful : AllLawful p (first_basis p) (carried ++ q ∷ [])
    pub before : AllBefore (IsWithinWidth p width) (first_basis p) (carried ++ q ∷ [])
    pub wide : IsWideAt p width (basis_of p (carried ++ q ∷ [])) entry

  pub at_wide : (q : Pivot) (entry : Entry) → IsShapedDictionary d → CanPivot d q → IsWideBasis d.rows d.columns (first_entry p) (with_column (basic_at d) q.row q.column) (limit_of d.bits) entry → IsWideAfter q entry
  at_wide q entry shape can wide = record {
    lawful = AllLawful-more p (first_basis p) carried q h.lawful (at_lawful q can);
    before = before_here q shape;
    wide = subst (λ b. IsWideBasis (row_count p) (column_count p) (first_entry p) (basis_of p (carried ++ q ∷ [])) (limit_of b) entry) h.bits
        (sized p d (λ m n. IsWideBasis m n (first_entry p) (basis_of p (carried ++ q ∷ [])) (limit_of d.bits) entry) h.holds
        (IsWideBasis-same_basis d.rows d.columns (first_entry p) (limit_of d.bits) (with_column (basic_at d) q.row q.column) (basis_of p (carried ++ q ∷ [])) entry (basis_here q) wide));
  }
