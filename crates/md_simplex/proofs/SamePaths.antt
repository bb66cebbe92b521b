-- Programs with the same numbers at the same places have the same paths.
use Rattle.std.proofs.Common.{◌≡◌, ℕ, zero, suc, ◌+◌, ◌<◌, Bool, ℤ, pos, negsuc, neg_ℤ, ◌+ℤ◌, ◌*ℤ◌, List, [], ◌∷◌, refl, sym, ap, ◌∙◌, subst, inl, inr}
use Rattle.std.specs.Prelude.{◌&&◌, ◌==◌, nat_lt, int_lt, if◌then◌else◌}
use Rattle.std.proofs.lemmas.Bool.{cases_lt, lt-ltb, le-ltb}
use Rattle.md_math.specs.Sums.{sum_to}
use Rattle.md_math.proofs.SumLaws.{sum_to-same}
use Rattle.md_lp.specs.declared.entry.Entry.{Entry}
use Rattle.md_lp.specs.declared.pivot.Pivot.{Pivot}
use Rattle.md_lp.specs.Program.{Program, row_count, kind_at, right_at, coefficient_at, cost_at}
use Rattle.md_lp.proofs.SamePrograms.{IsSameProgram}
use Rattle.md_num.specs.Limits.{limit_of}
use Rattle.md_dict.specs.Dictionary.{IsDictionary}
use Rattle.md_dict.specs.FirstTable.{is_at_most, slacks_before, column_count, sign_at, row_entry, main_entry, first_entry, first_basis}
use Rattle.md_dict.specs.Wide.{IsWideBasis}
use Rattle.md_simplex.specs.declared.order.Order.{Order}
use Rattle.md_simplex.specs.declared.order.Order.TheVariants.{Forward, Backward}
use Rattle.md_simplex.specs.declared.step.Step.{Step}
use Rattle.md_simplex.specs.declared.step.Step.TheVariants as steps
use Rattle.md_simplex.specs.Rules.{HasNext}
use Rattle.md_simplex.specs.Path.{after, basis_after, IsPathFrom, IsWholePath, IsNarrowBasis, AllBefore}
use Rattle.md_simplex.specs.Runs.{BeginsPath, IsFirstWideIn, IsNarrowPath, IsPathOf, IsTaken, IsTried, IsWideAt, MeetsWideBasis, basis_of}

-- ---- tables

pub record IsSameTable (t u : ℕ → ℕ → ℤ) : Type 0 where
  pub at : (r j : ℕ) → t r j ≡ u r j

pub dictionary-same : (m n : ℕ) (t u : ℕ → ℕ → ℤ) (basis : ℕ → ℕ) (den : ℤ) (e : ℕ → ℕ → ℤ) → IsSameTable t u → IsDictionary m n t basis den e → IsDictionary m n u basis den e
dictionary-same m n t u basis den e same h = record {
  scaled = record {
    positive = h.scaled.positive;
    columns = h.scaled.columns;
    basic = h.scaled.basic;
    rows = λ r j a b. h.scaled.rows r j a b ∙ sum_to-same m (λ k. e r (n + k) *ℤ t k j) (λ k. e r (n + k) *ℤ u k j) (λ k l. ap (λ z. e r (n + k) *ℤ z) (same.at k j));
    main = λ j b. subst (λ z. e (m + 1) j ≡ den *ℤ u (m + 1) j +ℤ z) (sum_to-same m (λ k. e (m + 1) (n + k) *ℤ t k j) (λ k. e (m + 1) (n + k) *ℤ u k j) (λ k l. ap (λ z. e (m + 1) (n + k) *ℤ z) (same.at k j)))
        (subst (λ z. e (m + 1) j ≡ den *ℤ z +ℤ sum_to m (λ k. e (m + 1) (n + k) *ℤ t k j)) (same.at (m + 1) j) (h.scaled.main j b));
    first = λ k j a b. ap (λ z. den *ℤ z) (sym (same.at k j)) ∙ h.scaled.first k j a b
        ∙ sum_to-same m (λ r. t k (basis r) *ℤ e r j) (λ r. u k (basis r) *ℤ e r j) (λ r l. ap (λ z. z *ℤ e r j) (same.at k (basis r)));
  };
  reduced = h.reduced;
}

next-same : (order : Order) (m n : ℕ) (t u : ℕ → ℕ → ℤ) (basis : ℕ → ℕ) (step : Step) → IsSameTable t u → HasNext order m n t basis step → HasNext order m n u basis step
next-same order m n t u basis step same h = record { den = h.den; table = h.table; dictionary = dictionary-same m n t u basis h.den h.table same h.dictionary; next = h.next }

pub path-same : (order : Order) (m n : ℕ) (t u : ℕ → ℕ → ℤ) (basis : ℕ → ℕ) (pivots : List Pivot) → IsSameTable t u → IsPathFrom order m n t basis pivots → IsPathFrom order m n u basis pivots
path-same order m n t u basis [] same h = tt
path-same order m n t u basis (p ∷ pivots) same h = (next-same order m n t u basis (steps.Pivot p) same h.0, path-same order m n t u (after basis p) pivots same h.1)

narrow_basis-same : (m n : ℕ) (t u : ℕ → ℕ → ℤ) (basis : ℕ → ℕ) (limit : ℕ) → IsSameTable t u → IsNarrowBasis m n t basis limit → IsNarrowBasis m n u basis limit
narrow_basis-same m n t u basis limit same h = record { den = h.den; table = h.table; dictionary = dictionary-same m n t u basis h.den h.table same h.dictionary; narrow = h.narrow }

pub before-same : (m n : ℕ) (t u : ℕ → ℕ → ℤ) (basis : ℕ → ℕ) (limit : ℕ) (pivots : List Pivot) → IsSameTable t u → AllBefore (λ b. IsNarrowBasis m n t b limit) basis pivots → AllBefore (λ b. IsNarrowBasis m n u b limit) basis pivots
before-same m n t u basis limit [] same h = tt
before-same m n t u basis limit (p ∷ pivots) same h = (narrow_basis-same m n t u basis limit same h.0, before-same m n t u (after basis p) limit pivots same h.1)

-- ---- first tables

-- a row of the first table, by what it is made of
row_by : (columns count rows : ℕ) (sign coefficient : ℤ) (most : Bool) (slack : ℕ) (right : ℤ) (k j : ℕ) → ℤ
row_by columns count rows sign coefficient most slack right k j =
    if nat_lt j columns then sign *ℤ coefficient
    else (if nat_lt j count then (if most && (j == columns + slack) then sign else pos 0)
    else (if nat_lt j (count + rows) then (if j == count + k then pos 1 else pos 0)
    else sign *ℤ right))

row_by-same : (c d count total rows more : ℕ) (sign turn x : ℤ) (most each : Bool) (slack loose : ℕ) (right side : ℤ) (k j : ℕ)
    → c ≡ d → count ≡ total → rows ≡ more → sign ≡ turn → most ≡ each → slack ≡ loose → right ≡ side
    → row_by c count rows sign x most slack right k j ≡ row_by d total more turn x each loose side k j
row_by-same c d count total rows more sign turn x most each slack loose right side k j e f g h i l m = rw (e, f, g, h, i, l, m) refl

row_by-inside : (c count rows : ℕ) (sign x y : ℤ) (most : Bool) (slack : ℕ) (right : ℤ) (k j : ℕ) → (j < c → x ≡ y) → row_by c count rows sign x most slack right k j ≡ row_by c count rows sign y most slack right k j
unfolding row_by
row_by-inside c count rows sign x y most slack right k j same = elim (cases_lt j c) [
  | inl inside ↦ rw (lt-ltb j c inside) (ap (λ z. sign *ℤ z) (same inside))
  | inr outside ↦ rw (le-ltb j c outside) refl
]

main_by-inside : (c j : ℕ) (x y : ℤ) → (j < c → x ≡ y) → (if nat_lt j c then neg_ℤ x else pos 0) ≡ (if nat_lt j c then neg_ℤ y else pos 0)
main_by-inside c j x y same = elim (cases_lt j c) [
  | inl inside ↦ rw (lt-ltb j c inside) (ap neg_ℤ (same inside))
  | inr outside ↦ rw (le-ltb j c outside) refl
]

table_by-same : (r m n : ℕ) (a b c d e f : ℤ) → m ≡ n → a ≡ b → c ≡ d → e ≡ f
    → (if nat_lt r m then a else (if r == m then neg_ℤ c else e)) ≡ (if nat_lt r n then b else (if r == n then neg_ℤ d else f))
table_by-same r m n a b c d e f g h i k = rw (g, h, i, k) refl

module _ (p q : Program) (h : IsSameProgram p q) where
  slacks-same : (k : ℕ) → slacks_before p k ≡ slacks_before q k
  slacks-same zero = refl
  slacks-same (suc k) = rw (slacks-same k, h.kinds k) refl

  pub count-same : column_count p ≡ column_count q
  count-same = ap (λ n. n + slacks_before p (row_count p)) h.columns ∙ ap (λ n. q.columns + n) (slacks-same (row_count p) ∙ ap (slacks_before q) h.rows)

  pub sign-same : (k : ℕ) → sign_at p k ≡ sign_at q k
  sign-same k = ap (λ z. if int_lt z (pos 0) then negsuc 0 else pos 1) (h.rights k)

  row-same : (k j : ℕ) → row_entry p k j ≡ row_entry q k j
  unfolding row_by
  row-same k j =
      row_by-inside p.columns (column_count p) (row_count p) (sign_at p k) (coefficient_at p k j) (coefficient_at q k j) (is_at_most (kind_at p k)) (slacks_before p k) (right_at p k) k j (h.coefficients k j)
      ∙ row_by-same p.columns q.columns (column_count p) (column_count q) (row_count p) (row_count q) (sign_at p k) (sign_at q k) (coefficient_at q k j) (is_at_most (kind_at p k)) (is_at_most (kind_at q k))
      (slacks_before p k) (slacks_before q k) (right_at p k) (right_at q k) k j h.columns count-same h.rows (sign-same k) (ap is_at_most (h.kinds k)) (slacks-same k) (h.rights k)

  main-same : (j : ℕ) → main_entry p j ≡ main_entry q j
  main-same j = main_by-inside p.columns j (cost_at p j) (cost_at q j) (h.costs j) ∙ ap (λ n. if nat_lt j n then neg_ℤ (cost_at q j) else pos 0) h.columns

  table-same : IsSameTable (first_entry p) (first_entry q)
  table-same = record {
    at = λ r j.
        table_by-same r (row_count p) (row_count q) (row_entry p r j) (row_entry q r j) (sum_to (row_count p) (λ k. row_entry p k j)) (sum_to (row_count q) (λ k. row_entry q k j)) (main_entry p j) (main_entry q j)
        h.rows (row-same r j) (sum_to-same (row_count p) (λ k. row_entry p k j) (λ k. row_entry q k j) (λ k l. row-same k j) ∙ ap (λ n. sum_to n (λ k. row_entry q k j)) h.rows) (main-same j);
  }

  -- what is said of the first table and the first basis of one program is said of those of the other
  pub carry : (F : (m n : ℕ) → (ℕ → ℕ → ℤ) → (ℕ → ℕ) → Type 0) → ((m n : ℕ) (t u : ℕ → ℕ → ℤ) (b : ℕ → ℕ) → IsSameTable t u → F m n t b → F m n u b)
      → F (row_count p) (column_count p) (first_entry p) (first_basis p) → F (row_count q) (column_count q) (first_entry q) (first_basis q)
  carry F moves f =
      subst (λ n. F (row_count q) n (first_entry q) (λ i. n + i)) count-same
      (subst (λ m. F m (column_count p) (first_entry q) (λ i. column_count p + i)) h.rows
      (moves (row_count p) (column_count p) (first_entry p) (first_entry q) (first_basis p) table-same f))

  pub path_of-same : (order : Order) (pivots : List Pivot) (step : Step) → IsPathOf order p pivots step → IsPathOf order q pivots step
  path_of-same order pivots step =
      carry (λ m n t b. IsWholePath order m n t b pivots step)
      (λ m n t u b same f. record { path = path-same order m n t u b pivots same f.path; last = next-same order m n t u (basis_after b pivots) step same f.last; ends = f.ends })

  begins-same : (order : Order) (pivots : List Pivot) → BeginsPath order p pivots → BeginsPath order q pivots
  begins-same order pivots = carry (λ m n t b. IsPathFrom order m n t b pivots) (λ m n t u b same f. path-same order m n t u b pivots same f)

  pub narrow-same : (width : ℕ) (pivots : List Pivot) → IsNarrowPath p width pivots → IsNarrowPath q width pivots
  narrow-same width pivots f = record {
    before = carry (λ m n t b. AllBefore (λ c. IsNarrowBasis m n t c (limit_of width)) b pivots) (λ m n t u b same g. before-same m n t u b (limit_of width) pivots same g) f.before;
    last = carry (λ m n t b. IsNarrowBasis m n t (basis_after b pivots) (limit_of width)) (λ m n t u b same g. narrow_basis-same m n t u (basis_after b pivots) (limit_of width) same g) f.last;
  }

  wide_at-same : (width : ℕ) (pivots : List Pivot) (entry : Entry) → IsWideAt p width (basis_of p pivots) entry → IsWideAt q width (basis_of q pivots) entry
  wide_at-same width pivots entry =
      carry (λ m n t b. IsWideBasis m n t (basis_after b pivots) (limit_of width) entry)
      (λ m n t u b same g. record { den = g.den; table = g.table; dictionary = dictionary-same m n t u (basis_after b pivots) g.den g.table same g.dictionary; first = g.first })

  pub meets-same : (order : Order) (width : ℕ) → MeetsWideBasis order p width → MeetsWideBasis order q width
  meets-same order width given = record {
    pivots = given.pivots;
    entry = given.entry;
    begins = begins-same order given.pivots given.begins;
    wide = wide_at-same width given.pivots given.entry given.wide;
  }

  pub first_wide-same : (order : Order) (width : ℕ) (pivots : List Pivot) (entry : Entry) → IsFirstWideIn order p width pivots entry → IsFirstWideIn order q width pivots entry
  first_wide-same order width pivots entry given = record {
    path = begins-same order pivots given.path;
    narrow = carry (λ m n t b. AllBefore (λ c. IsNarrowBasis m n t c (limit_of width)) b pivots) (λ m n t u b same f. before-same m n t u b (limit_of width) pivots same f) given.narrow;
    wide = wide_at-same width pivots entry given.wide;
  }

  pub tried-same : (order : Order) (width : ℕ) → IsTried order p width → IsTried order q width
  tried-same Forward width given = tt
  tried-same Backward width given = record { wide = given.wide; first = first_wide-same Forward width given.wide.path given.wide.entry given.first }

  pub taken-same : (order : Order) (width : ℕ) (pivots : List Pivot) (step : Step) → IsTaken order p width pivots step → IsTaken order q width pivots step
  taken-same order width pivots step given = record {
    tried = tried-same order width given.tried;
    whole = path_of-same order pivots step given.whole;
    narrow = narrow-same width pivots given.narrow;
  }
