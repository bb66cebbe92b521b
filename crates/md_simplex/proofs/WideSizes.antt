-- The first wide entry of a path can be written: its numbers are of at most 126 bits.
use Rattle.std.proofs.Common.{◌≡◌, ◌≢◌, ◌⊎◌, ℕ, ◌+◌, ◌-◌, ◌*◌, ◌^◌, ◌<◌, ◌≤◌, Bool, true, false, ℤ, pos, neg_ℤ, ◌-ℤ◌, ◌*ℤ◌, ◌≤ℤ◌, ◌<ℤ◌, List, [], ◌∷◌, sym, ◌∙◌, subst, arith, le_refl, mul-le-mul, inl, inr}
use Rattle.std.specs.Prelude.{◌&&◌, ◌==◌, nat_lt, if◌then◌else◌}
use lib.IntN.{*ℤ_comm}
use Rattle.std.proofs.lemmas.Int.{ints}
use Rattle.std.proofs.lemmas.Bool.{cases_lt, lt-ltb, le-ltb}
use Rattle.md_math.specs.Divisors.{Divides}
use Rattle.md_math.specs.Sizes.{IsWithin}
use Rattle.md_math.specs.Sums.{sum_to}
use Rattle.md_math.proofs.Division.{Divides-from_product}
use Rattle.md_math.proofs.Gcds.{Divides-from_coprime_table}
use Rattle.md_math.proofs.Order.{positive-*ℤ}
use Rattle.md_math.proofs.Ring.{*ℤ-one}
use Rattle.md_math.proofs.SizeLaws.{AllWithin-number_at, IsWithin-*ℤ, IsWithin-neg_ℤ, IsWithin-sub, IsWithin-wider, IsWithin-zero, sum_to-within}
use Rattle.md_num.specs.Limits.{limit_of}
use Rattle.md_lp.specs.declared.entry.Entry.{Entry}
use Rattle.md_lp.specs.declared.pivot.Pivot.{Pivot}
use Rattle.md_lp.specs.Program.{Program, row_count, kind_at, right_at, coefficient_at, cost_at}
use Rattle.md_lp.specs.Shape.{IsShaped}
use Rattle.md_lp.proofs.ShapeLaws.{coefficient-within, right-within}
use Rattle.md_dict.specs.Dictionary.{IsDictionary, IsScaledDictionary}
use Rattle.md_dict.specs.FirstTable.{is_at_most, slacks_before, column_count, sign_at, row_entry, main_entry, first_entry, first_basis}
use Rattle.md_dict.specs.Pivot.{with_column, raw_entry}
use Rattle.md_dict.proofs.Exchange.{limit_le}
use Rattle.md_dict.proofs.FirstLaws.{first_dictionary, IsFirstTable-first_entry}
use Rattle.md_dict.proofs.RawPivot.{basic_own, raw_own, raw_other, raw_pivot}
use Rattle.md_dict.proofs.Uniqueness.{proportional, same_dens, same_entries}
use Rattle.md_simplex.specs.declared.order.Order.{Order}
use Rattle.md_simplex.specs.declared.step.Step.TheVariants as steps
use Rattle.md_simplex.specs.Rules.{HasNext}
use Rattle.md_simplex.specs.Path.{after, basis_after, IsPathFrom, IsNarrowBasis, AllBefore}
use Rattle.md_simplex.specs.Runs.{IsFirstWideIn}
use Rattle.md_simplex.proofs.PathLaws.{entering_in}
use Rattle.md_simplex.proofs.ReadFits.{signed-within}
use Rattle.md_math.proofs.QuotientSizes.{num-size, den-size}

-- the greatest size of a number that is written
abbrev pub wide_limit : ℕ
wide_limit = 2 ^ 126 - 1

abbrev width_limit : ℕ
width_limit = 2 ^ 62

-- each number of each dictionary of the basis can be written
record HasSizes (m n : ℕ) (t : ℕ → ℕ → ℤ) (basis : ℕ → ℕ) : Type 0 where
  den : (d : ℤ) (f : ℕ → ℕ → ℤ) → IsDictionary m n t basis d f → IsWithin wide_limit d
  entry : (d : ℤ) (f : ℕ → ℕ → ℤ) → IsDictionary m n t basis d f → (r j : ℕ) → r < m + 2 → j < n + m + 1 → IsWithin wide_limit (f r j)

-- ---- after a pivot

cross-size : (a b c d : ℤ) → IsWithin width_limit a → IsWithin width_limit b → IsWithin width_limit c → IsWithin width_limit d → IsWithin wide_limit (a *ℤ b -ℤ c *ℤ d)
cross-size a b c d h k l m =
    IsWithin-wider (width_limit * width_limit + width_limit * width_limit) wide_limit (a *ℤ b -ℤ c *ℤ d) (omega arith)
    (IsWithin-sub (width_limit * width_limit) (width_limit * width_limit) (a *ℤ b) (c *ℤ d) (IsWithin-*ℤ width_limit width_limit a b h k) (IsWithin-*ℤ width_limit width_limit c d l m))

product-size : (a b : ℤ) → IsWithin width_limit a → IsWithin width_limit b → IsWithin wide_limit (a *ℤ b)
product-size a b h k = IsWithin-wider (width_limit * width_limit) wide_limit (a *ℤ b) (omega arith) (IsWithin-*ℤ width_limit width_limit a b h k)

module _ (m n : ℕ) (t : ℕ → ℕ → ℤ) (basis : ℕ → ℕ) (den : ℤ) (e : ℕ → ℕ → ℤ) (row column : ℕ) (given : IsDictionary m n t basis den e) (row_in : row < m) (column_in : column < n) (positive : pos 0 <ℤ e row column) (small : (r j : ℕ) → r < m + 2 → j < n + m + 1 → IsWithin width_limit (e r j)) where
  den-small : IsWithin width_limit den
  den-small =
      let inside : basis row < n + m = given.scaled.columns row row_in in
      subst (IsWithin width_limit) (given.scaled.basic row row row_in (omega (arith, row_in)) ∙ basic_own m n row (basis row) den) (small row (basis row) (omega (arith, row_in)) (omega (arith, inside)))

  raw-small : (r j : ℕ) → r < m + 2 → j < n + m + 1 → IsWithin wide_limit (raw_entry row column den e r j)
  raw-small r j a b = elim (same_or_not r row) [
    | inl same ↦ subst (λ i. IsWithin wide_limit (raw_entry row column den e i j)) (sym same)
        (subst (IsWithin wide_limit) (sym (raw_own row column den e j)) (product-size den (e row j) den-small (small row j (omega (arith, row_in)) b)))
    | inr other ↦ subst (IsWithin wide_limit) (sym (raw_other row column den e r j other))
        (cross-size (e row column) (e r j) (e r column) (e row j) (small row column (omega (arith, row_in)) (omega (arith, column_in))) (small r j a b) (small r column a (omega (arith, column_in))) (small row j (omega (arith, row_in)) b))
  ]
    where
      same_or_not : (a b : ℕ) → (a ≡ b) ⊎ (a ≢ b)
      same_or_not a b = elim (cases_lt a b) [
        | inl l ↦ inr (λ same. absurd (omega (arith, l, same)))
        | inr ge ↦ elim (cases_lt b a) [
          | inl l ↦ inr (λ same. absurd (omega (arith, l, same)))
          | inr le ↦ inl (omega (arith, ge, le))
        ]
      ]

  after-sizes : HasSizes m n t (with_column basis row column)
  after-sizes = record {
    den = λ d f h. den-size wide_limit d (den *ℤ e row column) h.scaled.positive whole (divides d f h) (product-size den (e row column) den-small (small row column (omega (arith, row_in)) (omega (arith, column_in))));
    entry = λ d f h r j a b.
        num-size wide_limit (f r j) d (raw_entry row column den e r j) (den *ℤ e row column) h.scaled.positive whole (divides d f h)
        (*ℤ_comm (f r j) (den *ℤ e row column) ∙ sym (cross d f h r j a b) ∙ *ℤ_comm d (raw_entry row column den e r j)) (raw-small r j a b);
  }
    where
      whole : pos 0 <ℤ (den *ℤ e row column)
      whole = positive-*ℤ den (e row column) given.scaled.positive positive

      raw : IsScaledDictionary m n t (with_column basis row column) (den *ℤ e row column) (raw_entry row column den e)
      raw = raw_pivot m n t basis den e row column (record { scaled = given.scaled; row_in = row_in; column_in = column_in; positive = positive })

      cross : (d : ℤ) (f : ℕ → ℕ → ℤ) → IsDictionary m n t (with_column basis row column) d f → (r j : ℕ) → r < m + 2 → j < n + m + 1 → d *ℤ raw_entry row column den e r j ≡ (den *ℤ e row column) *ℤ f r j
      cross d f h = proportional m n t (with_column basis row column) (den *ℤ e row column) d (raw_entry row column den e) f raw h.scaled

      divides : (d : ℤ) (f : ℕ → ℕ → ℤ) → IsDictionary m n t (with_column basis row column) d f → Divides d (den *ℤ e row column)
      divides d f h =
          Divides-from_coprime_table (m + 2) (n + m + 1) f d (den *ℤ e row column) h.reduced.only_one
          (λ r j a b. Divides-from_product d (raw_entry row column den e r j) ((den *ℤ e row column) *ℤ f r j) (sym (cross d f h r j a b)))

pivot-sizes : (order : Order) (m n : ℕ) (t : ℕ → ℕ → ℤ) (basis : ℕ → ℕ) (limit : ℕ) (p : Pivot) → limit ≤ width_limit → HasNext order m n t basis (steps.Pivot p) → IsNarrowBasis m n t basis limit → HasSizes m n t (after basis p)
pivot-sizes order m n t basis limit p few next narrow =
    after-sizes m n t basis next.den next.table p.row p.column next.dictionary next.next.1.inside (entering_in order m n next.table p.column next.next.0) next.next.1.positive
    (λ r j a b. subst (IsWithin width_limit) (sym (same_entries m n t basis next.den narrow.den next.table narrow.table next.dictionary narrow.dictionary r j a b))
    (IsWithin-wider limit width_limit (narrow.table r j) few (narrow.narrow.entries r j a b)))

path-sizes : (order : Order) (m n : ℕ) (t : ℕ → ℕ → ℤ) (basis : ℕ → ℕ) (limit : ℕ) (pivots : List Pivot) → limit ≤ width_limit → HasSizes m n t basis → IsPathFrom order m n t basis pivots → AllBefore (λ b. IsNarrowBasis m n t b limit) basis pivots
    → HasSizes m n t (basis_after basis pivots)
path-sizes order m n t basis limit [] few sizes path narrow = sizes
path-sizes order m n t basis limit (p ∷ pivots) few sizes path narrow = path-sizes order m n t (after basis p) limit pivots few (pivot-sizes order m n t basis limit p few path.0 narrow.0) path.1 narrow.1

-- ---- the first basis

abbrev small_limit : ℕ
small_limit = 2 ^ 44

unit-within : (b : Bool) (z : ℤ) → IsWithin small_limit z → IsWithin small_limit (if b then z else pos 0)
unit-within true z h = h
unit-within false z h = IsWithin-zero small_limit

sign-within : (p : Program) (k : ℕ) → IsWithin small_limit (sign_at p k)
sign-within p k = subst (IsWithin small_limit) (*ℤ-one (sign_at p k)) (signed-within small_limit p k (pos 1) (record { within = omega arith }))

row-within : (p : Program) (k j : ℕ) → IsShaped p → k < row_count p → IsWithin small_limit (row_entry p k j)
row-within p k j shaped b =
    by_tests (nat_lt j p.columns) (nat_lt j (column_count p)) (nat_lt j (column_count p + row_count p))
    (sign_at p k *ℤ coefficient_at p k j) (if is_at_most (kind_at p k) && (j == p.columns + slacks_before p k) then sign_at p k else pos 0) (if j == column_count p + k then pos 1 else pos 0) (sign_at p k *ℤ right_at p k)
    (signed-within small_limit p k (coefficient_at p k j) (coefficient-within p k j shaped b))
    (unit-within (is_at_most (kind_at p k) && (j == p.columns + slacks_before p k)) (sign_at p k) (sign-within p k))
    (unit-within (j == column_count p + k) (pos 1) (record { within = omega arith }))
    (signed-within small_limit p k (right_at p k) (right-within p k shaped b))
  where
    by_tests : (x y z : Bool) (a c d f : ℤ) → IsWithin small_limit a → IsWithin small_limit c → IsWithin small_limit d → IsWithin small_limit f → IsWithin small_limit (if x then a else (if y then c else (if z then d else f)))
    by_tests true y z a c d f h k l m = h
    by_tests false true z a c d f h k l m = k
    by_tests false false true a c d f h k l m = l
    by_tests false false false a c d f h k l m = m

main-within : (p : Program) (j : ℕ) → IsShaped p → IsWithin small_limit (main_entry p j)
main-within p j shaped = unit-within (nat_lt j p.columns) (neg_ℤ (cost_at p j)) (IsWithin-neg_ℤ small_limit (cost_at p j) (AllWithin-number_at small_limit p.cost j shaped.cost_sizes))

first-within : (p : Program) (r j : ℕ) → IsShaped p → IsWithin wide_limit (first_entry p r j)
first-within p r j shaped = elim (cases_lt r (row_count p)) [
  | inl inside ↦ rw (lt-ltb r (row_count p) inside) (IsWithin-wider small_limit wide_limit (row_entry p r j) (omega arith) (row-within p r j shaped inside))
  | inr past ↦ rw (le-ltb r (row_count p) past) (by_test (r == row_count p) (neg_ℤ (sum_to (row_count p) (λ k. row_entry p k j))) (main_entry p j) face (IsWithin-wider small_limit wide_limit (main_entry p j) (omega arith) (main-within p j shaped)))
]
  where
    by_test : (x : Bool) (a b : ℤ) → IsWithin wide_limit a → IsWithin wide_limit b → IsWithin wide_limit (if x then a else b)
    by_test true a b h k = h
    by_test false a b h k = k

    face : IsWithin wide_limit (neg_ℤ (sum_to (row_count p) (λ k. row_entry p k j)))
    face =
        let few : row_count p * small_limit ≤ 8192 * small_limit = mul-le-mul shaped.count (le_refl small_limit) in
        IsWithin-neg_ℤ wide_limit (sum_to (row_count p) (λ k. row_entry p k j))
        (IsWithin-wider (row_count p * small_limit) wide_limit (sum_to (row_count p) (λ k. row_entry p k j)) (omega (arith, few))
        (sum_to-within (row_count p) small_limit (λ k. row_entry p k j) (λ k b. row-within p k j shaped b)))

first-sizes : (p : Program) → IsShaped p → HasSizes (row_count p) (column_count p) (first_entry p) (first_basis p)
first-sizes p shaped = record {
  den = λ d f h. subst (IsWithin wide_limit) (same_dens (row_count p) (column_count p) (first_entry p) (first_basis p) (pos 1) d (first_entry p) f first h) (record { within = omega arith });
  entry = λ d f h r j a b. subst (IsWithin wide_limit) (same_entries (row_count p) (column_count p) (first_entry p) (first_basis p) (pos 1) d (first_entry p) f first h r j a b) (first-within p r j shaped);
}
  where
    first : IsDictionary (row_count p) (column_count p) (first_entry p) (first_basis p) (pos 1) (first_entry p)
    first = first_dictionary (row_count p) (column_count p) (first_entry p) (IsFirstTable-first_entry p)

-- ---- the first wide entry

-- the numbers of an entry can be written
pub record HasEntrySizes (entry : Entry) : Type 0 where
  pub positive : pos 1 ≤ℤ entry.den
  pub num_size : IsWithin wide_limit entry.num
  pub den_size : IsWithin wide_limit entry.den

pub wide-sizes : (order : Order) (p : Program) (width : ℕ) (pivots : List Pivot) (entry : Entry) → IsShaped p → width ≤ 62 → IsFirstWideIn order p width pivots entry → HasEntrySizes entry
wide-sizes order p width pivots entry shaped few wide =
    let sizes = path-sizes order (row_count p) (column_count p) (first_entry p) (first_basis p) (limit_of width) pivots (limit_le width few) (first-sizes p shaped) wide.path wide.narrow in
    let basis = wide.wide in
    let above : pos 1 ≤ℤ basis.den = omega (arith, ints, basis.dictionary.scaled.positive) in
    record {
      positive = subst (λ z. pos 1 ≤ℤ z) (sym basis.first.den_is) above;
      num_size = subst (IsWithin wide_limit) (sym basis.first.num_is) (sizes.entry basis.den basis.table basis.dictionary entry.row entry.column basis.first.row_in basis.first.column_in);
      den_size = subst (IsWithin wide_limit) (sym basis.first.den_is) (sizes.den basis.den basis.table basis.dictionary);
    }
