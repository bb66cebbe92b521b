-- The shape of a new program, and of a program with one more row.
use Rattle.std.proofs.Common.{◌≡◌, ◌≢◌, ℕ, zero, suc, ◌^◌, ◌<◌, ◌≤◌, ◌⊎◌, inl, inr, ℤ, pos, ◌*ℤ◌, ◌<ℤ◌, unsigned_abs, List, [], length, refl, sym, ap, ◌∙◌, subst, arith, lit≤}
use Rattle.std.proofs.lemmas.Int.{ints}
use Rattle.std.proofs.Math.Nat as NatL
use Rattle.std.proofs.lemmas.Bool.{cases_lt}
use Rattle.std.proofs.lemmas.List.{length_push}
use Rattle.std.proofs.lemmas.List.Elements.{All-nil, All-push}
use Rattle.md_math.specs.Divisors.{Divides}
use Rattle.md_math.specs.Lists.{number_at}
use Rattle.md_math.specs.Sizes.{IsWithin, AllWithin}
use Rattle.md_math.proofs.Ring.{linear}
use Rattle.md_math.proofs.Division.{Divides-zero}
use Rattle.md_math.proofs.Order.{lt_or_same_or_gt}
use Rattle.md_math.proofs.SumLaws.{dot-same, *ℤ-dot}
use Rattle.md_lp.specs.Program.{Program, Row, row_count, with_row}
use Rattle.md_lp.specs.Shape.{numbers_of, HasPlaces, IsShapedRow, IsShaped}
use Rattle.md_lp.specs.Divided.{AllZero, IsDivisorFor, IsDividedRow, IsDividedList, HasDividedCost, AppendsDivided}
use Rattle.md_lp.proofs.Dividing.{zero-Divides, IsDivisorFor-positive, IsWithin-divided, IsShapedRow-divided, same_points}

-- ---- the size of a divisor

-- numbers are all 0, or one of them is not
all_zero_or : (n : ℕ) (f : ℕ → ℤ) → AllZero n f ⊎ ((k : ℕ) × (k < n) × (f k ≢ pos 0))
all_zero_or zero f = inl (record { zero = λ k b. absurd (omega arith) })
all_zero_or (suc n) f = at (all_zero_or n f) (lt_or_same_or_gt (f n) (pos 0))
  where
    same : AllZero n f → f n ≡ pos 0 → AllZero (suc n) f
    same h e = record { zero = λ k b. elim (cases_lt k n) [ inl l ↦ h.zero k l | inr l ↦ (let last : k ≡ n = omega arith in ap f last ∙ e) ] }

    at : AllZero n f ⊎ ((k : ℕ) × (k < n) × (f k ≢ pos 0)) → (f n <ℤ pos 0) ⊎ (f n ≡ pos 0) ⊎ (pos 0 <ℤ f n) → AllZero (suc n) f ⊎ ((k : ℕ) × (k < suc n) × (f k ≢ pos 0))
    at (inr (k, b, d)) _ = inr (k, omega arith, d)
    at (inl h) (inl l) = inr (n, omega arith, λ e. omega (arith, linear))
    at (inl h) (inr (inl e)) = inl (same h e)
    at (inl h) (inr (inr l)) = inr (n, omega arith, λ e. omega (arith, linear))

-- a divisor is no greater in size than the greatest of the numbers, or it is 1
pub IsDivisorFor-within : (n limit : ℕ) (f : ℕ → ℤ) (g : ℤ) → IsDivisorFor n f g → 1 ≤ limit → ((k : ℕ) → k < n → IsWithin limit (f k)) → IsWithin limit g
IsDivisorFor-within n limit f g (inr h) l s = (let e : g ≡ pos 1 = h.1 in record { within = omega (arith, ints) })
IsDivisorFor-within n limit f g (inl h) l s = elim (all_zero_or n f) [
  | inl z ↦
      let zero : g ≡ pos 0 = zero-Divides g (h.0.greatest (pos 0) (record { at = λ k b. subst (Divides (pos 0)) (sym (z.zero k b)) (Divides-zero (pos 0)) })) in
      let above : pos 0 <ℤ g = h.1 in
      absurd (omega (arith, linear))
  | inr p ↦
      let nonzero : f p.0 ≢ pos 0 = p.2 in
      let size : 0 < unsigned_abs (f p.0) = positive (f p.0) nonzero in
      let most : unsigned_abs g ≤ unsigned_abs (f p.0) = NatL.le_of_dvd size (h.0.common.at p.0 p.1).divides in
      record { within = omega (arith, (s p.0 p.1).within) }
]
  where
    positive : (z : ℤ) → z ≢ pos 0 → 0 < unsigned_abs z
    positive z d = omega (arith, ints)

-- ---- a new program

pub IsShaped-new : (columns : ℕ) (raw cost : List ℤ) (factor : ℤ) → columns ≤ 65536 → length raw ≡ columns → AllWithin (2 ^ 44) raw → IsDivisorFor (length raw) (number_at raw) factor → IsDividedList factor raw cost → IsShaped (record { columns = columns; cost = cost; factor = factor; rows = [] })
IsShaped-new columns raw cost factor few long sizes divisor divided =
    let above : pos 0 <ℤ factor = IsDivisorFor-positive (length raw) (number_at raw) factor divisor in
    let same : length cost ≡ length raw = divided.length_is in
    record {
      columns = few;
      costs = same ∙ long;
      cost_sizes = record { at = λ k b. (let inside : k < length raw = omega arith in IsWithin-divided (2 ^ 44) factor (number_at raw k) (number_at cost k) above (divided.numbers k inside) (sizes.at k inside)) };
      positive = above;
      factor_size = IsDivisorFor-within (length raw) (2 ^ 44) (number_at raw) factor divisor (lit≤ tt) sizes.at;
      count = omega arith;
      rows = All-nil (IsShapedRow columns);
    }

pub HasDividedCost-new : (columns : ℕ) (raw cost : List ℤ) (factor : ℤ) → length raw ≡ columns → IsDivisorFor (length raw) (number_at raw) factor → IsDividedList factor raw cost → HasDividedCost columns raw (record { columns = columns; cost = cost; factor = factor; rows = [] })
HasDividedCost-new columns raw cost factor long divisor divided = record {
  columns_are = refl;
  divisor = divisor;
  divided = divided;
  no_row = refl;
  cost_is = λ x.
      dot-same columns (number_at raw) (λ j. factor *ℤ number_at cost j) x x (λ j b. divided.numbers j (omega arith)) (λ j b. refl)
      ∙ *ℤ-dot columns factor (number_at cost) x;
}

-- ---- one more row

pub IsShaped-push : (p : Program) (raw row : Row) → IsShaped p → IsDividedRow raw row → HasPlaces p.columns raw.terms → AllWithin (2 ^ 44) (numbers_of raw) → row_count p < 8192 → IsShaped (with_row p row)
IsShaped-push p raw row h d places sizes few = record {
  columns = h.columns;
  costs = h.costs;
  cost_sizes = h.cost_sizes;
  positive = h.positive;
  factor_size = h.factor_size;
  count = omega (arith, length_push p.rows row);
  rows = All-push (IsShapedRow p.columns) p.rows row h.rows (IsShapedRow-divided p.columns raw row d places sizes);
}

pub AppendsDivided-push : (p : Program) (raw row : Row) → IsDividedRow raw row → AppendsDivided p (with_row p row) raw
AppendsDivided-push p raw row d = record { row = row; appended = refl; divided = d; points = same_points raw row d }
