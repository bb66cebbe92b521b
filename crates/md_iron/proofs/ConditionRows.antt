-- The conditions of the reduced program with the cuts of pools, and the rows that they are.
use Rattle.std.proofs.Common.{◌≡◌, ℕ, ◌^◌, ◌<◌, ◌≤◌, Bool, true, false, if◌then◌else◌, ℤ, pos, ◌*ℤ◌, ◌<ℤ◌, List, [], ◌∷◌, ◌++◌, map, Option, Some, None, inl, inr, refl, sym, ap, subst, ◌∙◌, arith}
use Rattle.std.specs.Prelude.{slice_get, option_map}
use Rattle.std.specs.Int.{trailing_zeros, bit_at, w32}
use Rattle.std.proofs.lemmas.Bool.{cases_lt}
use Rattle.std.proofs.lemmas.Nat.Bits.{bit_at-trailing_zeros, bit_at_mask_below, bit_at_mask_inside}
use Rattle.std.proofs.lemmas.Option.{slice_get-map}
use Rattle.std.proofs.Math.Nat.{pow-le-pow_right}
use Rattle.std.proofs.Math.Pow.{pow-lt}
use lib.IntN.{*ℤ_comm}
use Rattle.md_math.specs.Divisors.{Divides}
use Rattle.md_math.specs.Lists.{list_to, up_to}
use Rattle.md_math.proofs.Builders.{map-up_to, up_to-same}
use Rattle.md_math.proofs.Division.{Divides-from_product}
use Rattle.md_math.proofs.Order.{positive_from_*ℤ, *ℤ_cancel}
use Rattle.md_setting.specs.Auction.{SymmetricAuction, value_count}
use Rattle.md_setting.specs.AuctionShaped.{IsAuction}
use Rattle.md_mech.specs.Rows.{by_report}
use Rattle.md_num.specs.declared.frac.Frac.{Frac}
use Rattle.md_lp.specs.Program.{Program, right_at}
use Rattle.md_lp.proofs.Dividing.{IsDivisorFor-positive}
use Rattle.md_border.specs.Sides.{right_by_counts}
use Rattle.md_reduced.specs.declared.condition.ReducedCondition.{ReducedCondition}
use Rattle.md_reduced.specs.declared.condition.ReducedCondition.TheVariants.{Truth, Rational, Cut}
use Rattle.md_reduced.specs.Conditions.{conditions_of}
use Rattle.md_reduced.specs.ProgramOf.{IsReducedProgram}
use Rattle.md_iron_values.specs.Pools.{Pools}
use Rattle.md_iron_values.specs.Cuts.{begins, set_from, cuts_of}
use Rattle.md_iron_laws.specs.Rows.{ProgramRow, truth_row, rational_row, cut_row, cut_rows, rows_of, row_right}
use Rattle.md_iron_laws.proofs.Divisors.{row-in, line-of, cut-right-positive}
use Rattle.md_iron_laws.proofs.Lists.{map-cut_rows}
use Rattle.md_iron_laws.proofs.ProgramForms.{map-parts}
use Rattle.md_iron.specs.RowMultipliers.{IsMultiplierOf, IsMultiplierAt}

-- ---- all conditions

-- the condition that a row says
abbrev pub condition_in : ℕ → ProgramRow → ReducedCondition
condition_in kinds (truth_row v w) = Truth v w
condition_in kinds (rational_row v) = Rational v
condition_in kinds (cut_row s) = Cut (set_from kinds s)

one-cut : (kinds : ℕ) (t : Bool) (s : ℕ) → map Cut (if t then set_from kinds s ∷ [] else []) ≡ (if t then Cut (set_from kinds s) ∷ [] else [])
one-cut kinds true s = refl
one-cut kinds false s = refl

cut-conditions : (kinds : ℕ) (pools : Pools) → map Cut (cuts_of kinds pools) ≡ map (condition_in kinds) (cut_rows kinds pools)
cut-conditions kinds pools =
    map-up_to Cut kinds (λ s. if begins pools s then set_from kinds s ∷ [] else [])
    ∙ up_to-same kinds (λ s. map Cut (if begins pools s then set_from kinds s ∷ [] else [])) (λ s. if begins pools s then Cut (set_from kinds s) ∷ [] else []) (λ s b. one-cut kinds (begins pools s) s)
    ∙ sym (map-cut_rows (condition_in kinds) kinds pools)

pub conditions-rows : (kinds : ℕ) (pools : Pools) → conditions_of kinds (cuts_of kinds pools) ≡ map (condition_in kinds) (rows_of kinds pools)
conditions-rows kinds pools =
    ap (λ zs. up_to kinds (λ v. by_report kinds v (Truth v)) ++ (list_to kinds Rational ++ zs)) (cut-conditions kinds pools)
    ∙ sym (map-parts (condition_in kinds) kinds truth_row rational_row (cut_rows kinds pools))

-- ---- one condition

option-back : {X Y : Type 0} → (f : X → Y) (o : Option X) (y : Y) → option_map f o ≡ Some y → (x : X) × (o ≡ Some x) × (y ≡ f x)
option-back f None y e = cc
option-back f (Some x) y e = (x, refl, cc)

-- the row of the condition with a number
pub row-of : (kinds : ℕ) (pools : Pools) (cuts : List ℕ) (number : ℕ) (condition : ReducedCondition) → cuts ≡ cuts_of kinds pools → slice_get (conditions_of kinds cuts) number ≡ Some condition
    → (row : ProgramRow) × (slice_get (rows_of kinds pools) number ≡ Some row) × (condition ≡ condition_in kinds row)
row-of kinds pools cuts number condition same is =
    option-back (condition_in kinds) (slice_get (rows_of kinds pools) number) condition
    (sym (slice_get-map (condition_in kinds) (rows_of kinds pools) number) ∙ ap (λ xs. slice_get xs number) (sym (ap (conditions_of kinds) same ∙ conditions-rows kinds pools)) ∙ is)

pub condition-at : (kinds : ℕ) (pools : Pools) (cuts : List ℕ) (number : ℕ) (condition : ReducedCondition) (row : ProgramRow) → cuts ≡ cuts_of kinds pools → slice_get (conditions_of kinds cuts) number ≡ Some condition
    → slice_get (rows_of kinds pools) number ≡ Some row → condition ≡ condition_in kinds row
condition-at kinds pools cuts number condition row same is stands =
    let (other, its, e) = row-of kinds pools cuts number condition same is in
    e ∙ ap (condition_in kinds) (only (slice_get (rows_of kinds pools) number) other row its stands)
  where
    only : (o : Option ProgramRow) (x y : ProgramRow) → o ≡ Some x → o ≡ Some y → x ≡ y
    only o x y e f = cc

truth-only : (kinds v w : ℕ) (row : ProgramRow) → Truth v w ≡ condition_in kinds row → row ≡ truth_row v w
truth-only kinds v w (truth_row x y) e = cc
truth-only kinds v w (rational_row x) e = cc
truth-only kinds v w (cut_row s) e = cc

rational-only : (kinds v : ℕ) (row : ProgramRow) → Rational v ≡ condition_in kinds row → row ≡ rational_row v
rational-only kinds v (truth_row x y) e = cc
rational-only kinds v (rational_row x) e = cc
rational-only kinds v (cut_row s) e = cc

cut-only : (kinds set : ℕ) (row : ProgramRow) → Cut set ≡ condition_in kinds row → (s : ℕ) × (row ≡ cut_row s) × (set ≡ set_from kinds s)
cut-only kinds set (truth_row x y) e = cc
cut-only kinds set (rational_row x) e = cc
cut-only kinds set (cut_row s) e = (s, refl, cc)

-- ---- what it is multiplied by

pub at-truth : (a : SymmetricAuction) (units : ℕ) (pools : Pools) (p : Program) (cuts : List ℕ) (number v w : ℕ) (f : Frac) → cuts ≡ cuts_of (value_count a) pools → slice_get (conditions_of (value_count a) cuts) number ≡ Some (Truth v w)
    → ((divisor : ℕ → ℤ) → IsMultiplierOf a pools p.factor divisor (truth_row v w) f) → IsMultiplierAt a units pools p number f
at-truth a units pools p cuts number v w f same is h = record {
  is = λ divisor row divided stands.
      let e : row ≡ truth_row v w = truth-only (value_count a) v w row (condition-at (value_count a) pools cuts number (Truth v w) row same is stands) in
      subst (λ r. IsMultiplierOf a pools p.factor divisor r f) (sym e) (h divisor);
}

pub at-rational : (a : SymmetricAuction) (units : ℕ) (pools : Pools) (p : Program) (cuts : List ℕ) (number v : ℕ) (f : Frac) → cuts ≡ cuts_of (value_count a) pools → slice_get (conditions_of (value_count a) cuts) number ≡ Some (Rational v)
    → ((divisor : ℕ → ℤ) → IsMultiplierOf a pools p.factor divisor (rational_row v) f) → IsMultiplierAt a units pools p number f
at-rational a units pools p cuts number v f same is h = record {
  is = λ divisor row divided stands.
      let e : row ≡ rational_row v = rational-only (value_count a) v row (condition-at (value_count a) pools cuts number (Rational v) row same is stands) in
      subst (λ r. IsMultiplierOf a pools p.factor divisor r f) (sym e) (h divisor);
}

-- ---- cuts

-- the lowest value of a set is the one that it begins with
pub lowest-from : (kinds s : ℕ) → s < kinds → kinds ≤ 12 → trailing_zeros w32 (set_from kinds s) ≡ s
lowest-from kinds s b few =
    let less : 2 ^ s < 2 ^ kinds = pow-lt b in
    let most : 2 ^ kinds ≤ 2 ^ 12 = pow-le-pow_right {n = 2} (omega arith) {i = kinds} {j = 12} few in
    let (inside, one, zeros) = bit_at-trailing_zeros w32 (set_from kinds s) (omega (arith, less)) (omega (arith, most)) in
    let lowest : ℕ = trailing_zeros w32 (set_from kinds s) in
    elim (cases_lt lowest s) [
      | inl l ↦ absurd (differ (bit_at (set_from kinds s) lowest) one (bit_at_mask_below s kinds lowest l))
      | inr g ↦ elim (cases_lt s lowest) [
        | inl l ↦ absurd (differ (bit_at (set_from kinds s) s) (bit_at_mask_inside s kinds s (omega arith) b) (zeros s l))
        | inr h ↦ omega (arith, g, h)
      ]
    ]
  where
    differ : (n : ℕ) → n ≡ 1 → n ≡ 0 → ⊥
    differ n e f = omega (arith, e, f)

-- the row of a number is the cut of this set
pub record IsCutAt (a : SymmetricAuction) (units : ℕ) (pools : Pools) (p : Program) (number set s : ℕ) : Type 0 where
  pub stands : slice_get (rows_of (value_count a) pools) number ≡ Some (cut_row s)
  pub inside : s < value_count a
  pub set_is : set ≡ set_from (value_count a) s
  pub lowest : trailing_zeros w32 set ≡ s
  pub positive : pos 0 <ℤ right_at p number
  pub divides : Divides (right_at p number) (right_by_counts a units set)

pub cut-at : (a : SymmetricAuction) (units : ℕ) (pools : Pools) (p : Program) (cuts : List ℕ) (number set : ℕ) → IsAuction a → 0 < units → IsReducedProgram a units cuts p → cuts ≡ cuts_of (value_count a) pools
    → slice_get (conditions_of (value_count a) cuts) number ≡ Some (Cut set) → (s : ℕ) × IsCutAt a units pools p number set s
cut-at a units pools p cuts number set shaped some program same is =
    let k = value_count a in
    let (row, its, e) = row-of k pools cuts number (Cut set) same is in
    let (s, row_is, set_is) = cut-only k set row e in
    let stands : slice_get (rows_of (value_count a) pools) number ≡ Some (cut_row s) = its ∙ ap Some row_is in
    let inside : s < value_count a = (row-in k pools number (cut_row s) stands).0 in
    let line = line-of a units pools p (subst (λ xs. IsReducedProgram a units xs p) same program) number (cut_row s) stands in
    let by : pos 0 <ℤ line.by = IsDivisorFor-positive _ _ line.by line.divisor in
    let right : right_by_counts a units set ≡ row_right a units (cut_row s) = ap (right_by_counts a units) set_is in (
      s,
      record {
        stands = stands;
        inside = inside;
        set_is = set_is;
        lowest = ap (trailing_zeros w32) set_is ∙ lowest-from k s inside shaped.few_values;
        positive = positive_from_*ℤ line.by (right_at p number) by (subst (λ z. pos 0 <ℤ z) line.right (cut-right-positive a units s shaped some inside));
        divides = Divides-from_product (right_at p number) line.by (right_by_counts a units set) (right ∙ line.right ∙ *ℤ_comm line.by (right_at p number));
      },
    )

pub at-cut : (a : SymmetricAuction) (units : ℕ) (pools : Pools) (p : Program) (cuts : List ℕ) (number set s : ℕ) (quotient : ℤ) (f : Frac) → cuts ≡ cuts_of (value_count a) pools → slice_get (conditions_of (value_count a) cuts) number ≡ Some (Cut set)
    → IsCutAt a units pools p number set s → right_at p number *ℤ quotient ≡ right_by_counts a units set
    → ((divisors : ℕ → ℤ) → divisors s ≡ quotient → IsMultiplierOf a pools p.factor divisors (cut_row s) f) → IsMultiplierAt a units pools p number f
at-cut a units pools p cuts number set s quotient f same is cut whole h = record {
  is = λ divisor row divided stands.
      let e : row ≡ cut_row s = only (slice_get (rows_of (value_count a) pools) number) row (cut_row s) stands cut.stands in
      let right : divisor s *ℤ right_at p number ≡ right_at p number *ℤ quotient = sym (divided.at number s cut.stands) ∙ sym (ap (right_by_counts a units) cut.set_is) ∙ sym whole in
      let its : divisor s ≡ quotient = *ℤ_cancel (right_at p number) (divisor s) quotient cut.positive (*ℤ_comm (right_at p number) (divisor s) ∙ right) in
      subst (λ r. IsMultiplierOf a pools p.factor divisor r f) (sym e) (h divisor its);
}
  where
    only : (o : Option ProgramRow) (x y : ProgramRow) → o ≡ Some x → o ≡ Some y → x ≡ y
    only o x y e f = cc
