-- What the rows of conditions are divided by: the greatest common divisor of the terms of a row and of its right side is that of its
-- form, and all rows of one condition have the same one.
use Rattle.std.proofs.Common.{◌≡◌, ℕ, zero, suc, ◌*◌, ◌<◌, true, false, ℤ, pos, neg_ℤ, ◌-ℤ◌, ◌*ℤ◌, List, [], ◌∷◌, length, get_or, All, map, refl, sym, ap₂, ◌∙◌, inl, inr, subst, arith}
use Rattle.std.specs.Prelude.{◌==◌, if◌then◌else◌, slice_index}
use Rattle.std.proofs.lemmas.Bool.{cases_Bool, eq-eqb, ne_eqb}
use Rattle.std.proofs.lemmas.List.{get_or-map, length-map}
use Rattle.std.proofs.lemmas.List.Elements.{All-from_get_or, All-head, All-nil, All-tail}
use Rattle.md_math.specs.Divisors.{Divides, IsCommonDivisor, IsGcdOf}
use Rattle.md_math.specs.Lists.{number_at}
use Rattle.md_math.proofs.Division.{Divides-+ℤ, Divides-neg_ℤ, Divides-zero, Divides-*ℤ_right}
use Rattle.md_math.proofs.Ring.{linear, *ℤ-one, *ℤ-zero}
use Rattle.md_space.specs.Profiles.{IsProfile, profile_count, rank_of}
use Rattle.md_space.proofs.Ranks.{rank_of-below}
use Rattle.md_setting.specs.Setting.{GeneralSetting}
use Rattle.md_setting.specs.Meaning.{agent_count, sizes_of}
use Rattle.md_setting.specs.Rows.{column_count}
use Rattle.md_mech.proofs.RowLaws.{all-by_profile, all-one}
use Rattle.md_lp.specs.declared.row_kind.RowKind.{RowKind}
use Rattle.md_lp.specs.declared.term.Term.{Term}
use Rattle.md_lp.specs.Divided.{IsDivisorFor}
use Rattle.md_lp.specs.Program.{value_of}
use Rattle.md_lp.specs.Shape.{HasPlaces, column_in}
use Rattle.md_lp.proofs.Dividing.{IsDivisorFor-positive, zero-Divides}
use Rattle.md_lp.proofs.SparseRows.{no_term, value_of-present}
use Rattle.md_forms.specs.Built.{IsWritten}
use Rattle.md_forms.specs.Forms.{Form, number_of, unit}
use Rattle.md_forms.specs.Terms.{sum_at}
use Rattle.md_rows.specs.Columns.{minus_column, payment_in, plus_column}
use Rattle.md_rows.proofs.FormLaws.{payment-off, payment-on}
use Rattle.md_question.proofs.RayFits.{parts-inside}
use Rattle.md_require.specs.declared.condition.Condition.{Condition}
use Rattle.md_require.specs.declared.condition.Measured.{Measured}
use Rattle.md_require.specs.declared.condition.Measured.TheVariants as measured
use Rattle.md_require.specs.declared.condition.Side.{Side}
use Rattle.md_require.specs.declared.condition.Side.TheVariants.{Least, Most}
use Rattle.md_require.specs.Amounts.{Amount, amounts_of, chance, chance_at, payment_at, payment_where, revenue, utility, welfare}
use Rattle.md_require.specs.Named.{amounts_at}
use Rattle.md_require.specs.Places.{IsIn}
use Rattle.md_require.specs.RequireProgram.{amount_form, at_most_by}
use Rattle.md_require.specs.Shadows.{AreDividedBy, IsDividedBy}
use Rattle.md_require.proofs.ConditionRows.{at-rank}

-- the sum at one column is its coefficient
unit-value : (v : ℤ) (c j : ℕ) → v *ℤ unit j c ≡ (if c == j then v else pos 0)
unit-value v c j = elim (cases_Bool (c == j)) [
  | inl here ↦ rw here (*ℤ-one v)
  | inr away ↦ rw away (*ℤ-zero v)
]

sum-unit : (terms : List Term) (j : ℕ) → sum_at (unit j) terms ≡ value_of terms j
sum-unit [] j = refl
sum-unit (t ∷ terms) j = omega (arith, linear, unit-value t.value t.column j, sum-unit terms j)

-- what divides all values divides the sum at any numbers
Divides-sum_at : (d : ℤ) (x : ℕ → ℤ) (terms : List Term) → All (λ (t : Term). Divides d t.value) terms → Divides d (sum_at x terms)
Divides-sum_at d x [] h = Divides-zero d
Divides-sum_at d x (t ∷ terms) h =
    Divides-+ℤ d (t.value *ℤ x t.column) (sum_at x terms) (Divides-*ℤ_right d t.value (x t.column) (All-head (λ (u : Term). Divides d u.value) t terms h))
    (Divides-sum_at d x terms (All-tail (λ (u : Term). Divides d u.value) t terms h))

abbrev numbers : List Term → ℤ → List ℤ
numbers terms right = right ∷ map (λ (t : Term). t.value) terms

term-number : (terms : List Term) (right : ℤ) (i : ℕ) → i < length terms → number_at (numbers terms right) (suc i) ≡ (get_or terms i no_term).value
term-number terms right i b = get_or-map (λ (t : Term). t.value) terms i no_term (pos 0) b

module _ (n : ℕ) (form : Form) (kind : RowKind) (terms : List Term) (right : ℤ) (places : HasPlaces n terms) (w : IsWritten form kind terms right) where
  to-form : (d : ℤ) → IsCommonDivisor (length (numbers terms right)) (number_at (numbers terms right)) d → IsCommonDivisor (suc n) (number_of form) d
  to-form d h = record { at = at }
    where
      values : All (λ (t : Term). Divides d t.value) terms
      values = All-from_get_or (λ (t : Term). Divides d t.value) terms no_term
          (λ i b. subst (Divides d) (term-number terms right i b) (h.at (suc i) (omega (arith, length-map terms (λ (t : Term). t.value)))))

      at : (k : ℕ) → k < suc n → Divides d (number_of form k)
      at zero b = subst (Divides d) w.right_is (h.at 0 (omega arith))
      at (suc j) b = subst (Divides d) (w.left_is (unit j)) (Divides-sum_at d (unit j) terms values)

  from-form : (d : ℤ) → IsCommonDivisor (suc n) (number_of form) d → IsCommonDivisor (length (numbers terms right)) (number_at (numbers terms right)) d
  from-form d h = record { at = at }
    where
      at : (k : ℕ) → k < length (numbers terms right) → Divides d (number_at (numbers terms right) k)
      at zero b = subst (Divides d) (sym w.right_is) (h.at 0 (omega arith))
      at (suc i) b =
          let inside : i < length terms = omega (arith, length-map terms (λ (t : Term). t.value)) in
          let below : column_in terms i < n = places.below i inside in
          subst (Divides d) (sym (w.left_is (unit (column_in terms i))) ∙ sum-unit terms (column_in terms i) ∙ value_of-present terms i places.order inside ∙ sym (term-number terms right i inside))
          (h.at (suc (column_in terms i)) (omega arith))

  pub gcd-form : (g : ℤ) → IsGcdOf (length (numbers terms right)) (number_at (numbers terms right)) g → IsGcdOf (suc n) (number_of form) g
  gcd-form g h = record { nonneg = h.nonneg; common = to-form g h.common; greatest = λ d c. h.greatest d (from-form d c) }

-- ---- rows with the same common divisors

-- what has the same common divisors is divided by the same number
divisor-as : (n : ℕ) (f h : ℕ → ℤ) (g : ℤ) → ((d : ℤ) → IsCommonDivisor n f d → IsCommonDivisor n h d) → ((d : ℤ) → IsCommonDivisor n h d → IsCommonDivisor n f d)
    → IsDivisorFor n f g → IsDivisorFor n h g
divisor-as n f h g to back (inl p) = inl (record { nonneg = p.0.nonneg; common = to g p.0.common; greatest = λ d c. p.0.greatest d (back d c) }, p.1)
divisor-as n f h g to back (inr p) =
    let zero_divides : IsCommonDivisor n h (pos 0) = to (pos 0) (record { at = λ k b. subst (Divides (pos 0)) (sym (p.0.zero k b)) (Divides-zero (pos 0)) }) in
    inr (record { zero = λ k b. zero-Divides (h k) (zero_divides.at k b) }, p.1)

-- what divides a number divides it on either side
to-side : (side : Side) (d z : ℤ) → Divides d z → Divides d (at_most_by side z)
to-side Least d z h = Divides-neg_ℤ d z h
to-side Most d z h = h

from-side : (side : Side) (d z : ℤ) → Divides d (at_most_by side z) → Divides d z
from-side Least d z h = (let twice : neg_ℤ (neg_ℤ z) ≡ z = omega (arith, linear) in subst (Divides d) twice (Divides-neg_ℤ d (neg_ℤ z) h))
from-side Most d z h = h

-- ---- what an agent pays at two profiles

-- the parts of a payment are apart
parts-apart : (s : GeneralSetting) (i : ℕ) (t : List ℕ) → i < agent_count s → IsProfile (sizes_of s) t → plus_column s i t < minus_column s i t
parts-apart s i t agent p =
    let profiles : rank_of (sizes_of s) t < profile_count (sizes_of s) = rank_of-below (sizes_of s) t p in
    let some : 0 < agent_count s * profile_count (sizes_of s) = some-product (agent_count s) (profile_count (sizes_of s)) (omega (arith, agent)) (omega (arith, profiles)) in
    omega (arith, some)
  where
    some-product : (a b : ℕ) → 0 < a → 0 < b → 0 < a * b
    some-product (suc a) (suc b) p q = omega arith
    some-product zero b p q = absurd (omega arith)
    some-product (suc a) zero p q = absurd (omega arith)

-- where there are payments, the numbers of the row have the denominator of the bound
unit-payment : (s : GeneralSetting) (i : ℕ) (t : List ℕ) → s.payments ≡ true → i < agent_count s → IsProfile (sizes_of s) t → payment_in s (unit (plus_column s i t)) i t ≡ pos 1
unit-payment s i t on agent p =
    let apart = parts-apart s i t agent p in
    let plus : unit (plus_column s i t) (plus_column s i t) ≡ pos 1 = rw (eq-eqb (plus_column s i t) (plus_column s i t) refl) refl in
    let minus : unit (plus_column s i t) (minus_column s i t) ≡ pos 0 = rw (ne_eqb (minus_column s i t) (plus_column s i t) (λ e. absurd (omega (arith, e, apart)))) refl in
    payment-on s (unit (plus_column s i t)) i t on ∙ ap₂ (λ a b. a -ℤ b) plus minus

module _ (s : GeneralSetting) (c : Condition) (i : ℕ) (t u : List ℕ) (agent : i < agent_count s) (p : IsProfile (sizes_of s) t) where
  abbrev numbers_at : List ℕ → ℕ → ℤ
  numbers_at v = number_of (amount_form s c (payment_at i v))

  pay-common : (d : ℤ) → IsCommonDivisor (suc (column_count s)) (numbers_at t) d → IsCommonDivisor (suc (column_count s)) (numbers_at u) d
  pay-common d h = record {
    at = λ k b. elim (cases_Bool s.payments) [
      | inl on ↦ here-on on k b
      | inr off ↦ here-off off k b
    ];
  }
    where
      here-on : s.payments ≡ true → (k : ℕ) → k < suc (column_count s) → Divides d (numbers_at u k)
      here-on on zero b = h.at 0 (omega arith)
      here-on on (suc j) b =
          let inside = (parts-inside s i t on agent p).0 in
          let one : Divides d (at_most_by c.side (c.den *ℤ pos 1)) = subst (λ z. Divides d (at_most_by c.side (c.den *ℤ z))) (unit-payment s i t on agent p) (h.at (suc (plus_column s i t)) (omega (arith, inside))) in
          let den : Divides d c.den = subst (Divides d) (*ℤ-one c.den) (from-side c.side d (c.den *ℤ pos 1) one) in
          to-side c.side d (c.den *ℤ payment_in s (unit j) i u) (Divides-*ℤ_right d c.den (payment_in s (unit j) i u) den)

      here-off : s.payments ≡ false → (k : ℕ) → k < suc (column_count s) → Divides d (numbers_at u k)
      here-off off zero b = h.at 0 (omega arith)
      here-off off (suc j) b = subst (λ z. Divides d (at_most_by c.side (c.den *ℤ z))) (payment-off s (unit j) i t off ∙ sym (payment-off s (unit j) i u off)) (h.at (suc j) b)

-- ---- one condition

-- the row of the other amount is divided by what that of the first one is divided by
abbrev IsAlike : GeneralSetting → Condition → Amount → Amount → Type 0
IsAlike s c a b = (by : ℤ) → IsDividedBy s c by a → IsDividedBy s c by b

pays-alike : (s : GeneralSetting) (c : Condition) (i : ℕ) (t u : List ℕ) → i < agent_count s → IsProfile (sizes_of s) t → IsProfile (sizes_of s) u → IsAlike s c (payment_at i t) (payment_at i u)
pays-alike s c i t u agent p q = λ by h.
    divisor-as (suc (column_count s)) (number_of (amount_form s c (payment_at i t))) (number_of (amount_form s c (payment_at i u))) by (pay-common s c i t u agent p) (pay-common s c i u t agent q) h

-- what is so of each payment is so of those at a type
all-where : (P : Amount → Type 0) (i a : ℕ) (t : List ℕ) → P (payment_at i t) → All P (payment_where i a t)
all-where P i a t h = elim (cases_Bool (slice_index t i == a)) [
  | inl here ↦ rw here (all-one P (payment_at i t) h)
  | inr away ↦ rw away (All-nil P)
]

one-alike : (s : GeneralSetting) (c : Condition) (a : Amount) → All (λ b. All (IsAlike s c b) (a ∷ [])) (a ∷ [])
one-alike s c a = all-one (λ b. All (IsAlike s c b) (a ∷ [])) a (all-one (IsAlike s c a) a (λ by h. h))

all-alike : (s : GeneralSetting) (c : Condition) (m : Measured) → IsIn s m → All (λ a. All (IsAlike s c a) (amounts_of s m)) (amounts_of s m)
all-alike s c measured.Revenue h = one-alike s c revenue
all-alike s c measured.Welfare h = one-alike s c welfare
all-alike s c (measured.Utility agent) h = one-alike s c (utility agent)
all-alike s c (measured.Chance outcome) h = one-alike s c (chance outcome)
all-alike s c (measured.ChanceAt rank outcome) h = one-alike s c (chance_at _ outcome)
all-alike s c (measured.Payment agent) h =
    let all = amounts_of s (measured.Payment agent) in
    all-by_profile s (λ a. All (IsAlike s c a) all) (λ t. payment_at agent t ∷ [])
    (λ t p. all-one (λ a. All (IsAlike s c a) all) (payment_at agent t)
    (all-by_profile s (IsAlike s c (payment_at agent t)) (λ u. payment_at agent u ∷ []) (λ u q. all-one (IsAlike s c (payment_at agent t)) (payment_at agent u) (pays-alike s c agent t u h p q))))
all-alike s c (measured.PaymentAs agent kind) h =
    let all = amounts_of s (measured.PaymentAs agent kind) in
    all-by_profile s (λ a. All (IsAlike s c a) all) (payment_where agent kind)
    (λ t p. all-where (λ a. All (IsAlike s c a) all) agent kind t
    (all-by_profile s (IsAlike s c (payment_at agent t)) (payment_where agent kind) (λ u q. all-where (IsAlike s c (payment_at agent t)) agent kind u (pays-alike s c agent t u h.0 p q))))

-- what divides the row at one rank divides each row
pub divided-all : (s : GeneralSetting) (c : Condition) (by : ℤ) (r : ℕ) (amount : Amount) → IsIn s c.measured → r < profile_count (sizes_of s) → amount ∷ [] ≡ amounts_at s c.measured r
    → IsDividedBy s c by amount → AreDividedBy s c by
divided-all s c by r amount place below here h =
    let alike = at-rank s (λ a. All (IsAlike s c a) (amounts_of s c.measured)) c.measured r amount below here (all-alike s c c.measured place) in
    record {
      positive = IsDivisorFor-positive (suc (column_count s)) (number_of (amount_form s c amount)) by h;
      each = λ k d l. alike k d l by h;
    }

-- a condition with no row
pub divided-none : (s : GeneralSetting) (c : Condition) → amounts_of s c.measured ≡ [] → AreDividedBy s c (pos 1)
divided-none s c none = record { positive = omega (arith, linear); each = subst (All (IsDividedBy s c (pos 1))) (sym none) (All-nil (IsDividedBy s c (pos 1))) }
