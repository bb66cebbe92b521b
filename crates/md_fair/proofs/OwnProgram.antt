-- The setting's own program, whose rows are the first ones of its fair program.
use Rattle.std.proofs.Common.{◌≡◌, ℕ, zero, suc, ◌+◌, ◌<◌, ℤ, pos, ◌+ℤ◌, ◌*ℤ◌, ◌<ℤ◌, neg_ℤ, int_div, List, [], ◌∷◌, ◌++◌, length, get_or, All, refl, sym, ap, ◌∙◌, subst, arith, inl, inr}
use Rattle.std.specs.Prelude.{slice_index, ◌==◌}
use Rattle.std.proofs.lemmas.Bool.{cases_Bool, cases_lt, ne_eqb}
use Rattle.std.proofs.lemmas.List.Elements.{All-head, All-tail, All-map}
use Rattle.md_math.specs.Divisors.{Divides, IsCommonDivisor}
use Rattle.md_math.specs.Lists.{number_at, list_to}
use Rattle.md_math.specs.Sums.{sum_to}
use Rattle.md_math.proofs.Builders.{length-list_to, get_or-list_to}
use Rattle.md_math.proofs.Division.{Divides-zero, Divides-int_div}
use Rattle.md_math.proofs.Gcds.{family_gcd}
use Rattle.md_math.proofs.Order.{zero_from_*ℤ, lt_or_le, ≤ℤ_antisymm}
use Rattle.md_math.proofs.Ring.{linear, *ℤ-zero, zero-*ℤ}
use Rattle.md_math.proofs.SumLaws.{sum_to-zero, sum_to-more}
use Rattle.md_math.proofs.TotalLaws.{total_by-zero}
use Rattle.md_space.specs.Profiles.{IsProfile, profile_count, rank_of, replaced}
use Rattle.md_space.specs.AllProfiles.{profiles_of}
use Rattle.md_space.specs.ByType.{where_type}
use Rattle.md_space.proofs.InOrder.{All-profiles_of}
use Rattle.md_space.proofs.Ranks.{rank_of-below, replaced-IsProfile}
use Rattle.md_setting.specs.Setting.{GeneralSetting}
use Rattle.md_setting.specs.Meaning.{agent_count, outcome_count, sizes_of, utility_of, weight_of}
use Rattle.md_setting.specs.Rows.{column_count}
use Rattle.md_mech.specs.Rows.{Condition, dominant_row, bayes_row, ex_post_row, interim_row, deficit_row, profile_row, conditions_of}
use Rattle.md_mech.specs.Utility.{weighted_given}
use Rattle.md_lp.specs.Program.{Program, Row, left_of, value_of}
use Rattle.md_lp.specs.Divided.{IsDivisorFor, IsDividedList, HasDividedCost}
use Rattle.md_lp.proofs.Building.{HasDividedCost-new}
use Rattle.md_lp.proofs.Dividing.{IsDivisorFor-positive, IsDivisorFor-divides, IsDivisorFor-zero}
use Rattle.md_forms.specs.Forms.{Form, unit, number_of}
use Rattle.md_forms.specs.ProgramOf.{IsRowOf, AreRowsOf}
use Rattle.md_forms.proofs.OneProgram.{unit-dot}
use Rattle.md_rows.specs.Columns.{chance_column, plus_column, minus_column, first_plus, payment_in}
use Rattle.md_rows.specs.Costs.{written_cost}
use Rattle.md_rows.specs.ProgramOf.{form_of, forms_of, IsProgramOf}
use Rattle.md_rows.specs.Sides.{utility_in, gain_in, lack_in, left_side}
use Rattle.md_rows.proofs.CostLaws.{cost-length, has-cost}
use Rattle.md_rows.proofs.FormLaws.{payment-on, payment-off}
use Rattle.md_rows.proofs.Law.{IsPlaced, conditions-placed}
use Rattle.md_rows.proofs.PointLaws.{place-below}
use Rattle.md_question.proofs.RayFits.{parts-inside}
use Rattle.md_fair.specs.FairProgram.{agent_forms, IsFairProgram}

-- ---- conditions at numbers that are 0 in the setting's columns

pub chance-inside : (s : GeneralSetting) (t : List ℕ) (o : ℕ) → IsProfile (sizes_of s) t → o < outcome_count s → chance_column s t o < column_count s
chance-inside s t o p l =
    let inside : chance_column s t o < first_plus s = place-below (rank_of (sizes_of s) t) (profile_count (sizes_of s)) (outcome_count s) o (rank_of-below (sizes_of s) t p) l in
    omega (arith, inside)

module _ (s : GeneralSetting) (x : ℕ → ℤ) (none : (j : ℕ) → j < column_count s → x j ≡ pos 0) where
  no-payment : (i : ℕ) (t : List ℕ) → i < agent_count s → IsProfile (sizes_of s) t → payment_in s x i t ≡ pos 0
  no-payment i t l p = elim (cases_Bool s.payments) [
    | inl on ↦
        let inside = parts-inside s i t on l p in
        payment-on s x i t on ∙ rw (none (plus_column s i t) inside.0, none (minus_column s i t) inside.1) refl
    | inr off ↦ payment-off s x i t off
  ]

  no-chances : (f : ℕ → ℤ) (t : List ℕ) → IsProfile (sizes_of s) t → sum_to (outcome_count s) (λ o. f o *ℤ x (chance_column s t o)) ≡ pos 0
  no-chances f t p = sum_to-zero (outcome_count s) (λ o. f o *ℤ x (chance_column s t o)) (λ o l. ap (λ z. f o *ℤ z) (none (chance_column s t o) (chance-inside s t o p l)) ∙ *ℤ-zero (f o))

  no-utility : (i : ℕ) (t r : List ℕ) → i < agent_count s → IsProfile (sizes_of s) r → utility_in s x i t r ≡ pos 0
  no-utility i t r l p = rw (no-chances (utility_of s i t) r p, no-payment i r l p) refl

  no-gain : (i b : ℕ) (t : List ℕ) → i < agent_count s → b < slice_index (sizes_of s) i → IsProfile (sizes_of s) t → gain_in s x i b t ≡ pos 0
  no-gain i b t l m p = rw (no-utility i t (replaced t i b) l (replaced-IsProfile (sizes_of s) t i b p m), no-utility i t t l p) refl

  no-lack : (i : ℕ) (t : List ℕ) → i < agent_count s → IsProfile (sizes_of s) t → lack_in s x i t ≡ pos 0
  no-lack i t l p = ap neg_ℤ (no-utility i t t l p)

  none-given : (i a : ℕ) (f : List ℕ → ℤ) → ((t : List ℕ) → IsProfile (sizes_of s) t → f t ≡ pos 0) → weighted_given s i a f ≡ pos 0
  none-given i a f zero_there =
      total_by-zero (where_type i a (λ t. weight_of s t *ℤ f t)) (profiles_of (sizes_of s)) (λ k d l. at (get_or (profiles_of (sizes_of s)) k d) (All-profiles_of (sizes_of s) k d l))
    where
      at : (t : List ℕ) → IsProfile (sizes_of s) t → where_type i a (λ u. weight_of s u *ℤ f u) t ≡ pos 0
      at t p = elim (cases_Bool (slice_index t i == a)) [
        | inl here ↦ rw here (ap (λ z. weight_of s t *ℤ z) (zero_there t p) ∙ *ℤ-zero (weight_of s t))
        | inr away ↦ rw away refl
      ]

  no-side : (c : Condition) → IsPlaced s c → left_side s c x ≡ pos 0
  no-side (dominant_row i t b) h = no-gain i b t h.0 h.2 h.1
  no-side (bayes_row i a b) h = none-given i a (gain_in s x i b) (λ t p. no-gain i b t h.0 h.2 p)
  no-side (ex_post_row i t) h = no-lack i t h.0 h.1
  no-side (interim_row i a) h = none-given i a (lack_in s x i) (λ t p. no-lack i t h.0 p)
  no-side (deficit_row t) h = ap neg_ℤ (sum_to-zero (agent_count s) (λ i. payment_in s x i t) (λ i l. no-payment i t l h))
  no-side (profile_row t) h = sum_to-zero (outcome_count s) (λ o. x (chance_column s t o)) (λ o l. none (chance_column s t o) (chance-inside s t o h l))

-- ---- rows over two columns less

-- the form sees neither of the columns n and n + 1
record SeesBelow (n : ℕ) (form : Form) : Type 0 where
  first : form.left (unit n) ≡ pos 0
  second : form.left (unit (n + 1)) ≡ pos 0

module _ (n : ℕ) (form : Form) (row : Row) (sees : SeesBelow n form) (r : IsRowOf (n + 2) form row) where
  above : pos 0 <ℤ r.by
  above = IsDivisorFor-positive (suc (n + 2)) (number_of form) r.by r.divisor

  no-value : (j : ℕ) → j < n + 2 → form.left (unit j) ≡ pos 0 → value_of row.terms j ≡ pos 0
  no-value j l zero_there =
      sym (unit-dot (n + 2) j (value_of row.terms) l)
      ∙ zero_from_*ℤ r.by (left_of (n + 2) row (unit j)) above (sym (r.left (unit j)) ∙ zero_there)

  same-left : (x : ℕ → ℤ) → left_of (n + 2) row x ≡ left_of n row x
  same-left x =
      let two : n + 2 ≡ (n + 1) + 1 = omega arith in
      let f = λ (j : ℕ). value_of row.terms j *ℤ x j in
      let first : f n ≡ pos 0 = ap (λ z. z *ℤ x n) (no-value n (omega arith) sees.first) ∙ zero-*ℤ (x n) in
      let second : f (n + 1) ≡ pos 0 = ap (λ z. z *ℤ x (n + 1)) (no-value (n + 1) (omega arith) sees.second) ∙ zero-*ℤ (x (n + 1)) in
      ap (λ k. sum_to k f) two ∙ sum_to-more (n + 1) f ∙ ap (λ z. z +ℤ f (n + 1)) (sum_to-more n f) ∙ rw (first, second) (omega (arith, linear))

  number-zero : (k : ℕ) → n < suc k → k < n + 2 → number_of form (suc k) ≡ pos 0
  number-zero k h l = elim (cases_lt k (n + 1)) [
    | inl low ↦ (let e : k ≡ n = omega (arith, h, low) in ap (λ j. form.left (unit j)) e ∙ sees.first)
    | inr high ↦ (let e : k ≡ n + 1 = omega (arith, l, high) in ap (λ j. form.left (unit j)) e ∙ sees.second)
  ]

  wider : (d : ℤ) → IsCommonDivisor (suc n) (number_of form) d → IsCommonDivisor (suc (n + 2)) (number_of form) d
  wider d c = record { at = at }
    where
      at : (k : ℕ) → k < suc (n + 2) → Divides d (number_of form k)
      at zero b = c.at zero (omega arith)
      at (suc k) b = elim (cases_lt k n) [
        | inl low ↦ c.at (suc k) (omega (arith, low))
        | inr high ↦ subst (Divides d) (sym (number-zero k (omega (arith, high)) (omega (arith, b)))) (Divides-zero d)
      ]

  fewer : IsDivisorFor (suc (n + 2)) (number_of form) r.by → IsDivisorFor (suc n) (number_of form) r.by
  fewer (inl g) = inl (
    record {
      nonneg = g.0.nonneg;
      common = record { at = λ k b. g.0.common.at k (omega (arith, b)) };
      greatest = λ d c. g.0.greatest d (wider d c);
    },
    g.1,
  )
  fewer (inr z) = inr (record { zero = λ k b. z.0.zero k (omega (arith, b)) }, z.1)

  narrower : IsRowOf n form row
  narrower = record {
    by = r.by;
    divisor = fewer r.divisor;
    kind = r.kind;
    right = r.right;
    left = λ x. r.left x ∙ ap (λ z. r.by *ℤ z) (same-left x);
  }

-- the first rows, one by one
own-rows : (n : ℕ) (fs gs : List Form) (rows : List Row) → All (SeesBelow n) fs → AreRowsOf (n + 2) (fs ++ gs) rows → (own : List Row) × AreRowsOf n fs own
own-rows n [] gs rows sees are = ([], tt)
own-rows n (f ∷ fs) gs [] sees are = absurd are
own-rows n (f ∷ fs) gs (row ∷ rows) sees are =
    let (own, h) = own-rows n fs gs rows (All-tail (SeesBelow n) f fs sees) are.1 in
    (row ∷ own, (narrower n f row (All-head (SeesBelow n) f fs sees) are.0, h))

unit-other : (j k : ℕ) → k < j → unit j k ≡ pos 0
unit-other j k h = rw (ne_eqb k j (λ e. absurd (omega (arith, h, e)))) refl

sees-conditions : (s : GeneralSetting) → All (SeesBelow (column_count s)) (forms_of s (conditions_of s))
sees-conditions s =
    All-map (SeesBelow (column_count s)) (form_of s) (conditions_of s) (λ k d l. at (get_or (conditions_of s) k d) (conditions-placed s k d l))
  where
    at : (c : Condition) → IsPlaced s c → SeesBelow (column_count s) (form_of s c)
    at c h = record {
      first = no-side s (unit (column_count s)) (λ j l. unit-other (column_count s) j l) c h;
      second = no-side s (unit (column_count s + 1)) (λ j l. unit-other (column_count s + 1) j (omega (arith, l))) c h;
    }

-- ---- the cost

record HasDivisor (n : ℕ) (f : ℕ → ℤ) : Type 0 where
  by : ℤ
  is : IsDivisorFor n f by

has-divisor : (n : ℕ) (f : ℕ → ℤ) → HasDivisor n f
has-divisor n f =
    let (g, h) = family_gcd n f in
    elim (lt_or_le (pos 0) g) [
      | inl up ↦ record { by = g; is = inl (h.is_gcd, up) }
      | inr low ↦ record { by = pos 1; is = IsDivisorFor-zero n f g h.is_gcd (≤ℤ_antisymm g (pos 0) low h.is_gcd.nonneg) }
    ]

own-cost : (s : GeneralSetting) → (p : Program) × HasDividedCost (column_count s) (written_cost s) p
own-cost s =
    let raw = written_cost s in
    let divisor = has-divisor (length raw) (number_at raw) in
    let cost = list_to (length raw) (λ k. int_div (number_at raw k) divisor.by) in
    let divided : IsDividedList divisor.by raw cost = record {
      length_is = length-list_to (length raw) (λ k. int_div (number_at raw k) divisor.by);
      numbers = λ k l.
          sym (Divides-int_div divisor.by (number_at raw k) (IsDivisorFor-divides (length raw) (number_at raw) divisor.by divisor.is k l))
          ∙ ap (λ z. divisor.by *ℤ z) (sym (get_or-list_to (length raw) (λ j. int_div (number_at raw j) divisor.by) k (pos 0) l));
    } in
    (record { columns = column_count s; cost = cost; factor = divisor.by; rows = [] }, HasDividedCost-new (column_count s) raw cost divisor.by (cost-length s) divisor.is divided)

-- ---- the program

pub own-program : (s : GeneralSetting) (p : Program) → IsFairProgram s p → (q : Program) × IsProgramOf s q
own-program s p is =
    let (rows, are) = own-rows (column_count s) (forms_of s (conditions_of s)) (agent_forms s) p.rows (sees-conditions s) is.rows in
    let (q, costs) = own-cost s in
    let has = has-cost s q costs in (
      record q { rows = rows },
      record {
        columns = costs.columns_are;
        has_cost = record { factor = has.factor; cost_is = has.cost_is };
        rows = are;
      },
    )
