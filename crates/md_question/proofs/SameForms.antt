-- What the rows of a setting's program say depends on the chances and the payments alone, however each payment is split.
use Rattle.std.proofs.Common.{◌≡◌, ℕ, zero, suc, ◌<◌, ℤ, pos, ◌+ℤ◌, ◌-ℤ◌, ◌*ℤ◌, neg_ℤ, List, [], ◌∷◌, length, get_or, All, sym, ap, ap₂, ◌∙◌, subst, arith}
use Rattle.std.specs.Prelude.{slice_index, ◌==◌, if◌then◌else◌}
use Rattle.md_math.proofs.Builders.{All-left, All-right}
use Rattle.md_math.proofs.Order.{*ℤ_cancel}
use Rattle.md_math.proofs.SumLaws.{sum_to-same}
use Rattle.md_math.proofs.TotalLaws.{total_by-same}
use Rattle.md_space.specs.Profiles.{IsProfile, replaced}
use Rattle.md_space.specs.AllProfiles.{profiles_of}
use Rattle.md_space.specs.ByType.{where_type}
use Rattle.md_space.proofs.InOrder.{All-profiles_of}
use Rattle.md_space.proofs.Ranks.{replaced-IsProfile}
use Rattle.md_setting.specs.Setting.{GeneralSetting}
use Rattle.md_setting.specs.Meaning.{agent_count, outcome_count, sizes_of, utility_of, weight_of, value_of}
use Rattle.md_setting.specs.Rows.{column_count}
use Rattle.md_mech.specs.Utility.{weighted_given}
use Rattle.md_mech.specs.Rows.{Condition, dominant_row, bayes_row, ex_post_row, interim_row, deficit_row, profile_row, conditions_of}
use Rattle.md_mech.proofs.RowLaws.{one-all}
use Rattle.md_lp.specs.declared.row_kind.RowKind.TheVariants.{AtMost}
use Rattle.md_lp.specs.Program.{Program, Row, row_count, row_at, left_of}
use Rattle.md_lp.specs.Point.{row_sum}
use Rattle.md_lp.proofs.Dividing.{IsDivisorFor-positive}
use Rattle.md_rows.specs.Columns.{chance_column, payment_in}
use Rattle.md_rows.specs.Sides.{utility_in, gain_in, lack_in, left_side, objective_in, cost_in}
use Rattle.md_forms.specs.Forms.{number_of}
use Rattle.md_forms.specs.ProgramOf.{IsRowOf, AreRowsOf}
use Rattle.md_rows.specs.ProgramOf.{form_of, forms_of, IsProgramOf}
use Rattle.md_rows.proofs.Law.{IsPlaced, conditions-placed}

-- the same chances, and the same payments
pub record IsSameForm (s : GeneralSetting) (x y : ℕ → ℤ) : Type 0 where
  pub chance : (t : List ℕ) (o : ℕ) → IsProfile (sizes_of s) t → o < outcome_count s → x (chance_column s t o) ≡ y (chance_column s t o)
  pub pay : (i : ℕ) (t : List ℕ) → i < agent_count s → IsProfile (sizes_of s) t → payment_in s x i t ≡ payment_in s y i t

-- ---- left sides

pub utility-same : (s : GeneralSetting) (x y : ℕ → ℤ) (i : ℕ) (t r : List ℕ) → IsSameForm s x y → i < agent_count s → IsProfile (sizes_of s) r → utility_in s x i t r ≡ utility_in s y i t r
utility-same s x y i t r same agent p =
    ap₂ (λ u v. u -ℤ v)
    (sum_to-same (outcome_count s) (λ o. utility_of s i t o *ℤ x (chance_column s r o)) (λ o. utility_of s i t o *ℤ y (chance_column s r o)) (λ o l. ap (λ z. utility_of s i t o *ℤ z) (same.chance r o p l)))
    (same.pay i r agent p)

gain-same : (s : GeneralSetting) (x y : ℕ → ℤ) (i b : ℕ) (t : List ℕ) → IsSameForm s x y → i < agent_count s → b < slice_index (sizes_of s) i → IsProfile (sizes_of s) t → gain_in s x i b t ≡ gain_in s y i b t
gain-same s x y i b t same agent below p =
    ap₂ (λ u v. u -ℤ v) (utility-same s x y i t (replaced t i b) same agent (replaced-IsProfile (sizes_of s) t i b p below)) (utility-same s x y i t t same agent p)

lack-same : (s : GeneralSetting) (x y : ℕ → ℤ) (i : ℕ) (t : List ℕ) → IsSameForm s x y → i < agent_count s → IsProfile (sizes_of s) t → lack_in s x i t ≡ lack_in s y i t
lack-same s x y i t same agent p = ap neg_ℤ (utility-same s x y i t t same agent p)

given-same : (s : GeneralSetting) (i a : ℕ) (f g : List ℕ → ℤ) → ((t : List ℕ) → IsProfile (sizes_of s) t → f t ≡ g t) → weighted_given s i a f ≡ weighted_given s i a g
given-same s i a f g same =
    total_by-same (where_type i a (λ t. weight_of s t *ℤ f t)) (where_type i a (λ t. weight_of s t *ℤ g t)) (profiles_of (sizes_of s))
    (λ k d l. ap (λ z. if slice_index (get_or (profiles_of (sizes_of s)) k d) i == a then weight_of s (get_or (profiles_of (sizes_of s)) k d) *ℤ z else pos 0)
    (same (get_or (profiles_of (sizes_of s)) k d) (All-profiles_of (sizes_of s) k d l)))

pub side-same : (s : GeneralSetting) (x y : ℕ → ℤ) (c : Condition) → IsSameForm s x y → IsPlaced s c → left_side s c x ≡ left_side s c y
side-same s x y (dominant_row i t b) same h = gain-same s x y i b t same h.0 h.2 h.1
side-same s x y (bayes_row i a b) same h = given-same s i a (gain_in s x i b) (gain_in s y i b) (λ t p. gain-same s x y i b t same h.0 h.2 p)
side-same s x y (ex_post_row i t) same h = lack-same s x y i t same h.0 h.1
side-same s x y (interim_row i a) same h = given-same s i a (lack_in s x i) (lack_in s y i) (λ t p. lack-same s x y i t same h.0 p)
side-same s x y (deficit_row t) same h = ap neg_ℤ (sum_to-same (agent_count s) (λ i. payment_in s x i t) (λ i. payment_in s y i t) (λ i l. same.pay i t l h))
side-same s x y (profile_row t) same h = sum_to-same (outcome_count s) (λ o. x (chance_column s t o)) (λ o. y (chance_column s t o)) (λ o l. same.chance t o h l)

-- ---- rows

left-same : (s : GeneralSetting) (x y : ℕ → ℤ) (c : Condition) (row : Row) → IsSameForm s x y → IsPlaced s c → IsRowOf (column_count s) (form_of s c) row → left_of (column_count s) row x ≡ left_of (column_count s) row y
left-same s x y c row same placed h =
    *ℤ_cancel h.by (left_of (column_count s) row x) (left_of (column_count s) row y) (IsDivisorFor-positive (suc (column_count s)) (number_of (form_of s c)) h.by h.divisor)
    (sym (h.left x) ∙ side-same s x y c same placed ∙ h.left y)

lefts-same : (s : GeneralSetting) (x y : ℕ → ℤ) (cs : List Condition) (ps : List Row) → IsSameForm s x y → All (IsPlaced s) cs → AreRowsOf (column_count s) (forms_of s cs) ps
    → (r : ℕ) (d : Row) → r < length ps → left_of (column_count s) (get_or ps r d) x ≡ left_of (column_count s) (get_or ps r d) y
lefts-same s x y [] [] same placed are r d b = absurd (omega arith)
lefts-same s x y [] (row ∷ ps) same placed are r d b = absurd are
lefts-same s x y (c ∷ cs) [] same placed are r d b = absurd are
lefts-same s x y (c ∷ cs) (row ∷ ps) same placed are zero d b = left-same s x y c row same (one-all (IsPlaced s) c (All-left (IsPlaced s) (c ∷ []) cs placed)) are.0
lefts-same s x y (c ∷ cs) (row ∷ ps) same placed are (suc r) d b = lefts-same s x y cs ps same (All-right (IsPlaced s) (c ∷ []) cs placed) are.1 r d (omega arith)

pub sums-same : (s : GeneralSetting) (p : Program) (x y : ℕ → ℤ) → IsProgramOf s p → IsSameForm s x y → (r : ℕ) → r < row_count p → row_sum p x r ≡ row_sum p y r
sums-same s p x y is same r b =
    subst (λ n. left_of n (row_at p r) x ≡ left_of n (row_at p r) y) (sym is.columns)
    (lefts-same s x y (conditions_of s) p.rows same (conditions-placed s) is.rows r (record { kind = AtMost; terms = []; right = pos 0 }) b)

-- ---- costs

pub cost-same : (s : GeneralSetting) (x y : ℕ → ℤ) → IsSameForm s x y → cost_in s x ≡ cost_in s y
cost-same s x y same =
    total_by-same (λ t. weight_of s t *ℤ objective_in s x t) (λ t. weight_of s t *ℤ objective_in s y t) (profiles_of (sizes_of s))
    (λ k d l. ap (λ z. weight_of s (get_or (profiles_of (sizes_of s)) k d) *ℤ z) (at (get_or (profiles_of (sizes_of s)) k d) (All-profiles_of (sizes_of s) k d l)))
  where
    at : (t : List ℕ) → IsProfile (sizes_of s) t → objective_in s x t ≡ objective_in s y t
    at t p =
        ap₂ (λ u v. u +ℤ (s.revenue *ℤ v))
        (sum_to-same (outcome_count s) (λ o. value_of s t o *ℤ x (chance_column s t o)) (λ o. value_of s t o *ℤ y (chance_column s t o)) (λ o l. ap (λ z. value_of s t o *ℤ z) (same.chance t o p l)))
        (sum_to-same (agent_count s) (λ i. payment_in s x i t) (λ i. payment_in s y i t) (λ i l. same.pay i t l p))
