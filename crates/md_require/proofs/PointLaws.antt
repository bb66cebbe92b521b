-- The points of the program with conditions are the admissible mechanisms that meet them.
use Rattle.std.proofs.Common.{◌≡◌, ◌↔◌, ℕ, ℤ, ◌*ℤ◌, ◌≤ℤ◌, neg_ℤ, List, [], ◌∷◌, get_or, All, ap, ◌∙◌, subst, arith}
use Rattle.std.specs.Prelude.{flat_map}
use Rattle.std.proofs.lemmas.Int.{ints}
use Rattle.std.proofs.lemmas.List.{get_or-map, length-map}
use Rattle.std.proofs.lemmas.List.Elements.{All-append, All-cons, All-head, All-map, All-nil, All-tail}
use Rattle.md_math.specs.Lists.{number_at}
use Rattle.md_math.proofs.Builders.{All-left, All-right}
use Rattle.md_math.proofs.Ring.{*ℤ_left_comm, *ℤ-neg_ℤ}
use Rattle.md_setting.specs.Setting.{GeneralSetting}
use Rattle.md_setting.specs.Rows.{column_count}
use Rattle.md_mech.specs.declared.mechanism.Mechanism.{Mechanism}
use Rattle.md_mech.specs.Rows.{conditions_of}
use Rattle.md_lp.specs.Program.{Program}
use Rattle.md_lp.specs.Point.{Meets}
use Rattle.md_forms.specs.Forms.{Form, Holds}
use Rattle.md_forms.proofs.PointLaws as forms
use Rattle.md_rows.specs.Points.{mechanism_of, point_of}
use Rattle.md_rows.specs.ProgramOf.{forms_of}
use Rattle.md_rows.specs.Sides.{cost_in}
use Rattle.md_rows.proofs.Law.{admits-mechanisms, admits-points}
use Rattle.md_rows.proofs.PointLaws.{Agrees, agrees-mechanism_of, agrees-point_of}
use Rattle.md_require.specs.declared.condition.Condition.{Condition}
use Rattle.md_require.specs.declared.condition.Side.{Side}
use Rattle.md_require.specs.declared.condition.Side.TheVariants.{Least, Most}
use Rattle.md_require.specs.Amounts.{Amount, amounts_of, whole_of}
use Rattle.md_require.specs.Conditions.{IsMet, MeetsAll, Stays, lower_by, upper_by}
use Rattle.md_require.specs.Places.{AreIn, IsIn}
use Rattle.md_require.specs.Required.{IsRequired}
use Rattle.md_require.specs.RequireProgram.{amount_form, amount_in, at_most_by, condition_forms, require_forms, IsRequireProgram}
use Rattle.md_require.proofs.AmountLaws.{IsPlaced, amount-agrees, amounts-placed}
use Rattle.md_require.proofs.OwnProgram.{is-own, meets-own, own_program}

-- ---- one amount

-- a side that is to be at most the other one, or at least
stays : (side : Side) (told den num whole : ℤ) → (at_most_by side told ≤ℤ (den *ℤ at_most_by side (num *ℤ whole))) ↔ (lower_by side told (num *ℤ (den *ℤ whole)) ≤ℤ upper_by side told (num *ℤ (den *ℤ whole)))
stays Least told den num whole =
    let same : den *ℤ neg_ℤ (num *ℤ whole) ≡ neg_ℤ (num *ℤ (den *ℤ whole)) = *ℤ-neg_ℤ den (num *ℤ whole) ∙ ap neg_ℤ (*ℤ_left_comm den num whole) in
    (λ h. omega (arith, ints, h, same), λ h. omega (arith, ints, h, same))
stays Most told den num whole =
    let same : den *ℤ (num *ℤ whole) ≡ num *ℤ (den *ℤ whole) = *ℤ_left_comm den num whole in
    (λ h. omega (arith, ints, h, same), λ h. omega (arith, ints, h, same))

module _ (s : GeneralSetting) (x : ℕ → ℤ) (m : Mechanism) (a : Agrees s x m) where
  form-stays : (c : Condition) (amount : Amount) → IsPlaced s amount → Holds m.den x (amount_form s c amount) ↔ Stays s m c amount
  form-stays c amount placed =
      subst (λ z. Holds m.den x (amount_form s c amount) ↔ (lower_by c.side (c.den *ℤ z) (c.num *ℤ (m.den *ℤ whole_of s amount)) ≤ℤ upper_by c.side (c.den *ℤ z) (c.num *ℤ (m.den *ℤ whole_of s amount))))
      (amount-agrees s x m a amount placed)
      (stays c.side (c.den *ℤ amount_in s x amount) m.den c.num (whole_of s amount))

  -- ---- the amounts of a condition, and all conditions

  held-met : (c : Condition) → IsIn s c.measured → All (Holds m.den x) (condition_forms s c) → IsMet s m c
  held-met c placed held = λ k d l.
      (form-stays c (get_or (amounts_of s c.measured) k d) (amounts-placed s c.measured placed k d l)).0
      (subst (Holds m.den x) (get_or-map (amount_form s c) (amounts_of s c.measured) k d (amount_form s c d) l) (held k (amount_form s c d) (omega (arith, l, length-map (amounts_of s c.measured) (amount_form s c)))))

  met-held : (c : Condition) → IsIn s c.measured → IsMet s m c → All (Holds m.den x) (condition_forms s c)
  met-held c placed met =
      All-map (Holds m.den x) (amount_form s c) (amounts_of s c.measured)
      (λ k d l. (form-stays c (get_or (amounts_of s c.measured) k d) (amounts-placed s c.measured placed k d l)).1 (met k d l))

  all-met : (cs : List Condition) → AreIn s cs → All (Holds m.den x) (flat_map (condition_forms s) cs) → MeetsAll s cs m
  all-met [] placed held = All-nil (IsMet s m)
  all-met (c ∷ cs) placed held =
      All-cons (IsMet s m) c cs
      (held-met c (All-head (λ k. IsIn s k.measured) c cs placed) (All-left (Holds m.den x) (condition_forms s c) (flat_map (condition_forms s) cs) held))
      (all-met cs (All-tail (λ k. IsIn s k.measured) c cs placed) (All-right (Holds m.den x) (condition_forms s c) (flat_map (condition_forms s) cs) held))

  pub all-held : (cs : List Condition) → AreIn s cs → MeetsAll s cs m → All (Holds m.den x) (flat_map (condition_forms s) cs)
  all-held [] placed met = All-nil (Holds m.den x)
  all-held (c ∷ cs) placed met =
      All-append (Holds m.den x) (condition_forms s c) (flat_map (condition_forms s) cs)
      (met-held c (All-head (λ k. IsIn s k.measured) c cs placed) (All-head (IsMet s m) c cs met))
      (all-held cs (All-tail (λ k. IsIn s k.measured) c cs placed) (All-tail (IsMet s m) c cs met))

-- ---- the law

module _ (s : GeneralSetting) (conditions : List Condition) (placed : AreIn s conditions) (p : Program) (is : IsRequireProgram s conditions p) where
  own_forms : List Form
  own_forms = forms_of s (conditions_of s)

  added_forms : List Form
  added_forms = flat_map (condition_forms s) conditions

  -- the mechanism of each point that meets the program is admissible, and meets the conditions
  pub admits-required : (den : ℤ) (x : ℕ → ℤ) → Meets p den x → IsRequired s conditions (mechanism_of s den x)
  unfolding own_forms added_forms
  admits-required den x meets =
      let own = meets-own s conditions p is den x meets in
      record {
        admissible = admits-mechanisms s own.program own.is_program den x own.meets;
        meets = all-met s x (mechanism_of s den x) (agrees-mechanism_of s den x) conditions placed
            (All-right (Holds den x) own_forms added_forms (forms.meets-hold (column_count s) (require_forms s conditions) (cost_in s) p den x is meets));
      }

  -- the point of such a mechanism meets the program
  pub meets-required : (m : Mechanism) → IsRequired s conditions m → Meets p m.den (number_at (point_of s m))
  unfolding own_forms added_forms
  meets-required m h =
      let x = number_at (point_of s m) in
      let own = own_program s conditions p is in
      let there : Meets own m.den x = (admits-points s own (is-own s conditions p is) m h.admissible.mechanism).1 h.admissible in
      forms.hold-meets (column_count s) (require_forms s conditions) (cost_in s) p m.den x is
      (record { positive = there.point.positive; nonneg = there.point.nonneg })
      (All-append (Holds m.den x) own_forms added_forms
      (forms.meets-hold (column_count s) own_forms (cost_in s) own m.den x (is-own s conditions p is) there)
      (all-held s x m (agrees-point_of s m h.admissible.mechanism) conditions placed h.meets))
