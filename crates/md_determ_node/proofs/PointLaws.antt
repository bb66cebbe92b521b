-- The points of a node's program are the admissible mechanisms that have what the node fixes.
use Rattle.std.proofs.Common.{◌≡◌, ℕ, ◌+◌, ◌*◌, ◌<◌, ℤ, pos, List, length, Option, None, Some, All, refl, sym, ◌∙◌, subst}
use Rattle.std.proofs.lemmas.List.{get_or_append_left}
use Rattle.std.proofs.lemmas.List.Elements.{All-append, All-nil}
use Rattle.md_math.specs.Lists.{number_at}
use Rattle.md_math.proofs.Builders.{All-right, All-up_to, All-up_to_at, get_or-list_to}
use Rattle.md_math.proofs.Ring.{*ℤ-one}
use Rattle.md_space.specs.Profiles.{profile_count}
use Rattle.md_setting.specs.Setting.{GeneralSetting}
use Rattle.md_setting.specs.Meaning.{outcome_count, sizes_of}
use Rattle.md_setting.specs.Rows.{column_count}
use Rattle.md_mech.specs.declared.mechanism.Mechanism.{Mechanism}
use Rattle.md_mech.specs.Mechanism.{IsMechanism}
use Rattle.md_mech.specs.Admissible.{IsAdmissible}
use Rattle.md_mech.specs.Rows.{conditions_of}
use Rattle.md_lp.specs.Program.{Program}
use Rattle.md_lp.specs.Point.{Meets}
use Rattle.md_forms.specs.Forms.{Holds}
use Rattle.md_forms.proofs.PointLaws as forms
use Rattle.md_forms.proofs.PointLaws.{all-one, one-all}
use Rattle.md_rows.specs.Points.{point_of, payment_parts}
use Rattle.md_rows.specs.ProgramOf.{forms_of}
use Rattle.md_rows.specs.Sides.{cost_in}
use Rattle.md_rows.proofs.Law.{admits-mechanisms, admits-points, costs-points, costs-mechanisms}
use Rattle.md_rows.proofs.PointLaws.{place-below}
use Rattle.md_determ_branching.specs.Fixed.{fixed_at}
use Rattle.md_determ_node.specs.Law.{IsNodeProgramWithLaws}
use Rattle.md_determ_node.specs.NodeProgram.{IsNode, IsNodeProgram, HasFixed, fixed_form, fixed_forms, forms_by, forms_at, node_forms}
use Rattle.md_determ_node.proofs.Choices.{fixed-profile, fixed-within}
use Rattle.md_determ_node.proofs.OwnProgram.{HasOwn, own, own-meets}

-- ---- the forms of what is fixed

-- numbers that have the whole at what is fixed
record HasWholes (s : GeneralSetting) (node : List (Option ℕ)) (den : ℤ) (x : ℕ → ℤ) : Type 0 where
  at : (r o : ℕ) → fixed_at node r ≡ Some o → x (r * outcome_count s + o) ≡ den

wholes-held : (s : GeneralSetting) (node : List (Option ℕ)) (den : ℤ) (x : ℕ → ℤ) → All (Holds den x) (fixed_forms s node) → HasWholes s node den x
wholes-held s node den x all = record {
  at = λ r o e.
      let here : All (Holds den x) (forms_at s node r) = All-up_to_at (Holds den x) (length node) r (forms_at s node) (fixed-within node r o e) all in
      one-all (Holds den x) (fixed_form s r o) (subst (λ entry. All (Holds den x) (forms_by s r entry)) e here) ∙ *ℤ-one den;
}

held-wholes : (s : GeneralSetting) (node : List (Option ℕ)) (den : ℤ) (x : ℕ → ℤ) → HasWholes s node den x → All (Holds den x) (fixed_forms s node)
held-wholes s node den x wholes = All-up_to (Holds den x) (length node) (forms_at s node) (λ r l. by_entry r (fixed_at node r) (wholes.at r))
  where
    by_entry : (r : ℕ) (entry : Option ℕ) → ((o : ℕ) → entry ≡ Some o → x (r * outcome_count s + o) ≡ den) → All (Holds den x) (forms_by s r entry)
    by_entry r None h = All-nil (Holds den x)
    by_entry r (Some o) h = all-one (Holds den x) (fixed_form s r o) (h o refl ∙ sym (*ℤ-one den))

-- ---- the law

module _ (s : GeneralSetting) (node : List (Option ℕ)) (p : Program) (node_is : IsNode s node) (is : IsNodeProgram s node p) where
  has : HasOwn s p
  has = own s node p is

  wholes : (den : ℤ) (x : ℕ → ℤ) → Meets p den x → HasWholes s node den x
  wholes den x meets =
      wholes-held s node den x
      (All-right (Holds den x) (forms_of s (conditions_of s)) (fixed_forms s node) (forms.meets-hold (column_count s) (node_forms s node) (cost_in s) p den x is meets))

  -- the column of a chance that is fixed
  place : (r o : ℕ) → fixed_at node r ≡ Some o → r * outcome_count s + o < profile_count (sizes_of s) * outcome_count s
  place r o e = place-below r (profile_count (sizes_of s)) (outcome_count s) o (fixed-profile s node r o node_is e) (node_is.outcomes.below r o e)

  module _ (m : Mechanism) (mechanism : IsMechanism s m) where
    chance-same : (r o : ℕ) → fixed_at node r ≡ Some o → number_at (point_of s m) (r * outcome_count s + o) ≡ number_at m.chances (r * outcome_count s + o)
    chance-same r o e = get_or_append_left m.chances (payment_parts s.payments s m) (pos 0) (r * outcome_count s + o) (rw mechanism.chance_count (place r o e))

    admitted : Meets p m.den (number_at (point_of s m)) → IsAdmissible s m × HasFixed s node m
    admitted meets =
        let there = wholes m.den (number_at (point_of s m)) meets in (
          (admits-points s (record p { rows = has.first }) has.is m mechanism).0 (own-meets s p has m.den (number_at (point_of s m)) meets),
          record { whole = λ r o e. sym (chance-same r o e) ∙ there.at r o e },
        )

    meets : IsAdmissible s m → HasFixed s node m → Meets p m.den (number_at (point_of s m))
    meets admissible fixed =
        let x = number_at (point_of s m) in
        let there : Meets (record p { rows = has.first }) m.den x = (admits-points s (record p { rows = has.first }) has.is m mechanism).1 admissible in
        forms.hold-meets (column_count s) (node_forms s node) (cost_in s) p m.den x is
        (record { positive = there.point.positive; nonneg = there.point.nonneg })
        (All-append (Holds m.den x) (forms_of s (conditions_of s)) (fixed_forms s node)
        (forms.meets-hold (column_count s) (forms_of s (conditions_of s)) (cost_in s) (record p { rows = has.first }) m.den x has.is there)
        (held-wholes s node m.den x (record { at = λ r o e. chance-same r o e ∙ fixed.whole r o e })))

  pub with_laws : IsNodeProgramWithLaws s node p
  with_laws = record {
    program = is;
    admits_points = λ m mechanism. (admitted m mechanism, λ both. meets m mechanism both.0 both.1);
    admits_mechanisms = λ den x meets. (
      admits-mechanisms s (record p { rows = has.first }) has.is den x (own-meets s p has den x meets),
      record {
        whole = λ r o e.
            get_or-list_to (profile_count (sizes_of s) * outcome_count s) x (r * outcome_count s + o) (pos 0) (place r o e) ∙ (wholes den x meets).at r o e;
      },
    );
    costs_points = costs-points s (record p { rows = has.first }) has.is;
    costs_mechanisms = costs-mechanisms s (record p { rows = has.first }) has.is;
  }
