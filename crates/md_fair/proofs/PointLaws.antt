-- The points of the fair program are the admissible mechanisms with levels that each agent reaches.
use Rattle.std.proofs.Common.{◌≡◌, ℕ, ◌+◌, ◌<◌, ℤ, pos, ◌-ℤ◌, ◌*ℤ◌, ◌≤ℤ◌, List, get_or, All, refl, sym, ap, ◌∙◌, subst, arith}
use lib.IntN.{*ℤ_comm}
use Rattle.std.proofs.lemmas.Int.{ints}
use Rattle.std.proofs.lemmas.List.Elements.{All-append, All-get_or}
use Rattle.md_math.specs.Lists.{number_at}
use Rattle.md_math.specs.Sums.{sum_to}
use Rattle.md_math.proofs.Builders.{All-left, All-right, All-list_to, length-list_to, get_or-list_to}
use Rattle.md_math.proofs.Ring.{*ℤ-zero}
use Rattle.md_math.proofs.SumLaws.{sum_to-same}
use Rattle.md_math.proofs.TotalLaws.{total_by-same}
use Rattle.md_space.specs.Profiles.{IsProfile}
use Rattle.md_space.specs.AllProfiles.{profiles_of}
use Rattle.md_space.proofs.InOrder.{All-profiles_of}
use Rattle.md_setting.specs.Setting.{GeneralSetting}
use Rattle.md_setting.specs.Meaning.{agent_count, outcome_count, sizes_of, utility_of, weight_of}
use Rattle.md_setting.specs.Rows.{column_count}
use Rattle.md_mech.specs.declared.mechanism.Mechanism.{Mechanism}
use Rattle.md_mech.specs.Mechanism.{IsMechanism, chance_of}
use Rattle.md_mech.specs.Admissible.{IsAdmissible}
use Rattle.md_mech.specs.Rows.{conditions_of}
use Rattle.md_mech.specs.Utility.{expected_utility}
use Rattle.md_lp.specs.Program.{Program}
use Rattle.md_lp.specs.Point.{Meets}
use Rattle.md_forms.specs.Forms.{Form, Holds}
use Rattle.md_forms.proofs.PointLaws as forms
use Rattle.md_rows.specs.Columns.{chance_column}
use Rattle.md_rows.specs.Points.{mechanism_of, point_of, MeetsProgramOf}
use Rattle.md_rows.specs.ProgramOf.{forms_of}
use Rattle.md_rows.specs.Sides.{utility_in, cost_in}
use Rattle.md_rows.proofs.Law.{admits-mechanisms, admits-points}
use Rattle.md_rows.proofs.PointLaws.{Agrees, agrees-mechanism_of, mechanism-of_point, point-length, point-nonneg}
use Rattle.md_fair.specs.FairPoints.{fair_point_of}
use Rattle.md_fair.specs.FairProgram.{agent_form, agent_forms, fair_forms, level_in, mean_in, IsFairProgram}
use Rattle.md_fair.specs.Law.{AdmitsLevels, AdmitsMechanisms, ReachesLevel}
use Rattle.md_fair.specs.Mean.{mean_of}
use Rattle.md_fair.proofs.LevelLaws.{level-nonneg, level-there, own-below}
use Rattle.md_fair.proofs.OwnProgram.{own-program}
use Rattle.md_fair.proofs.SameNumbers.{mechanism-same, meets-same}

-- ---- what agents get on average

truth-utility : (s : GeneralSetting) (x : ℕ → ℤ) (m : Mechanism) (i : ℕ) (t : List ℕ) → Agrees s x m → i < agent_count s → IsProfile (sizes_of s) t
    → utility_in s x i t t ≡ expected_utility s m i t t
truth-utility s x m i t a agent p =
    let sums : sum_to (outcome_count s) (λ o. utility_of s i t o *ℤ x (chance_column s t o)) ≡ sum_to (outcome_count s) (λ o. chance_of s m t o *ℤ utility_of s i t o) =
    sum_to-same (outcome_count s) (λ o. utility_of s i t o *ℤ x (chance_column s t o)) (λ o. chance_of s m t o *ℤ utility_of s i t o)
    (λ o l. *ℤ_comm (utility_of s i t o) (x (chance_column s t o)) ∙ ap (λ z. z *ℤ utility_of s i t o) (a.chance t o p l)) in
    rw (sums, a.pay i t agent p) refl

pub mean-agrees : (s : GeneralSetting) (x : ℕ → ℤ) (m : Mechanism) (i : ℕ) → Agrees s x m → i < agent_count s → mean_in s x i ≡ mean_of s m i
mean-agrees s x m i a agent =
    total_by-same (λ t. weight_of s t *ℤ utility_in s x i t t) (λ t. weight_of s t *ℤ expected_utility s m i t t) (profiles_of (sizes_of s))
    (λ k d l. ap (λ z. weight_of s (get_or (profiles_of (sizes_of s)) k d) *ℤ z)
    (truth-utility s x m i (get_or (profiles_of (sizes_of s)) k d) a agent (All-profiles_of (sizes_of s) k d l)))

-- ---- rows

at_most-zero : (level mean den : ℤ) → (level -ℤ mean) ≤ℤ (den *ℤ pos 0) → level ≤ℤ mean
at_most-zero level mean den h = omega (arith, ints, h, *ℤ-zero den)

zero-at_most : (level mean den : ℤ) → level ≤ℤ mean → (level -ℤ mean) ≤ℤ (den *ℤ pos 0)
zero-at_most level mean den h = omega (arith, ints, h, *ℤ-zero den)

pub agent-at : (P : Form → Type 0) (s : GeneralSetting) (i : ℕ) → i < agent_count s → All P (agent_forms s) → P (agent_form s i)
agent-at P s i l all =
    subst P (get_or-list_to (agent_count s) (agent_form s) i (agent_form s 0) l)
    (all i (agent_form s 0) (omega (arith, l, length-list_to (agent_count s) (agent_form s))))

module _ (s : GeneralSetting) (p : Program) (is : IsFairProgram s p) where
  -- a point of the fair program is one of the setting's program
  pub meets-own : (den : ℤ) (x : ℕ → ℤ) → Meets p den x → MeetsProgramOf s den x
  meets-own den x meets =
      let (q, own) = own-program s p is in
      record {
        program = q;
        is_program = own;
        meets = forms.hold-meets (column_count s) (forms_of s (conditions_of s)) (cost_in s) q den x own
            (record {
              positive = meets.point.positive;
              nonneg = λ j l. meets.point.nonneg j (omega (arith, l, own.columns, is.columns));
            })
            (All-left (Holds den x) (forms_of s (conditions_of s)) (agent_forms s) (forms.meets-hold (column_count s + 2) (fair_forms s) (level_in s) p den x is meets));
      }

  pub admitted : (den : ℤ) (x : ℕ → ℤ) → Meets p den x → IsAdmissible s (mechanism_of s den x)
  admitted den x meets = (let own = meets-own den x meets in admits-mechanisms s own.program own.is_program den x own.meets)

  pub level-reached : (den : ℤ) (x : ℕ → ℤ) → Meets p den x → (i : ℕ) → i < agent_count s → level_in s x ≤ℤ mean_in s x i
  level-reached den x meets i l =
      at_most-zero (level_in s x) (mean_in s x i) den
      (agent-at (Holds den x) s i l
      (All-right (Holds den x) (forms_of s (conditions_of s)) (agent_forms s) (forms.meets-hold (column_count s + 2) (fair_forms s) (level_in s) p den x is meets)))

  pub admits-fair : AdmitsMechanisms s p
  admits-fair den x meets = (
    admitted den x meets,
    λ i l. subst (λ z. level_in s x ≤ℤ z) (mean-agrees s x (mechanism_of s den x) i (agrees-mechanism_of s den x) l) (level-reached den x meets i l),
  )

-- ---- the point of a mechanism and a level

module _ (s : GeneralSetting) (m : Mechanism) (level : ℤ) (h : IsMechanism s m) where
  abbrev pub fair_numbers : ℕ → ℤ
  fair_numbers = number_at (fair_point_of s m level)

  pub point-level : level_in s fair_numbers ≡ level
  point-level = level-there s (point_of s m) level (point-length s m h)

  pub mechanism-there : mechanism_of s m.den fair_numbers ≡ m
  mechanism-there = sym (mechanism-same s m.den (number_at (point_of s m)) fair_numbers (own-below s (point_of s m) level (point-length s m h))) ∙ mechanism-of_point s m h

  mean-there : (i : ℕ) → i < agent_count s → mean_in s fair_numbers i ≡ mean_of s m i
  mean-there i l = mean-agrees s fair_numbers (mechanism_of s m.den fair_numbers) i (agrees-mechanism_of s m.den fair_numbers) l ∙ ap (λ k. mean_of s k i) mechanism-there

  own-nonneg : (j : ℕ) → j < column_count s → pos 0 ≤ℤ number_at (point_of s m) j
  own-nonneg j l = All-get_or (λ z. pos 0 ≤ℤ z) (point_of s m) j (pos 0) (omega (arith, l, point-length s m h)) (point-nonneg s m h)

  module _ (p : Program) (is : IsFairProgram s p) where
    pub level-meets : IsAdmissible s m → ReachesLevel s m level → Meets p m.den fair_numbers
    level-meets admissible reaches =
        let (q, own) = own-program s p is in
        let there : Meets q m.den fair_numbers =
        meets-same q m.den (number_at (point_of s m)) fair_numbers (λ j l. own-below s (point_of s m) level (point-length s m h) j (omega (arith, l, own.columns))) ((admits-points s q own m h).1 admissible) in
        forms.hold-meets (column_count s + 2) (fair_forms s) (level_in s) p m.den fair_numbers is
        (record {
          positive = (let one : pos 1 ≤ℤ m.den = h.den in omega (arith, ints));
          nonneg = λ j l. level-nonneg s (point_of s m) level (point-length s m h) own-nonneg j (omega (arith, l, is.columns));
        })
        (All-append (Holds m.den fair_numbers) (forms_of s (conditions_of s)) (agent_forms s)
        (forms.meets-hold (column_count s) (forms_of s (conditions_of s)) (cost_in s) q m.den fair_numbers own there)
        (All-list_to (Holds m.den fair_numbers) (agent_count s) (agent_form s)
        (λ i l. zero-at_most (level_in s fair_numbers) (mean_in s fair_numbers i) m.den (rw (point-level, mean-there i l) (reaches i l)))))

pub admits-levels : (s : GeneralSetting) (p : Program) → IsFairProgram s p → AdmitsLevels s p
admits-levels s p is m level h = (
  λ meets.
      let both = admits-fair s p is m.den (fair_numbers s m level h) meets in
      let same = mechanism-there s m level h in (
        subst (IsAdmissible s) same both.0,
        λ i l. subst (λ k. level ≤ℤ mean_of s k i) same (subst (λ z. z ≤ℤ mean_of s (mechanism_of s m.den (fair_numbers s m level h)) i) (point-level s m level h) (both.1 i l)),
      ),
  λ both. level-meets s m level h p is both.0 both.1,
)
