-- What an answer says of what was found.
use Rattle.std.proofs.Common.{◌≡◌, ◌↔◌, ℤ, pos, ◌+ℤ◌, ◌-ℤ◌, ◌*ℤ◌, ◌≤ℤ◌, ◌<ℤ◌, ℕ, ◌+◌, List, unsigned_abs, ap, ◌∙◌, arith}
use lib.IntN.{*ℤ_comm}
use Rattle.std.proofs.lemmas.Int.{ints}
use Rattle.md_math.proofs.Order.{*ℤ-le, nonneg-*ℤ}
use Rattle.md_math.proofs.Ring.{linear, *ℤ-one}
use Rattle.md_num.specs.declared.frac.Frac.{Frac}
use Rattle.md_setting.specs.Setting.{GeneralSetting}
use Rattle.md_setting.specs.Meaning.{total_of}
use Rattle.md_mech.specs.declared.mechanism.Mechanism.{Mechanism}
use Rattle.md_mech.specs.Optimal.{Grows, IsInfeasible, IsOptimal, raised, worth_of}
use Rattle.md_lp.specs.Program.{Program}
use Rattle.md_cert.specs.declared.bound.Bound.{Bound}
use Rattle.md_simplex.specs.declared.step.Step.{Step}
use Rattle.md_simplex.specs.declared.step.Step.TheVariants as steps
use Rattle.md_question.specs.Best.{best_question}
use Rattle.md_question.specs.Findings as found
use Rattle.md_question.specs.Shown.{IsFindingTo, IsShown, IsSo}
use Rattle.md_question.specs.declared.finding.Finding.{Finding}
use Rattle.md_question.specs.declared.finding.Finding.TheVariants.{Optimal, Infeasible, Unbounded}
use Rattle.md_question_solve.specs.Found as ends
use Rattle.md_answer.specs.AnswerTo.{IsAnswerTo}
use Rattle.md_solve.specs.Answered.{WhereOptimal, WhereInfeasible, WhereUnbounded, ClaimsInfeasible, ClaimsUnbounded, ClaimsEnd, IsMechanismAlone, IsTooWide}
use Rattle.md_solve.specs.Bounds.{HasNoBound}
use Rattle.md_solve.specs.Certifies.{IsCertifiedAnswer}
use Rattle.md_solve.specs.Solved.{answer_of}

-- ---- by its kind

pub optimal-said : (P : Frac → Mechanism → Bound → Type 0) (finding : Finding) → found.WhereOptimal P finding → WhereOptimal P (answer_of finding)
optimal-said P (Optimal value m bound) h = h
optimal-said P (Infeasible face) h = h
optimal-said P (Unbounded m ray) h = h

pub infeasible-said : (P : List ℤ → Type 0) (finding : Finding) → found.WhereInfeasible P finding → WhereInfeasible P (answer_of finding)
infeasible-said P (Optimal value m bound) h = h
infeasible-said P (Infeasible face) h = h
infeasible-said P (Unbounded m ray) h = h

pub unbounded-said : (P : Mechanism → List ℤ → Type 0) (finding : Finding) → found.WhereUnbounded P finding → WhereUnbounded P (answer_of finding)
unbounded-said P (Optimal value m bound) h = h
unbounded-said P (Infeasible face) h = h
unbounded-said P (Unbounded m ray) h = h

pub claims-said : (finding : Finding) → ¬ IsMechanismAlone (answer_of finding)
claims-said (Optimal value m bound) alone = alone
claims-said (Infeasible face) alone = alone
claims-said (Unbounded m ray) alone = alone

pub end-said : (step : Step) (finding : Finding) → ends.ClaimsEnd step finding → ClaimsEnd step (answer_of finding)
end-said steps.Optimal (Optimal value m bound) h = tt
end-said steps.Infeasible (Infeasible face) h = tt
end-said (steps.Unbounded column) (Unbounded m ray) h = tt
end-said steps.Optimal _ h = absurd h
end-said steps.Infeasible _ h = absurd h
end-said (steps.Unbounded column) _ h = absurd h
end-said (steps.Pivot pivot) finding h = absurd h

module _ (s : GeneralSetting) where
  pub none-said : (finding : Finding) → found.ClaimsInfeasible finding ↔ IsInfeasible s → ClaimsInfeasible (answer_of finding) ↔ IsInfeasible s
  none-said (Optimal value m bound) h = h
  none-said (Infeasible face) h = h
  none-said (Unbounded m ray) h = h

  pub certified-said : (p : Program) (finding : Finding) → IsShown (best_question s) p finding → IsCertifiedAnswer s p (answer_of finding)
  certified-said p (Optimal value m bound) h = h
  certified-said p (Infeasible face) h = h
  certified-said p (Unbounded m ray) h = h

  pub writable-said : (finding : Finding) → IsFindingTo (best_question s) finding → IsAnswerTo s (answer_of finding)
  writable-said (Optimal value m bound) h = h
  writable-said (Infeasible face) h = h
  writable-said (Unbounded m ray) h = h

-- ---- no bound is claimed wherever there is none

pub above-some : (z w v : ℤ) → (w +ℤ pos (unsigned_abs (z -ℤ w) + 1)) ≤ℤ v → z <ℤ v
above-some z w v h = omega (arith, ints, h)

no-bound : (s : GeneralSetting) (m : Mechanism) (ray : List ℤ) → Grows s m ray → HasNoBound s
no-bound s m ray h = record {
  above = λ b.
      let k : ℕ = unsigned_abs (b *ℤ (m.den *ℤ total_of s) -ℤ worth_of s m) + 1 in
      record {
        mechanism = raised m k ray;
        admissible = (h k).0;
        above = above-some (b *ℤ (m.den *ℤ total_of s)) (worth_of s m) (worth_of s (raised m k ray)) (h k).1;
      };
}

-- a value of at most w over d is not above w
pub not-above : (w v d e f : ℤ) → pos 1 ≤ℤ d → pos 1 ≤ℤ e → pos 1 ≤ℤ f → (pos (unsigned_abs w) *ℤ (e *ℤ f)) <ℤ v → (v *ℤ d) ≤ℤ (w *ℤ e) → ⊥
not-above w v d e f one_d one_e one_f above below =
    let size : w ≤ℤ pos (unsigned_abs w) = omega (arith, ints) in
    let e_above : pos 0 ≤ℤ e = omega (arith, ints, one_e) in
    let f_above : pos 0 ≤ℤ f = omega (arith, ints, one_f) in
    let size_above : pos 0 ≤ℤ pos (unsigned_abs w) = omega (arith, ints) in
    let left : (e *ℤ w) ≤ℤ (e *ℤ pos (unsigned_abs w)) = *ℤ-le e w (pos (unsigned_abs w)) e_above size in
    let more : (e *ℤ pos 1) ≤ℤ (e *ℤ f) = *ℤ-le e (pos 1) f e_above one_f in
    let times : (pos (unsigned_abs w) *ℤ (e *ℤ pos 1)) ≤ℤ (pos (unsigned_abs w) *ℤ (e *ℤ f)) = *ℤ-le (pos (unsigned_abs w)) (e *ℤ pos 1) (e *ℤ f) size_above more in
    let plain : pos (unsigned_abs w) *ℤ (e *ℤ pos 1) ≡ e *ℤ pos (unsigned_abs w) = ap (λ z. pos (unsigned_abs w) *ℤ z) (*ℤ-one e) ∙ *ℤ_comm (pos (unsigned_abs w)) e in
    let turn : e *ℤ w ≡ w *ℤ e = *ℤ_comm e w in
    let some : pos 0 ≤ℤ (pos (unsigned_abs w) *ℤ (e *ℤ f)) = nonneg-*ℤ (pos (unsigned_abs w)) (e *ℤ f) size_above (nonneg-*ℤ e f e_above f_above) in
    let v_above : pos 0 ≤ℤ v = omega (arith, linear, some, above) in
    let right : (v *ℤ pos 1) ≤ℤ (v *ℤ d) = *ℤ-le v (pos 1) d v_above one_d in
    let same : v *ℤ pos 1 ≡ v = *ℤ-one v in
    absurd (omega (arith, linear, left, times, plain, turn, right, same, above, below))

bounded : (s : GeneralSetting) (m : Mechanism) → pos 1 ≤ℤ total_of s → IsOptimal s m → ¬ HasNoBound s
bounded s m total best none =
    let other = none.above (pos (unsigned_abs (worth_of s m))) in
    not-above (worth_of s m) (worth_of s other.mechanism) m.den other.mechanism.den (total_of s) best.admissible.mechanism.den other.admissible.mechanism.den total other.above
    (best.best other.mechanism other.admissible)

pub exactly_unbounded : (s : GeneralSetting) (finding : Finding) → pos 1 ≤ℤ total_of s → IsSo (best_question s) finding → ClaimsUnbounded (answer_of finding) ↔ HasNoBound s
exactly_unbounded s (Optimal value m bound) total h = (λ none. absurd none, λ none. absurd (bounded s m total h.0 none))
exactly_unbounded s (Infeasible face) total h = (λ none. absurd none, λ none. absurd (h (none.above (pos 0)).mechanism (none.above (pos 0)).admissible))
exactly_unbounded s (Unbounded m ray) total h = (λ _. no-bound s m ray h, λ _. tt)
