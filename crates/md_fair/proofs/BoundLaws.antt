-- No bound of the leasts is claimed wherever there is none.
use Rattle.std.proofs.Common.{◌≡◌, ◌↔◌, ℕ, ◌+◌, ℤ, pos, ◌+ℤ◌, ◌-ℤ◌, ◌*ℤ◌, ◌≤ℤ◌, ◌<ℤ◌, List, unsigned_abs, subst, arith}
use lib.IntN.{*ℤ_comm}
use Rattle.std.proofs.lemmas.Int.{ints}
use Rattle.md_math.proofs.Order.{*ℤ-le, nonneg-*ℤ}
use Rattle.md_math.proofs.Ring.{linear, *ℤ-one}
use Rattle.md_setting.specs.Setting.{GeneralSetting}
use Rattle.md_setting.specs.Meaning.{total_of}
use Rattle.md_mech.specs.declared.mechanism.Mechanism.{Mechanism}
use Rattle.md_mech.specs.Optimal.{raised}
use Rattle.md_question.specs.Findings.{ClaimsUnbounded}
use Rattle.md_question.specs.Shown.{IsSo}
use Rattle.md_question.specs.declared.finding.Finding.{Finding}
use Rattle.md_question.specs.declared.finding.Finding.TheVariants.{Optimal, Infeasible, Unbounded}
use Rattle.md_fair.specs.Bounds.{HasNoLeastBound}
use Rattle.md_fair.specs.FairQuestion.{fair_question}
use Rattle.md_fair.specs.Fairest.{GainsLeast, GrowsFair, IsOptimalFair}
use Rattle.md_fair.specs.Least.{IsLeast}
use Rattle.md_fair.proofs.LeastLaws.{one-least}

-- ---- a least that grows

-- it is above a number when it has grown by more than it is below that
grown-above : (s : GeneralSetting) (m n : Mechanism) (z w : ℤ) → IsLeast s m w → (g : GainsLeast s m n (unsigned_abs (z -ℤ w) + 1)) → z <ℤ g.after
grown-above s m n z w least g = risen z w g.before g.after (one-least s m g.before w g.is_before least) g.gains
  where
    risen : (y u b v : ℤ) → b ≡ u → (b +ℤ pos (unsigned_abs (y -ℤ u) + 1)) ≤ℤ v → y <ℤ v
    risen y u b v same h = omega (arith, ints, same, h)

no-bound : (s : GeneralSetting) (m : Mechanism) (ray : List ℤ) → GrowsFair s m ray → HasNoLeastBound s
no-bound s m ray h = record {
  above = λ bound.
      let first : GainsLeast s m (raised m 0 ray) 0 = (h 0).1 in
      let k : ℕ = unsigned_abs (bound *ℤ (m.den *ℤ total_of s) -ℤ first.before) + 1 in
      let grown : GainsLeast s m (raised m k ray) k = (h k).1 in
      record {
        mechanism = raised m k ray;
        least = grown.after;
        admissible = (h k).0;
        is_least = grown.is_after;
        above = grown-above s m (raised m k ray) (bound *ℤ (m.den *ℤ total_of s)) first.before first.is_before grown;
      };
}

-- ---- a greatest least

-- a number over e that is at most w over d is not above the size of w for each of at least as many as e
not-beyond : (w v d e g : ℤ) → pos 1 ≤ℤ d → pos 0 ≤ℤ e → e ≤ℤ g → (pos (unsigned_abs w) *ℤ g) <ℤ v → (v *ℤ d) ≤ℤ (w *ℤ e) → ⊥
not-beyond w v d e g one nonneg more above below =
    let size : w ≤ℤ pos (unsigned_abs w) = omega (arith, ints) in
    let some : pos 0 ≤ℤ pos (unsigned_abs w) = omega (arith, ints) in
    let left : (e *ℤ w) ≤ℤ (e *ℤ pos (unsigned_abs w)) = *ℤ-le e w (pos (unsigned_abs w)) nonneg size in
    let wider : (pos (unsigned_abs w) *ℤ e) ≤ℤ (pos (unsigned_abs w) *ℤ g) = *ℤ-le (pos (unsigned_abs w)) e g some more in
    let least : pos 0 ≤ℤ (pos (unsigned_abs w) *ℤ e) = nonneg-*ℤ (pos (unsigned_abs w)) e some nonneg in
    let v_above : pos 0 ≤ℤ v = omega (arith, linear, least, wider, above) in
    let right : (v *ℤ pos 1) ≤ℤ (v *ℤ d) = *ℤ-le v (pos 1) d v_above one in
    absurd (omega (arith, linear, left, *ℤ_comm e w, *ℤ_comm e (pos (unsigned_abs w)), wider, right, *ℤ-one v, above, below))

bounded : (s : GeneralSetting) (m : Mechanism) → pos 1 ≤ℤ total_of s → IsOptimalFair s m → ¬ HasNoLeastBound s
bounded s m total best none =
    let other = none.above (pos (unsigned_abs best.least)) in
    let e : ℤ = other.mechanism.den in
    let nonneg : pos 0 ≤ℤ e = above e other.admissible.mechanism.den in
    let more : e ≤ℤ (e *ℤ total_of s) = subst (λ z. z ≤ℤ (e *ℤ total_of s)) (*ℤ-one e) (*ℤ-le e (pos 1) (total_of s) nonneg total) in
    not-beyond best.least other.least m.den e (e *ℤ total_of s) best.admissible.mechanism.den nonneg more other.above
    (best.best other.mechanism other.least other.admissible other.is_least)
  where
    above : (z : ℤ) → pos 1 ≤ℤ z → pos 0 ≤ℤ z
    above z l = omega (arith, ints, l)

-- ---- each claim

pub exactly_unbounded : (s : GeneralSetting) (finding : Finding) → pos 1 ≤ℤ total_of s → IsSo (fair_question s) finding → ClaimsUnbounded finding ↔ HasNoLeastBound s
exactly_unbounded s (Optimal value m bound) total h = (λ none. absurd none, λ none. absurd (bounded s m total h.0 none))
exactly_unbounded s (Infeasible face) total h = (λ none. absurd none, λ none. absurd (h (none.above (pos 0)).mechanism (none.above (pos 0)).admissible))
exactly_unbounded s (Unbounded m ray) total h = (λ _. no-bound s m ray h, λ _. tt)
