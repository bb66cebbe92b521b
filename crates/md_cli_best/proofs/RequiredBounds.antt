-- No bound of the values under conditions of the designer is claimed wherever there is none.
use Rattle.std.proofs.Common.{◌↔◌, ℤ, pos, ◌+◌, ◌-ℤ◌, ◌*ℤ◌, ◌≤ℤ◌, ℕ, List, unsigned_abs}
use Rattle.md_setting.specs.Setting.{GeneralSetting}
use Rattle.md_setting.specs.Meaning.{total_of}
use Rattle.md_mech.specs.declared.mechanism.Mechanism.{Mechanism}
use Rattle.md_mech.specs.Optimal.{raised, worth_of}
use Rattle.md_question.specs.Findings.{ClaimsUnbounded}
use Rattle.md_question.specs.Shown.{IsSo}
use Rattle.md_question.specs.declared.finding.Finding.{Finding}
use Rattle.md_question.specs.declared.finding.Finding.TheVariants.{Optimal, Infeasible, Unbounded}
use Rattle.md_require.specs.declared.condition.Condition.{Condition}
use Rattle.md_require.specs.Required.{GrowsRequired, IsOptimalRequired}
use Rattle.md_require.specs.RequireQuestion.{require_question}
use Rattle.md_solve.proofs.Claims.{above-some, not-above}
use Rattle.md_cli_best.specs.RequiredBounds.{HasNoRequiredBound}

module _ (s : GeneralSetting) (conditions : List Condition) where
  no-bound : (m : Mechanism) (ray : List ℤ) → GrowsRequired s conditions m ray → HasNoRequiredBound s conditions
  no-bound m ray h = record {
    above = λ b.
        let k : ℕ = unsigned_abs (b *ℤ (m.den *ℤ total_of s) -ℤ worth_of s m) + 1 in
        record {
          mechanism = raised m k ray;
          required = (h k).0;
          above = above-some (b *ℤ (m.den *ℤ total_of s)) (worth_of s m) (worth_of s (raised m k ray)) (h k).1;
        };
  }

  bounded : (m : Mechanism) → pos 1 ≤ℤ total_of s → IsOptimalRequired s conditions m → ¬ HasNoRequiredBound s conditions
  bounded m total best none =
      let other = none.above (pos (unsigned_abs (worth_of s m))) in
      not-above (worth_of s m) (worth_of s other.mechanism) m.den other.mechanism.den (total_of s) best.required.admissible.mechanism.den other.required.admissible.mechanism.den total other.above
      (best.best other.mechanism other.required)

  pub exactly_unbounded : (finding : Finding) → pos 1 ≤ℤ total_of s → IsSo (require_question s conditions) finding → ClaimsUnbounded finding ↔ HasNoRequiredBound s conditions
  exactly_unbounded (Optimal value m bound) total h = (λ none. absurd none, λ none. absurd (bounded m total h.0 none))
  exactly_unbounded (Infeasible face) total h = (λ none. absurd none, λ none. absurd (h (none.above (pos 0)).mechanism (none.above (pos 0)).required))
  exactly_unbounded (Unbounded m ray) total h = (λ _. no-bound m ray h, λ _. tt)
